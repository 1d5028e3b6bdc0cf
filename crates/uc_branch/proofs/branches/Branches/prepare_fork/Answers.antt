use Rattle.std.proofs.Common.{◌≡◌, ℕ, ◌<◌, List, length, Bool, false, cond, Some, None, sym, ap, ◌∙◌, inl, arith}
use Rattle.std.proofs.lemmas.Bool.{le-leb}
use Rattle.std.proofs.lemmas.Bool.Decides.{nat_tests}
use Rattle.std.specs.Prelude.{nat_le}
use Rattle.uc_base.specs.declared.fault.Fault.TheVariants.{TooManyNames, BranchTaken}
use Rattle.uc_branch.specs.Heads.{name_count}
use Rattle.uc_branch.specs.Branches.{BranchState}
use Rattle.uc_branch.proofs.BranchEdits.{are_added}
use Rattle.uc_branch.proofs.Preparing.{fork_taken, fork_full, forked, fork_fault_is}
use Rattle.uc_branch.proofs.branches.Branches.prepare_fork.Goals as goal

room_left : (n : ℕ) → n < 256 → nat_le 256 n ≡ false
room_left n h = grind (arith, nat_tests)

pub returns-in_default-clause-refused : goal.returns-in_default-clause-refused
returns-in_default-clause-refused c = inl (fork_taken c.args.from.now c.args.to.now c.args.self.now c.in_ok-source.source c.in_ok-source.ensures.found c.in_default.field-0 c.in_default.ensures.found ∙ ap (λ (name : List ℕ). Some (BranchTaken name)) (sym c.in_ok-copy.ensures))

pub returns-then-len-ge-BRANCH_LIMIT-clause-refused : goal.returns-then-len-ge-BRANCH_LIMIT-clause-refused
returns-then-len-ge-BRANCH_LIMIT-clause-refused c =
    inl (fork_full c.args.from.now c.args.to.now c.args.self.now c.in_ok-source.source c.branch-old.result.now c.in_ok-source.ensures.found c.branch-old.ensures c.in-Err.at c.in-Err.ensures.absent (le-leb 256 (length c.args.self.now) (omega arith)))

pub returns-then-are_too_many-clause-refused : goal.returns-then-are_too_many-clause-refused
returns-then-are_too_many-clause-refused c =
    let room : nat_le 256 (length c.args.self.now) ≡ false = room_left (length c.args.self.now) (omega arith) in
    inl (fork_fault_is c.args.from.now c.args.to.now c.args.self.now c.in_ok-source.source c.branch-old.result.now c.in_ok-source.ensures.found c.branch-old.ensures c.in-Err.at c.in-Err.ensures.absent c.count.result c.are_too_many.result room (c.count.ensures ∙ ap name_count c.head.ensures) c.are_too_many.ensures ∙ ap (λ (t : Bool). cond t (Some TooManyNames) None) c.if-are_too_many.true)

pub returns-clause-fits : goal.returns-clause-fits
returns-clause-fits c =
    let old = c.branch-old.result.now in
    let is : c.in_ok-branch.branch ≡ record { name = c.args.to.now; head = old.head; past = old.past } =
    c.in_ok-branch.ensures.ok ∙ ap (λ (n : List ℕ). let b : BranchState = record { name = n; head = old.head; past = old.past } in b) c.in_ok-copy-2.ensures in
    record {
      in_range = c.in-Err.ensures.absent.in_range;
      good = rw is (are_added (record { name = c.args.to.now; head = old.head; past = old.past }) c.args.self.now c.in-Err.at c.in-Err.ensures.absent (omega arith) c.in_ok-source.ensures.good);
    }

pub returns-clause-promised : goal.returns-clause-promised
returns-clause-promised c =
    let old = c.branch-old.result.now in
    let is : c.in_ok-branch.branch ≡ record { name = c.args.to.now; head = old.head; past = old.past } =
    c.in_ok-branch.ensures.ok ∙ ap (λ (n : List ℕ). let b : BranchState = record { name = n; head = old.head; past = old.past } in b) c.in_ok-copy-2.ensures in
    rw is (sym (forked c.args.from.now c.args.to.now c.args.self.now c.in_ok-source.source old c.in_ok-source.ensures.found c.branch-old.ensures c.in-Err.at c.in-Err.ensures.absent))

pub returns-clause-accepted : goal.returns-clause-accepted
returns-clause-accepted c =
    let room : nat_le 256 (length c.args.self.now) ≡ false = room_left (length c.args.self.now) (omega arith) in
    fork_fault_is c.args.from.now c.args.to.now c.args.self.now c.in_ok-source.source c.branch-old.result.now c.in_ok-source.ensures.found c.branch-old.ensures c.in-Err.at c.in-Err.ensures.absent c.count.result c.are_too_many.result room (c.count.ensures ∙ ap name_count c.head.ensures) c.are_too_many.ensures ∙ ap (λ (t : Bool). cond t (Some TooManyNames) None) c.if-are_too_many.false
