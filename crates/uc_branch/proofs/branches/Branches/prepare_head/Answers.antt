use Rattle.std.proofs.Common.{◌≡◌, Bool, cond, Some, None, refl, sym, ap, ◌∙◌, inl}
use Rattle.uc_base.specs.declared.fault.Fault.TheVariants.{TooManyNames}
use Rattle.uc_branch.specs.Heads.{is_same_head}
use Rattle.uc_branch.specs.Changes.{advanced, moved_on}
use Rattle.uc_branch.proofs.BranchEdits.{are_changed, change_agree, change_none, with_at}
use Rattle.uc_branch.proofs.Preparing.{head_fault_is, moved_same, moved_other}
use Rattle.uc_branch.proofs.branches.Branches.prepare_head.Goals as goal

pub returns-then-are_too_many-clause-refused : goal.returns-then-are_too_many-clause-refused
returns-then-are_too_many-clause-refused c = inl (head_fault_is c.args.branch.now c.args.head c.args.self.now c.in_ok-at.at c.branch-old.result.now c.count.result c.are_too_many.result c.in_ok-at.ensures.found c.branch-old.ensures c.count.ensures c.are_too_many.ensures ∙ ap (λ (t : Bool). cond t (Some TooManyNames) None) c.if-are_too_many.true)

pub returns-then-is_same-clause-promised : goal.returns-then-is_same-clause-promised
returns-then-is_same-clause-promised c =
    let same : is_same_head c.branch-old.result.now.head c.args.head ≡ c.is_same.result = sym (c.is_same.ensures ∙ rw c.head-2.ensures refl) in
    change_none c.in_ok-at.at (moved_on c.args.head) c.args.self.now c.branch-old.result.now c.branch-old.ensures (moved_same c.args.head c.branch-old.result.now (same ∙ c.if-is_same.true))
    ∙ sym (with_at c.args.branch.now (moved_on c.args.head) c.args.self.now c.in_ok-at.at c.in_ok-at.ensures.found)

pub returns-then-is_same-clause-accepted : goal.returns-then-is_same-clause-accepted
returns-then-is_same-clause-accepted c = head_fault_is c.args.branch.now c.args.head c.args.self.now c.in_ok-at.at c.branch-old.result.now c.count.result c.are_too_many.result c.in_ok-at.ensures.found c.branch-old.ensures c.count.ensures c.are_too_many.ensures ∙ ap (λ (t : Bool). cond t (Some TooManyNames) None) c.if-are_too_many.false

pub returns-clause-fits : goal.returns-clause-fits
returns-clause-fits c = record { in_range = c.in_ok-at.ensures.found.in_range; good = are_changed (advanced c.args.head) (λ b. refl) c.in_ok-at.at c.args.self.now c.in_ok-at.ensures.good }

pub returns-clause-promised : goal.returns-clause-promised
returns-clause-promised c =
    let same : is_same_head c.branch-old.result.now.head c.args.head ≡ c.is_same.result = sym (c.is_same.ensures ∙ rw c.head-2.ensures refl) in
    change_agree c.in_ok-at.at (advanced c.args.head) (moved_on c.args.head) c.args.self.now c.branch-old.result.now c.branch-old.ensures (moved_other c.args.head c.branch-old.result.now (same ∙ c.if-is_same.false))
    ∙ sym (with_at c.args.branch.now (moved_on c.args.head) c.args.self.now c.in_ok-at.at c.in_ok-at.ensures.found)

pub returns-clause-accepted : goal.returns-clause-accepted
returns-clause-accepted c = head_fault_is c.args.branch.now c.args.head c.args.self.now c.in_ok-at.at c.branch-old.result.now c.count.result c.are_too_many.result c.in_ok-at.ensures.found c.branch-old.ensures c.count.ensures c.are_too_many.ensures ∙ ap (λ (t : Bool). cond t (Some TooManyNames) None) c.if-are_too_many.false
