use Rattle.std.proofs.Common.{◌≡◌, ℕ, List, Bool, cond, Some, None, sym, ap, ◌∙◌, inl}
use Rattle.std.specs.Option.{option_copied}
use Rattle.std.specs.Prelude.{slice_get}
use Rattle.uc_base.specs.declared.fault.Fault.TheVariants.{NothingToUndo, TooManyNames}
use Rattle.uc_branch.specs.Heads.{HeadPairs}
use Rattle.uc_branch.specs.Changes.{set_back}
use Rattle.uc_branch.proofs.BranchEdits.{are_changed, back_keeps, with_at}
use Rattle.uc_branch.proofs.Preparing.{undo_nothing, undo_fault_is}
use Rattle.uc_branch.proofs.branches.Branches.prepare_undo.Goals as goal

pub returns-in_default-clause-refused : goal.returns-in_default-clause-refused
returns-in_default-clause-refused c =
    let x = c.branch-old.result.now in
    let none : slice_get x.past 0 ≡ None = ap (λ (past : List HeadPairs). slice_get past 0) (sym c.past.ensures.value) ∙ (sym c.first.ensures.value ∙ ap option_copied c.in_default.is) in
    inl (undo_nothing c.args.branch.now c.args.self.now c.in_ok-at.at x c.in_ok-at.ensures.found c.branch-old.ensures none ∙ ap (λ (name : List ℕ). Some (NothingToUndo name)) (sym c.in_ok-copy.ensures))

pub returns-then-are_too_many-clause-refused : goal.returns-then-are_too_many-clause-refused
returns-then-are_too_many-clause-refused c =
    let x = c.branch-old.result.now in
    let some : slice_get x.past 0 ≡ Some c.in-Some.newest.now = ap (λ (past : List HeadPairs). slice_get past 0) (sym c.past.ensures.value) ∙ (sym c.first.ensures.value ∙ ap option_copied c.in-Some.is) in
    inl (undo_fault_is c.args.branch.now c.args.self.now c.in_ok-at.at x c.in-Some.newest.now c.count.result c.are_too_many.result c.in_ok-at.ensures.found c.branch-old.ensures some c.count.ensures c.are_too_many.ensures ∙ ap (λ (t : Bool). cond t (Some TooManyNames) None) c.if-are_too_many.true)

pub returns-clause-fits : goal.returns-clause-fits
returns-clause-fits c = record { in_range = c.in_ok-at.ensures.found.in_range; good = are_changed (λ b. set_back b b.past) back_keeps c.in_ok-at.at c.args.self.now c.in_ok-at.ensures.good }

pub returns-clause-promised : goal.returns-clause-promised
returns-clause-promised c = sym (with_at c.args.branch.now (λ b. set_back b b.past) c.args.self.now c.in_ok-at.at c.in_ok-at.ensures.found)

pub returns-clause-accepted : goal.returns-clause-accepted
returns-clause-accepted c =
    let x = c.branch-old.result.now in
    let some : slice_get x.past 0 ≡ Some c.in-Some.newest.now = ap (λ (past : List HeadPairs). slice_get past 0) (sym c.past.ensures.value) ∙ (sym c.first.ensures.value ∙ ap option_copied c.in-Some.is) in
    undo_fault_is c.args.branch.now c.args.self.now c.in_ok-at.at x c.in-Some.newest.now c.count.result c.are_too_many.result c.in_ok-at.ensures.found c.branch-old.ensures some c.count.ensures c.are_too_many.ensures ∙ ap (λ (t : Bool). cond t (Some TooManyNames) None) c.if-are_too_many.false
