use Rattle.std.proofs.Common.{ℕ, List, sym, ap, ◌∙◌, Some}
use Rattle.uc_base.specs.declared.reference.Ref.{Ref}
use Rattle.uc_branch.specs.Pairs.{pair_name}
use Rattle.uc_branch.specs.Places.{IsPlace}
use Rattle.uc_branch.proofs.PairEdits.{found_at, found_no}
use Rattle.uc_branch.proofs.sorted_pairs.SortedPairs.find.Goals as goal

pub returns-in-Ok : goal.returns-in-Ok
returns-in-Ok c =
    let name = c.args.name.now in
    let items = c.self.inside.pairs.items in
    let place : IsPlace pair_name name items c.in-Ok.at = rw c.self.view_is c.in-Ok.ensures.found in
    rw (← c.self.view_is) (ap (λ (p : List ℕ × Ref). Some p.1) c.index.ensures ∙ sym (found_at name items c.in-Ok.at c.index.result.now place))

pub returns-in-Err : goal.returns-in-Err
returns-in-Err c = sym (found_no c.args.name.now c.args.self.now c.in-Err.field-0 c.in-Err.ensures.absent)
