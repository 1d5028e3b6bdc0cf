use Rattle.std.proofs.Common.{sym, ap, not, ◌∙◌}
use Rattle.std.proofs.lemmas.List.Kept.{IsStrictlySortedBy-filter}
use Rattle.uc_tree.specs.Lookups.{Pairs, pair_order}
use Rattle.uc_branch.specs.Pairs.{pair_name, is_same_name, without}
use Rattle.uc_branch.specs.Places.{IsPlace}
use Rattle.uc_branch.proofs.PairEdits.{without_at, without_no}
use Rattle.uc_branch.proofs.sorted_pairs.SortedPairs.remove.Goals as goal

pub invariant_of-self : goal.invariant_of-self
invariant_of-self c =
    let name = c.args.name.now in
    let items = c.self.inside.pairs.items in
    let place : IsPlace pair_name name items c.in-Ok.at = rw c.self.view_is c.in-Ok.ensures.found in
    rw (c.remove.ensures.items ∙ without_at name items c.in-Ok.at place) (IsStrictlySortedBy-filter pair_order (λ p. not (is_same_name name p.0)) items c.self.invariant)

pub returns-in-Ok : goal.returns-in-Ok
returns-in-Ok c =
    let name = c.args.name.now in
    let items = c.self.inside.pairs.items in
    let place : IsPlace pair_name name items c.in-Ok.at = rw c.self.view_is c.in-Ok.ensures.found in
    c.remove.ensures.items ∙ (without_at name items c.in-Ok.at place ∙ ap (λ (ps : Pairs). without (is_same_name name) ps) c.self.view_is)

pub returns-in_default : goal.returns-in_default
returns-in_default c = sym (without_no c.args.name.now c.args.self.now c.in_default.field-0 c.in_default.ensures.absent)
