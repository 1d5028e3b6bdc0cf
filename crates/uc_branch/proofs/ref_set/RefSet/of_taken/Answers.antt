use Rattle.std.proofs.Common.{sym, ◌∙◌}
use Rattle.std.proofs.lemmas.List.Sorted.{list_any-IsPermutation}
use Rattle.uc_tree.specs.References.{is_same_ref}
use Rattle.uc_branch.specs.Pairs.{within}
use Rattle.uc_branch.specs.Reaches.{reaches}
use Rattle.uc_branch.proofs.RefSets.{among_both}
use Rattle.uc_branch.proofs.ref_set.RefSet.of_taken.Goals as goal

pub returns : goal.returns
returns c = λ r.
    sym (list_any-IsPermutation (is_same_ref r) _ _ c.sort_unstable.ensures.permutation)
    ∙ rw (c.in_ok-add_taken-2.ensures, c.in_ok-add_taken.ensures, c.new-refs.ensures.items, c.as_slice.ensures.value, c.as_slice-2.ensures.value)
    (rw (← c.head.view_is) (among_both r (within (reaches c.args.reach.now) c.head.inside.kinds) (within (reaches c.args.reach.now) c.head.inside.terms)))
