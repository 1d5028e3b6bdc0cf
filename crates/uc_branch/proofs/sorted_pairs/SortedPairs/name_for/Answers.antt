use Rattle.std.proofs.Common.{sym, ◌∙◌}
use Rattle.uc_tree.specs.References.{is_same_ref}
use Rattle.uc_branch.proofs.Least.{least_passing}
use Rattle.uc_branch.proofs.sorted_pairs.SortedPairs.name_for.Goals as goal

pub returns : goal.returns
returns c =
    c.first_for.ensures ∙ rw (c.deref.ensures.value) (rw (← c.self.view_is) (sym (least_passing (λ p. is_same_ref c.args.of.now p.1) c.self.inside.pairs.items c.self.invariant)))
