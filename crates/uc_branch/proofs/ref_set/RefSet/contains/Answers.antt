use Rattle.std.proofs.Common.{List, ap, ◌∙◌}
use Rattle.uc_base.specs.declared.reference.Ref.{Ref}
use Rattle.uc_branch.specs.Reaches.{is_among}
use Rattle.uc_branch.proofs.RefSets.{among_found}
use Rattle.uc_branch.proofs.ref_set.RefSet.contains.Goals as goal

pub returns : goal.returns
returns c =
    c.is_ok.ensures.value
    ∙ (among_found c.args.r.now c.deref.result.now (rw c.deref.ensures.value c.self.invariant) c.binary_search.result c.binary_search.ensures.bound c.binary_search.ensures.position
    ∙ ap (λ (refs : List Ref). is_among c.args.r.now refs) (c.deref.ensures.value ∙ c.self.view_is))
