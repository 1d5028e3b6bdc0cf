use Rattle.std.proofs.Common.{[], ◌∷◌, refl}
use Rattle.uc_canon.specs.Members.{terms}
use Rattle.uc_canon.proofs.numbering.tests.closes_a_cycle.Goals as goal

pub close_component-requires : goal.close_component-requires
close_component-requires g c = (terms (_ ∷ _ ∷ []), refl)
