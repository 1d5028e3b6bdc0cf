-- What the checker may be asked about.
use Rattle.std.specs.Prelude.{◌≡◌, ◌<◌, ◌^◌, Some}
use Rattle.uc_tree.specs.Counts.{ty_levels}
use Rattle.uc_tree.specs.declared.target.Target.{Target}
use Rattle.uc_tree.specs.Types.{Ty}
use Rattle.uc_kinds.specs.PatternTyping.{Known, target_type}
use Rattle.uc_sound_typing.specs.Formed.{IsFormedKnown}

-- What is known is well-formed, and the levels of each type are a number that the checker can count.
pub record IsKnown (known : Known) : Type 0 where
  pub formed : IsFormedKnown known
  pub counted : (x : Target) (ty : Ty) → target_type known x ≡ Some ty → ty_levels ty < 2 ^ 32
