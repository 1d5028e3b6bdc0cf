-- Existentials to be instantiated, one after another.
use Rattle.std.specs.Prelude.{ℕ, zero, suc, List, [], ◌∷◌}
use Rattle.uc_context.specs.Opens.{Open, Opens, none, more}
use Rattle.uc_subtyping.specs.declared.side.Side.{Side}
use Rattle.uc_subtyping.specs.declared.side.Side.TheVariants.{Below, Above}

-- a list of existentials, each with a type and the side of it where the existential goes
pub data Instances : Type 0 where
  no_instances : Instances
  instance : Side → ℕ → Open → Instances → Instances

abbrev pub other : Side → Side
other Below = Above
other Above = Below

-- existentials for the types of a list, in order, each at one side
abbrev pub all_at : Side → List ℕ → Opens → Instances
all_at s [] ts = no_instances
all_at s (n ∷ ns) none = no_instances
all_at s (n ∷ ns) (more t ts) = instance s n t (all_at s ns ts)

-- how many types a list has
abbrev pub opens_count : Opens → ℕ
opens_count none = zero
opens_count (more t ts) = suc (opens_count ts)
