-- What falls in the checking of terms.
use Rattle.std.proofs.Common.{ℕ, ◌+◌, ◌*◌, ◌<◌, ◌^◌, arith}
use Rattle.uc_context.specs.Counts.{levels_of_open, IsSmall}
use Rattle.uc_context.specs.Opens.{Open, bound, rigid, existential, quantified, arrow, unit, tuple, applied}
use Rattle.uc_typing.specs.Fronts.{front_count}

-- the size of what is left comes first; how far the walk has come within a node comes last
abbrev pub step_rank : ℕ → ℕ → ℕ
step_rank size step = size * 2 ^ 16 + step

-- a type has no more quantifiers at its front than it has levels
pub front_levels : (t : Open) → front_count t < levels_of_open t
front_levels (bound i) = omega arith
front_levels (rigid x) = omega arith
front_levels (existential x) = omega arith
front_levels (quantified t) = omega (arith, front_levels t)
front_levels (arrow a b) = omega arith
front_levels unit = omega arith
front_levels (tuple ts) = omega arith
front_levels (applied h ts) = omega arith

pub front_small : (t : Open) → IsSmall t → front_count t < 512
front_small t small = omega (arith, small.levels, front_levels t)
