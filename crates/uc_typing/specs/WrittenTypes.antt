-- Types that are written in terms, where the variables of signatures are in scope.
use Rattle.std.specs.Prelude.{ℕ, ◌+◌, ◌-◌, List, Option, Some, None, nat_lt, slice_get, if◌then◌else◌}
use Rattle.uc_tree.specs.Types.{Ty, Tys}
use Rattle.uc_tree.specs.Types as types
use Rattle.uc_context.specs.Opens.{Open, bound, rigid, quantified, arrow, unit, tuple, applied, Opens, none, more}

-- a rigid variable that is in scope, or else the number as it stands
abbrev pub rigid_or : ℕ → Option ℕ → Open
rigid_or n (Some x) = rigid x
rigid_or n None = bound n

-- a variable under so many quantifiers of its type: one of theirs, or else one of the rigid variables in scope, of which the first is the innermost
abbrev pub variable_among : List ℕ → ℕ → ℕ → Open
variable_among seen depth n = if nat_lt n depth then bound n else rigid_or n (slice_get seen (n - depth))

abbrev mutual
  -- a written type under so many of its quantifiers
  pub written_under : List ℕ → ℕ → Ty → Open
  written_under seen depth (types.variable n) = variable_among seen depth n
  written_under seen depth (types.quantified t) = quantified (written_under seen (depth + 1) t)
  written_under seen depth (types.arrow a b) = arrow (written_under seen depth a) (written_under seen depth b)
  written_under seen depth types.unit = unit
  written_under seen depth (types.tuple ts) = tuple (all_written_under seen depth ts)
  written_under seen depth (types.applied x ts) = applied x (all_written_under seen depth ts)

  pub all_written_under : List ℕ → ℕ → Tys → Opens
  all_written_under seen depth types.none = none
  all_written_under seen depth (types.more t ts) = more (written_under seen depth t) (all_written_under seen depth ts)

-- a written type where these rigid variables are in scope
abbrev pub written : List ℕ → Ty → Open
written seen t = written_under seen 0 t
