-- Types without free variables.
use Rattle.std.specs.Prelude.{Bool, true, false, ◌&&◌}
use Rattle.uc_tree.specs.Types.{Ty, Tys}
use Rattle.uc_tree.specs.Types as types
use Rattle.uc_context.specs.Opens.{Open, bound, rigid, existential, quantified, arrow, unit, tuple, applied, Opens, none, more}

abbrev mutual
  -- a type as one that may have free variables, of which it has none
  pub open_from : Ty → Open
  open_from (types.variable i) = bound i
  open_from (types.quantified t) = quantified (open_from t)
  open_from (types.arrow a b) = arrow (open_from a) (open_from b)
  open_from types.unit = unit
  open_from (types.tuple ts) = tuple (opens_from ts)
  open_from (types.applied x ts) = applied x (opens_from ts)

  pub opens_from : Tys → Opens
  opens_from types.none = none
  opens_from (types.more t ts) = more (open_from t) (opens_from ts)

abbrev mutual
  -- whether neither a rigid variable nor an existential stands in a type
  pub is_closed : Open → Bool
  is_closed (bound i) = true
  is_closed (rigid x) = false
  is_closed (existential x) = false
  is_closed (quantified t) = is_closed t
  is_closed (arrow a b) = is_closed a && is_closed b
  is_closed unit = true
  is_closed (tuple ts) = are_closed ts
  is_closed (applied x ts) = are_closed ts

  pub are_closed : Opens → Bool
  are_closed none = true
  are_closed (more t ts) = is_closed t && are_closed ts
