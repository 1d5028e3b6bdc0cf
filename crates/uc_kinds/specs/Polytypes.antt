-- Types as the rules of typing see them: a variable of a quantifier inside the type is a number counted outwards, every other variable is rigid and has a name of its own, a number.
use Rattle.std.specs.Prelude.{ℕ, ◌+◌, ◌-◌, ◌==◌, Bool, true, false, List, [], ◌∷◌, Option, Some, None, nat_lt, slice_get, if◌then◌else◌}
use Rattle.uc_tree.specs.declared.target.Target.{Target}
use Rattle.uc_tree.specs.Types.{Ty, Tys}
use Rattle.uc_tree.specs.Types as types

mutual
  pub data Poly : Type 0 where
    bound : ℕ → Poly
    rigid : ℕ → Poly
    quantified : Poly → Poly
    arrow : Poly → Poly → Poly
    unit : Poly
    tuple : Polys → Poly
    applied : Target → Polys → Poly

  pub data Polys : Type 0 where
    none : Polys
    more : Poly → Polys → Polys

abbrev mutual
  -- a type with another in place of the variable that counts so many quantifiers outwards
  pub opened_at : ℕ → Poly → Poly → Poly
  opened_at n s (bound m) = if m == n then s else bound m
  opened_at n s (rigid x) = rigid x
  opened_at n s (quantified t) = quantified (opened_at (n + 1) s t)
  opened_at n s (arrow a b) = arrow (opened_at n s a) (opened_at n s b)
  opened_at n s unit = unit
  opened_at n s (tuple ts) = tuple (all_opened_at n s ts)
  opened_at n s (applied x ts) = applied x (all_opened_at n s ts)

  pub all_opened_at : ℕ → Poly → Polys → Polys
  all_opened_at n s none = none
  all_opened_at n s (more t ts) = more (opened_at n s t) (all_opened_at n s ts)

-- what stands under a quantifier, with a type in place of its variable
abbrev pub opened : Poly → Poly → Poly
opened s t = opened_at 0 s t

-- a rigid variable that is in scope, or else the number as it stands
abbrev pub rigid_or : ℕ → Option ℕ → Poly
rigid_or n (Some x) = rigid x
rigid_or n None = bound n

-- a variable under so many quantifiers of its type: one of theirs, or else one of the rigid variables in scope, of which the first is the innermost
abbrev pub variable_among : List ℕ → ℕ → ℕ → Poly
variable_among vars depth n = if nat_lt n depth then bound n else rigid_or n (slice_get vars (n - depth))

abbrev mutual
  -- a written type under so many of its quantifiers, where these rigid variables are in scope
  pub poly_under : List ℕ → ℕ → Ty → Poly
  poly_under vars depth (types.variable n) = variable_among vars depth n
  poly_under vars depth (types.quantified t) = quantified (poly_under vars (depth + 1) t)
  poly_under vars depth (types.arrow a b) = arrow (poly_under vars depth a) (poly_under vars depth b)
  poly_under vars depth types.unit = unit
  poly_under vars depth (types.tuple ts) = tuple (polys_under vars depth ts)
  poly_under vars depth (types.applied x ts) = applied x (polys_under vars depth ts)

  pub polys_under : List ℕ → ℕ → Tys → Polys
  polys_under vars depth types.none = none
  polys_under vars depth (types.more t ts) = more (poly_under vars depth t) (polys_under vars depth ts)

-- a written type where these rigid variables are in scope
abbrev pub poly_of : List ℕ → Ty → Poly
poly_of vars t = poly_under vars 0 t

-- a type of which no variable is free
abbrev pub closed_poly : Ty → Poly
closed_poly t = poly_of [] t

-- whether a quantifier stands at the front
abbrev pub is_quantified : Poly → Bool
is_quantified (quantified t) = true
is_quantified _ = false

-- how many types a list has
abbrev pub polys_count : Polys → ℕ
polys_count none = 0
polys_count (more t ts) = polys_count ts + 1
