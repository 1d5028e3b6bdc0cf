-- Types as plain trees.
use Rattle.std.specs.Prelude.{ℕ, ◌+◌, List, [], ◌∷◌}
use Rattle.uc_tree.specs.declared.target.Target.{Target}

mutual
  -- a type: a variable, a quantifier, an arrow, the unit, a tuple, or a declared type at its arguments
  pub data Ty : Type 0 where
    variable : ℕ → Ty
    quantified : Ty → Ty
    arrow : Ty → Ty → Ty
    unit : Ty
    tuple : Tys → Ty
    applied : Target → Tys → Ty

  -- a list of types
  pub data Tys : Type 0 where
    none : Tys
    more : Ty → Tys → Tys

-- the types of a list
abbrev pub tys_of : List Ty → Tys
tys_of [] = none
tys_of (t ∷ ts) = more t (tys_of ts)

abbrev mutual
  -- what falls in a walk over a type: its nodes, and one for each place in a list
  pub ty_size : Ty → ℕ
  ty_size (variable n) = 1
  ty_size (quantified t) = ty_size t + 1
  ty_size (arrow a b) = ty_size a + ty_size b + 1
  ty_size unit = 1
  ty_size (tuple ts) = tys_size ts + 1
  ty_size (applied x ts) = tys_size ts + 1

  pub tys_size : Tys → ℕ
  tys_size none = 0
  tys_size (more t ts) = ty_size t + tys_size ts + 1
