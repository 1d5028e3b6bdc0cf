-- Types inside an argument and outside.
use Rattle.uc_tree.specs.Types.{Ty, Tys}
use Rattle.uc_tree.specs.Types as types
use Rattle.uc_kinds.specs.declared.position.Position.TheVariants.{Outside, Inside}
use Rattle.uc_kinds.specs.Monotypes.{IsMonotype, AreMonotypes}
use Rattle.uc_kinds.specs.WellFormed.{Arity, IsWellFormedAt, AreWellFormedAt}

mutual
  monotype : (arity : Arity) (t : Ty) → IsWellFormedAt arity Inside t → IsMonotype t
  monotype arity (types.variable n) w = tt
  monotype arity (types.quantified t) w = absurd w.0
  monotype arity (types.arrow a b) w = (monotype arity a w.0, monotype arity b w.1)
  monotype arity types.unit w = tt
  monotype arity (types.tuple ts) w = monotypes arity ts w
  monotype arity (types.applied x ts) w = monotypes arity ts w.1

  monotypes : (arity : Arity) (ts : Tys) → AreWellFormedAt arity Inside ts → AreMonotypes ts
  monotypes arity types.none w = tt
  monotypes arity (types.more t ts) w = (monotype arity t w.0, monotypes arity ts w.1)

outside : (arity : Arity) (t : Ty) → IsWellFormedAt arity Inside t → IsWellFormedAt arity Outside t
outside arity (types.variable n) w = tt
outside arity (types.quantified t) w = absurd w.0
outside arity (types.arrow a b) w = (outside arity a w.0, outside arity b w.1)
outside arity types.unit w = tt
outside arity (types.tuple ts) w = w
outside arity (types.applied x ts) w = w

inside : (arity : Arity) (t : Ty) → IsWellFormedAt arity Outside t → IsMonotype t → IsWellFormedAt arity Inside t
inside arity (types.variable n) w m = tt
inside arity (types.quantified t) w m = absurd m
inside arity (types.arrow a b) w m = (inside arity a w.0 m.0, inside arity b w.1 m.1)
inside arity types.unit w m = tt
inside arity (types.tuple ts) w m = w
inside arity (types.applied x ts) w m = w

pub from_inside : (arity : Arity) (t : Ty) → IsWellFormedAt arity Inside t → IsWellFormedAt arity Outside t × IsMonotype t
from_inside arity t w = (outside arity t w, monotype arity t w)

pub to_inside : (arity : Arity) (t : Ty) → IsWellFormedAt arity Outside t × IsMonotype t → IsWellFormedAt arity Inside t
to_inside arity t w = inside arity t w.0 w.1
