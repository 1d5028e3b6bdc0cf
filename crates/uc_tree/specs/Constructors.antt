-- The type of a constructor.
use Rattle.std.specs.Prelude.{ℕ, zero, suc}
use Rattle.uc_tree.specs.declared.target.Target.{Target}
use Rattle.uc_tree.specs.Types.{Ty, variable, quantified, arrow, applied, Tys, none, more}

-- so many quantifiers in front of a type
abbrev pub quantified_over : ℕ → Ty → Ty
quantified_over zero t = t
quantified_over (suc n) t = quantified (quantified_over n t)

-- an arrow from each of the fields in order
abbrev pub arrows : Tys → Ty → Ty
arrows none t = t
arrows (more field fields) t = arrow field (arrows fields t)

-- so many parameters in order: the last is nearest
abbrev pub parameters : ℕ → Tys
parameters zero = none
parameters (suc n) = more (variable n) (parameters n)

-- the type of a constructor: quantifiers over the parameters in order, an arrow from each field in order, and the declared type at the parameters
abbrev pub constructor_type : Target → ℕ → Tys → Ty
constructor_type head params fields = quantified_over params (arrows fields (applied head (parameters params)))
