-- The names of the term binders of what is written in one piece.
use Rattle.std.specs.Prelude.{ℕ, List, [], ◌∷◌, ◌++◌, Option, Some, None}
use Rattle.uc_scratch.specs.declared.block.BindingFront.{BindingFront}
use Rattle.uc_scratch.specs.declared.block.BindingFront.TheVariants as front
use Rattle.uc_scratch.specs.declared.block.Case.{Case}
use Rattle.uc_scratch.specs.Exprs.{Expr, Block}
use Rattle.uc_scratch.specs.NameFaults.{pattern_names}
use Rattle.uc_scratch.specs.TypeLevels.{texts_of}
use Rattle.uc_meaning.specs.Hints.{param_hint, param_hints, expr_hints, block_hints}

-- those of a guard or none
abbrev pub guard_hints : Option Expr → List (List ℕ)
guard_hints None = []
guard_hints (Some e) = expr_hints e

-- those of a case
abbrev pub case_hints : Case → List (List ℕ)
case_hints c = texts_of (pattern_names c.pattern) ++ guard_hints c.guard ++ block_hints c.body

-- those of a binding's parameters
abbrev pub front_hints : BindingFront → List (List ℕ)
front_hints (front.Prefix h ps) = param_hints ps.items
front_hints (front.Infix x w y) = param_hint x ∷ param_hint y ∷ []

-- those of a binding's parameters and body
abbrev pub bound_hints : BindingFront → Block → List (List ℕ)
bound_hints f b = front_hints f ++ block_hints b
