-- Signatures, parameters, and lists of terms and cases as they are kept.
use Rattle.std.specs.Prelude.{ℕ, List, [], ◌∷◌, map, reverse, drop, Vec}
use Rattle.std.specs.Option.{option_map}
use Rattle.uc_base.specs.declared.place.Place.{Place}
use Rattle.uc_tree.specs.Terms.{Term, Terms, Cases, terms_of}
use Rattle.uc_tree.specs.TermViews.{cases_of}
use Rattle.uc_tree.specs.declared.term.Case.{Case}
use Rattle.uc_scratch.specs.declared.block.BindingFront.{BindingFront}
use Rattle.uc_scratch.specs.declared.block.BindingFront.TheVariants as front
use Rattle.uc_scratch.specs.declared.written.Written.{Written}
use Rattle.uc_scratch.specs.declared.written.Param.{Param}
use Rattle.uc_scratch.specs.ExprGrammar.{head_name}
use Rattle.uc_scratch.specs.NameFaults.{head_place}
use Rattle.uc_meaning.specs.Placed.{Placed}
use Rattle.uc_meaning.specs.ExprMeanings.{Scope, Signed, Operand, Parts, Outer, param_place}
use Rattle.uc_signatures.specs.declared.placed.Placed as seen
use Rattle.uc_signatures.specs.PlacedViews.{placed_of}
use Rattle.uc_bodies.specs.declared.signed.Signed as kept
use Rattle.uc_bodies.specs.declared.params.Params.{Params}
use Rattle.uc_bodies.specs.declared.params.Params.TheVariants as params
use Rattle.uc_bodies.specs.declared.operands.Operand as kept_operands
use Rattle.uc_bodies.specs.declared.parts.Parts as kept_parts
use Rattle.uc_bodies.specs.declared.parts.Outside.{Outside}

-- what a signature gives to the binding behind it
abbrev pub signed_of : kept.Signed → Signed
signed_of s = record { name = s.name.now; place = s.place; type_of = placed_of s.type_of; front = s.front.items }

-- the parameters of a binding, its name, and where it begins
abbrev pub params_of : BindingFront → List Param
params_of (front.Prefix h ps) = ps.items
params_of (front.Infix x w y) = x ∷ y ∷ []

abbrev pub front_name : BindingFront → Written
front_name (front.Prefix h ps) = head_name h
front_name (front.Infix x w y) = w

abbrev pub front_place : BindingFront → Place
front_place (front.Prefix h ps) = head_place h
front_place (front.Infix x w y) = param_place x

-- parameters in order
abbrev pub listed : Params → List Param
listed (params.Prefix ps) = ps.now
listed (params.Infix x y) = x.now ∷ y.now ∷ []

-- a scope without its innermost binders, or without its innermost block
abbrev pub without_binders : ℕ → Scope → Scope
without_binders n scope = record scope { binders = drop n scope.binders }

abbrev pub without_block : Scope → Scope
without_block scope = record scope { usings = drop 1 scope.usings }

-- terms and cases with their places
abbrev pub placed_terms : {A : Type 0} → seen.Placed (Vec Term A) → Placed Terms
placed_terms p = (terms_of p.tree.items, p.places)

abbrev pub placed_cases : {A : Type 0} → seen.Placed (Vec Case A) → Placed Cases
placed_cases p = (cases_of p.tree.items, p.places)

-- a term and where it begins
abbrev pub operand_of : kept_operands.Operand → Operand
operand_of a = (a.start, placed_of a.term)

-- what has been read of an expression
abbrev pub parts_of : kept_parts.Parts → Parts
parts_of s = record {
  ors = option_map operand_of s.ors;
  ands = option_map operand_of s.ands;
  half = option_map operand_of s.half;
  atoms = option_map operand_of s.atoms;
}

-- the expressions round it, the innermost first
abbrev pub outer_of : Outside → Outer
outer_of os = reverse (map (λ o. (o.place, parts_of o.parts)) os.opened.items)

-- both
abbrev pub with_outer : Outside → kept_parts.Parts → Parts × Outer
with_outer os s = (parts_of s, outer_of os)
