-- As many flaws as nodes.
use Rattle.std.proofs.Common.{◌≡◌, List, [], ◌∷◌, length, Option, Some, None, refl, arith, length-append}
use Rattle.std.proofs.lemmas.List.{length-map}
use Rattle.uc_tree.specs.declared.item.Item.{Item}
use Rattle.uc_tree.specs.declared.item.Item.TheVariants as item
use Rattle.uc_tree.specs.Types.{Ty, Tys}
use Rattle.uc_tree.specs.Types as types
use Rattle.uc_tree.specs.Patterns.{Pattern}
use Rattle.uc_tree.specs.Terms.{Term, Terms, Cases}
use Rattle.uc_tree.specs.Terms as terms
use Rattle.uc_tree.specs.Nodes.{ty_nodes, tys_nodes, signature_nodes, pattern_nodes, term_nodes, terms_nodes, cases_nodes, fields_nodes, nodes_of}
use Rattle.uc_kinds.specs.declared.position.Position.{Position}
use Rattle.uc_kinds.specs.declared.position.Position.TheVariants.{Outside, Inside}
use Rattle.uc_kinds.specs.Flaws.{ty_flaws, tys_flaws, signature_flaws, pattern_flaws, term_flaws, terms_flaws, cases_flaws, fields_flaws, item_flaws}
use Rattle.uc_kinds.specs.WellFormed.{Arity}

mutual
  pub type_count : (arity : Arity) (at : Position) (t : Ty) → length (ty_flaws arity at t) ≡ length (ty_nodes t)
  type_count arity at (types.variable n) = refl
  type_count arity at (types.quantified t) = omega (arith, type_count arity at t)
  type_count arity at (types.arrow a b) = simp length-append (omega (arith, type_count arity at a, type_count arity at b))
  type_count arity at types.unit = refl
  type_count arity at (types.tuple ts) = omega (arith, types_count arity Inside ts)
  type_count arity at (types.applied x ts) = omega (arith, types_count arity Inside ts)

  types_count : (arity : Arity) (at : Position) (ts : Tys) → length (tys_flaws arity at ts) ≡ length (tys_nodes ts)
  types_count arity at types.none = refl
  types_count arity at (types.more t ts) = simp length-append (omega (arith, type_count arity at t, types_count arity at ts))

signature_count : (arity : Arity) (s : Option Ty) → length (signature_flaws arity s) ≡ length (signature_nodes s)
signature_count arity None = refl
signature_count arity (Some t) = type_count arity Outside t

pattern_count : (p : Pattern) → length (pattern_flaws p) ≡ length (pattern_nodes p)
pattern_count p = simp length-map

mutual
  pub term_count : (arity : Arity) (t : Term) → length (term_flaws arity t) ≡ length (term_nodes t)
  term_count arity (terms.variable n) = refl
  term_count arity (terms.literal l) = refl
  term_count arity terms.unit = refl
  term_count arity (terms.link x) = refl
  term_count arity (terms.lambda t) = omega (arith, term_count arity t)
  term_count arity (terms.apply a b) = simp length-append (omega (arith, term_count arity a, term_count arity b))
  term_count arity (terms.annotated t ty) = simp length-append (omega (arith, term_count arity t, type_count arity Outside ty))
  term_count arity (terms.tuple ts) = omega (arith, terms_count arity ts)
  term_count arity (terms.list ts) = omega (arith, terms_count arity ts)
  term_count arity (terms.conditional a b c) = simp length-append (omega (arith, term_count arity a, term_count arity b, term_count arity c))
  term_count arity (terms.and a b) = simp length-append (omega (arith, term_count arity a, term_count arity b))
  term_count arity (terms.or a b) = simp length-append (omega (arith, term_count arity a, term_count arity b))
  term_count arity (terms.binding s a b) = simp length-append (omega (arith, signature_count arity s, term_count arity a, term_count arity b))
  term_count arity (terms.match t cs) = simp length-append (omega (arith, term_count arity t, cases_count arity cs))

  terms_count : (arity : Arity) (ts : Terms) → length (terms_flaws arity ts) ≡ length (terms_nodes ts)
  terms_count arity terms.none = refl
  terms_count arity (terms.more t ts) = simp length-append (omega (arith, term_count arity t, terms_count arity ts))

  cases_count : (arity : Arity) (cs : Cases) → length (cases_flaws arity cs) ≡ length (cases_nodes cs)
  cases_count arity terms.no_case = refl
  cases_count arity (terms.case p b cs) = simp length-append (omega (arith, pattern_count p, term_count arity b, cases_count arity cs))
  cases_count arity (terms.guarded p g b cs) = simp length-append (omega (arith, pattern_count p, term_count arity g, term_count arity b, cases_count arity cs))

fields_count : (arity : Arity) (ctors : List Tys) → length (fields_flaws arity ctors) ≡ length (fields_nodes ctors)
fields_count arity [] = refl
fields_count arity (ts ∷ ctors) = simp length-append (omega (arith, types_count arity Outside ts, fields_count arity ctors))

pub item_count : (arity : Arity) (i : Item) → length (item_flaws arity i) ≡ length (nodes_of i)
item_count arity (item.Term d) = simp length-append (omega (arith, signature_count arity d.signature, term_count arity d.body))
item_count arity (item.Kind d) = fields_count arity d.ctors
