-- The nodes of an item in the order of its canonical text.
use Rattle.std.specs.Prelude.{ℕ, zero, suc, List, [], ◌∷◌, ◌++◌, Option, Some, None, slice_get}
use Rattle.uc_tree.specs.declared.item.Item.{Item}
use Rattle.uc_tree.specs.declared.item.Item.TheVariants as item
use Rattle.uc_tree.specs.Types.{Ty, Tys}
use Rattle.uc_tree.specs.Types as types
use Rattle.uc_tree.specs.Patterns.{Pattern, Patterns}
use Rattle.uc_tree.specs.Patterns as patterns
use Rattle.uc_tree.specs.Terms.{Term, Terms, Cases}
use Rattle.uc_tree.specs.Terms as terms

-- a node of an item: the name of the member, or a type, pattern or term with all below it
pub data Node : Type 0 where
  of_name : Node
  of_type : Ty → Node
  of_pattern : Pattern → Node
  of_term : Term → Node

abbrev mutual
  -- the nodes of a type, each before its parts
  pub ty_nodes : Ty → List Node
  ty_nodes (types.variable n) = of_type (types.variable n) ∷ []
  ty_nodes (types.quantified t) = of_type (types.quantified t) ∷ ty_nodes t
  ty_nodes (types.arrow a b) = of_type (types.arrow a b) ∷ ty_nodes a ++ ty_nodes b
  ty_nodes types.unit = of_type types.unit ∷ []
  ty_nodes (types.tuple ts) = of_type (types.tuple ts) ∷ tys_nodes ts
  ty_nodes (types.applied x ts) = of_type (types.applied x ts) ∷ tys_nodes ts

  pub tys_nodes : Tys → List Node
  tys_nodes types.none = []
  tys_nodes (types.more t ts) = ty_nodes t ++ tys_nodes ts

-- the nodes of a signature, which is none of its own
abbrev pub signature_nodes : Option Ty → List Node
signature_nodes None = []
signature_nodes (Some t) = ty_nodes t

abbrev mutual
  -- the nodes of a pattern
  pub pattern_nodes : Pattern → List Node
  pattern_nodes patterns.any = of_pattern patterns.any ∷ []
  pattern_nodes patterns.variable = of_pattern patterns.variable ∷ []
  pattern_nodes (patterns.alias p) = of_pattern (patterns.alias p) ∷ pattern_nodes p
  pattern_nodes (patterns.literal l) = of_pattern (patterns.literal l) ∷ []
  pattern_nodes patterns.unit = of_pattern patterns.unit ∷ []
  pattern_nodes (patterns.tuple ps) = of_pattern (patterns.tuple ps) ∷ patterns_nodes ps
  pattern_nodes (patterns.list ps) = of_pattern (patterns.list ps) ∷ patterns_nodes ps
  pattern_nodes (patterns.constructor x ps) = of_pattern (patterns.constructor x ps) ∷ patterns_nodes ps
  pattern_nodes (patterns.cons p q) = of_pattern (patterns.cons p q) ∷ pattern_nodes p ++ pattern_nodes q
  pattern_nodes (patterns.snoc p q) = of_pattern (patterns.snoc p q) ∷ pattern_nodes p ++ pattern_nodes q

  pub patterns_nodes : Patterns → List Node
  patterns_nodes patterns.none = []
  patterns_nodes (patterns.more p ps) = pattern_nodes p ++ patterns_nodes ps

abbrev mutual
  -- the nodes of a term: a signature before what it is for, and of a case the pattern, the guard, the body
  pub term_nodes : Term → List Node
  term_nodes (terms.variable n) = of_term (terms.variable n) ∷ []
  term_nodes (terms.literal l) = of_term (terms.literal l) ∷ []
  term_nodes terms.unit = of_term terms.unit ∷ []
  term_nodes (terms.link x) = of_term (terms.link x) ∷ []
  term_nodes (terms.lambda t) = of_term (terms.lambda t) ∷ term_nodes t
  term_nodes (terms.apply a b) = of_term (terms.apply a b) ∷ term_nodes a ++ term_nodes b
  term_nodes (terms.annotated t ty) = of_term (terms.annotated t ty) ∷ term_nodes t ++ ty_nodes ty
  term_nodes (terms.tuple ts) = of_term (terms.tuple ts) ∷ terms_nodes ts
  term_nodes (terms.list ts) = of_term (terms.list ts) ∷ terms_nodes ts
  term_nodes (terms.conditional a b c) = of_term (terms.conditional a b c) ∷ term_nodes a ++ term_nodes b ++ term_nodes c
  term_nodes (terms.and a b) = of_term (terms.and a b) ∷ term_nodes a ++ term_nodes b
  term_nodes (terms.or a b) = of_term (terms.or a b) ∷ term_nodes a ++ term_nodes b
  term_nodes (terms.binding s a b) = of_term (terms.binding s a b) ∷ signature_nodes s ++ term_nodes a ++ term_nodes b
  term_nodes (terms.match t cs) = of_term (terms.match t cs) ∷ term_nodes t ++ cases_nodes cs

  pub terms_nodes : Terms → List Node
  terms_nodes terms.none = []
  terms_nodes (terms.more t ts) = term_nodes t ++ terms_nodes ts

  pub cases_nodes : Cases → List Node
  cases_nodes terms.no_case = []
  cases_nodes (terms.case p b cs) = pattern_nodes p ++ term_nodes b ++ cases_nodes cs
  cases_nodes (terms.guarded p g b cs) = pattern_nodes p ++ term_nodes g ++ term_nodes b ++ cases_nodes cs

-- the nodes of fields
abbrev pub fields_nodes : List Tys → List Node
fields_nodes [] = []
fields_nodes (ts ∷ ctors) = tys_nodes ts ++ fields_nodes ctors

-- the nodes of an item
abbrev pub nodes_of : Item → List Node
nodes_of (item.Term d) = signature_nodes d.signature ++ term_nodes d.body
nodes_of (item.Kind d) = fields_nodes d.ctors

-- the node with a number: 0 is the name, and from 1 on the nodes are counted in the order of the canonical text
abbrev pub node_at : Item → ℕ → Option Node
node_at i zero = Some of_name
node_at i (suc n) = slice_get (nodes_of i) n
