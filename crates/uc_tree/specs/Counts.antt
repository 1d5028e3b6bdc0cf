-- How large trees are.
use Rattle.std.specs.Prelude.{ℕ, ◌+◌, max, List, [], ◌∷◌, Option, Some, None}
use Rattle.uc_tree.specs.declared.term.Case.{Case}
use Rattle.uc_tree.specs.declared.item.Item.{Item}
use Rattle.uc_tree.specs.declared.item.Item.TheVariants as item
use Rattle.uc_tree.specs.Types.{Ty, Tys}
use Rattle.uc_tree.specs.Types as types
use Rattle.uc_tree.specs.Patterns.{Pattern, Patterns}
use Rattle.uc_tree.specs.Patterns as patterns
use Rattle.uc_tree.specs.Terms.{Term, Terms, Cases}
use Rattle.uc_tree.specs.Terms as terms

abbrev mutual
  -- how many nodes a type has
  pub node_count : Ty → ℕ
  node_count (types.variable n) = 1
  node_count (types.quantified t) = node_count t + 1
  node_count (types.arrow a b) = node_count a + node_count b + 1
  node_count types.unit = 1
  node_count (types.tuple ts) = tys_node_count ts + 1
  node_count (types.applied x ts) = tys_node_count ts + 1

  pub tys_node_count : Tys → ℕ
  tys_node_count types.none = 0
  tys_node_count (types.more t ts) = node_count t + tys_node_count ts

abbrev mutual
  -- the levels of a type: a node is one, and its parts stand below it
  pub ty_levels : Ty → ℕ
  ty_levels (types.variable n) = 1
  ty_levels (types.quantified t) = ty_levels t + 1
  ty_levels (types.arrow a b) = max (ty_levels a) (ty_levels b) + 1
  ty_levels types.unit = 1
  ty_levels (types.tuple ts) = tys_levels ts + 1
  ty_levels (types.applied x ts) = tys_levels ts + 1

  pub tys_levels : Tys → ℕ
  tys_levels types.none = 0
  tys_levels (types.more t ts) = max (ty_levels t) (tys_levels ts)

-- the levels of a signature, which is no level of its own
abbrev pub signature_levels : Option Ty → ℕ
signature_levels None = 0
signature_levels (Some t) = ty_levels t

abbrev mutual
  -- the levels of a pattern
  pub pattern_levels : Pattern → ℕ
  pattern_levels patterns.any = 1
  pattern_levels patterns.variable = 1
  pattern_levels (patterns.alias p) = pattern_levels p + 1
  pattern_levels (patterns.literal l) = 1
  pattern_levels patterns.unit = 1
  pattern_levels (patterns.tuple ps) = patterns_levels ps + 1
  pattern_levels (patterns.list ps) = patterns_levels ps + 1
  pattern_levels (patterns.constructor x ps) = patterns_levels ps + 1
  pattern_levels (patterns.cons p q) = max (pattern_levels p) (pattern_levels q) + 1
  pattern_levels (patterns.snoc p q) = max (pattern_levels p) (pattern_levels q) + 1

  pub patterns_levels : Patterns → ℕ
  patterns_levels patterns.none = 0
  patterns_levels (patterns.more p ps) = max (pattern_levels p) (patterns_levels ps)

abbrev mutual
  -- the levels of a term; its types and patterns count on from their node, and a case is no level of its own
  pub term_levels : Term → ℕ
  term_levels (terms.variable n) = 1
  term_levels (terms.literal l) = 1
  term_levels terms.unit = 1
  term_levels (terms.link x) = 1
  term_levels (terms.lambda t) = term_levels t + 1
  term_levels (terms.apply a b) = max (term_levels a) (term_levels b) + 1
  term_levels (terms.annotated t ty) = max (term_levels t) (ty_levels ty) + 1
  term_levels (terms.tuple ts) = terms_levels ts + 1
  term_levels (terms.list ts) = terms_levels ts + 1
  term_levels (terms.conditional a b c) = max (max (term_levels a) (term_levels b)) (term_levels c) + 1
  term_levels (terms.and a b) = max (term_levels a) (term_levels b) + 1
  term_levels (terms.or a b) = max (term_levels a) (term_levels b) + 1
  term_levels (terms.binding s a b) = max (max (signature_levels s) (term_levels a)) (term_levels b) + 1
  term_levels (terms.match t cs) = max (term_levels t) (cases_levels cs) + 1

  pub terms_levels : Terms → ℕ
  terms_levels terms.none = 0
  terms_levels (terms.more t ts) = max (term_levels t) (terms_levels ts)

  pub cases_levels : Cases → ℕ
  cases_levels terms.no_case = 0
  cases_levels (terms.case p b cs) = max (max (pattern_levels p) (term_levels b)) (cases_levels cs)
  cases_levels (terms.guarded p g b cs) = max (max (max (pattern_levels p) (term_levels g)) (term_levels b)) (cases_levels cs)

-- the levels of a guard, where there is one
abbrev pub guard_levels : Option Term → ℕ
guard_levels None = 0
guard_levels (Some t) = term_levels t

-- the levels of a case
abbrev pub case_levels : Case → ℕ
case_levels c = max (max (pattern_levels c.pattern) (guard_levels c.guard)) (term_levels c.body)

-- the levels of fields
abbrev pub fields_levels : List Tys → ℕ
fields_levels [] = 0
fields_levels (ts ∷ ctors) = max (tys_levels ts) (fields_levels ctors)

-- the levels of an item: those of its deepest tree
abbrev pub levels_of : Item → ℕ
levels_of (item.Term d) = max (signature_levels d.signature) (term_levels d.body)
levels_of (item.Kind d) = fields_levels d.ctors
