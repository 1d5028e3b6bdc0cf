-- What is wrong at each node of an item, in the order of its canonical text.
use Rattle.std.specs.Prelude.{ℕ, List, [], ◌∷◌, ◌++◌, map, Option, Some, None, ◌==◌, if◌then◌else◌}
use Rattle.uc_tree.specs.declared.item.Item.{Item}
use Rattle.uc_tree.specs.declared.item.Item.TheVariants as item
use Rattle.uc_tree.specs.declared.term.Case.{Case}
use Rattle.uc_tree.specs.Types.{Ty, Tys}
use Rattle.uc_tree.specs.Types as types
use Rattle.uc_tree.specs.Terms.{Term, Terms, Cases}
use Rattle.uc_tree.specs.Terms as terms
use Rattle.uc_tree.specs.Patterns.{Pattern}
use Rattle.uc_tree.specs.Nodes.{pattern_nodes}
use Rattle.uc_kinds.specs.declared.position.Position.{Position}
use Rattle.uc_kinds.specs.declared.position.Position.TheVariants.{Outside, Inside}
use Rattle.uc_kinds.specs.declared.flaw.Flaw.{Flaw}
use Rattle.uc_kinds.specs.declared.flaw.Flaw.TheVariants.{WrongArity, InnerQuantifier}
use Rattle.uc_kinds.specs.WellFormed.{Arity, tys_count}

-- there is no flaw
abbrev pub IsFlawless : List (Option Flaw) → Type 0
IsFlawless [] = Unit {0}
IsFlawless (None ∷ flaws) = IsFlawless flaws
IsFlawless (Some flaw ∷ flaws) = ⊥

-- what is wrong with so many arguments of a data type
abbrev pub arity_flaw : Option ℕ → ℕ → Option Flaw
arity_flaw None arguments = Some WrongArity
arity_flaw (Some params) arguments = if params == arguments then None else Some WrongArity

-- what is wrong with a quantifier at a position
abbrev pub quantifier_flaw : Position → Option Flaw
quantifier_flaw Outside = None
quantifier_flaw Inside = Some InnerQuantifier

abbrev mutual
  -- the flaws of the nodes of a type: a wrong number of arguments is one of the data type, a quantifier inside an argument one of the quantifier
  pub ty_flaws : Arity → Position → Ty → List (Option Flaw)
  ty_flaws arity at (types.variable n) = None ∷ []
  ty_flaws arity at (types.quantified t) = quantifier_flaw at ∷ ty_flaws arity at t
  ty_flaws arity at (types.arrow a b) = None ∷ ty_flaws arity at a ++ ty_flaws arity at b
  ty_flaws arity at types.unit = None ∷ []
  ty_flaws arity at (types.tuple ts) = None ∷ tys_flaws arity Inside ts
  ty_flaws arity at (types.applied x ts) = arity_flaw (arity x) (tys_count ts) ∷ tys_flaws arity Inside ts

  pub tys_flaws : Arity → Position → Tys → List (Option Flaw)
  tys_flaws arity at types.none = []
  tys_flaws arity at (types.more t ts) = ty_flaws arity at t ++ tys_flaws arity at ts

-- the flaws of the nodes of a signature
abbrev pub signature_flaws : Arity → Option Ty → List (Option Flaw)
signature_flaws arity None = []
signature_flaws arity (Some t) = ty_flaws arity Outside t

-- the flaws of the nodes of a pattern: none at each
abbrev pub pattern_flaws : Pattern → List (Option Flaw)
pattern_flaws p = map (λ _. None) (pattern_nodes p)

abbrev mutual
  -- the flaws of the nodes of a term: those of the types that are written in it
  pub term_flaws : Arity → Term → List (Option Flaw)
  term_flaws arity (terms.variable n) = None ∷ []
  term_flaws arity (terms.literal l) = None ∷ []
  term_flaws arity terms.unit = None ∷ []
  term_flaws arity (terms.link x) = None ∷ []
  term_flaws arity (terms.lambda t) = None ∷ term_flaws arity t
  term_flaws arity (terms.apply a b) = None ∷ term_flaws arity a ++ term_flaws arity b
  term_flaws arity (terms.annotated t ty) = None ∷ term_flaws arity t ++ ty_flaws arity Outside ty
  term_flaws arity (terms.tuple ts) = None ∷ terms_flaws arity ts
  term_flaws arity (terms.list ts) = None ∷ terms_flaws arity ts
  term_flaws arity (terms.conditional a b c) = None ∷ term_flaws arity a ++ term_flaws arity b ++ term_flaws arity c
  term_flaws arity (terms.and a b) = None ∷ term_flaws arity a ++ term_flaws arity b
  term_flaws arity (terms.or a b) = None ∷ term_flaws arity a ++ term_flaws arity b
  term_flaws arity (terms.binding s a b) = None ∷ signature_flaws arity s ++ term_flaws arity a ++ term_flaws arity b
  term_flaws arity (terms.match t cs) = None ∷ term_flaws arity t ++ cases_flaws arity cs

  pub terms_flaws : Arity → Terms → List (Option Flaw)
  terms_flaws arity terms.none = []
  terms_flaws arity (terms.more t ts) = term_flaws arity t ++ terms_flaws arity ts

  pub cases_flaws : Arity → Cases → List (Option Flaw)
  cases_flaws arity terms.no_case = []
  cases_flaws arity (terms.case p b cs) = pattern_flaws p ++ term_flaws arity b ++ cases_flaws arity cs
  cases_flaws arity (terms.guarded p g b cs) = pattern_flaws p ++ term_flaws arity g ++ term_flaws arity b ++ cases_flaws arity cs

-- the flaws of the nodes of a guard
abbrev pub guard_flaws : Arity → Option Term → List (Option Flaw)
guard_flaws arity None = []
guard_flaws arity (Some t) = term_flaws arity t

-- the flaws of the nodes of a case
abbrev pub case_flaws : Arity → Case → List (Option Flaw)
case_flaws arity c = pattern_flaws c.pattern ++ guard_flaws arity c.guard ++ term_flaws arity c.body

-- the flaws of the nodes of fields
abbrev pub fields_flaws : Arity → List Tys → List (Option Flaw)
fields_flaws arity [] = []
fields_flaws arity (ts ∷ ctors) = tys_flaws arity Outside ts ++ fields_flaws arity ctors

-- the flaws of the nodes of an item
abbrev pub item_flaws : Arity → Item → List (Option Flaw)
item_flaws arity (item.Term d) = signature_flaws arity d.signature ++ term_flaws arity d.body
item_flaws arity (item.Kind d) = fields_flaws arity d.ctors
