-- What stands in a tree, from left to right.
use Rattle.std.specs.Prelude.{◌≡◌, List, [], ◌∷◌, ◌++◌, Option, Some, None}
use Rattle.std.specs.List.{Contains}
use Rattle.uc_base.specs.declared.reference.Ref.{Ref}
use Rattle.uc_base.specs.declared.reference.Ref.TheVariants.{Def, Ctor, Builtin}
use Rattle.uc_tree.specs.declared.target.Target.{Target}
use Rattle.uc_tree.specs.declared.target.Target.TheVariants.{Stored, Own, OwnCtor}
use Rattle.uc_tree.specs.declared.term.Case.{Case}
use Rattle.uc_tree.specs.declared.item.Item.{Item}
use Rattle.uc_tree.specs.declared.item.Item.TheVariants as item
use Rattle.uc_tree.specs.Types.{Ty, Tys}
use Rattle.uc_tree.specs.Types as types
use Rattle.uc_tree.specs.Patterns.{Pattern, Patterns}
use Rattle.uc_tree.specs.Patterns as patterns
use Rattle.uc_tree.specs.Terms.{Term, Terms, Cases}
use Rattle.uc_tree.specs.Terms as terms

abbrev mutual
  -- the targets in a type
  pub ty_targets : Ty → List Target
  ty_targets (types.variable n) = []
  ty_targets (types.quantified t) = ty_targets t
  ty_targets (types.arrow a b) = ty_targets a ++ ty_targets b
  ty_targets types.unit = []
  ty_targets (types.tuple ts) = tys_targets ts
  ty_targets (types.applied x ts) = x ∷ tys_targets ts

  pub tys_targets : Tys → List Target
  tys_targets types.none = []
  tys_targets (types.more t ts) = ty_targets t ++ tys_targets ts

-- the targets in a signature
abbrev pub signature_targets : Option Ty → List Target
signature_targets None = []
signature_targets (Some t) = ty_targets t

abbrev mutual
  -- the targets in a pattern: its constructors
  pub pattern_targets : Pattern → List Target
  pattern_targets patterns.any = []
  pattern_targets patterns.variable = []
  pattern_targets (patterns.alias p) = pattern_targets p
  pattern_targets (patterns.literal l) = []
  pattern_targets patterns.unit = []
  pattern_targets (patterns.tuple ps) = patterns_targets ps
  pattern_targets (patterns.list ps) = patterns_targets ps
  pattern_targets (patterns.constructor x ps) = x ∷ patterns_targets ps
  pattern_targets (patterns.cons p q) = pattern_targets p ++ pattern_targets q
  pattern_targets (patterns.snoc p q) = pattern_targets p ++ pattern_targets q

  pub patterns_targets : Patterns → List Target
  patterns_targets patterns.none = []
  patterns_targets (patterns.more p ps) = pattern_targets p ++ patterns_targets ps

abbrev mutual
  -- the targets in a term, those of its types and patterns among them
  pub term_targets : Term → List Target
  term_targets (terms.variable n) = []
  term_targets (terms.literal l) = []
  term_targets terms.unit = []
  term_targets (terms.link x) = x ∷ []
  term_targets (terms.lambda t) = term_targets t
  term_targets (terms.apply a b) = term_targets a ++ term_targets b
  term_targets (terms.annotated t ty) = term_targets t ++ ty_targets ty
  term_targets (terms.tuple ts) = terms_targets ts
  term_targets (terms.list ts) = terms_targets ts
  term_targets (terms.conditional a b c) = term_targets a ++ term_targets b ++ term_targets c
  term_targets (terms.and a b) = term_targets a ++ term_targets b
  term_targets (terms.or a b) = term_targets a ++ term_targets b
  term_targets (terms.binding s a b) = signature_targets s ++ term_targets a ++ term_targets b
  term_targets (terms.match t cs) = term_targets t ++ cases_targets cs

  pub terms_targets : Terms → List Target
  terms_targets terms.none = []
  terms_targets (terms.more t ts) = term_targets t ++ terms_targets ts

  pub cases_targets : Cases → List Target
  cases_targets terms.no_case = []
  cases_targets (terms.case p b cs) = (pattern_targets p ++ term_targets b) ++ cases_targets cs
  cases_targets (terms.guarded p g b cs) = (pattern_targets p ++ term_targets g ++ term_targets b) ++ cases_targets cs

-- the targets in a guard
abbrev pub guard_targets : Option Term → List Target
guard_targets None = []
guard_targets (Some t) = term_targets t

-- the targets in a case
abbrev pub case_targets : Case → List Target
case_targets c = pattern_targets c.pattern ++ guard_targets c.guard ++ term_targets c.body

-- the targets in the fields of constructors
abbrev pub fields_targets : List Tys → List Target
fields_targets [] = []
fields_targets (ts ∷ ctors) = tys_targets ts ++ fields_targets ctors

-- the targets in an item
abbrev pub targets_of : Item → List Target
targets_of (item.Term d) = signature_targets d.signature ++ term_targets d.body
targets_of (item.Kind d) = fields_targets d.ctors

-- a stored reference stands in an item
abbrev pub IsRefOf : Ref → Item → Type 0
IsRefOf r i = Contains (targets_of i) (Stored r)

-- what a target leads to: a constructor to its declaration, all else to itself
abbrev pub home_of : Target → Target
home_of (Stored (Ctor hash member ctor)) = Stored (Def hash member)
home_of (Stored (Def hash member)) = Stored (Def hash member)
home_of (Stored (Builtin number)) = Stored (Builtin number)
home_of (Own member) = Own member
home_of (OwnCtor member ctor) = Own member

-- an item refers to a definition, a declaration or a builtin: by a stored reference or as a member of its own component
pub record RefersTo (i : Item) (to : Target) : Type 0 where
  pub by : Target
  pub stands : Contains (targets_of i) by
  pub leads : home_of by ≡ to
