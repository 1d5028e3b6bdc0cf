-- Which components are read back: the bounds that a component keeps beside its text.
use Rattle.std.specs.Prelude.{◌≡◌, ℕ, ◌^◌, ◌<◌, ◌≤◌, List, length, Option, Some, None, IsUtf8, FitsSigned}
use Rattle.std.specs.Char.{IsScalar}
use Rattle.std.specs.Int.{w64}
use Rattle.std.specs.List.{AllByRecursion}
use Rattle.hex.specs.Hex.{IsBytes}
use Rattle.uc_base.specs.declared.hash.Hash.{Hash}
use Rattle.uc_base.specs.declared.reference.Ref.TheVariants.{Def, Ctor, Builtin}
use Rattle.uc_base.specs.Name.{IsPath}
use Rattle.uc_tree.specs.declared.target.Target.{Target}
use Rattle.uc_tree.specs.declared.target.Target.TheVariants.{Stored, Own, OwnCtor}
use Rattle.uc_tree.specs.declared.literal.Literal.{Literal}
use Rattle.uc_tree.specs.declared.literal.Literal.TheVariants as lit
use Rattle.uc_tree.specs.declared.definition.Definition.{Definition}
use Rattle.uc_tree.specs.declared.item.Item.TheVariants as item
use Rattle.uc_tree.specs.Declarations.{Decl}
use Rattle.uc_tree.specs.Types.{Ty, Tys}
use Rattle.uc_tree.specs.Types as type
use Rattle.uc_tree.specs.Patterns.{Pattern, Patterns}
use Rattle.uc_tree.specs.Patterns as pattern
use Rattle.uc_tree.specs.Terms.{Term, Terms, Cases, no_case, case, guarded}
use Rattle.uc_tree.specs.Terms as term
use Rattle.uc_tree.specs.Bound.{IsBound}
use Rattle.uc_tree.specs.Constructors.{constructor_type}
use Rattle.uc_tree.specs.Counts.{ty_levels, levels_of}
use Rattle.uc_canon.specs.Members.{Members, terms, kinds}
use Rattle.uc_canon.specs.Spelling.{types_count, patterns_count, terms_count, cases_count}

-- a number of parts, of which there are at least so many
pub record IsCount (least n : ℕ) : Type 0 where
  pub enough : least ≤ n
  pub few : n < 2 ^ 32

-- 64 bytes
pub record IsHash (hash : Hash) : Type 0 where
  pub length : length hash.0 ≡ 64
  pub bytes : IsBytes hash.0

-- ---- types

-- what a type may name: a builtin, a stored declaration, or one of so many members
abbrev pub IsTypeTarget : ℕ → Target → Type 0
IsTypeTarget own (Stored (Builtin n)) = n < 2 ^ 16
IsTypeTarget own (Stored (Def hash n)) = IsHash hash × (n < 2 ^ 32)
IsTypeTarget own (Stored (Ctor hash n c)) = ⊥
IsTypeTarget own (Own n) = n < own
IsTypeTarget own (OwnCtor n c) = ⊥

abbrev mutual
  -- a type has a text: its numbers fit, a tuple has two parts or more, and it names what a type may name
  pub IsTypeInRange : ℕ → Ty → Type 0
  IsTypeInRange own (type.variable n) = n < 2 ^ 32
  IsTypeInRange own (type.quantified t) = IsTypeInRange own t
  IsTypeInRange own (type.arrow a b) = IsTypeInRange own a × IsTypeInRange own b
  IsTypeInRange own type.unit = Unit {0}
  IsTypeInRange own (type.tuple ts) = IsCount 2 (types_count ts) × AreTypesInRange own ts
  IsTypeInRange own (type.applied x ts) = IsTypeTarget own x × IsCount 0 (types_count ts) × AreTypesInRange own ts

  pub AreTypesInRange : ℕ → Tys → Type 0
  AreTypesInRange own type.none = Unit {0}
  AreTypesInRange own (type.more t ts) = IsTypeInRange own t × AreTypesInRange own ts

-- a signature names no member, as the members are definitions
abbrev pub IsSignatureInRange : Option Ty → Type 0
IsSignatureInRange None = Unit {0}
IsSignatureInRange (Some t) = IsTypeInRange 0 t

-- ---- literals and patterns

-- a Nat below 2 ^ 64, an Int of 64 bits, a text of UTF-8, a character that is a scalar value
abbrev pub IsLiteralInRange : Literal → Type 0
IsLiteralInRange (lit.Nat n) = n < 2 ^ 64
IsLiteralInRange (lit.Int z) = FitsSigned w64 z
IsLiteralInRange (lit.Boolean b) = Unit {0}
IsLiteralInRange (lit.Text text) = (length text < 2 ^ 64) × IsUtf8 text
IsLiteralInRange (lit.Char c) = IsScalar c

-- what stands at the head of a pattern: a stored constructor
abbrev pub IsPatternTarget : Target → Type 0
IsPatternTarget (Stored (Ctor hash n c)) = IsHash hash × (n < 2 ^ 32) × (c < 2 ^ 32)
IsPatternTarget (Stored (Def hash n)) = ⊥
IsPatternTarget (Stored (Builtin n)) = ⊥
IsPatternTarget (Own n) = ⊥
IsPatternTarget (OwnCtor n c) = ⊥

abbrev mutual
  -- a pattern has a text
  pub IsPatternInRange : Pattern → Type 0
  IsPatternInRange pattern.any = Unit {0}
  IsPatternInRange pattern.variable = Unit {0}
  IsPatternInRange (pattern.alias p) = IsPatternInRange p
  IsPatternInRange (pattern.literal l) = IsLiteralInRange l
  IsPatternInRange pattern.unit = Unit {0}
  IsPatternInRange (pattern.tuple ps) = IsCount 2 (patterns_count ps) × ArePatternsInRange ps
  IsPatternInRange (pattern.list ps) = IsCount 0 (patterns_count ps) × ArePatternsInRange ps
  IsPatternInRange (pattern.constructor x ps) = IsPatternTarget x × IsCount 0 (patterns_count ps) × ArePatternsInRange ps
  IsPatternInRange (pattern.cons p q) = IsPatternInRange p × IsPatternInRange q
  IsPatternInRange (pattern.snoc p q) = IsPatternInRange p × IsPatternInRange q

  pub ArePatternsInRange : Patterns → Type 0
  ArePatternsInRange pattern.none = Unit {0}
  ArePatternsInRange (pattern.more p ps) = IsPatternInRange p × ArePatternsInRange ps

-- ---- terms

-- what a term may link to: whatever is stored, or one of so many members
abbrev pub IsLink : ℕ → Target → Type 0
IsLink own (Stored (Builtin n)) = n < 2 ^ 16
IsLink own (Stored (Def hash n)) = IsHash hash × (n < 2 ^ 32)
IsLink own (Stored (Ctor hash n c)) = IsHash hash × (n < 2 ^ 32) × (c < 2 ^ 32)
IsLink own (Own n) = n < own
IsLink own (OwnCtor n c) = ⊥

abbrev mutual
  -- a term has a text; its types name no member, and a match has a case
  pub IsTermInRange : ℕ → Term → Type 0
  IsTermInRange own (term.variable n) = n < 2 ^ 32
  IsTermInRange own (term.literal l) = IsLiteralInRange l
  IsTermInRange own term.unit = Unit {0}
  IsTermInRange own (term.link x) = IsLink own x
  IsTermInRange own (term.lambda t) = IsTermInRange own t
  IsTermInRange own (term.apply a b) = IsTermInRange own a × IsTermInRange own b
  IsTermInRange own (term.annotated t ty) = IsTermInRange own t × IsTypeInRange 0 ty
  IsTermInRange own (term.tuple ts) = IsCount 2 (terms_count ts) × AreTermsInRange own ts
  IsTermInRange own (term.list ts) = IsCount 0 (terms_count ts) × AreTermsInRange own ts
  IsTermInRange own (term.conditional a b c) = IsTermInRange own a × IsTermInRange own b × IsTermInRange own c
  IsTermInRange own (term.and a b) = IsTermInRange own a × IsTermInRange own b
  IsTermInRange own (term.or a b) = IsTermInRange own a × IsTermInRange own b
  IsTermInRange own (term.binding s a b) = IsSignatureInRange s × IsTermInRange own a × IsTermInRange own b
  IsTermInRange own (term.match t cs) = IsTermInRange own t × IsCount 1 (cases_count cs) × AreCasesInRange own cs

  pub AreTermsInRange : ℕ → Terms → Type 0
  AreTermsInRange own term.none = Unit {0}
  AreTermsInRange own (term.more t ts) = IsTermInRange own t × AreTermsInRange own ts

  pub AreCasesInRange : ℕ → Cases → Type 0
  AreCasesInRange own no_case = Unit {0}
  AreCasesInRange own (case p b cs) = IsPatternInRange p × IsTermInRange own b × AreCasesInRange own cs
  AreCasesInRange own (guarded p g b cs) = IsPatternInRange p × IsTermInRange own g × IsTermInRange own b × AreCasesInRange own cs

-- ---- components

-- a definition among so many
pub record IsDefinitionInBounds (count : ℕ) (d : Definition) : Type 0 where
  pub signature : IsSignatureInRange d.signature
  pub body : IsTermInRange count d.body
  pub bound : IsBound (item.Term d)
  pub levels : levels_of (item.Term d) ≤ 512

-- none, or a path
abbrev pub IsTag : Option (List ℕ) → Type 0
IsTag None = Unit {0}
IsTag (Some tag) = IsPath tag

-- the fields of a constructor in a declaration with so many parameters: what the declared type is called adds no level
pub record AreFieldsInBounds (count params : ℕ) (fields : Tys) : Type 0 where
  pub few : IsCount 0 (types_count fields)
  pub types : AreTypesInRange count fields
  pub levels : ty_levels (constructor_type (Own 0) params fields) ≤ 512

-- a declaration among so many
pub record IsDeclarationInBounds (count : ℕ) (d : Decl) : Type 0 where
  pub tag : IsTag d.tag
  pub params : d.params < 2 ^ 32
  pub some : IsCount 1 (length d.ctors)
  pub ctors : AllByRecursion (AreFieldsInBounds count d.params) d.ctors
  pub bound : IsBound (item.Kind d)
  pub levels : levels_of (item.Kind d) ≤ 512

-- a component that has a text: at least one member, its numbers, texts and tags fit, its targets are such as have a text
-- at their place, its variables are bound, and its trees, the types of constructors among them, have at most 512 levels
abbrev pub InBounds : Members → Type 0
InBounds (terms members) = IsCount 1 (length members) × AllByRecursion (IsDefinitionInBounds (length members)) members
InBounds (kinds members) = IsCount 1 (length members) × AllByRecursion (IsDeclarationInBounds (length members)) members
