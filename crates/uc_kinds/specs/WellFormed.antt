-- Types whose data types have as many arguments as they take, with no quantifier inside an argument.
use Rattle.std.specs.Prelude.{◌≡◌, ℕ, ◌+◌, List, [], ◌∷◌, Option, Some, None}
use Rattle.uc_tree.specs.declared.target.Target.{Target}
use Rattle.uc_tree.specs.declared.definition.Definition.{Definition}
use Rattle.uc_tree.specs.declared.item.Item.{Item}
use Rattle.uc_tree.specs.declared.item.Item.TheVariants as item
use Rattle.uc_tree.specs.Declarations.{Decl}
use Rattle.uc_tree.specs.Types.{Ty, Tys}
use Rattle.uc_tree.specs.Types as types
use Rattle.uc_tree.specs.Terms.{Term, Terms, Cases}
use Rattle.uc_tree.specs.Terms as terms
use Rattle.uc_kinds.specs.declared.position.Position.{Position}
use Rattle.uc_kinds.specs.declared.position.Position.TheVariants.{Outside, Inside}

-- how many parameters a target takes, where it is a declared type
abbrev pub Arity : Type 0
Arity = Target → Option ℕ

-- how many types a list has
abbrev pub tys_count : Tys → ℕ
tys_count types.none = 0
tys_count (types.more t ts) = tys_count ts + 1

-- where a quantifier may stand: outside of every argument
abbrev pub MayQuantify : Position → Type 0
MayQuantify Outside = Unit {0}
MayQuantify Inside = ⊥

abbrev mutual
  -- a type at a position is well-formed: no quantifier stands inside an argument, and each data type has as many arguments as it takes
  pub IsWellFormedAt : Arity → Position → Ty → Type 0
  IsWellFormedAt arity at (types.variable n) = Unit {0}
  IsWellFormedAt arity at (types.quantified t) = MayQuantify at × IsWellFormedAt arity at t
  IsWellFormedAt arity at (types.arrow a b) = IsWellFormedAt arity at a × IsWellFormedAt arity at b
  IsWellFormedAt arity at types.unit = Unit {0}
  IsWellFormedAt arity at (types.tuple ts) = AreWellFormedAt arity Inside ts
  IsWellFormedAt arity at (types.applied x ts) = (arity x ≡ Some (tys_count ts)) × AreWellFormedAt arity Inside ts

  pub AreWellFormedAt : Arity → Position → Tys → Type 0
  AreWellFormedAt arity at types.none = Unit {0}
  AreWellFormedAt arity at (types.more t ts) = IsWellFormedAt arity at t × AreWellFormedAt arity at ts

-- a type that stands alone is well-formed
abbrev pub IsWellFormed : Arity → Ty → Type 0
IsWellFormed arity t = IsWellFormedAt arity Outside t

-- a signature is well-formed, where there is one
abbrev pub IsWellFormedSignature : Arity → Option Ty → Type 0
IsWellFormedSignature arity None = Unit {0}
IsWellFormedSignature arity (Some t) = IsWellFormed arity t

abbrev mutual
  -- each type that is written in a term is well-formed
  pub IsWellFormedTerm : Arity → Term → Type 0
  IsWellFormedTerm arity (terms.variable n) = Unit {0}
  IsWellFormedTerm arity (terms.literal l) = Unit {0}
  IsWellFormedTerm arity terms.unit = Unit {0}
  IsWellFormedTerm arity (terms.link x) = Unit {0}
  IsWellFormedTerm arity (terms.lambda t) = IsWellFormedTerm arity t
  IsWellFormedTerm arity (terms.apply a b) = IsWellFormedTerm arity a × IsWellFormedTerm arity b
  IsWellFormedTerm arity (terms.annotated t ty) = IsWellFormedTerm arity t × IsWellFormed arity ty
  IsWellFormedTerm arity (terms.tuple ts) = AreWellFormedTerms arity ts
  IsWellFormedTerm arity (terms.list ts) = AreWellFormedTerms arity ts
  IsWellFormedTerm arity (terms.conditional a b c) = IsWellFormedTerm arity a × IsWellFormedTerm arity b × IsWellFormedTerm arity c
  IsWellFormedTerm arity (terms.and a b) = IsWellFormedTerm arity a × IsWellFormedTerm arity b
  IsWellFormedTerm arity (terms.or a b) = IsWellFormedTerm arity a × IsWellFormedTerm arity b
  IsWellFormedTerm arity (terms.binding s a b) = IsWellFormedSignature arity s × IsWellFormedTerm arity a × IsWellFormedTerm arity b
  IsWellFormedTerm arity (terms.match t cs) = IsWellFormedTerm arity t × AreWellFormedCases arity cs

  pub AreWellFormedTerms : Arity → Terms → Type 0
  AreWellFormedTerms arity terms.none = Unit {0}
  AreWellFormedTerms arity (terms.more t ts) = IsWellFormedTerm arity t × AreWellFormedTerms arity ts

  pub AreWellFormedCases : Arity → Cases → Type 0
  AreWellFormedCases arity terms.no_case = Unit {0}
  AreWellFormedCases arity (terms.case p b cs) = IsWellFormedTerm arity b × AreWellFormedCases arity cs
  AreWellFormedCases arity (terms.guarded p g b cs) = IsWellFormedTerm arity g × IsWellFormedTerm arity b × AreWellFormedCases arity cs

-- the fields of constructors are well-formed
abbrev pub AreWellFormedFields : Arity → List Tys → Type 0
AreWellFormedFields arity [] = Unit {0}
AreWellFormedFields arity (ts ∷ ctors) = AreWellFormedAt arity Outside ts × AreWellFormedFields arity ctors

-- a definition is well-formed: its signature and each type in its body
abbrev pub IsWellFormedDefinition : Arity → Definition → Type 0
IsWellFormedDefinition arity d = IsWellFormedSignature arity d.signature × IsWellFormedTerm arity d.body

-- a declaration is well-formed: each of its fields
abbrev pub IsWellFormedDecl : Arity → Decl → Type 0
IsWellFormedDecl arity d = AreWellFormedFields arity d.ctors

-- each of some declarations is well-formed
abbrev pub AreWellFormedDecls : Arity → List Decl → Type 0
AreWellFormedDecls arity [] = Unit {0}
AreWellFormedDecls arity (d ∷ decls) = IsWellFormedDecl arity d × AreWellFormedDecls arity decls

-- an item is well-formed
abbrev pub IsWellFormedItem : Arity → Item → Type 0
IsWellFormedItem arity (item.Term d) = IsWellFormedDefinition arity d
IsWellFormedItem arity (item.Kind d) = IsWellFormedDecl arity d
