-- What the checker is asked about: what is known, types that are written, patterns and terms.
use Rattle.std.specs.Prelude.{◌≡◌, ℕ, zero, suc, ◌+◌, ◌<◌, Option, Some, None}
use Rattle.uc_base.specs.declared.reference.Ref.TheVariants.{Builtin}
use Rattle.uc_tree.specs.declared.definition.Definition.{Definition}
use Rattle.uc_tree.specs.declared.target.Target.{Target}
use Rattle.uc_tree.specs.declared.target.Target.TheVariants.{Stored}
use Rattle.uc_tree.specs.Patterns.{Pattern, Patterns}
use Rattle.uc_tree.specs.Patterns as patterns
use Rattle.uc_tree.specs.Terms.{Term, Terms, Cases}
use Rattle.uc_tree.specs.Terms as terms
use Rattle.uc_tree.specs.Types.{Ty, Tys}
use Rattle.uc_tree.specs.Types as types
use Rattle.uc_kinds.specs.PatternTyping.{Known, target_type}
use Rattle.uc_kinds.specs.Typing.{binders_in}
use Rattle.uc_kinds.specs.WellFormed.{Arity, tys_count}

abbrev mutual
  -- a written monotype with so many free variables
  pub IsMonoWritten : Arity → ℕ → Ty → Type 0
  IsMonoWritten arity k (types.variable i) = i < k
  IsMonoWritten arity k (types.quantified t) = ⊥
  IsMonoWritten arity k (types.arrow a b) = IsMonoWritten arity k a × IsMonoWritten arity k b
  IsMonoWritten arity k types.unit = Unit {0}
  IsMonoWritten arity k (types.tuple ts) = AreMonoWritten arity k ts
  IsMonoWritten arity k (types.applied x ts) = (arity x ≡ Some (tys_count ts)) × AreMonoWritten arity k ts

  pub AreMonoWritten : Arity → ℕ → Tys → Type 0
  AreMonoWritten arity k types.none = Unit {0}
  AreMonoWritten arity k (types.more t ts) = IsMonoWritten arity k t × AreMonoWritten arity k ts

-- a written type with so many free variables, which is well-formed
abbrev pub IsWritten : Arity → ℕ → Ty → Type 0
IsWritten arity k (types.variable i) = i < k
IsWritten arity k (types.quantified t) = IsWritten arity (suc k) t
IsWritten arity k (types.arrow a b) = IsWritten arity k a × IsWritten arity k b
IsWritten arity k types.unit = Unit {0}
IsWritten arity k (types.tuple ts) = AreMonoWritten arity k ts
IsWritten arity k (types.applied x ts) = (arity x ≡ Some (tys_count ts)) × AreMonoWritten arity k ts

-- What is known is well-formed: the types of all targets that have one are closed, and the builtin types take the arguments that they take.
pub record IsFormedKnown (known : Known) : Type 0 where
  pub types : (x : Target) (ty : Ty) → target_type known x ≡ Some ty → IsWritten known.arity 0 ty
  pub plain : (n : ℕ) → n < 5 → known.arity (Stored (Builtin n)) ≡ Some 0
  pub list : known.arity (Stored (Builtin 5)) ≡ Some 1

-- a type is that of a constructor: quantifiers, then arrows, then a data type
abbrev pub IsFieldsType : Ty → Type 0
IsFieldsType (types.arrow a b) = IsFieldsType b
IsFieldsType (types.applied x ts) = Unit {0}
IsFieldsType t = ⊥

abbrev pub IsConstructorType : Ty → Type 0
IsConstructorType (types.quantified t) = IsConstructorType t
IsConstructorType (types.arrow a b) = IsFieldsType b
IsConstructorType (types.applied x ts) = Unit {0}
IsConstructorType t = ⊥

-- a target has a type, of such a kind
pub record IsTyped (kind : Ty → Type 0) (known : Known) (x : Target) : Type 0 where
  pub ty : Ty
  pub is : target_type known x ≡ Some ty
  pub fits : kind ty

abbrev mutual
  -- the constructors of a pattern have types of constructors
  pub IsFormedPattern : Known → Pattern → Type 0
  IsFormedPattern known patterns.any = Unit {0}
  IsFormedPattern known patterns.variable = Unit {0}
  IsFormedPattern known (patterns.alias p) = IsFormedPattern known p
  IsFormedPattern known (patterns.literal l) = Unit {0}
  IsFormedPattern known patterns.unit = Unit {0}
  IsFormedPattern known (patterns.tuple ps) = AreFormedPatterns known ps
  IsFormedPattern known (patterns.list ps) = AreFormedPatterns known ps
  IsFormedPattern known (patterns.constructor x ps) = IsTyped IsConstructorType known x × AreFormedPatterns known ps
  IsFormedPattern known (patterns.cons p q) = IsFormedPattern known p × IsFormedPattern known q
  IsFormedPattern known (patterns.snoc p q) = IsFormedPattern known p × IsFormedPattern known q

  pub AreFormedPatterns : Known → Patterns → Type 0
  AreFormedPatterns known patterns.none = Unit {0}
  AreFormedPatterns known (patterns.more p ps) = IsFormedPattern known p × AreFormedPatterns known ps

-- any type
abbrev pub IsAnyType : Ty → Type 0
IsAnyType t = Unit {0}

-- how many quantifiers stand at the front of a written type
abbrev pub written_front : Ty → ℕ
written_front (types.quantified t) = suc (written_front t)
written_front t = zero

-- a signature, where there is one
abbrev pub IsWrittenSignature : Arity → ℕ → Option Ty → Type 0
IsWrittenSignature arity k None = Unit {0}
IsWrittenSignature arity k (Some ty) = IsWritten arity k ty

-- how many variables a signature's body sees more
abbrev pub signature_front : Option Ty → ℕ
signature_front None = zero
signature_front (Some ty) = written_front ty

abbrev mutual
  -- a term with so many free variables, and so many free variables of types: its links have types, and the types that are written in it are well-formed
  pub IsFormed : Known → ℕ → ℕ → Term → Type 0
  IsFormed known m k (terms.variable n) = n < m
  IsFormed known m k (terms.literal l) = Unit {0}
  IsFormed known m k terms.unit = Unit {0}
  IsFormed known m k (terms.link x) = IsTyped IsAnyType known x
  IsFormed known m k (terms.lambda e) = IsFormed known (suc m) k e
  IsFormed known m k (terms.apply f e) = IsFormed known m k f × IsFormed known m k e
  IsFormed known m k (terms.annotated e ty) = IsFormed known m k e × IsWritten known.arity k ty
  IsFormed known m k (terms.tuple es) = AreFormed known m k es
  IsFormed known m k (terms.list es) = AreFormed known m k es
  IsFormed known m k (terms.conditional a b c) = IsFormed known m k a × IsFormed known m k b × IsFormed known m k c
  IsFormed known m k (terms.and a b) = IsFormed known m k a × IsFormed known m k b
  IsFormed known m k (terms.or a b) = IsFormed known m k a × IsFormed known m k b
  IsFormed known m k (terms.binding s a b) = IsWrittenSignature known.arity k s × IsFormed known (suc m) (signature_front s + k) a × IsFormed known (suc m) k b
  IsFormed known m k (terms.match e cs) = IsFormed known m k e × AreFormedCases known m k cs

  pub AreFormed : Known → ℕ → ℕ → Terms → Type 0
  AreFormed known m k terms.none = Unit {0}
  AreFormed known m k (terms.more e es) = IsFormed known m k e × AreFormed known m k es

  pub AreFormedCases : Known → ℕ → ℕ → Cases → Type 0
  AreFormedCases known m k terms.no_case = Unit {0}
  AreFormedCases known m k (terms.case p b cs) = IsFormedPattern known p × IsFormed known (binders_in p + m) k b × AreFormedCases known m k cs
  AreFormedCases known m k (terms.guarded p g b cs) = IsFormedPattern known p × IsFormed known (binders_in p + m) k g × IsFormed known (binders_in p + m) k b × AreFormedCases known m k cs

-- a definition: its body sees the quantifiers at the front of its signature
abbrev pub IsFormedDefinition : Known → Definition → Type 0
IsFormedDefinition known d = IsWrittenSignature known.arity 0 d.signature × IsFormed known 0 (signature_front d.signature) d.body
