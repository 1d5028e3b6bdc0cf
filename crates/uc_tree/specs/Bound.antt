-- Variables that are bound.
use Rattle.std.specs.Prelude.{ℕ, suc, ◌+◌, ◌<◌, List, [], ◌∷◌, Option, Some, None}
use Rattle.uc_tree.specs.declared.item.Item.{Item}
use Rattle.uc_tree.specs.declared.item.Item.TheVariants as item
use Rattle.uc_tree.specs.Types.{Ty, Tys}
use Rattle.uc_tree.specs.Types as types
use Rattle.uc_tree.specs.Patterns.{Pattern, Patterns}
use Rattle.uc_tree.specs.Patterns as patterns
use Rattle.uc_tree.specs.Terms.{Term, Terms, Cases}
use Rattle.uc_tree.specs.Terms as terms

abbrev mutual
  -- each variable of a type is one of its own quantifiers or of so many others
  pub IsTypeBound : ℕ → Ty → Type 0
  IsTypeBound k (types.variable n) = n < k
  IsTypeBound k (types.quantified t) = IsTypeBound (suc k) t
  IsTypeBound k (types.arrow a b) = IsTypeBound k a × IsTypeBound k b
  IsTypeBound k types.unit = Unit {0}
  IsTypeBound k (types.tuple ts) = AreTypesBound k ts
  IsTypeBound k (types.applied x ts) = AreTypesBound k ts

  pub AreTypesBound : ℕ → Tys → Type 0
  AreTypesBound k types.none = Unit {0}
  AreTypesBound k (types.more t ts) = IsTypeBound k t × AreTypesBound k ts

-- the quantifiers at the front of a type
abbrev pub front_quantifiers : Ty → ℕ
front_quantifiers (types.variable n) = 0
front_quantifiers (types.quantified t) = suc (front_quantifiers t)
front_quantifiers (types.arrow a b) = 0
front_quantifiers types.unit = 0
front_quantifiers (types.tuple ts) = 0
front_quantifiers (types.applied x ts) = 0

-- the quantifiers that a signature brings into scope in what it is for
abbrev pub signature_quantifiers : Option Ty → ℕ
signature_quantifiers None = 0
signature_quantifiers (Some t) = front_quantifiers t

abbrev pub IsSignatureBound : ℕ → Option Ty → Type 0
IsSignatureBound k None = Unit {0}
IsSignatureBound k (Some t) = IsTypeBound k t

abbrev mutual
  -- how many variables a pattern binds
  pub binder_count : Pattern → ℕ
  binder_count patterns.any = 0
  binder_count patterns.variable = 1
  binder_count (patterns.alias p) = suc (binder_count p)
  binder_count (patterns.literal l) = 0
  binder_count patterns.unit = 0
  binder_count (patterns.tuple ps) = binders_count ps
  binder_count (patterns.list ps) = binders_count ps
  binder_count (patterns.constructor x ps) = binders_count ps
  binder_count (patterns.cons p q) = binder_count p + binder_count q
  binder_count (patterns.snoc p q) = binder_count p + binder_count q

  pub binders_count : Patterns → ℕ
  binders_count patterns.none = 0
  binders_count (patterns.more p ps) = binder_count p + binders_count ps

abbrev mutual
  -- each variable of a term is bound in it or one of so many others (v), and so is each type variable (k)
  pub IsTermBound : ℕ → ℕ → Term → Type 0
  IsTermBound k v (terms.variable n) = n < v
  IsTermBound k v (terms.literal l) = Unit {0}
  IsTermBound k v terms.unit = Unit {0}
  IsTermBound k v (terms.link x) = Unit {0}
  IsTermBound k v (terms.lambda t) = IsTermBound k (suc v) t
  IsTermBound k v (terms.apply a b) = IsTermBound k v a × IsTermBound k v b
  IsTermBound k v (terms.annotated t ty) = IsTermBound k v t × IsTypeBound k ty
  IsTermBound k v (terms.tuple ts) = AreTermsBound k v ts
  IsTermBound k v (terms.list ts) = AreTermsBound k v ts
  IsTermBound k v (terms.conditional a b c) = IsTermBound k v a × IsTermBound k v b × IsTermBound k v c
  IsTermBound k v (terms.and a b) = IsTermBound k v a × IsTermBound k v b
  IsTermBound k v (terms.or a b) = IsTermBound k v a × IsTermBound k v b
  IsTermBound k v (terms.binding s a b) = IsSignatureBound k s × IsTermBound (signature_quantifiers s + k) (suc v) a × IsTermBound k (suc v) b
  IsTermBound k v (terms.match t cs) = IsTermBound k v t × AreCasesBound k v cs

  pub AreTermsBound : ℕ → ℕ → Terms → Type 0
  AreTermsBound k v terms.none = Unit {0}
  AreTermsBound k v (terms.more t ts) = IsTermBound k v t × AreTermsBound k v ts

  pub AreCasesBound : ℕ → ℕ → Cases → Type 0
  AreCasesBound k v terms.no_case = Unit {0}
  AreCasesBound k v (terms.case p b cs) = IsTermBound k (binder_count p + v) b × AreCasesBound k v cs
  AreCasesBound k v (terms.guarded p g b cs) = IsTermBound k (binder_count p + v) g × IsTermBound k (binder_count p + v) b × AreCasesBound k v cs

abbrev pub AreFieldsBound : ℕ → List Tys → Type 0
AreFieldsBound k [] = Unit {0}
AreFieldsBound k (ts ∷ ctors) = AreTypesBound k ts × AreFieldsBound k ctors

-- each variable of an item is bound: in a definition under its signature's quantifiers, in a declaration by its parameters
abbrev pub IsBound : Item → Type 0
IsBound (item.Term d) = IsSignatureBound 0 d.signature × IsTermBound (signature_quantifiers d.signature) 0 d.body
IsBound (item.Kind d) = AreFieldsBound d.params d.ctors
