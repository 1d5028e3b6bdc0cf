-- Declarative typing of patterns: a pattern against a type binds variables of these types, from left to right.
use Rattle.std.specs.Prelude.{◌≡◌, ℕ, List, [], ◌∷◌, ◌++◌, Option, Some, None, slice_get, option_and_then}
use Rattle.std.specs.Option.{option_map}
use Rattle.uc_base.specs.declared.reference.Ref.{Ref}
use Rattle.uc_tree.specs.declared.target.Target.{Target}
use Rattle.uc_tree.specs.declared.target.Target.TheVariants.{Stored, Own, OwnCtor}
use Rattle.uc_tree.specs.declared.literal.Literal.{Literal}
use Rattle.uc_tree.specs.declared.literal.Literal.TheVariants as literals
use Rattle.uc_tree.specs.Types.{Ty}
use Rattle.uc_tree.specs.Patterns.{Pattern, Patterns}
use Rattle.uc_tree.specs.Patterns as patterns
use Rattle.uc_kinds.specs.WellFormed.{Arity}
use Rattle.uc_kinds.specs.Polytypes.{Poly, Polys, quantified, arrow, unit, tuple, applied, none, more, opened, closed_poly}
use Rattle.uc_kinds.specs.Subtyping.{builtin_type, list_of, IsMono, AreMono, IsSubtype}

-- What is known of references: how many arguments a data type takes, the types of stored definitions, constructors and builtins, and the signatures of the members of the component.
pub record Known : Type 0 where
  pub arity : Arity
  pub type_of : Ref → Option Ty
  pub signatures : List (Option Ty)

-- a signature that there is
abbrev pub if_signed : Option (Option Ty) → Option Ty
if_signed None = None
if_signed (Some signature) = signature

-- the type of what a target stands for: that of a member is its signature
abbrev pub target_type : Known → Target → Option Ty
target_type known (Stored r) = known.type_of r
target_type known (Own k) = if_signed (slice_get known.signatures k)
target_type known (OwnCtor k c) = None

-- the type of a literal
abbrev pub literal_type : Literal → Poly
literal_type (literals.Nat n) = builtin_type 0
literal_type (literals.Int z) = builtin_type 1
literal_type (literals.Boolean b) = builtin_type 2
literal_type (literals.Text text) = builtin_type 3
literal_type (literals.Char c) = builtin_type 4

-- the type of a constructor at monotypes for its parameters: its fields and its result
pub data IsConstructorAt : Arity → List ℕ → Poly → Polys → Poly → Type 0 where
  at_parameter : {arity : Arity} {xs : List ℕ} {a r : Poly} {fields : Polys} (t : Poly)
      → IsMono arity xs t → IsConstructorAt arity xs (opened t a) fields r → IsConstructorAt arity xs (quantified a) fields r
  at_field : {arity : Arity} {xs : List ℕ} {a b r : Poly} {fields : Polys}
      → IsConstructorAt arity xs b fields r → IsConstructorAt arity xs (arrow a b) (more a fields) r
  at_result : {arity : Arity} {xs : List ℕ} {h : Target} {ts : Polys} → IsConstructorAt arity xs (applied h ts) none (applied h ts)

mutual
  -- a pattern against a type, where these rigid variables are in scope
  pub data PatternBinds : Known → List ℕ → Pattern → Poly → List Poly → Type 0 where
    binds_any : {known : Known} {xs : List ℕ} {s : Poly} → PatternBinds known xs patterns.any s []
    binds_variable : {known : Known} {xs : List ℕ} {s : Poly} → PatternBinds known xs patterns.variable s (s ∷ [])
    binds_alias : {known : Known} {xs : List ℕ} {p : Pattern} {s : Poly} {bs : List Poly}
        → PatternBinds known xs p s bs → PatternBinds known xs (patterns.alias p) s (s ∷ bs)
    binds_literal : {known : Known} {xs : List ℕ} {l : Literal} {s : Poly}
        → IsSubtype known.arity xs s (literal_type l) → PatternBinds known xs (patterns.literal l) s []
    binds_unit : {known : Known} {xs : List ℕ} {s : Poly} → IsSubtype known.arity xs s unit → PatternBinds known xs patterns.unit s []
    binds_tuple : {known : Known} {xs : List ℕ} {ps : Patterns} {s : Poly} {bs : List Poly} (ts : Polys)
        → AreMono known.arity xs ts → IsSubtype known.arity xs s (tuple ts) → PatternsBind known xs ps ts bs
        → PatternBinds known xs (patterns.tuple ps) s bs
    binds_list : {known : Known} {xs : List ℕ} {ps : Patterns} {s : Poly} {bs : List Poly} (t : Poly)
        → IsMono known.arity xs t → IsSubtype known.arity xs s (list_of t) → AllBind known xs ps t bs
        → PatternBinds known xs (patterns.list ps) s bs
    binds_constructor : {known : Known} {xs : List ℕ} {x : Target} {ps : Patterns} {s r : Poly} {bs : List Poly} {ty : Ty} (fields : Polys)
        → target_type known x ≡ Some ty → IsConstructorAt known.arity xs (closed_poly ty) fields r → IsSubtype known.arity xs s r
        → PatternsBind known xs ps fields bs → PatternBinds known xs (patterns.constructor x ps) s bs
    binds_cons : {known : Known} {xs : List ℕ} {p q : Pattern} {s : Poly} {bs cs : List Poly} (t : Poly)
        → IsMono known.arity xs t → IsSubtype known.arity xs s (list_of t) → PatternBinds known xs p t bs → PatternBinds known xs q (list_of t) cs
        → PatternBinds known xs (patterns.cons p q) s (bs ++ cs)
    binds_snoc : {known : Known} {xs : List ℕ} {p q : Pattern} {s : Poly} {bs cs : List Poly} (t : Poly)
        → IsMono known.arity xs t → IsSubtype known.arity xs s (list_of t) → PatternBinds known xs p (list_of t) bs → PatternBinds known xs q t cs
        → PatternBinds known xs (patterns.snoc p q) s (bs ++ cs)

  -- patterns against as many types, in order
  pub data PatternsBind : Known → List ℕ → Patterns → Polys → List Poly → Type 0 where
    bind_none : {known : Known} {xs : List ℕ} → PatternsBind known xs patterns.none none []
    bind_more : {known : Known} {xs : List ℕ} {p : Pattern} {ps : Patterns} {t : Poly} {ts : Polys} {bs cs : List Poly}
        → PatternBinds known xs p t bs → PatternsBind known xs ps ts cs → PatternsBind known xs (patterns.more p ps) (more t ts) (bs ++ cs)

  -- patterns each against one type
  pub data AllBind : Known → List ℕ → Patterns → Poly → List Poly → Type 0 where
    all_bind_none : {known : Known} {xs : List ℕ} {t : Poly} → AllBind known xs patterns.none t []
    all_bind_more : {known : Known} {xs : List ℕ} {p : Pattern} {ps : Patterns} {t : Poly} {bs cs : List Poly}
        → PatternBinds known xs p t bs → AllBind known xs ps t cs → AllBind known xs (patterns.more p ps) t (bs ++ cs)
