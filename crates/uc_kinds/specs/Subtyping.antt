-- Declarative subtyping: Dunfield and Krishnaswami 2013, figure 3, with data types and tuples. A quantifier on the left is instantiated by a monotype that is guessed.
use Rattle.std.specs.Prelude.{◌≡◌, ℕ, List, ◌∷◌, Some}
use Rattle.std.specs.List.{Contains}
use Rattle.uc_base.specs.declared.reference.Ref.TheVariants.{Builtin}
use Rattle.uc_tree.specs.declared.target.Target.{Target}
use Rattle.uc_tree.specs.declared.target.Target.TheVariants.{Stored}
use Rattle.uc_kinds.specs.WellFormed.{Arity}
use Rattle.uc_kinds.specs.Polytypes.{Poly, rigid, quantified, arrow, unit, tuple, applied, Polys, none, more, opened, polys_count}

-- a builtin type without arguments
abbrev pub builtin_type : ℕ → Poly
builtin_type n = applied (Stored (Builtin n)) none

abbrev pub boolean : Poly
boolean = builtin_type 2

abbrev pub list_of : Poly → Poly
list_of t = applied (Stored (Builtin 5)) (more t none)

mutual
  -- a monotype that is well-formed where these rigid variables are in scope: no quantifier, each variable in scope, and each data type with as many arguments as it takes
  pub data IsMono : Arity → List ℕ → Poly → Type 0 where
    mono_rigid : {arity : Arity} {xs : List ℕ} {x : ℕ} → Contains xs x → IsMono arity xs (rigid x)
    mono_arrow : {arity : Arity} {xs : List ℕ} {s t : Poly} → IsMono arity xs s → IsMono arity xs t → IsMono arity xs (arrow s t)
    mono_unit : {arity : Arity} {xs : List ℕ} → IsMono arity xs unit
    mono_tuple : {arity : Arity} {xs : List ℕ} {ts : Polys} → AreMono arity xs ts → IsMono arity xs (tuple ts)
    mono_applied : {arity : Arity} {xs : List ℕ} {h : Target} {ts : Polys}
        → arity h ≡ Some (polys_count ts) → AreMono arity xs ts → IsMono arity xs (applied h ts)

  pub data AreMono : Arity → List ℕ → Polys → Type 0 where
    no_mono : {arity : Arity} {xs : List ℕ} → AreMono arity xs none
    more_mono : {arity : Arity} {xs : List ℕ} {t : Poly} {ts : Polys} → IsMono arity xs t → AreMono arity xs ts → AreMono arity xs (more t ts)

mutual
  -- The first type is below the second, where these rigid variables are in scope. Data types with one head, and tuples of one length, are related where their arguments are, in order.
  pub data IsSubtype : Arity → List ℕ → Poly → Poly → Type 0 where
    below_rigid : {arity : Arity} {xs : List ℕ} {x : ℕ} → Contains xs x → IsSubtype arity xs (rigid x) (rigid x)
    below_unit : {arity : Arity} {xs : List ℕ} → IsSubtype arity xs unit unit
    below_arrow : {arity : Arity} {xs : List ℕ} {a b c d : Poly}
        → IsSubtype arity xs c a → IsSubtype arity xs b d → IsSubtype arity xs (arrow a b) (arrow c d)
    below_tuple : {arity : Arity} {xs : List ℕ} {ts us : Polys} → AreSubtypes arity xs ts us → IsSubtype arity xs (tuple ts) (tuple us)
    below_applied : {arity : Arity} {xs : List ℕ} {h : Target} {ts us : Polys}
        → AreSubtypes arity xs ts us → IsSubtype arity xs (applied h ts) (applied h us)
    below_left : {arity : Arity} {xs : List ℕ} {a b : Poly} (t : Poly)
        → IsMono arity xs t → IsSubtype arity xs (opened t a) b → IsSubtype arity xs (quantified a) b
    below_right : {arity : Arity} {xs : List ℕ} {a b : Poly} (x : ℕ)
        → (Contains xs x → ⊥) → IsSubtype arity (x ∷ xs) a (opened (rigid x) b) → IsSubtype arity xs a (quantified b)

  pub data AreSubtypes : Arity → List ℕ → Polys → Polys → Type 0 where
    no_subtypes : {arity : Arity} {xs : List ℕ} → AreSubtypes arity xs none none
    more_subtypes : {arity : Arity} {xs : List ℕ} {t u : Poly} {ts us : Polys}
        → IsSubtype arity xs t u → AreSubtypes arity xs ts us → AreSubtypes arity xs (more t ts) (more u us)
