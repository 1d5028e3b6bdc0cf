-- Types that are written in terms.
use Rattle.std.proofs.Common.{◌≡◌, ℕ, zero, suc, ◌+◌, ◌-◌, ◌<◌, Bool, true, false, cond, nat_lt, List, [], ◌∷◌, length, Some, refl, sym, ap, subst, ◌∙◌, arith, add-one}
use Rattle.std.proofs.lemmas.Bool.{ltb-true, ltb-false}
use Rattle.std.specs.Prelude.{slice_get}
use Rattle.uc_tree.specs.Types.{Ty, Tys}
use Rattle.uc_tree.specs.Types as types
use Rattle.uc_kinds.specs.Polytypes as poly
use Rattle.uc_kinds.specs.Polytypes.{Poly, poly_under, polys_under, poly_of, closed_poly}
use Rattle.uc_kinds.specs.WellFormed.{Arity, tys_count}
use Rattle.uc_context.specs.Closing.{open_from, opens_from}
use Rattle.uc_context.specs.Entries.{ContextEntries}
use Rattle.uc_context.specs.Opens.{Open, bound, quantified, arrow, tuple, applied, more}
use Rattle.uc_subtyping.specs.Instances.{opens_count}
use Rattle.uc_soundness.specs.Valuations.{Valuation, value, values, renumbered}
use Rattle.uc_soundness.specs.WellFormed.{IsMonoIn, AreMonoIn, IsTypeIn}
use Rattle.uc_soundness.proofs.Types.{mono_type}
use Rattle.uc_typing.specs.Fronts.{front_count}
use Rattle.uc_typing.specs.WrittenTypes.{rigid_or, written_under, all_written_under, written}
use Rattle.uc_sound_typing.specs.Formed.{IsMonoWritten, AreMonoWritten, IsWritten, written_front}
use Rattle.uc_sound_typing.specs.Seeing.{AreRigid}

-- as many types
count_written : (seen : List ℕ) (k : ℕ) (ts : Tys) → opens_count (all_written_under seen k ts) ≡ tys_count ts
count_written seen k types.none = refl
count_written seen k (types.more t ts) = omega (arith, count_written seen k ts)

-- written types are well-formed where what they see is in scope
module _ (arity : Arity) (es : ContextEntries) where
  rigid_seen : (seen : List ℕ) → AreRigid es seen → (k n i : ℕ) → i < length seen → IsMonoIn arity es k (rigid_or n (slice_get seen i))
  rigid_seen [] h k n i less = absurd (omega arith)
  rigid_seen (x ∷ seen) h k n zero less = h.0
  rigid_seen (x ∷ seen) h k n (suc i) less = rigid_seen seen h.1 k n i (omega arith)

  module _ (seen : List ℕ) (h : AreRigid es seen) where
    variable_mono : (k n : ℕ) → n < k + length seen → IsMonoIn arity es k (cond (nat_lt n k) (bound n) (rigid_or n (slice_get seen (n - k))))
    variable_mono k n less = go (nat_lt n k) refl
      where
        go : (b : Bool) → nat_lt n k ≡ b → IsMonoIn arity es k (cond b (bound n) (rigid_or n (slice_get seen (n - k))))
        go true is = ltb-true n k is
        go false is = rigid_seen seen h k n (n - k) (omega (arith, ltb-false n k is))

    mutual
      mono_written : (k : ℕ) (ty : Ty) → IsMonoWritten arity (k + length seen) ty → IsMonoIn arity es k (written_under seen k ty)
      mono_written k (types.variable n) w = variable_mono k n w
      mono_written k (types.quantified t) w = absurd w
      mono_written k (types.arrow a b) w = (mono_written k a w.0, mono_written k b w.1)
      mono_written k types.unit w = tt
      mono_written k (types.tuple ts) w = all_mono_written k ts w
      mono_written k (types.applied x ts) w = (w.0 ∙ ap Some (sym (count_written seen k ts)), all_mono_written k ts w.1)

      all_mono_written : (k : ℕ) (ts : Tys) → AreMonoWritten arity (k + length seen) ts → AreMonoIn arity es k (all_written_under seen k ts)
      all_mono_written k types.none w = tt
      all_mono_written k (types.more t ts) w = (mono_written k t w.0, all_mono_written k ts w.1)

    type_written : (k : ℕ) (ty : Ty) → IsWritten arity (k + length seen) ty → IsTypeIn arity es k (written_under seen k ty)
    type_written k (types.variable n) w = mono_type arity es k (written_under seen k (types.variable n)) (variable_mono k n w)
    type_written k (types.quantified t) w =
        let under : suc (k + length seen) ≡ (k + 1) + length seen = omega arith in
        subst (λ (j : ℕ). IsTypeIn arity es j (written_under seen (k + 1) t)) (add-one k) (type_written (k + 1) t (subst (λ (j : ℕ). IsWritten arity j t) under w))
    type_written k (types.arrow a b) w = (type_written k a w.0, type_written k b w.1)
    type_written k types.unit w = tt
    type_written k (types.tuple ts) w = all_mono_written k ts w
    type_written k (types.applied x ts) w = (w.0 ∙ ap Some (sym (count_written seen k ts)), all_mono_written k ts w.1)

    pub written_typed : (ty : Ty) → IsWritten arity (length seen) ty → IsTypeIn arity es 0 (written seen ty)
    written_typed ty w = let none_under : length seen ≡ 0 + length seen = omega arith in type_written 0 ty (subst (λ (j : ℕ). IsWritten arity j ty) none_under w)

-- a closed type is one that sees nothing
mutual
  pub open_same : (k : ℕ) (ty : Ty) → written_under [] k ty ≡ open_from ty
  open_same k (types.variable n) = go (nat_lt n k)
    where
      go : (b : Bool) → cond b (bound n) (bound n) ≡ bound n
      go true = refl
      go false = refl
  open_same k (types.quantified t) = ap quantified (open_same (k + 1) t)
  open_same k (types.arrow a b) = ap (λ (c : Open). arrow c (written_under [] k b)) (open_same k a) ∙ ap (arrow (open_from a)) (open_same k b)
  open_same k types.unit = refl
  open_same k (types.tuple ts) = ap tuple (opens_same k ts)
  open_same k (types.applied x ts) = ap (applied x) (opens_same k ts)

  opens_same : (k : ℕ) (ts : Tys) → all_written_under [] k ts ≡ opens_from ts
  opens_same k types.none = refl
  opens_same k (types.more t ts) = ap (λ (c : Open). more c (all_written_under [] k ts)) (open_same k t) ∙ ap (more (open_from t)) (opens_same k ts)

pub open_typed : (arity : Arity) (es : ContextEntries) (ty : Ty) → IsWritten arity 0 ty → IsTypeIn arity es 0 (open_from ty)
open_typed arity es ty w = subst (IsTypeIn arity es 0) (open_same 0 ty) (written_typed arity es [] tt ty w)

-- what they stand for
module _ {outer : ℕ} (σ : Valuation outer) where
  value_slot : (seen : List ℕ) (n i : ℕ) → value σ (rigid_or n (slice_get seen i)) ≡ poly.rigid_or n (slice_get (renumbered outer seen) i)
  value_slot [] n i = refl
  value_slot (x ∷ seen) n zero = refl
  value_slot (x ∷ seen) n (suc i) = value_slot seen n i

  module _ (seen : List ℕ) where
    mutual
      value_written_under : (k : ℕ) (ty : Ty) → value σ (written_under seen k ty) ≡ poly_under (renumbered outer seen) k ty
      value_written_under k (types.variable n) = go (nat_lt n k)
        where
          go : (b : Bool) → value σ (cond b (bound n) (rigid_or n (slice_get seen (n - k)))) ≡ cond b (poly.bound n) (poly.rigid_or n (slice_get (renumbered outer seen) (n - k)))
          go true = refl
          go false = value_slot seen n (n - k)
      value_written_under k (types.quantified t) = ap poly.quantified (value_written_under (k + 1) t)
      value_written_under k (types.arrow a b) =
          ap (λ (c : Poly). poly.arrow c (value σ (written_under seen k b))) (value_written_under k a) ∙ ap (poly.arrow (poly_under (renumbered outer seen) k a)) (value_written_under k b)
      value_written_under k types.unit = refl
      value_written_under k (types.tuple ts) = ap poly.tuple (values_written_under k ts)
      value_written_under k (types.applied x ts) = ap (poly.applied x) (values_written_under k ts)

      values_written_under : (k : ℕ) (ts : Tys) → values σ (all_written_under seen k ts) ≡ polys_under (renumbered outer seen) k ts
      values_written_under k types.none = refl
      values_written_under k (types.more t ts) =
          ap (λ (c : Poly). poly.more c (values σ (all_written_under seen k ts))) (value_written_under k t) ∙ ap (poly.more (poly_under (renumbered outer seen) k t)) (values_written_under k ts)

    pub value_written : (ty : Ty) → value σ (written seen ty) ≡ poly_of (renumbered outer seen) ty
    value_written ty = value_written_under 0 ty

  pub value_open : (ty : Ty) → value σ (open_from ty) ≡ closed_poly ty
  value_open ty = ap (value σ) (sym (open_same 0 ty)) ∙ value_written [] ty

-- as many quantifiers at the front
pub front_written : (seen : List ℕ) (k : ℕ) (ty : Ty) → front_count (written_under seen k ty) ≡ written_front ty
front_written seen k (types.variable n) = go (nat_lt n k)
  where
    slot : (xs : List ℕ) (i : ℕ) → front_count (rigid_or n (slice_get xs i)) ≡ 0
    slot [] i = refl
    slot (x ∷ xs) zero = refl
    slot (x ∷ xs) (suc i) = slot xs i

    go : (b : Bool) → front_count (cond b (bound n) (rigid_or n (slice_get seen (n - k)))) ≡ 0
    go true = refl
    go false = slot seen (n - k)
front_written seen k (types.quantified t) = ap suc (front_written seen (k + 1) t)
front_written seen k (types.arrow a b) = refl
front_written seen k types.unit = refl
front_written seen k (types.tuple ts) = refl
front_written seen k (types.applied x ts) = refl
