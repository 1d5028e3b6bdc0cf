-- Reading one item after the other, as a loop does.
use Rattle.std.proofs.Common.{◌≡◌, ℕ, suc, ◌+◌, ◌-◌, ◌<◌, List, [], ◌∷◌, ◌++◌, Some, None, refl, sym, ap, ◌∙◌, arith}
use Rattle.uc_canon.specs.declared.read_error.ReadError.{ReadError}
use Rattle.uc_canon.specs.declared.read_error.ReadError.TheVariants.{Memory, Absent}
use Rattle.uc_tree.specs.Types.{Ty}
use Rattle.uc_canon.specs.declared.scope.TypeScope.{TypeScope}
use Rattle.uc_canon.specs.Reading.{Read, Fails, items_from}
use Rattle.uc_canon.specs.ReadingTypes.{type_at}
use Rattle.uc_canon.specs.ReadingMembers.{fields_from}

module _ {A : Type 0} (next : List ℕ → Read A) where
  pub goes_on : (done : List A) (count i : ℕ) (bytes : List ℕ) (x : A) (after : List ℕ) (total : Read (List A)) → i < count → next bytes ≡ Some (x, after)
      → items_from next done (count - i) bytes ≡ total → items_from next (done ++ x ∷ []) (count - (i + 1)) after ≡ total
  goes_on done count i bytes x after total lt read so_far =
      let k : count - i ≡ suc (count - (i + 1)) = omega arith in
      let step : items_from next done (suc (count - (i + 1))) bytes ≡ items_from next (done ++ x ∷ []) (count - (i + 1)) after = rw read refl in
      sym step ∙ ap (λ (n : ℕ). items_from next done n bytes) (sym k) ∙ so_far

  pub fails : (e : ReadError) (done : List A) (count i : ℕ) (bytes : List ℕ) (total : Read (List A)) → i < count → Fails e (next bytes)
      → items_from next done (count - i) bytes ≡ total → Fails e total
  fails Memory done count i bytes total lt read so_far = tt
  fails Absent done count i bytes total lt read so_far =
      let k : count - i ≡ suc (count - (i + 1)) = omega arith in
      let step : items_from next done (suc (count - (i + 1))) bytes ≡ None = rw read refl in
      sym so_far ∙ ap (λ (n : ℕ). items_from next done n bytes) k ∙ step

-- ---- the fields of a constructor

module _ (s : TypeScope) (end : ℕ) where
  pub fields_stop : (done : List Ty) (left count i : ℕ) (bytes : List ℕ) (total : Read (List Ty)) → i < count → left ≡ 0 → fields_from s end done left (count - i) bytes ≡ total → total ≡ None
  fields_stop done left count i bytes total lt none so_far =
      let k : count - i ≡ suc (count - (i + 1)) = omega arith in
      sym so_far ∙ ap (λ (n : ℕ). fields_from s end done left n bytes) k ∙ ap (λ (d : ℕ). fields_from s end done d (suc (count - (i + 1))) bytes) none

  pub fields_go_on : (done : List Ty) (left count i : ℕ) (bytes : List ℕ) (t : Ty) (after : List ℕ) (total : Read (List Ty)) → i < count → 0 < left → type_at (left - 1) s bytes ≡ Some (t, after)
      → fields_from s end done left (count - i) bytes ≡ total → fields_from s end (done ++ t ∷ []) (left - 1) (count - (i + 1)) after ≡ total
  fields_go_on done left count i bytes t after total lt some read so_far =
      let k : count - i ≡ suc (count - (i + 1)) = omega arith in
      let l : left ≡ suc (left - 1) = omega arith in
      let step : fields_from s end done (suc (left - 1)) (suc (count - (i + 1))) bytes ≡ fields_from s end (done ++ t ∷ []) (left - 1) (count - (i + 1)) after = rw read refl in
      sym step ∙ ap (λ (d : ℕ). fields_from s end done d (suc (count - (i + 1))) bytes) (sym l) ∙ ap (λ (n : ℕ). fields_from s end done left n bytes) (sym k) ∙ so_far

  pub fields_fail : (e : ReadError) (done : List Ty) (left count i : ℕ) (bytes : List ℕ) (total : Read (List Ty)) → i < count → 0 < left → Fails e (type_at (left - 1) s bytes)
      → fields_from s end done left (count - i) bytes ≡ total → Fails e total
  fields_fail Memory done left count i bytes total lt some read so_far = tt
  fields_fail Absent done left count i bytes total lt some read so_far =
      let k : count - i ≡ suc (count - (i + 1)) = omega arith in
      let l : left ≡ suc (left - 1) = omega arith in
      let step : fields_from s end done (suc (left - 1)) (suc (count - (i + 1))) bytes ≡ None = rw read refl in
      sym so_far ∙ ap (λ (n : ℕ). fields_from s end done left n bytes) k ∙ ap (λ (d : ℕ). fields_from s end done d (suc (count - (i + 1))) bytes) l ∙ step
