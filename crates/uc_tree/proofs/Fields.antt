-- The fields of constructors, one constructor after the other.
use Rattle.std.proofs.Common.{◌≡◌, ℕ, zero, suc, ◌+◌, ◌<◌, ◌≤◌, List, [], ◌∷◌, ◌++◌, Vec, length, get_or, take, arith, refl, sym, ap, ◌∙◌, add-one}
use Rattle.uc_tree.specs.Types.{Ty, Tys, tys_of}
use Rattle.uc_tree.specs.Declarations.{fields_of}

module _ {A : Type 0} where
  pub fields_of-push : (xs : List (Vec Ty A)) (v : Vec Ty A) → fields_of (xs ++ v ∷ []) ≡ fields_of xs ++ tys_of v.items ∷ []
  fields_of-push [] v = refl
  fields_of-push (x ∷ xs) v = ap (λ (ts : List Tys). tys_of x.items ∷ ts) (fields_of-push xs v)

  take-suc-fields_of : (xs : List (Vec Ty A)) (i : ℕ) (v : Vec Ty A) → i < length xs → v ≡ get_or xs i v → take (suc i) (fields_of xs) ≡ take i (fields_of xs) ++ tys_of v.items ∷ []
  take-suc-fields_of [] i v h is = absurd (omega arith)
  take-suc-fields_of (x ∷ xs) zero v h is = ap (λ (u : Vec Ty A). tys_of u.items ∷ []) (sym is)
  take-suc-fields_of (x ∷ xs) (suc i) v h is = ap (λ (ts : List Tys). tys_of x.items ∷ ts) (take-suc-fields_of xs i v (omega arith) is)

  pub fields_go_on : (done xs : List (Vec Ty A)) (i : ℕ) (v w : Vec Ty A) → i < length xs → v ≡ get_or xs i v → w.items ≡ v.items
      → fields_of done ≡ take i (fields_of xs) → fields_of (done ++ w ∷ []) ≡ take (i + 1) (fields_of xs)
  fields_go_on done xs i v w h is same so_far =
      rw add-one (fields_of-push done w ∙ ap (λ (ts : List Tys). ts ++ tys_of w.items ∷ []) so_far
      ∙ ap (λ (us : List Ty). take i (fields_of xs) ++ tys_of us ∷ []) same ∙ sym (take-suc-fields_of xs i v h is))

  pub fields_end : (xs : List (Vec Ty A)) (i : ℕ) → length xs ≤ i → take i (fields_of xs) ≡ fields_of xs
  fields_end [] zero h = refl
  fields_end [] (suc i) h = refl
  fields_end (x ∷ xs) zero h = absurd (omega arith)
  fields_end (x ∷ xs) (suc i) h = ap (λ (ts : List Tys). tys_of x.items ∷ ts) (fields_end xs i (omega arith))
