-- Ends and fronts of names.
use Rattle.std.proofs.Common.{◌≡◌, ◌≢◌, ℕ, ◌≤◌, inl, inr, List, [], ◌∷◌, ◌++◌, length, get_or, ap, sym, ◌∙◌, append_assoc, arith, IsTrue, true, false, nat_eq}
use Rattle.std.proofs.lemmas.Bool.Decides.{nat_tests}
use Rattle.uc_base.specs.Name.{IsSuffix, IsBelow}

no_end : (text end : List ℕ) → ((front : List ℕ) → text ≢ front ++ end) → IsSuffix end text → ⊥
no_end text end h (inl e) = h [] e
no_end text end h (inr (front, e)) = h (front ++ 46 ∷ []) (e ∙ sym (append_assoc front (46 ∷ []) end))

-- what isn't the end of a text is no suffix
pub not_suffix : (text end text' end' : List ℕ) → text' ≡ text → end' ≡ end → ((front : List ℕ) → text' ≢ front ++ end')
    → (IsTrue false → IsSuffix end text) × (IsSuffix end text → IsTrue false)
not_suffix text end text' end' e f h = (λ p. cc, λ s. absurd (no_end text end (λ front q. h front (e ∙ q ∙ ap (λ x. front ++ x) (sym f))) s))

same_rest : (xs ys zs : List ℕ) → xs ++ ys ≡ xs ++ zs → ys ≡ zs
same_rest [] ys zs e = e
same_rest (x ∷ xs) ys zs e = same_rest xs ys zs (cc)

starts : (c : ℕ) (cs : List ℕ) (prefix text : List ℕ) → text ≡ prefix ++ c ∷ cs
    → (IsTrue (nat_eq c 46) → IsBelow text prefix) × (IsBelow text prefix → IsTrue (nat_eq c 46))
starts c cs prefix text e = (λ p. (cs, dot p), λ (rest, q). same (same_rest prefix (c ∷ cs) (46 ∷ rest) (sym e ∙ q)))
  where
    is : nat_eq c 46 ≡ true → c ≡ 46
    is p = grind (arith, nat_tests)

    dot : nat_eq c 46 ≡ true → text ≡ prefix ++ 46 ∷ cs
    dot p = e ∙ ap (λ x. prefix ++ x ∷ cs) (is p)

    same : {rest : List ℕ} → c ∷ cs ≡ 46 ∷ rest → nat_eq c 46 ≡ true
    same q = let r : c ≡ 46 = cc in grind (arith, nat_tests)

-- what stands behind the front of a text begins with a dot
pub begins_below : (rest prefix text prefix' text' : List ℕ) → prefix' ≡ prefix → text' ≡ text → 1 ≤ length rest → text' ≡ prefix' ++ rest
    → (IsTrue (nat_eq (get_or rest 0 0) 46) → IsBelow text prefix) × (IsBelow text prefix → IsTrue (nat_eq (get_or rest 0 0) 46))
begins_below [] prefix text prefix' text' e f l h = absurd (omega arith)
begins_below (c ∷ cs) prefix text prefix' text' e f l h = starts c cs prefix text (sym f ∙ h ∙ ap (λ x. x ++ c ∷ cs) e)
