-- Sets of numbers, as their keys in order.
use Rattle.std.proofs.Common.{◌≡◌, ℕ, ◌<◌, ◌≤◌, ◌+◌, ◌⊎◌, suc, zero, List, [], ◌∷◌, length, get_or, refl, sym, ◌∙◌, ap, subst, inl, inr, arith}
use Rattle.std.specs.List.{Contains, All}
use Rattle.std.specs.Ordering.{nat_cmp, match_ordering, MatchOrdering}
use Rattle.std.specs.declared.cmp.Ordering.{Ordering}
use Rattle.std.proofs.Common.{Less, Equal, Greater, Option, Some, None}
use Rattle.std.specs.Option.{IfSome}
use Rattle.std.specs.BTreeSet.{insert_key}
use Rattle.std.proofs.lemmas.Cmp.{ranked, by_ranked}
use Rattle.std.proofs.lemmas.List.Elements.{All-contains}
use Rattle.uc_components.specs.Order.{TakesLeast}
use Rattle.uc_components.proofs.Members.{head_in, tail_in, in_cases, none_in}

-- a claim about an insertion, in the three cases of the comparison
three : (M : List ℕ → Type 0) (k x : ℕ) (a b c : List ℕ) → M a → (k ≡ x → M b) → M c → M (match_ordering (nat_cmp k x) a b c)
three M k x a b c p q r =
    let N : Ordering → Type 0 = λ o. M (match_ordering o a b c) in
    by_ranked (k < x) (k ≡ x) (x < k) (nat_cmp k x) (ranked k x (nat_cmp k x) refl)
    (λ e l. subst N (sym e) p) (λ e l. subst N (sym e) (q l)) (λ e l. subst N (sym e) r)

pub insert_has : (xs : List ℕ) (k : ℕ) → Contains (insert_key nat_cmp xs k) k
insert_has [] k = head_in k []
insert_has (x ∷ xs) k = three (λ ys. Contains ys k) k x (k ∷ x ∷ xs) (x ∷ xs) (x ∷ insert_key nat_cmp xs k) (head_in k (x ∷ xs)) (λ e. (0, omega arith, sym e)) (tail_in x k (insert_key nat_cmp xs k) (insert_has xs k))

pub insert_keeps : (xs : List ℕ) (k y : ℕ) → Contains xs y → Contains (insert_key nat_cmp xs k) y
insert_keeps [] k y h = absurd (none_in y h)
insert_keeps (x ∷ xs) k y h = three (λ ys. Contains ys y) k x (k ∷ x ∷ xs) (x ∷ xs) (x ∷ insert_key nat_cmp xs k) (tail_in k y (x ∷ xs) h) (λ e. h)
    (elim (in_cases x y xs h) [ inl e ↦ (0, omega arith, e) | inr i ↦ tail_in x y (insert_key nat_cmp xs k) (insert_keeps xs k y i) ])

pub insert_cases : (xs : List ℕ) (k y : ℕ) → Contains (insert_key nat_cmp xs k) y → (y ≡ k) ⊎ Contains xs y
insert_cases [] k y h = elim (in_cases k y [] h) [ inl e ↦ inl (sym e) | inr i ↦ inr i ]
insert_cases (x ∷ xs) k y h = three (λ ys. Contains ys y → (y ≡ k) ⊎ Contains (x ∷ xs) y) k x (k ∷ x ∷ xs) (x ∷ xs) (x ∷ insert_key nat_cmp xs k)
    (λ h. elim (in_cases k y (x ∷ xs) h) [ inl e ↦ inl (sym e) | inr i ↦ inr i ]) (λ e h. inr h)
    (λ h. elim (in_cases x y (insert_key nat_cmp xs k) h) [
      | inl e ↦ inr (0, omega arith, e)
      | inr i ↦ elim (insert_cases xs k y i) [ inl e ↦ inl e | inr o ↦ inr (tail_in x y xs o) ]
    ]) h

less_equal : Less ≡ Equal → ⊥
less_equal e = cc

less_greater : Less ≡ Greater → ⊥
less_greater e = cc

above_is : (x y : ℕ) → nat_cmp x y ≡ Less → x < y
above_is x y e = by_ranked (x < y) (x ≡ y) (y < x) (nat_cmp x y) (ranked x y (nat_cmp x y) refl) (λ o l. l) (λ o l. absurd (less_equal (sym e ∙ o))) (λ o l. absurd (less_greater (sym e ∙ o)))

-- the first key is the least
pub taken_first : (before after : List ℕ) (x : ℕ) → before ≡ x ∷ after → All (λ y. nat_cmp x y ≡ Less) after → TakesLeast before x after
taken_first before after x e above =
    let P : List ℕ → Type 0 = λ xs. TakesLeast xs x after in
    let over : (y : ℕ) → Contains after y → x < y = λ y m. above_is x y (All-contains (λ y. nat_cmp x y ≡ Less) after y above m) in
    subst P (sym e) (record {
      has = head_in x after;
      least = λ y m. elim (in_cases x y after m) [ inl q ↦ omega arith | inr i ↦ let q : x < y = over y i in omega arith ];
      others = λ y m ne. elim (in_cases x y after m) [ inl q ↦ absurd (ne (sym q)) | inr i ↦ i ];
      without = λ y m. (tail_in x y after m, λ q. let l : x < y = over y m in omega arith);
    })

pub some_both : (P Q R : ℕ → Type 0) → ((x : ℕ) → P x → Q x → R x) → (o : Option ℕ) → IfSome o P → IfSome o Q → IfSome o R
some_both P Q R f None p q = tt
some_both P Q R f (Some x) p q = f x p q
