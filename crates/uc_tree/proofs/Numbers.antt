-- The places of references in a list.
use Rattle.std.proofs.Common.{◌≡◌, ℕ, zero, suc, ◌+◌, ◌<◌, ◌≤◌, List, [], ◌∷◌, length, get_or, take, Bool, true, false, cond, Option, Some, None, arith, refl, sym, ap, subst, ◌∙◌, ◌≢◌, add-one}
use Rattle.std.specs.List.{position_from, slice_get, Contains, AllPairs}
use Rattle.std.proofs.lemmas.Option.{slice_get_within, get_or_from_slice_get}
use Rattle.std.specs.Option.{is_some}
use Rattle.std.proofs.lemmas.List.{take_all}
use Rattle.uc_base.specs.declared.reference.Ref.{Ref}
use Rattle.uc_tree.specs.References.{is_same_ref, number_of}
use Rattle.uc_tree.proofs.Refs.{same_ref, apart_refs, is_same_ref-equiv, is_same_ref-ap}
use Rattle.uc_tree.proofs.EachTarget.{Each, first, rest}

module _ {A : Type 0} (test : A → Bool) where
  -- a place that is found in a front of a list is found in a longer one
  found_before : (from : ℕ) (xs : List A) (i k : ℕ) → position_from test from (take i xs) ≡ Some k → position_from test from (take (suc i) xs) ≡ Some k
  found_before from [] zero k e = e
  found_before from [] (suc i) k e = e
  found_before from (x ∷ xs) zero k e = absurd cc
  found_before from (x ∷ xs) (suc i) k e = go (found_before (from + 1) xs i k) (test x) e
    where
      go : (position_from test (from + 1) (take i xs) ≡ Some k → position_from test (from + 1) (take (suc i) xs) ≡ Some k)
          → (b : Bool) → cond b (Some from) (position_from test (from + 1) (take i xs)) ≡ Some k → cond b (Some from) (position_from test (from + 1) (take (suc i) xs)) ≡ Some k
      go later true f = f
      go later false f = later f

  -- where none is found in a front of a list, the next place may be the first
  found_next : (from : ℕ) (xs : List A) (i : ℕ) (x : A) → i < length xs → x ≡ get_or xs i x → position_from test from (take i xs) ≡ None
      → position_from test from (take (suc i) xs) ≡ cond (test x) (Some (from + i)) None
  found_next from [] i x h is e = absurd (omega arith)
  found_next from (y ∷ xs) zero x h is e = let n : from + 0 ≡ from = omega arith in rw (n, is) refl
  found_next from (y ∷ xs) (suc i) x h is e = go (λ f. let n : from + suc i ≡ from + 1 + i = omega arith in rw n (found_next (from + 1) xs i x (omega arith) is f)) (test y) e
    where
      go : (position_from test (from + 1) (take i xs) ≡ None → position_from test (from + 1) (take (suc i) xs) ≡ cond (test x) (Some (from + suc i)) None)
          → (b : Bool) → cond b (Some from) (position_from test (from + 1) (take i xs)) ≡ None
          → cond b (Some from) (position_from test (from + 1) (take (suc i) xs)) ≡ cond (test x) (Some (from + suc i)) None
      go later true f = absurd cc
      go later false f = later f

-- one reference more
module _ (found : Ref → Option ℕ) (refs : List Ref) (i : ℕ) (s : Ref) (h : i < length refs) (is : s ≡ get_or refs i s) (so_far : (r : Ref) → found r ≡ number_of r (take i refs)) where
  one_more : (r : Ref) (o : Option ℕ) → found r ≡ o → (new : Option ℕ) → (o ≡ None → new ≡ cond (is_same_ref r s) (Some i) None) → ((k : ℕ) → o ≡ Some k → new ≡ Some k) → new ≡ number_of r (take (i + 1) refs)
  one_more r None e new none some =
      rw add-one (none refl ∙ sym (found_next (is_same_ref r) 0 refs i s h is (sym (so_far r) ∙ e) ∙ ap (λ (n : ℕ). cond (is_same_ref r s) (Some n) None) (omega arith)))
  one_more r (Some k) e new none some = rw add-one (some k refl ∙ sym (found_before (is_same_ref r) 0 refs i k (sym (so_far r) ∙ e)))

  -- a reference that stood there before changes no place
  pub seen_before : is_some (found s) ≡ true → (r : Ref) → found r ≡ number_of r (take (i + 1) refs)
  seen_before seen r = one_more r (found r) refl (found r) (λ none. none ∙ go (is_same_ref r s) refl none) (λ k e. e)
    where
      go : (b : Bool) → is_same_ref r s ≡ b → found r ≡ None → None ≡ cond b (Some i) None
      go false e none = refl
      go true e none = let f : found r ≡ found s = is_same_ref-ap found r s e in absurd cc

  -- a new one stands first at its place
  pub seen_first : (new : Ref → Option ℕ) → is_some (found s) ≡ false → ((r : Ref) → new r ≡ cond (is_same_ref s r) (Some i) (found r)) → (r : Ref) → new r ≡ number_of r (take (i + 1) refs)
  seen_first new unseen put r = one_more r (found r) refl (new r) (λ none. put r ∙ rw (is_same_ref-equiv.symm s r, none) refl) (λ k e. put r ∙ go k (is_same_ref s r) refl e)
    where
      go : (k : ℕ) (b : Bool) → is_same_ref s r ≡ b → found r ≡ Some k → cond b (Some i) (found r) ≡ Some k
      go k false e f = f
      go k true e f = let g : found s ≡ found r = is_same_ref-ap found s r e in absurd cc

pub all_numbered : (refs : List Ref) (i : ℕ) (r : Ref) (o : Option ℕ) → length refs ≤ i → o ≡ number_of r (take i refs) → o ≡ number_of r refs
all_numbered refs i r o h e = e ∙ ap (λ (rs : List Ref). number_of r rs) (take_all i refs h)

-- where a test passes
module _ {A : Type 0} (test : A → Bool) where
  pub found_at : (from : ℕ) (xs : List A) (k : ℕ) → position_from test from xs ≡ Some k → (i : ℕ) × (x : A) × (k ≡ from + i) × (slice_get xs i ≡ Some x) × (test x ≡ true)
  found_at from [] k e = absurd cc
  found_at from (x ∷ xs) k e = go (found_at (from + 1) xs k) (test x) refl e
    where
      go : (position_from test (from + 1) xs ≡ Some k → (i : ℕ) × (y : A) × (k ≡ from + 1 + i) × (slice_get xs i ≡ Some y) × (test y ≡ true))
          → (b : Bool) → test x ≡ b → cond b (Some from) (position_from test (from + 1) xs) ≡ Some k
          → (i : ℕ) × (y : A) × (k ≡ from + i) × (slice_get (x ∷ xs) i ≡ Some y) × (test y ≡ true)
      go later true passes f = let g : from ≡ k = cc in (zero, x, omega arith, refl, passes)
      go later false passes f = let q = later f in (suc q.0, q.1, omega (arith, q.2), q.3, q.4)

  not_found : (from : ℕ) (xs : List A) → Each (λ x. test x ≡ false) xs → position_from test from xs ≡ None
  not_found from [] c = refl
  not_found from (x ∷ xs) c = rw (first x xs c, not_found (from + 1) xs (rest x xs c)) refl

  found_first : (from : ℕ) (xs : List A) (i : ℕ) (x : A) → slice_get xs i ≡ Some x → test x ≡ true → ((j : ℕ) (y : A) → j < i → slice_get xs j ≡ Some y → test y ≡ false) → position_from test from xs ≡ Some (from + i)
  found_first from [] i x e passes before = absurd cc
  found_first from (y ∷ xs) zero x e passes before =
      let g : y ≡ x = cc in let t : test y ≡ true = ap test g ∙ passes in let n : from ≡ from + 0 = omega arith in rw t (ap Some n)
  found_first from (y ∷ xs) (suc i) x e passes before =
      let t : test y ≡ false = before zero y (omega arith) refl in let n : from + 1 + i ≡ from + suc i = omega arith in
      rw t (found_first (from + 1) xs i x e passes (λ j z h f. before (suc j) z (omega arith) f) ∙ ap Some n)

pub number_of-here : (refs : List Ref) → AllPairs (λ r s. r ≢ s) refs → (k : ℕ) (r : Ref) → slice_get refs k ≡ Some r → number_of r refs ≡ Some k
number_of-here refs distinct k r e =
    found_first (is_same_ref r) 0 refs k r e (is_same_ref-equiv.refl r)
    (λ j s h f. apart_refs r s (λ same. distinct j k r h (slice_get_within refs k r e) (get_or_from_slice_get refs j s r f ∙ same ∙ sym (get_or_from_slice_get refs k r r e))))
    ∙ ap Some (omega arith)

pub number_of-there : (refs : List Ref) (k : ℕ) (r : Ref) → number_of r refs ≡ Some k → slice_get refs k ≡ Some r
number_of-there refs k r e =
    let p = found_at (is_same_ref r) 0 refs k e in
    let at : k ≡ p.0 = omega (arith, p.2) in
    ap (slice_get refs) at ∙ p.3 ∙ ap Some (sym (same_ref r p.1 p.4))

pub number_of-none : (refs : List Ref) (r : Ref) → ¬ Contains refs r → number_of r refs ≡ None
number_of-none refs r absent = not_found (is_same_ref r) 0 refs (λ s h. apart_refs r s (λ same. absent (subst (Contains refs) same h)))
