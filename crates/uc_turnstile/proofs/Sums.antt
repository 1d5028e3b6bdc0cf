-- Sums over lists, and beginnings of lists.
use Rattle.std.proofs.Common.{◌≡◌, ◌≢◌, ◌⊎◌, ℕ, zero, suc, ◌+◌, ◌≤◌, ◌<◌, Bool, true, false, cond, leb, List, [], ◌∷◌, ◌++◌, length, set, Some, slice_get, refl, ap, sym, subst, inl, inr, ⊎_elim, ◌∙◌, arith, append_assoc, length-append}
use Rattle.std.proofs.lemmas.Bool.Decides.{leb_tells}
use mathlib.Core.List.{IsPrefix}
use mathlib.Core.Option.{some, some-ne-none, some-injective}
use lib.ListN.{get_elem?}
use Rattle.uc_turnstile.specs.Lists.{total, Each, longer, shorter, IsLongerOf}

-- after a change of one element
pub total_set : {A : Type 0} (f : A → ℕ) (xs : List A) (i : ℕ) (v w : A) → get_elem? xs i ≡ some v → total f (set xs i w) + f v ≡ total f xs + f w
total_set f [] i v w at = absurd (some-ne-none v (sym at))
total_set f (x ∷ xs) zero v w at = let e : f x ≡ f v = ap f (some-injective x v at) in omega arith
total_set f (x ∷ xs) (suc i) v w at = omega (arith, total_set f xs i v w at)

pub total_snoc : {A : Type 0} (f : A → ℕ) (xs : List A) (w : A) → total f (xs ++ w ∷ []) ≡ total f xs + f w
total_snoc f [] w = omega arith
total_snoc f (x ∷ xs) w = omega (arith, total_snoc f xs w)

pub total_part : {A : Type 0} (f : A → ℕ) (xs : List A) (i : ℕ) (v : A) → get_elem? xs i ≡ some v → f v ≤ total f xs
total_part f [] i v at = absurd (some-ne-none v (sym at))
total_part f (x ∷ xs) zero v at = let e : f x ≡ f v = ap f (some-injective x v at) in omega arith
total_part f (x ∷ xs) (suc i) v at = omega (arith, total_part f xs i v at)

-- each list begins with itself
pub prefix_self : {A : Type 0} (xs : List A) → IsPrefix xs xs
prefix_self [] = ([], refl)
prefix_self (x ∷ xs) = (let r = prefix_self xs in r.0, ap (λ ys. x ∷ ys) (prefix_self xs).1)

pub prefix_more : {A : Type 0} (xs ys : List A) → IsPrefix xs (xs ++ ys)
prefix_more xs ys = (ys, refl)

pub prefix_trans : {A : Type 0} (xs ys zs : List A) → IsPrefix xs ys → IsPrefix ys zs → IsPrefix xs zs
prefix_trans xs ys zs p q = (p.0 ++ q.0, sym (append_assoc xs p.0 q.0) ∙ (ap (λ w. w ++ q.0) p.1 ∙ q.1))

-- of two beginnings of one list the shorter begins the longer
pub prefix_shorter : {A : Type 0} (xs ys zs : List A) → IsPrefix xs zs → IsPrefix ys zs → length xs ≤ length ys → IsPrefix xs ys
prefix_shorter [] ys zs p q le = (ys, refl)
prefix_shorter (x ∷ xs) [] zs p q le = absurd (omega arith)
prefix_shorter (x ∷ xs) (y ∷ ys) [] p q le = absurd (cc (p.1))
prefix_shorter (x ∷ xs) (y ∷ ys) (z ∷ zs) p q le =
    let heads : x ≡ y = cc (p.1, q.1) in
    let rest = prefix_shorter xs ys zs (p.0, cc (p.1)) (q.0, cc (q.1)) (omega arith) in
    (rest.0, cc (heads, rest.1))

-- a beginning as long as the whole is the whole
pub prefix_whole : {A : Type 0} (xs ys : List A) → IsPrefix xs ys → length ys ≤ length xs → xs ≡ ys
prefix_whole [] [] p le = refl
prefix_whole [] (y ∷ ys) p le = absurd (omega arith)
prefix_whole (x ∷ xs) [] p le = absurd (cc (p.1))
prefix_whole (x ∷ xs) (y ∷ ys) p le =
    let rest = prefix_whole xs ys (p.0, cc (p.1)) (omega arith) in cc (p.1, rest)

pub prefix_length : {A : Type 0} (xs ys : List A) → IsPrefix xs ys → length xs ≤ length ys
prefix_length xs ys p = omega (arith, sym (ap length p.1) ∙ length-append xs p.0)

-- what stands in a beginning stands in the whole, at the same place
pub prefix_get : {A : Type 0} (xs ys : List A) (k : ℕ) (x : A) → IsPrefix xs ys → slice_get xs k ≡ Some x → slice_get ys k ≡ Some x
prefix_get [] ys k x p h = absurd cc
prefix_get (y ∷ xs) [] k x p h = absurd (cc (p.1))
prefix_get (y ∷ xs) (z ∷ ys) zero x p h = cc (p.1, h)
prefix_get (y ∷ xs) (z ∷ ys) (suc k) x p h = prefix_get xs ys k x (p.0, cc (p.1)) h

pub get_end : {A : Type 0} (xs : List A) (e : A) → slice_get (xs ++ e ∷ []) (length xs) ≡ Some e
get_end [] e = refl
get_end (x ∷ xs) e = get_end xs e

pub total_same : {A : Type 0} (f : A → ℕ) (xs : List A) (i : ℕ) (v w : A) → get_elem? xs i ≡ some v → f w ≡ f v → total f (set xs i w) ≡ total f xs
total_same f xs i v w at same = omega (arith, total_set f xs i v w at)

pub total-append : {A : Type 0} (f : A → ℕ) (xs ys : List A) → total f (xs ++ ys) ≡ total f xs + total f ys
total-append f [] ys = omega arith
total-append f (x ∷ xs) ys = omega (arith, total-append f xs ys)

-- two of them
pub total_two : {A : Type 0} (f : A → ℕ) (xs : List A) (i j : ℕ) (v w : A) → j ≢ i → get_elem? xs i ≡ some v → get_elem? xs j ≡ some w → f v + f w ≤ total f xs
total_two f [] i j v w apart at there = absurd (some-ne-none v (sym at))
total_two f (x ∷ xs) zero zero v w apart at there = absurd (apart refl)
total_two f (x ∷ xs) zero (suc j) v w apart at there = let e : f x ≡ f v = ap f (some-injective x v at) in omega (arith, total_part f xs j w there)
total_two f (x ∷ xs) (suc i) zero v w apart at there = let e : f x ≡ f w = ap f (some-injective x w there) in omega (arith, total_part f xs i v at)
total_two f (x ∷ xs) (suc i) (suc j) v w apart at there = omega (arith, total_two f xs i j v w (λ e. apart (ap suc e)) at there)

total_none : {A : Type 0} (f : A → ℕ) (xs : List A) → ((j : ℕ) (w : A) → get_elem? xs j ≡ some w → f w ≡ 0) → total f xs ≡ 0
total_none f [] none_of = refl
total_none f (x ∷ xs) none_of = let a : f x ≡ 0 = none_of 0 x refl in omega (arith, total_none f xs (λ j w e. none_of (suc j) w e))

-- where the others have nothing
pub total_only : {A : Type 0} (f : A → ℕ) (xs : List A) (i : ℕ) (v : A) → get_elem? xs i ≡ some v → ((j : ℕ) (w : A) → j ≢ i → get_elem? xs j ≡ some w → f w ≡ 0) → total f xs ≡ f v
total_only f [] i v at others = absurd (some-ne-none v (sym at))
total_only f (x ∷ xs) zero v at others = let e : f x ≡ f v = ap f (some-injective x v at) in omega (arith, total_none f xs (λ j w there. others (suc j) w (λ e. omega arith) there))
total_only f (x ∷ xs) (suc i) v at others = let a : f x ≡ 0 = others 0 x (λ e. omega arith) refl in
    omega (arith, total_only f xs i v at (λ j w apart there. others (suc j) w (λ e. apart (omega arith)) there))

pub each_map : {A : Type 0} (P Q : A → Type 0) → ((x : A) → P x → Q x) → (xs : List A) → Each P xs → Each Q xs
each_map P Q f [] h = tt
each_map P Q f (x ∷ xs) h = (f x h.0, each_map P Q f xs h.1)

pub each-append : {A : Type 0} (P : A → Type 0) (xs ys : List A) → Each P xs → Each P ys → Each P (xs ++ ys)
each-append P [] ys h k = k
each-append P (x ∷ xs) ys h k = (h.0, each-append P xs ys h.1 k)

-- two beginnings of one list
pub longer_of : {A : Type 0} (P : List A → Type 0) (xs ys : List A) → P xs → P ys → P (longer xs ys)
longer_of P xs ys p q = elim (leb (length xs) (length ys)) as (λ b. P (cond b ys xs)) [ true ↦ q | false ↦ p ]

pub shorter_begins : {A : Type 0} (xs ys log : List A) → IsPrefix xs log → IsPrefix ys log → IsPrefix (shorter xs ys) (longer xs ys)
shorter_begins {A} xs ys log p q = ⊎_elim
    (λ (t : (leb (length xs) (length ys) ≡ true) × (length xs ≤ length ys)). subst (λ b. IsPrefix (cond b xs ys) (cond b ys xs)) (sym t.0) (prefix_shorter xs ys log p q t.1))
    (λ (t : (leb (length xs) (length ys) ≡ false) × (length ys < length xs)). subst (λ b. IsPrefix (cond b xs ys) (cond b ys xs)) (sym t.0) (let l = t.1 in prefix_shorter ys xs log q p (omega arith)))
    (leb_tells (length xs) (length ys))

met_by : {A : Type 0} (b : Bool) (xs ys : List A) → IsPrefix (cond b xs ys) (cond b ys xs) → ((cond b ys xs ≡ xs) ⊎ (cond b ys xs ≡ ys)) × IsPrefix xs (cond b ys xs) × IsPrefix ys (cond b ys xs)
met_by true xs ys p = (inr refl, p, prefix_self ys)
met_by false xs ys p = (inl refl, prefix_self xs, p)

pub met_sees : {A : Type 0} (xs ys : List A) → IsPrefix (shorter xs ys) (longer xs ys) → ((longer xs ys ≡ xs) ⊎ (longer xs ys ≡ ys)) × IsPrefix xs (longer xs ys) × IsPrefix ys (longer xs ys)
met_sees xs ys p = met_by (leb (length xs) (length ys)) xs ys p

longer_by : {A : Type 0} (b : Bool) (xs ys : List A) → IsPrefix (cond b xs ys) (cond b ys xs) → IsLongerOf xs ys (cond b ys xs)
longer_by true xs ys p = inl (p, refl)
longer_by false xs ys p = inr (p, refl)

-- where the shorter of two lists begins the longer
pub is_longer : {A : Type 0} (xs ys : List A) → IsPrefix (shorter xs ys) (longer xs ys) → IsLongerOf xs ys (longer xs ys)
is_longer xs ys p = longer_by (leb (length xs) (length ys)) xs ys p
