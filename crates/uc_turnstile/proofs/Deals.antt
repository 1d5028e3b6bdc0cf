-- How the passes of `new` are dealt.
use Rattle.std.proofs.Common.{◌≡◌, ◌⊎◌, ℕ, zero, suc, ◌+◌, ◌-◌, ◌*◌, ◌^◌, ◌<◌, List, [], ◌∷◌, ◌++◌, length, Option, Some, slice_get, All, sym, refl, ◌∙◌, subst, inl, inr, ⊎_elim, arith}
use Rattle.std.proofs.lemmas.List.Elements.{All-push}
use Rattle.atomic_table.specs.Table.{Me, Splits}
use Rattle.uc_turnstile.specs.declared.view.SeatView.{SeatView}
use Rattle.uc_turnstile.specs.declared.view.Stage.TheVariants.{Idle}
use Rattle.uc_turnstile.specs.Passes.{new_record}
use Rattle.uc_turnstile.specs.Rule.{new_records, Stands, deal_left, deal_right, dealer_view, new_view}
use Rattle.uc_turnstile.proofs.Splits.{deals_keep}

length-roots : (E Q R : Type 0) (a k : ℕ) → length (new_records {E = E} {Q = Q} {R = R} a k) ≡ k
length-roots E Q R a zero = refl
length-roots E Q R a (suc k) = omega (arith, length-roots E Q R (suc a) k)

pub deals_on : {T E : Type 0} (Q R : Type 0) (entries : T → List E) (n : ℕ) (opening : List E) (id i k : ℕ) (log : List E) (m : Me (Option T) (SeatView E Q R)) → m ≡ (dealer_view i k log, []) → 0 < k
    → Splits (Stands entries n opening) id m.0 (deal_left m.0) (deal_right m.0)
deals_on {T} {E} Q R entries n opening id i k log m is some_left =
    subst (λ (z : Me (Option T) (SeatView E Q R)). Splits (Stands entries n opening) id z.0 (deal_left z.0) (deal_right z.0)) (sym is)
    (deals_keep Q R entries n opening id (dealer_view i k log) refl (let l = length-roots E Q R (i + 1) k in omega arith) (omega arith))

next : {E Q R : Type 0} (i k : ℕ) (log : List E) → 0 < k → deal_left {E = E} {Q = Q} {R = R} (dealer_view i k log) ≡ dealer_view (i + 1) (k - 1) log
next i zero log some_left = absurd (omega arith)
next {E} {Q} {R} i (suc k) log some_left =
    let a : suc (i + 1) ≡ (i + 1) + 1 = omega arith in
    let b : k ≡ suc k - 1 = omega arith in
    let r : (suc k + 1) * (16 * 2 ^ 40) - 16 * 2 ^ 40 ≡ ((suc k - 1) + 1) * (16 * 2 ^ 40) = omega arith in
    λ j. record { seen = log; beside = []; own = new_record (i + 1); met = new_records (a j) (b j); stage = Idle; room = r j }

pub goes_on : {T E Q R : Type 0} (i k k' : ℕ) (log : List E) (m m' : Me (Option T) (SeatView E Q R)) → m ≡ (dealer_view i k log, []) → 0 < k → k' + 1 ≡ k → m' ≡ (deal_left m.0, m.1) → m' ≡ (dealer_view (i + 1) k' log, [])
goes_on {T} {E} {Q} {R} i k k' log m m' is some_left less step =
    let e : k - 1 ≡ k' = omega arith in
    step ∙ (λ j. (deal_left ((is j).0), (is j).1)) ∙ (λ j. (next i k log some_left j, [])) ∙ (λ j. (dealer_view (i + 1) (e j) log, []))

pub deals_out : {T E Q R : Type 0} (i k : ℕ) (log : List E) (m m' : Me (Option T) (SeatView E Q R)) → m ≡ (dealer_view i k log, []) → m' ≡ (deal_right m.0, []) → m' ≡ (new_view i log, [])
deals_out i k log m m' is step = step ∙ (λ j. (deal_right ((is j).0), []))

pub deals_last : {T E Q R : Type 0} (i k : ℕ) (log : List E) (m : Me (Option T) (SeatView E Q R)) → m ≡ (dealer_view i k log, []) → k ≡ 0 → m ≡ (new_view i log, [])
deals_last {T} {E} {Q} {R} i k log m is last = is ∙ (λ j. (dealer_view i (last j) log, []))

-- what a pass starts with
pub starts : {T E Q R : Type 0} (i : ℕ) (log : List E) (m : Me (Option T) (SeatView E Q R)) → m ≡ (new_view i log, []) → (m.0.own.turns ≡ []) × (m.0.own.name.split ≡ 0) × (m.0.room ≡ 16 * 2 ^ 40) × (m.0.stage ≡ Idle) × (m.1 ≡ [])
starts i log m is = ((λ j. (is j).0.own.turns), (λ j. (is j).0.own.name.split), (λ j. (is j).0.room), (λ j. (is j).0.stage), (λ j. (is j).1))

pub get_snoc : {A : Type 0} (xs : List A) (x : A) (k : ℕ) (p : A) → slice_get (xs ++ x ∷ []) k ≡ Some p → (slice_get xs k ≡ Some p) ⊎ ((k ≡ length xs) × (x ≡ p))
get_snoc [] x zero p e = inr (refl, cc)
get_snoc [] x (suc k) p e = absurd cc
get_snoc (y ∷ ys) x zero p e = inl e
get_snoc (y ∷ ys) x (suc k) p e = ⊎_elim (λ (l : slice_get ys k ≡ Some p). inl l) (λ (r : (k ≡ length ys) × (x ≡ p)). inr ((let a = r.0 in omega arith), r.1)) (get_snoc ys x k p e)

-- a fact of each element, with one more
pub each_snoc : {A : Type 0} (P : ℕ → A → Type 0) (xs ys : List A) (x : A) (n : ℕ) → length xs ≡ n → ys ≡ xs ++ x ∷ [] → ((k : ℕ) (p : A) → slice_get xs k ≡ Some p → P k p) → P n x → (k : ℕ) (p : A) → slice_get ys k ≡ Some p → P k p
each_snoc {A} P xs ys x n len is before last k p at = ⊎_elim (λ (l : slice_get xs k ≡ Some p). before k p l)
    (λ (r : (k ≡ length xs) × (x ≡ p)). subst (λ (z : ℕ × A). P z.0 z.1) (λ j. (sym (r.0 ∙ len) j, r.1 j)) last)
    (get_snoc xs x k p (subst (λ (zs : List A). slice_get zs k ≡ Some p) is at))

-- a fact of all elements, with one more
pub all_push : {A : Type 0} (P : A → Type 0) (xs ys : List A) (x : A) → ys ≡ xs ++ x ∷ [] → All P xs → P x → All P ys
all_push P xs ys x is before last = subst (All P) (sym is) (All-push P xs x before last)
