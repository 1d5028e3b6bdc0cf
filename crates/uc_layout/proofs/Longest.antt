-- The longest front that a state accepts.
use Rattle.std.proofs.Common.{◌≡◌, ℕ, zero, suc, ◌+◌, ◌<◌, ◌≤◌, Bool, true, false, List, [], ◌∷◌, ◌++◌, length, take, Option, Some, None, refl, subst, arith}
use Rattle.uc_layout.specs.declared.automaton.State.{State}
use Rattle.uc_layout.specs.Lexeme.{step, is_final, Accepts, ends, goes_on, IsLongest}

-- one byte more than the rest, where the rest may end; else 1 where it may end here
abbrev pub reach : Bool → ℕ → ℕ
reach f (suc n) = suc (suc n)
reach true zero = 1
reach false zero = 0

abbrev pub run_from : Option State → (State → ℕ) → ℕ
run_from None f = 0
run_from (Some t) f = reach (is_final t) (f t)

-- how far a state leads
abbrev pub run_len : State → List ℕ → ℕ
run_len s [] = 0
run_len s (c ∷ cs) = run_from (step s c) (λ t. run_len t cs)

reach_within : (f : Bool) (k m : ℕ) → k ≤ m → reach f k ≤ suc m
reach_within true zero m h = omega arith
reach_within false zero m h = omega arith
reach_within f (suc k) m h = omega arith

from_within : (o : Option State) (f : State → ℕ) (m : ℕ) → ((t : State) → f t ≤ m) → run_from o f ≤ suc m
from_within None f m h = omega arith
from_within (Some t) f m h = reach_within (is_final t) (f t) m (h t)

pub run_within : (s : State) (cs : List ℕ) → run_len s cs ≤ length cs
run_within s [] = omega arith
run_within s (c ∷ cs) = from_within (step s c) _ (length cs) (λ t. run_within t cs)

reach_accepts : (s t : State) (c : ℕ) (cs : List ℕ) (f : Bool) (k : ℕ) → step s c ≡ Some t → is_final t ≡ f → (0 < k → Accepts t (take k cs))
    → 0 < reach f k → Accepts s (take (reach f k) (c ∷ cs))
reach_accepts s t c cs f (suc k) e i h p = goes_on e (h (omega arith))
reach_accepts s t c cs true zero e i h p = goes_on e (ends i)
reach_accepts s t c cs false zero e i h p = absurd (omega arith)

from_accepts : (s : State) (c : ℕ) (cs : List ℕ) (o : Option State) → step s c ≡ o → ((t : State) → 0 < run_len t cs → Accepts t (take (run_len t cs) cs))
    → 0 < run_from o (λ t. run_len t cs) → Accepts s (take (run_from o (λ t. run_len t cs)) (c ∷ cs))
from_accepts s c cs None e h p = absurd (omega arith)
from_accepts s c cs (Some t) e h p = reach_accepts s t c cs (is_final t) (run_len t cs) e refl (h t) p

pub run_accepts : (s : State) (cs : List ℕ) → 0 < run_len s cs → Accepts s (take (run_len s cs) cs)
run_accepts s [] p = absurd (omega arith)
run_accepts s (c ∷ cs) p = from_accepts s c cs (step s c) refl (λ t. run_accepts t cs) p

reach_above : (f : Bool) (k m : ℕ) → m ≤ k → (m ≡ 0 → f ≡ true) → suc m ≤ reach f k
reach_above f (suc k) m h e = omega arith
reach_above true zero m h e = omega arith
reach_above false zero m h e = let p : m ≡ 0 = omega arith in let q : false ≡ true = e p in cc

final_end : {t : State} {cs : List ℕ} → Accepts t cs → length cs ≡ 0 → is_final t ≡ true
final_end (ends p) e = p
final_end (goes_on p h) e = absurd (omega arith)

pub run_longest : {s : State} {front : List ℕ} (rest : List ℕ) → Accepts s front → length front ≤ run_len s (front ++ rest)
run_longest rest (ends p) = omega arith
run_longest rest (goes_on {t = t} {cs = cs} e h) = rw e (reach_above (is_final t) _ (length cs) (run_longest rest h) (final_end h))

-- the best so far: the longest found, or what the rest leads to behind the count of bytes
abbrev pub best : ℕ → ℕ → ℕ → ℕ
best longest count zero = longest
best longest count (suc k) = count + suc k

pub stuck : (s : State) (bytes cs : List ℕ) (c longest count : ℕ) → bytes ≡ c ∷ cs → step s c ≡ None → best longest count (run_len s bytes) ≡ longest
stuck s bytes cs c longest count e h = rw (e, h) refl

pub at_end : (s : State) (bytes : List ℕ) (longest count : ℕ) → bytes ≡ [] → best longest count (run_len s bytes) ≡ longest
at_end s bytes longest count e = rw e refl

pub is_longest : (s : State) (text : List ℕ) (n : ℕ) → run_len s text ≡ n → IsLongest s text n
is_longest s text n e = let P : ℕ → Type 0 = λ m. IsLongest s text m in subst P e (record {
  within = run_within s text;
  accepted = run_accepts s text;
  longest = λ front rest p h. rw p (run_longest rest h);
})
