-- The passes of a new turnstile that are met one after another are all its passes.
use Rattle.std.proofs.Common.{◌≡◌, ℕ, zero, suc, ◌+◌, ◌<◌, ◌≤◌, true, ◌&&◌, eqb, List, [], ◌∷◌, ◌++◌, Some, slice_get, length, sym, refl, ap, ◌∙◌, subst, arith, eq-eqb, length-append}
use mathlib.Core.Logic.{dite}
use native.Mathlib.Decide.{ℕ_discrete}
use Rattle.uc_turnstile.specs.declared.view.PassRecord.{PassRecord}
use Rattle.uc_turnstile.specs.Lists.{bit, total, Each}
use Rattle.uc_turnstile.specs.Passes.{PassView, passes_in, name_count, HasPass, AreAllPasses, Meets}
use Rattle.uc_turnstile.proofs.Sums.{total-append, each_map, each-append, get_end}

-- the pass k of a new turnstile was never split, and none was met into it
abbrev pub IsUnsplit : {E Q R : Type 0} → ℕ → PassView E Q R → Type 0
IsUnsplit k pass = (pass.own.name ≡ record { number = k; split = 0 }) × (pass.own.splits ≡ 0) × (pass.met ≡ [])

-- the passes from m on, before n, are there, and none was split
pub record Gathered {E Q R : Type 0} (m n : ℕ) (passes : List (PassRecord E Q R)) : Type 0 where
  pub there : (i : ℕ) → m ≤ i → i < n → HasPass passes i 0
  pub whole : Each (λ (a : PassRecord E Q R). a.splits ≡ 0) passes

named_one : {E Q R : Type 0} (k : ℕ) (a : PassRecord E Q R) → a.name ≡ record { number = k; split = 0 } → name_count k 0 a ≡ 1
named_one k a is = (λ i. bit (eqb ((is i).number) k && eqb ((is i).split) 0)) ∙ (λ i. bit (eq-eqb k k refl i && true))

pub gathers_first : {E Q R : Type 0} (m n : ℕ) (v : PassView E Q R) → n ≡ m + 1 → IsUnsplit m v → Gathered m n (passes_in v)
gathers_first {E} {Q} {R} m n v is u = record {
  there = λ i ge lt. let e : m ≡ i = omega arith in subst (λ (x : ℕ). HasPass (v.own ∷ v.met) x 0) e (let o = named_one m v.own u.0 in omega arith);
  whole = subst (λ (l : List (PassRecord E Q R)). Each (λ (a : PassRecord E Q R). a.splits ≡ 0) (v.own ∷ l)) (sym u.2) (u.1, tt);
}

pub gathers_more : {E Q R : Type 0} (m n : ℕ) (v other w : PassView E Q R) → Gathered (m + 1) n (passes_in v) → IsUnsplit m other → Meets v other w → Gathered m n (passes_in w)
gathers_more {E} {Q} {R} m n v other w g u met =
    subst (Gathered m n) (λ i. sym met.own i ∷ sym met.met i) record {
      there = λ i ge lt.
          let split = total-append (name_count i 0) (v.own ∷ v.met) (other.own ∷ other.met) in
          dite (ℕ_discrete m i)
          (λ e. let o = named_one m other.own u.0 in let s : name_count m 0 other.own ≡ name_count i 0 other.own = ap (λ (x : ℕ). name_count x 0 other.own) e in omega arith)
          (λ apart. let h : 0 < total (name_count i 0) (v.own ∷ v.met) = g.there i (omega arith) lt in omega arith);
      whole = each-append (λ (a : PassRecord E Q R). a.splits ≡ 0) (v.own ∷ v.met) (other.own ∷ other.met) g.whole (u.1, subst (Each (λ (a : PassRecord E Q R). a.splits ≡ 0)) (sym u.2) tt);
    }

pub gathers_all : {E Q R : Type 0} (n : ℕ) (passes : List (PassRecord E Q R)) → Gathered 0 n passes → AreAllPasses n passes
gathers_all {E} {Q} {R} n passes g = (
  (λ i lt. g.there i (omega arith) lt),
  each_map (λ (a : PassRecord E Q R). a.splits ≡ 0) (λ (a : PassRecord E Q R). a.name.split ≡ 0 → (j : ℕ) → j < a.splits → HasPass passes a.name.number (j + 1)) (λ a z first j lt. absurd (omega arith)) passes g.whole,
)

get_front : {A : Type 0} (xs ys : List A) (k : ℕ) (p : A) → slice_get xs k ≡ Some p → slice_get (xs ++ ys) k ≡ Some p
get_front [] ys k p e = absurd cc
get_front (x ∷ xs) ys zero p e = e
get_front (x ∷ xs) ys (suc k) p e = get_front xs ys k p e

-- a fact of each element, once the last was taken
pub popped : {A : Type 0} (P : ℕ → A → Type 0) (xs ys : List A) (x : A) → xs ≡ ys ++ x ∷ [] → ((k : ℕ) (p : A) → slice_get xs k ≡ Some p → P k p) → ((k : ℕ) (p : A) → slice_get ys k ≡ Some p → P k p) × P (length ys) x
popped {A} P xs ys x is each = (
  (λ k p at. each k p (subst (λ (l : List A). slice_get l k ≡ Some p) (sym is) (get_front ys (x ∷ []) k p at))),
  each (length ys) x (subst (λ (l : List A). slice_get l (length ys) ≡ Some x) (sym is) (get_end ys x)),
)

pub one_less : {A : Type 0} (xs ys : List A) (x : A) → xs ≡ ys ++ x ∷ [] → length xs ≡ length ys + 1
one_less xs ys x is = ap length is ∙ length-append ys (x ∷ [])
