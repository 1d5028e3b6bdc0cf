-- What is reached, one number more.
use Rattle.std.proofs.Common.{◌≡◌, ℕ, ◌+◌, ◌<◌, ◌==◌, ◌||◌, Bool, true, false, List, [], ◌∷◌, ◌++◌, length, get_or, drop, refl, sym, ap, subst, ◌∙◌, arith}
use Rattle.std.specs.List.{list_any}
use Rattle.std.proofs.lemmas.Bool.{eq-eqb, ne_eqb, or_right}
use Rattle.std.proofs.lemmas.List.{drop_more}
use Rattle.std.proofs.lemmas.List.Folds.{list_any-append}
use Rattle.std.proofs.lemmas.List.Elements.{Contains-get_or}
use Rattle.uc_base.specs.Graph.{row, InRange}
use Rattle.uc_canon.specs.Numbering.{added}

any_pushed : (seen : List ℕ) (x u : ℕ) → list_any (λ y. y == u) (seen ++ x ∷ []) ≡ (list_any (λ y. y == u) seen || (x == u || false))
any_pushed seen x u = list_any-append (λ y. y == u) seen (x ∷ [])

or_nothing : (a b : Bool) → b ≡ false → (a || (b || false)) ≡ a
or_nothing true b e = refl
or_nothing false b e = rw e refl

pub any_same : (seen : List ℕ) (x u : ℕ) → x ≡ u → list_any (λ y. y == u) (seen ++ x ∷ []) ≡ true
any_same seen x u e = any_pushed seen x u ∙ or_right (list_any (λ y. y == u) seen) (x == u || false) (rw (eq-eqb x u e) refl)

pub any_other : (seen : List ℕ) (x u : ℕ) → (x ≡ u → ⊥) → list_any (λ y. y == u) (seen ++ x ∷ []) ≡ list_any (λ y. y == u) seen
any_other seen x u n = any_pushed seen x u ∙ or_nothing (list_any (λ y. y == u) seen) (x == u) (ne_eqb x u n)

-- what is added for a number that stands there already, and for one that doesn't
pub added_held : (seen xs : List ℕ) (x : ℕ) → list_any (λ y. y == x) seen ≡ true → added seen (x ∷ xs) ≡ added seen xs
added_held seen xs x e = rw e refl

pub added_new : (seen xs : List ℕ) (x : ℕ) → list_any (λ y. y == x) seen ≡ false → added seen (x ∷ xs) ≡ added (seen ++ x ∷ []) xs
added_new seen xs x e = rw e refl

-- the step of a loop over the numbers that are added
pub held_step : (seen xs all : List ℕ) (i x : ℕ) → i < length xs → x ≡ get_or xs i 0 → list_any (λ y. y == x) seen ≡ true → added seen (drop i xs) ≡ all → added seen (drop (i + 1) xs) ≡ all
held_step seen xs all i x lt is held e =
    let P : ℕ → Type 0 = λ z. list_any (λ y. y == z) seen ≡ true in
    sym (ap (added seen) (drop_more xs i 0 lt) ∙ added_held seen (drop (i + 1) xs) (get_or xs i 0) (subst P is held)) ∙ e

pub new_step : (seen xs all : List ℕ) (i x : ℕ) → i < length xs → x ≡ get_or xs i 0 → list_any (λ y. y == x) seen ≡ false → added seen (drop i xs) ≡ all → added (seen ++ x ∷ []) (drop (i + 1) xs) ≡ all
new_step seen xs all i x lt is new e =
    let P : ℕ → Type 0 = λ z. list_any (λ y. y == z) seen ≡ false in
    ap (λ z. added (seen ++ z ∷ []) (drop (i + 1) xs)) is ∙ sym (ap (added seen) (drop_more xs i 0 lt) ∙ added_new seen (drop (i + 1) xs) (get_or xs i 0) (subst P is new)) ∙ e

-- a reference is to a vertex
pub reference_below : (g : List (List ℕ)) (u at x : ℕ) → InRange g → at < length (row g u) → x ≡ get_or (row g u) at 0 → x < length g
reference_below g u at x range lt is = let p : get_or (row g u) at 0 < length g = range u (get_or (row g u) at 0) (Contains-get_or (row g u) at 0 lt) in omega arith
