-- Where a variable stands in a context.
use Rattle.std.proofs.Common.{◌≡◌, ℕ, suc, ◌+◌, ◌-◌, ◌<◌, ◌≤◌, Bool, true, false, ◌||◌, [], ◌∷◌, ◌++◌, length, get_or, take, drop, Some, None, is_some, arith, refl, sym, ap, subst, ◌∙◌, add-one}
use Rattle.std.specs.List.{list_any}
use Rattle.std.proofs.lemmas.Bool.{or_parts, or_from, false≢true, false_from_ne_true}
use Rattle.std.proofs.lemmas.List.{take-append-drop, take-take, length-take, drop-take, get_or-take}
use Rattle.std.proofs.lemmas.List.Folds.{list_any-append}
use Rattle.uc_context.specs.declared.entry.Entry.{Entry}
use Rattle.uc_context.specs.Contexts.{IsContext}
use Rattle.uc_context.specs.Entries.{ContextEntries, number_of, is_variable, before}
use Rattle.uc_context.specs.Index.{last_place}
use Rattle.uc_context.specs.Looking.{TestsVariable}
use Rattle.uc_context.proofs.LastPlaces.{last_place-within, last_place-passes, last_place-some, none_behind_last_place}
use Rattle.uc_context.proofs.Noting.{variable_by_number}
use Rattle.uc_context.proofs.Orders.{split_at, apart_at}

-- entries with the variable x among them once
pub record Stands (x : ℕ) (es left : ContextEntries) (e : Entry) (right : ContextEntries) : Type 0 where
  pub whole : es ≡ left ++ e ∷ right
  pub here : is_variable x e ≡ true
  pub none_left : list_any (is_variable x) left ≡ false
  pub none_right : list_any (is_variable x) right ≡ false

pub stands_at : (x : ℕ) (es : ContextEntries) (k : ℕ) (e : Entry) → IsContext es → last_place (is_variable x) es ≡ Some k → e ≡ get_or es k e → Stands x es (take k es) e (drop (suc k) es)
stands_at x es k e order found is =
    let passes : is_variable x e ≡ true = last_place-passes (is_variable x) es k e found is in
    let n : number_of e ≡ x = variable_by_number x e passes in
    let within : k < length es = last_place-within (is_variable x) es k found in
    record {
      whole = subst (λ (m : ℕ). es ≡ take k es ++ e ∷ drop m es) (add-one k) (split_at es k e within is);
      here = passes;
      none_left = subst (λ (y : ℕ). list_any (is_variable y) (take k es) ≡ false) n (apart_at es k e within is order (subst (λ (y : ℕ). is_variable y e ≡ true) (sym n) passes));
      none_right = none_behind_last_place (is_variable x) es k found;
    }

-- a variable that isn't there isn't in front
variable_in_front : (x : ℕ) (es : ContextEntries) (n : ℕ) → list_any (is_variable x) es ≡ false → list_any (is_variable x) (take n es) ≡ false
variable_in_front x es n none =
    let parts : (list_any (is_variable x) (take n es) || list_any (is_variable x) (drop n es)) ≡ false = sym (list_any-append (is_variable x) (take n es) (drop n es)) ∙ ap (list_any (is_variable x)) (take-append-drop n es) ∙ none in
    (or_parts (list_any (is_variable x) (take n es)) (list_any (is_variable x) (drop n es)) parts).0

-- a test of the variable fails where the variable isn't
module _ (x : ℕ) (test : Entry → Bool) (tests : TestsVariable x test) where
  pub fails_without : (es : ContextEntries) → list_any (is_variable x) es ≡ false → list_any test es ≡ false
  fails_without [] none = refl
  fails_without (e ∷ es) none =
      let p = or_parts (is_variable x e) (list_any (is_variable x) es) none in
      or_from (test e) (list_any test es) (false_from_ne_true (test e) (λ t. false≢true (sym p.0 ∙ tests e t))) (fails_without es p.1)

  pub fails_in_front : (es : ContextEntries) (n : ℕ) → list_any (is_variable x) es ≡ false → list_any test (take n es) ≡ false
  fails_in_front es n none = fails_without (take n es) (variable_in_front x es n none)

  -- and elsewhere it answers as the variable does
  pub as_the_variable : (left : ContextEntries) (e : Entry) (right : ContextEntries) → list_any (is_variable x) left ≡ false → list_any (is_variable x) right ≡ false → list_any test (left ++ e ∷ right) ≡ test e
  as_the_variable left e right l r =
      list_any-append test left (e ∷ right) ∙ rw (fails_without left l, fails_without right r) (go (test e))
    where
      go : (b : Bool) → (b || false) ≡ b
      go true = refl
      go false = refl

  module _ (es : ContextEntries) (n : ℕ) (order : IsContext es) where
    pub tested_none : last_place (is_variable x) es ≡ None → list_any test (take n es) ≡ false
    tested_none none = fails_in_front es n (last_place-some (is_variable x) es ∙ ap is_some none)

    pub tested_behind : (k : ℕ) (e : Entry) → last_place (is_variable x) es ≡ Some k → e ≡ get_or es k e → n ≤ k → list_any test (take n es) ≡ false
    tested_behind k e found is behind =
        let s = stands_at x es k e order found is in
        subst (λ (cs : ContextEntries). list_any test cs ≡ false) (take-take n k es behind) (fails_in_front (take k es) n s.none_left)

    pub tested_at : (k : ℕ) (e : Entry) → last_place (is_variable x) es ≡ Some k → e ≡ get_or es k e → k < n → list_any test (take n es) ≡ test e
    tested_at k e found is before =
        let s = stands_at x es k e order found is in
        let within : k < length es = last_place-within (is_variable x) es k found in
        let m : n ≡ (k + 1) + (n - (k + 1)) = omega arith in
        let front : take k (take n es) ≡ take k es = take-take k n es (omega arith) in
        let behind : drop (k + 1) (take n es) ≡ take (n - (k + 1)) (drop (k + 1) es) = ap (λ (j : ℕ). drop (k + 1) (take j es)) m ∙ drop-take (k + 1) (n - (k + 1)) es in
        let none : list_any (is_variable x) (take (n - (k + 1)) (drop (k + 1) es)) ≡ false =
        variable_in_front x (drop (k + 1) es) (n - (k + 1)) (subst (λ (j : ℕ). list_any (is_variable x) (drop j es) ≡ false) (sym (add-one k)) s.none_right) in
        let whole : take n es ≡ take k (take n es) ++ e ∷ drop (k + 1) (take n es) =
        split_at (take n es) k e (omega (arith, length-take {A = Entry})) (is ∙ sym (get_or-take n es k e before)) in
        ap (list_any test) (whole ∙ rw (front, behind) refl) ∙ as_the_variable (take k es) e (take (n - (k + 1)) (drop (k + 1) es)) s.none_left none
