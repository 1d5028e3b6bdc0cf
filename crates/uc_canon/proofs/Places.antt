-- The place of each member in an order.
use Rattle.std.proofs.Common.{◌≡◌, ℕ, suc, ◌+◌, ◌<◌, List, ◌∷◌, length, get_or, set, drop, replicate, refl, sym, ap, subst, ◌∙◌, inl, inr, arith}
use Rattle.std.proofs.lemmas.Bool.{cases_eq, eq-eqb, ne_eqb}
use Rattle.std.proofs.lemmas.List.{length-set, length-replicate, get_or-replicate, get_or-set_same, get_or-set_other, get_or_default, drop_more, drop_all, same_lists}
use Rattle.std.proofs.lemmas.List.FromFn.{get_or-map-range_with_len, length-map-range_with_len}
use Rattle.uc_tree.specs.declared.target.Target.{Target}
use Rattle.uc_tree.specs.declared.target.Target.TheVariants.{Own}
use Rattle.uc_canon.specs.Numbering.{place_in, renumbering}

-- the places in what an order has from a place on
pub record ArePlaces (order : List ℕ) (count from : ℕ) (numbers : List Target) : Type 0 where
  pub size : length numbers ≡ count
  pub each : (u : ℕ) → u < count → get_or numbers u (Own 0) ≡ Own (from + place_in (drop from order) u)

pub places_none : (order : List ℕ) (count : ℕ) → ArePlaces order count (length order) (replicate count (Own (length order)))
places_none order count = record {
  size = length-replicate count (Own (length order));
  each = λ u lt.
      let z : place_in (drop (length order) order) u ≡ 0 = ap (λ (xs : List ℕ). place_in xs u) (drop_all (length order) order (omega arith)) in
      get_or-replicate count u (Own (length order)) (Own 0) lt ∙ ap Own (omega (arith, z));
}

pub place_in-same : (x u : ℕ) (xs : List ℕ) → x ≡ u → place_in (x ∷ xs) u ≡ 0
place_in-same x u xs e = rw (eq-eqb x u e) refl

pub place_in-other : (x u : ℕ) (xs : List ℕ) → (x ≡ u → ⊥) → place_in (x ∷ xs) u ≡ suc (place_in xs u)
place_in-other x u xs n = rw (ne_eqb x u n) refl

-- one place less
pub places_step : (order : List ℕ) (count from x : ℕ) (numbers : List Target) → from < length order → x ≡ get_or order from 0 → x < count
    → ArePlaces order count (from + 1) numbers → ArePlaces order count from (set numbers x (Own from))
places_step order count from x numbers lt is below p = record {
  size = length-set numbers x (Own from) ∙ p.size;
  each = λ u ul.
      let d : place_in (drop from order) u ≡ place_in (x ∷ drop (from + 1) order) u = ap (λ (xs : List ℕ). place_in xs u) (drop_more order from 0 lt) ∙ ap (λ z. place_in (z ∷ drop (from + 1) order) u) (sym is) in
      elim (cases_eq x u) [
        | inl e ↦
            let z : place_in (drop from order) u ≡ 0 = d ∙ place_in-same x u (drop (from + 1) order) e in
            let P : ℕ → Type 0 = λ v. get_or (set numbers x (Own from)) v (Own 0) ≡ Own from in
            subst P e (get_or-set_same numbers x (Own from) (Own 0) (omega (arith, p.size))) ∙ ap Own (omega (arith, z))
        | inr ne ↦
            let z : place_in (drop from order) u ≡ suc (place_in (drop (from + 1) order) u) = d ∙ place_in-other x u (drop (from + 1) order) ne in
            get_or-set_other numbers x u (Own from) (Own 0) (λ e. ne (sym e)) ∙ p.each u ul ∙ ap Own (omega (arith, z))
      ];
}

pub places_all : (order : List ℕ) (count : ℕ) (numbers : List Target) → ArePlaces order count 0 numbers → numbers ≡ renumbering order count
places_all order count numbers p = same_lists numbers (renumbering order count) (p.size ∙ sym (length-map-range_with_len (λ u. Own (place_in order u)) 0 count))
    (λ k d lt.
    let kl : k < count = omega (arith, p.size) in
    get_or_default numbers k d (Own 0) lt ∙ p.each k kl ∙ ap Own (omega arith) ∙ sym (get_or-map-range_with_len (λ u. Own (place_in order u)) 0 count k k d kl (omega arith)))
