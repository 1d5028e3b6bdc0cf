-- What a binary search by name finds in a list in name order.
use Rattle.std.proofs.Common.{◌≡◌, ℕ, suc, ◌+◌, ◌<◌, ◌≤◌, List, ◌∷◌, length, get_or, take, drop, Result, Ok, Err, IfOk, IfErr, ap, subst, arith}
use Rattle.std.proofs.Math.Seq.{get_or-take, get_or-drop}
use Rattle.std.proofs.Common.{length-take, length-drop}
use Rattle.std.proofs.lemmas.Cmp.{nat_list_cmp_total}
use Rattle.std.proofs.lemmas.List.Elements.{All-head, All-tail}
use Rattle.std.proofs.lemmas.List.Sorted.{searchable_from_sorted}
use Rattle.std.proofs.lemmas.Map.Keys.{Less-from_sorted}
use Rattle.std.specs.List.{All}
use Rattle.std.specs.List.Sorted.{IsSearchInRange, IsBinarySearchResult, IsNonDecreasingBy, IsStrictlySortedBy}
use Rattle.std.specs.Ordering.{is_lt, ordering_index}
use Rattle.std.specs.declared.cmp.Ordering.TheVariants.{Less, Greater}
use Rattle.uc_branch.specs.Pairs.{name_order}
use Rattle.uc_branch.specs.Places.{IsPlace, IsGap}
use Rattle.uc_branch.proofs.NameOrder.{tied_names, greater_from}

module _ {X : Type 0} where
  -- what holds at each place below one holds of the front
  pub all_before : (P : X → Type 0) (xs : List X) (at : ℕ) → ((k : ℕ) (d : X) → k < at → k < length xs → P (get_or xs k d)) → All P (take at xs)
  all_before P xs at h k d lt =
      let below : k < at = omega (arith, lt, length-take at xs) in
      let inside : k < length xs = omega (arith, lt, length-take at xs) in
      rw (get_or-take at xs k d below) (h k d below inside)

  -- what holds at each place from one on holds of the rest
  pub all_from : (P : X → Type 0) (xs : List X) (at : ℕ) → ((k : ℕ) (d : X) → at ≤ k → k < length xs → P (get_or xs k d)) → All P (drop at xs)
  all_from P xs at h k d lt =
      rw (get_or-drop at xs k d) (h (at + k) d (omega arith) (omega (arith, lt, length-drop at xs)))

  module _ (key : X → List ℕ) (xs : List X) (sorted : IsStrictlySortedBy (λ x y. name_order (key x) (key y)) xs) (name : List ℕ) where
    keys_rise : IsNonDecreasingBy (λ y. ordering_index (name_order (key y) name)) xs
    keys_rise = searchable_from_sorted nat_list_cmp_total key xs name (λ k d low high.
        ap is_lt (greater_from (key (get_or xs k d)) (key (get_or xs (k + 1) d)) (Less-from_sorted (λ x y. name_order (key x) (key y)) xs k (k + 1) d sorted (omega arith) high)))

    -- the name, or the place where it would go
    pub searched : (r : Result ℕ ℕ) → IsSearchInRange r (length xs) → IsBinarySearchResult (λ y. name_order (key y) name) xs r → record { found : IfOk r (IsPlace key name xs); absent : IfErr r (IsGap key name xs) }
    searched (Ok at) in_range equal = record {
      found = record {
        in_range = in_range;
        before = all_before (λ x. name_order (key x) name ≡ Less) xs at (λ k d below inside. subst (λ n. name_order (key (get_or xs k d)) n ≡ Less) (is_here d) (Less-from_sorted (λ x y. name_order (key x) (key y)) xs k at d sorted below in_range));
        here = is_here;
        after = all_from (λ x. name_order (key x) name ≡ Greater) xs (suc at) (λ k d low inside. subst (λ n. name_order (key (get_or xs k d)) n ≡ Greater) (is_here d) (greater_from (key (get_or xs at d)) (key (get_or xs k d)) (Less-from_sorted (λ x y. name_order (key x) (key y)) xs at k d sorted (omega arith) inside)));
      };
      absent = tt;
    }
      where
        is_here : (d : X) → key (get_or xs at d) ≡ name
        is_here d = tied_names (key (get_or xs at d)) name (equal d)
    searched (Err at) in_range parted = record {
      found = tt;
      absent = record {
        in_range = in_range;
        before = all_before (λ x. name_order (key x) name ≡ Less) xs at (λ k d below inside. (parted keys_rise).0 k d (omega arith) below);
        after = all_from (λ x. name_order (key x) name ≡ Greater) xs at (λ k d low inside. (parted keys_rise).1 k d low inside);
      };
    }

  module _ {key : X → List ℕ} {name : List ℕ} where
    -- the first of a list is before a later place
    pub first_before : (x : X) (xs : List X) (at : ℕ) → IsPlace key name (x ∷ xs) (suc at) → name_order (key x) name ≡ Less
    first_before x xs at h = All-head (λ y. name_order (key y) name ≡ Less) x (take at xs) h.before

    pub rest_place : (x : X) (xs : List X) (at : ℕ) → IsPlace key name (x ∷ xs) (suc at) → IsPlace key name xs at
    rest_place x xs at h = record {
      in_range = omega (arith, h.in_range);
      before = All-tail (λ y. name_order (key y) name ≡ Less) x (take at xs) h.before;
      here = h.here;
      after = h.after;
    }

    pub first_before_gap : (x : X) (xs : List X) (at : ℕ) → IsGap key name (x ∷ xs) (suc at) → name_order (key x) name ≡ Less
    first_before_gap x xs at h = All-head (λ y. name_order (key y) name ≡ Less) x (take at xs) h.before

    pub rest_gap : (x : X) (xs : List X) (at : ℕ) → IsGap key name (x ∷ xs) (suc at) → IsGap key name xs at
    rest_gap x xs at h = record {
      in_range = omega (arith, h.in_range);
      before = All-tail (λ y. name_order (key y) name ≡ Less) x (take at xs) h.before;
      after = h.after;
    }

    pub first_after_gap : (x : X) (xs : List X) → IsGap key name (x ∷ xs) 0 → name_order (key x) name ≡ Greater
    first_after_gap x xs h = All-head (λ y. name_order (key y) name ≡ Greater) x xs h.after
