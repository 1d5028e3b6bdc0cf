-- The least of names in order is the first.
use Rattle.std.proofs.Common.{◌≡◌, ℕ, List, [], ◌∷◌, Bool, true, false, cond, Option, Some, None, option_map, length, get_or, drop, ◌<◌, ◌≤◌, ◌+◌, add-one, drop-cons, refl, ap, ◌∙◌}
use Rattle.std.specs.List.{filter, find}
use Rattle.std.specs.List.Sorted.{IsStrictlySortedBy}
use Rattle.std.proofs.lemmas.List.{drop_all}
use Rattle.std.proofs.lemmas.List.Kept.{IsStrictlySortedBy-filter}
use Rattle.uc_base.specs.declared.reference.Ref.{Ref}
use Rattle.uc_tree.specs.Lookups.{Pairs, pair_order}
use Rattle.uc_branch.specs.Pairs.{pair_name, names_of, least_name_of}
use Rattle.uc_branch.proofs.NameOrder.{greater_from}

-- the first of some names
abbrev pub first_of : Pairs → Option (List ℕ)
first_of [] = None
first_of (p ∷ ps) = Some p.0

pub least_is_first : (ps : Pairs) → IsStrictlySortedBy pair_order ps → least_name_of (names_of ps) ≡ first_of ps
unfolding IsStrictlySortedBy
least_is_first [] s = refl
least_is_first (p ∷ []) s = refl
least_is_first (p ∷ q ∷ ps) s = rw (least_is_first (q ∷ ps) s.1, greater_from p.0 q.0 s.0.0) refl

first_filter : (test : (List ℕ × Ref) → Bool) (ps : Pairs) → first_of (filter test ps) ≡ option_map pair_name (find test ps)
first_filter test [] = refl
first_filter test (p ∷ ps) = go (test p) (first_filter test ps)
  where
    go : (b : Bool) → first_of (filter test ps) ≡ option_map pair_name (find test ps) → first_of (cond b (p ∷ filter test ps) (filter test ps)) ≡ option_map pair_name (cond b (Some p) (find test ps))
    go true e = refl
    go false e = e

-- the least name that passes a test is the first that does
pub least_passing : (test : (List ℕ × Ref) → Bool) (ps : Pairs) → IsStrictlySortedBy pair_order ps → least_name_of (names_of (filter test ps)) ≡ option_map pair_name (find test ps)
least_passing test ps s = least_is_first (filter test ps) (IsStrictlySortedBy-filter pair_order test ps s) ∙ first_filter test ps

names_filter : (test : List ℕ → Bool) (ps : Pairs) → filter test (names_of ps) ≡ names_of (filter (λ p. test p.0) ps)
names_filter test [] = refl
names_filter test (p ∷ ps) = go (test p.0) (names_filter test ps)
  where
    go : (b : Bool) → filter test (names_of ps) ≡ names_of (filter (λ p. test p.0) ps) → cond b (p.0 ∷ filter test (names_of ps)) (filter test (names_of ps)) ≡ names_of (cond b (p ∷ filter (λ p. test p.0) ps) (filter (λ p. test p.0) ps))
    go true e = ap (λ (l : List (List ℕ)). p.0 ∷ l) e
    go false e = e

-- the same by a test of names
pub least_name_passing : (test : List ℕ → Bool) (ps : Pairs) → IsStrictlySortedBy pair_order ps → least_name_of (filter test (names_of ps)) ≡ option_map pair_name (find (λ p. test p.0) ps)
least_name_passing test ps s = ap least_name_of (names_filter test ps) ∙ least_passing (λ p. test p.0) ps s

-- a search goes on where a pair fails the test
pub scan_on : (test : (List ℕ × Ref) → Bool) (ps : Pairs) (i : ℕ) (p : List ℕ × Ref) → i < length ps → p ≡ get_or ps i p → test p ≡ false → find test ps ≡ find test (drop i ps) → find test ps ≡ find test (drop (i + 1) ps)
scan_on test ps i p h is e so_far = so_far ∙ rw (add-one, drop-cons ps i p) (rw (← is, e) refl)

-- and ends where one passes
pub scan_hit : (test : (List ℕ × Ref) → Bool) (ps : Pairs) (i : ℕ) (p : List ℕ × Ref) → i < length ps → p ≡ get_or ps i p → test p ≡ true → find test ps ≡ find test (drop i ps) → find test ps ≡ Some p
scan_hit test ps i p h is e so_far = so_far ∙ rw (drop-cons ps i p) (rw (← is, e) refl)

-- or where there is none
pub scan_end : (test : (List ℕ × Ref) → Bool) (ps : Pairs) (i : ℕ) → length ps ≤ i → find test ps ≡ find test (drop i ps) → find test ps ≡ None
scan_end test ps i h so_far = so_far ∙ ap (find test) (drop_all i ps h)
