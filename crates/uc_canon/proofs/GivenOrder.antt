-- The order in which the members of a component are given doesn't matter: first reach goes with a renumbering.
use Rattle.std.proofs.Common.{◌≡◌, ℕ, zero, suc, ◌<◌, ◌==◌, List, [], ◌∷◌, ◌++◌, Option, Some, None, length, get_or, map, refl, sym, ap, subst, ◌∙◌, inl, inr, arith}
use Rattle.std.specs.List.{All, Contains, list_any, slice_get}
use Rattle.std.specs.Option.{option_map, option_map_or, option_and_then}
use Rattle.std.proofs.lemmas.Bool.{cases_Bool, cases_eq, cases_lt, cases_order, eq-eqb, ne_eqb}
use Rattle.std.proofs.lemmas.Option.{slice_get-map, slice_get_within, get_or_from_slice_get}
use Rattle.std.proofs.lemmas.List.{length-map, length_push, map-append, get_or-map, get_or_append_left, get_or_push}
use Rattle.std.proofs.lemmas.List.Elements.{All-head, All-tail, All-push, All-map}
use Rattle.uc_base.specs.Graph.{row}
use Rattle.uc_tree.specs.declared.target.Target.{Target}
use Rattle.uc_tree.specs.declared.target.Target.TheVariants.{Stored, Own, OwnCtor}
use Rattle.uc_tree.specs.declared.item.Item.{Item}
use Rattle.uc_tree.specs.Laws.{IsInTurn, IsOwnBelow}
use Rattle.uc_tree.specs.Targets.{targets_of}
use Rattle.uc_tree.specs.Replacing.{by_members, member_under, replaced}
use Rattle.uc_tree.proofs.ReplacingLaws.{items_in_turn}
use Rattle.uc_tree.proofs.ReplacedParts.{targets_are_replaced}
use Rattle.uc_canon.specs.Members.{Members, terms, kinds, items_of, count_of, SameKind}
use Rattle.uc_canon.specs.Numbering.{members_among, links_of, rows_of, IsClosed, added, reached_after, reached, order_from, IsArrangement, place_in, renumbering, moved, IsReordered, IsTextFrom, IsLeastText}
use Rattle.uc_canon.specs.NumberingLaws.{GivenOrderIsFree}
use Rattle.uc_canon.specs.Starts.{text_in}
use Rattle.uc_canon.proofs.Reach.{added_held, added_new}
use Rattle.uc_canon.proofs.Orders.{reached_below, links_all}
use Rattle.uc_canon.proofs.Arrangements.{distinct_push, length_distinct}
use Rattle.uc_canon.proofs.Complete.{any_contains, place_found}
use Rattle.uc_canon.proofs.Renumbered.{there, own_below, links_below, moved_there, replaced_there, renumbering_at, renumbering_stands}
use Rattle.uc_canon.proofs.LeastText.{length-rows_of, order_below, text_there, text_from_is}

-- ---- an arrangement has each number

pub arranged_has : (count : ℕ) (order : List ℕ) (u : ℕ) → IsArrangement count order → u < count → Contains order u
arranged_has count order u a lt = elim (cases_Bool (list_any (λ y. y == u) order)) [
  | inl e ↦ any_contains order u e
  | inr e ↦ absurd (omega (
    arith,
    length_distinct (order ++ u ∷ []) count (distinct_push order u a.distinct e) (λ k kl. elim (cases_lt k (length order)) [
      | inl l ↦ let b : get_or order k 0 < count = a.below k l in omega (arith, get_or_append_left order (u ∷ []) 0 k l)
      | inr ge ↦ omega (arith, get_or_push order u 0 k (omega (arith, length_push order u)))
    ]),
    length_push order u,
    a.size,
  ))
]

-- ---- lists of numbers, each put through a function that keeps them apart

module _ (count : ℕ) (p : ℕ → ℕ) (apart : (u v : ℕ) → u < count → v < count → p u ≡ p v → u ≡ v) where
  same_test : (u v : ℕ) → u < count → v < count → (p u == p v) ≡ (u == v)
  same_test u v ul vl = elim (cases_eq u v) [
    | inl e ↦ rw (eq-eqb u v e) (eq-eqb (p u) (p v) (ap p e))
    | inr ne ↦ rw (ne_eqb u v ne) (ne_eqb (p u) (p v) (λ e. ne (apart u v ul vl e)))
  ]

  any-map : (xs : List ℕ) (u : ℕ) → All (λ v. v < count) xs → u < count → list_any (λ y. y == p u) (map p xs) ≡ list_any (λ y. y == u) xs
  any-map [] u h lt = refl
  any-map (x ∷ xs) u h lt = rw (same_test x u (All-head (λ v. v < count) x xs h) lt, any-map xs u (All-tail (λ v. v < count) x xs h) lt) refl

  added-map : (seen xs : List ℕ) → All (λ v. v < count) seen → All (λ v. v < count) xs → added (map p seen) (map p xs) ≡ map p (added seen xs)
  added-map seen [] a b = refl
  added-map seen (x ∷ xs) a b =
      let xl : x < count = All-head (λ v. v < count) x xs b in
      let t = any-map seen x a xl in
      elim (cases_Bool (list_any (λ y. y == x) seen)) [
        | inl e ↦ added_held (map p seen) (map p xs) (p x) (t ∙ e) ∙ added-map seen xs a (All-tail (λ v. v < count) x xs b) ∙ sym (ap (map p) (added_held seen xs x e))
        | inr e ↦
            added_new (map p seen) (map p xs) (p x) (t ∙ e) ∙ ap (λ (ys : List ℕ). added ys (map p xs)) (sym (map-append p seen (x ∷ [])))
            ∙ added-map (seen ++ x ∷ []) xs (All-push (λ v. v < count) seen x a xl) (All-tail (λ v. v < count) x xs b) ∙ sym (ap (map p) (added_new seen xs x e))
      ]

  place_in-map : (xs : List ℕ) (u : ℕ) → All (λ v. v < count) xs → u < count → place_in (map p xs) (p u) ≡ place_in xs u
  place_in-map [] u h lt = refl
  place_in-map (x ∷ xs) u h lt =
      rw (same_test x u (All-head (λ v. v < count) x xs h) lt, place_in-map xs u (All-tail (λ v. v < count) x xs h) lt) refl

-- ---- members in two orders

kind_from : (m n o : Members) → SameKind m n → SameKind m o → SameKind n o
kind_from (terms ds) (terms es) (terms fs) a b = tt
kind_from (kinds ds) (kinds es) (kinds fs) a b = tt
kind_from (terms ds) (terms es) (kinds fs) a b = absurd b
kind_from (kinds ds) (kinds es) (terms fs) a b = absurd b
kind_from (terms ds) (kinds es) o a b = absurd a
kind_from (kinds ds) (terms es) o a b = absurd a

module _ (m n : Members) (order : List ℕ) (closed : IsClosed m) (a : IsArrangement (count_of m) order) (r : IsReordered order m n) where
  count_same : count_of n ≡ count_of m
  count_same = r.size ∙ a.size

  place_of : (u : ℕ) → u < count_of m → (place_in order u < length order) × (get_or order (place_in order u) 0 ≡ u)
  place_of u lt = place_found order u (arranged_has (count_of m) order u a lt)

  places_apart : (u v : ℕ) → u < count_of m → v < count_of m → place_in order u ≡ place_in order v → u ≡ v
  places_apart u v ul vl e = sym (place_of u ul).1 ∙ ap (λ k. get_or order k 0) e ∙ (place_of v vl).1

  place_back : (k : ℕ) → k < length order → place_in order (get_or order k 0) ≡ k
  place_back k lt =
      let u = get_or order k 0 in
      let q = place_of u (a.below k lt) in
      elim (cases_order (place_in order u) k) [
        | inl e ↦ e
        | inr o ↦ elim o [ inl l ↦ absurd (a.distinct (place_in order u) k l lt q.1) | inr g ↦ absurd (a.distinct k (place_in order u) g q.0 (sym q.1)) ]
      ]

  -- the member of n at a member's place
  at_place : (u : ℕ) (i : Item) → u < count_of m → slice_get (items_of m) u ≡ Some i → (j : Item) × (slice_get (items_of n) (place_in order u) ≡ Some j) × (replaced (by_members (renumbering order (count_of m))) i ≡ Some j)
  at_place u i lt e =
      let q = place_of u lt in
      let j = moved_there order m u i closed e in
      let x : slice_get (items_of n) (place_in order u) ≡ Some j.0 = r.items (place_in order u) q.0 ∙ ap (moved order m) q.1 ∙ j.1 in
      (j.0, x, sym (ap (option_and_then (replaced (by_members (renumbering order (count_of m))))) e) ∙ j.1)

  members_renumbered : (xs ys : List Target) → All (λ u. u < count_of m) (members_among xs) → map (member_under (renumbering order (count_of m))) xs ≡ map (λ y. Some y) ys
      → members_among ys ≡ map (place_in order) (members_among xs)
  members_renumbered [] [] h e = refl
  members_renumbered [] (y ∷ ys) h e = absurd cc
  members_renumbered (x ∷ xs) [] h e = absurd cc
  members_renumbered (Stored s ∷ xs) (y ∷ ys) h e =
      let f : Stored s ≡ y = cc in
      let g = members_renumbered xs ys h cc in
      ap (λ (z : Target). members_among (z ∷ ys)) (sym f) ∙ g
  members_renumbered (Own u ∷ xs) (y ∷ ys) h e =
      let at = renumbering_at order (count_of m) u (All-head (λ u. u < count_of m) u (members_among xs) h) in
      let f : Own (place_in order u) ≡ y = cc in
      let g = members_renumbered xs ys (All-tail (λ u. u < count_of m) u (members_among xs) h) cc in
      ap (λ (z : Target). members_among (z ∷ ys)) (sym f) ∙ ap (λ (zs : List ℕ). place_in order u ∷ zs) g
  members_renumbered (OwnCtor u c ∷ xs) (y ∷ ys) h e =
      let at = renumbering_at order (count_of m) u (All-head (λ u. u < count_of m) u (members_among xs) h) in
      let k : member_under (renumbering order (count_of m)) (OwnCtor u c) ≡ Some (OwnCtor (place_in order u) c) = rw at refl in
      let f : OwnCtor (place_in order u) c ≡ y = cc in
      let g = members_renumbered xs ys (All-tail (λ u. u < count_of m) u (members_among xs) h) cc in
      ap (λ (z : Target). members_among (z ∷ ys)) (sym f) ∙ ap (λ (zs : List ℕ). place_in order u ∷ zs) g

  row_at : (m' : Members) (u : ℕ) (i : Item) → slice_get (items_of m') u ≡ Some i → row (rows_of m') u ≡ links_of i
  row_at m' u i e = get_or_from_slice_get (rows_of m') u (links_of i) [] (slice_get-map links_of (items_of m') u ∙ ap (option_map links_of) e)

  row_placed : (u : ℕ) → u < count_of m → row (rows_of n) (place_in order u) ≡ map (place_in order) (row (rows_of m) u)
  row_placed u lt =
      let i = there (items_of m) u lt in
      let j = at_place u i.0 lt i.1 in
      let t = targets_are_replaced (by_members (renumbering order (count_of m))) i.0 j.0 j.2 in
      row_at n (place_in order u) j.0 j.1 ∙ members_renumbered (targets_of i.0) (targets_of j.0) (links_below m u i.0 closed i.1) t ∙ ap (map (place_in order)) (sym (row_at m u i.0 i.1))

  links_placed : (now : List ℕ) (k : ℕ) → All (λ v. v < count_of m) now → (o : Option ℕ) → slice_get now k ≡ o
      → option_map_or (row (rows_of n)) (option_map (place_in order) o) [] ≡ map (place_in order) (option_map_or (row (rows_of m)) o [])
  links_placed now k b None e = refl
  links_placed now k b (Some x) e =
      let g : get_or now k 0 ≡ x = get_or_from_slice_get now k x 0 e in
      let w : get_or now k 0 < count_of m = b k 0 (slice_get_within now k x e) in
      row_placed x (omega arith)

  -- first reach goes with the places
  reached_placed : (start k : ℕ) → start < count_of m → reached (rows_of n) (place_in order start) k ≡ map (place_in order) (reached (rows_of m) start k)
  reached_placed start zero lt = refl
  reached_placed start (suc k) lt =
      let g = rows_of m in
      let h = rows_of n in
      let p = place_in order in
      let now = reached g start k in
      let e = length-rows_of m in
      let P : ℕ → Type 0 = λ c. All (λ v. v < c) now in
      let b : All (λ v. v < count_of m) now = subst P e (reached_below g start k closed (omega arith)) in
      let Q : ℕ → Type 0 = λ c. All (λ v. v < c) (option_map_or (row g) (slice_get now k) []) in
      let l : All (λ v. v < count_of m) (option_map_or (row g) (slice_get now k) []) = subst Q e (links_all g (slice_get now k) closed) in
      let links : option_map_or (row h) (slice_get (map p now) k) [] ≡ map p (option_map_or (row g) (slice_get now k) []) =
      ap (λ (o : Option ℕ). option_map_or (row h) o []) (slice_get-map p now k) ∙ links_placed now k b (slice_get now k) refl in
      ap (reached_after h k) (reached_placed start k lt) ∙ ap (added (map p now)) links ∙ added-map (count_of m) p places_apart now (option_map_or (row g) (slice_get now k) []) b l

  -- so does the order of a start
  order_placed : (start : ℕ) → start < count_of m → order_from n (place_in order start) ≡ map (place_in order) (order_from m start)
  order_placed start lt = ap (reached (rows_of n) (place_in order start)) count_same ∙ reached_placed start (count_of m) lt

  -- ---- members put in an order after another

  place_kept : (start u : ℕ) → start < count_of m → u < count_of m → place_in (order_from n (place_in order start)) (place_in order u) ≡ place_in (order_from m start) u
  place_kept start u lt ul =
      ap (λ (xs : List ℕ). place_in xs (place_in order u)) (order_placed start lt) ∙ place_in-map (count_of m) (place_in order) places_apart (order_from m start) u (order_below m start closed lt) ul

  -- what stands for a member in the second order of the first
  second_at : (start u : ℕ) → start < count_of m → u < count_of m
      → slice_get (renumbering (order_from n (place_in order start)) (count_of n)) (place_in order u) ≡ Some (Own (place_in (order_from m start) u))
  second_at start u lt ul =
      let q = place_of u ul in
      renumbering_at (order_from n (place_in order start)) (count_of n) (place_in order u) (omega (arith, r.size, q.0)) ∙ ap (λ k. Some (Own k)) (place_kept start u lt ul)

  under : (start : ℕ) → start < count_of m → (x y z : Target) → IsOwnBelow (count_of m) x → member_under (renumbering order (count_of m)) x ≡ Some y
      → member_under (renumbering (order_from n (place_in order start)) (count_of n)) y ≡ Some z → member_under (renumbering (order_from m start) (count_of m)) x ≡ Some z
  under start lt (Stored s) y z b e f =
      let d : y ≡ Stored s = cc in
      let P : Target → Type 0 = λ w. member_under (renumbering (order_from n (place_in order start)) (count_of n)) w ≡ Some z in subst P d f
  under start lt (Own u) y z b e f =
      let at = renumbering_at order (count_of m) u b in
      let d : y ≡ Own (place_in order u) = cc in
      let P : Target → Type 0 = λ w. member_under (renumbering (order_from n (place_in order start)) (count_of n)) w ≡ Some z in
      let g : slice_get (renumbering (order_from n (place_in order start)) (count_of n)) (place_in order u) ≡ Some z = subst P d f in
      renumbering_at (order_from m start) (count_of m) u b ∙ sym (second_at start u lt b) ∙ g
  under start lt (OwnCtor u c) y z b e f =
      let at = renumbering_at order (count_of m) u b in
      let k : member_under (renumbering order (count_of m)) (OwnCtor u c) ≡ Some (OwnCtor (place_in order u) c) = rw at refl in
      let d : y ≡ OwnCtor (place_in order u) c = cc in
      let P : Target → Type 0 = λ w. member_under (renumbering (order_from n (place_in order start)) (count_of n)) w ≡ Some z in
      let g : member_under (renumbering (order_from n (place_in order start)) (count_of n)) (OwnCtor (place_in order u) c) ≡ Some z = subst P d f in
      let h : member_under (renumbering (order_from n (place_in order start)) (count_of n)) (OwnCtor (place_in order u) c) ≡ Some (OwnCtor (place_in (order_from m start) u) c) = rw (second_at start u lt b) refl in
      let o : member_under (renumbering (order_from m start) (count_of m)) (OwnCtor u c) ≡ Some (OwnCtor (place_in (order_from m start) u) c) = rw (renumbering_at (order_from m start) (count_of m) u b) refl in
      o ∙ sym h ∙ g

  turned : (start : ℕ) → start < count_of m → (x : Target) → IsOwnBelow (count_of m) x
      → IsInTurn (by_members (renumbering order (count_of m))) (by_members (renumbering (order_from n (place_in order start)) (count_of n))) (by_members (renumbering (order_from m start) (count_of m))) x
  turned start lt x b = record { in_tree = λ y z e f. under start lt x y z b e f; in_pattern = λ y z e f. under start lt x y z b e f }

  -- the links of a member of n are below the count
  links_placed_below : (u : ℕ) (i j : Item) → u < count_of m → slice_get (items_of m) u ≡ Some i → slice_get (items_of n) (place_in order u) ≡ Some j → All (λ v. v < count_of n) (links_of j)
  links_placed_below u i j lt e f =
      let l : links_of j ≡ map (place_in order) (links_of i) = sym (row_at n (place_in order u) j f) ∙ row_placed u lt ∙ ap (map (place_in order)) (row_at m u i e) in
      let b = links_below m u i closed e in
      let P : List ℕ → Type 0 = λ xs. All (λ v. v < count_of n) xs in
      subst P (sym l) (All-map (λ v. v < count_of n) (place_in order) (links_of i) (λ k d kl. let q = place_of (get_or (links_of i) k d) (b k d kl) in omega (arith, q.0, r.size)))

  -- a member in the second order is the member in the order of the first
  moved_twice : (start u : ℕ) → start < count_of m → u < count_of m → moved (order_from n (place_in order start)) n (place_in order u) ≡ moved (order_from m start) m u
  moved_twice start u lt ul =
      let i = there (items_of m) u ul in
      let j = at_place u i.0 ul i.1 in
      let on = order_from n (place_in order start) in
      let k = replaced_there (renumbering on (count_of n)) (count_of n) j.0 (renumbering_stands on (count_of n)) (links_placed_below u i.0 j.0 ul i.1 j.1) in
      let t = items_in_turn (by_members (renumbering order (count_of m))) (by_members (renumbering on (count_of n))) (by_members (renumbering (order_from m start) (count_of m))) i.0 j.0 k.0 j.2 k.1
      (λ x h. turned start lt x (own_below (count_of m) (targets_of i.0) (links_below m u i.0 closed i.1) x h)) in
      ap (option_and_then (replaced (by_members (renumbering on (count_of n))))) j.1 ∙ k.1 ∙ sym (ap (option_and_then (replaced (by_members (renumbering (order_from m start) (count_of m))))) i.1 ∙ t)

  reordered_placed : (start : ℕ) (o : Members) → start < count_of m → IsReordered (order_from m start) m o → IsReordered (order_from n (place_in order start)) n o
  reordered_placed start o lt w = record {
    kind = kind_from m n o r.kind w.kind;
    size = w.size ∙ sym (length-map (order_from m start) (place_in order)) ∙ sym (ap length (order_placed start lt));
    items = λ k kl.
        let e = order_placed start lt in
        let l : k < length (order_from m start) = omega (arith, ap length e, length-map (order_from m start) (place_in order)) in
        let u = get_or (order_from m start) k 0 in
        let p : get_or (order_from n (place_in order start)) k 0 ≡ place_in order u = ap (λ (xs : List ℕ). get_or xs k 0) e ∙ get_or-map (place_in order) (order_from m start) k 0 0 l in
        w.items k l ∙ sym (ap (moved (order_from n (place_in order start)) n) p ∙ moved_twice start u lt (order_below m start closed lt k 0 l));
  }

  -- ---- texts

  text_placed : (start : ℕ) (t : List ℕ) → start < count_of m → IsTextFrom m start t → IsTextFrom n (place_in order start) t
  text_placed start t lt w = record { renumbered = w.renumbered; reordered = reordered_placed start w.renumbered lt w.reordered; spelled = w.spelled }

  text_back : (start : ℕ) (t : List ℕ) → start < count_of n → IsTextFrom n start t → IsTextFrom m (get_or order start 0) t
  text_back start t lt w =
      let s = get_or order start 0 in
      let sl : s < count_of m = a.below start (omega (arith, r.size)) in
      let own = text_there m s closed sl in
      let P : ℕ → Type 0 = λ k. IsTextFrom n k (text_in (order_from m s) m) in
      let v : IsTextFrom n start (text_in (order_from m s) m) = subst P (place_back start (omega (arith, r.size))) (text_placed s (text_in (order_from m s) m) sl own) in
      let same : text_in (order_from m s) m ≡ t = text_from_is n start (text_in (order_from m s) m) v ∙ sym (text_from_is n start t w) in
      let Q : List ℕ → Type 0 = λ x. IsTextFrom m s x in subst Q same own

  least_placed : (text : List ℕ) → IsLeastText m text → IsLeastText n text
  least_placed text w = record {
    start = place_in order w.start;
    below = omega (arith, (place_of w.start w.below).0, r.size);
    given = text_placed w.start text w.below w.given;
    least = λ other t lt v b. w.least (get_or order other 0) t (a.below other (omega (arith, r.size))) (text_back other t lt v) b;
  }

  least_back : (text : List ℕ) → IsLeastText n text → IsLeastText m text
  least_back text w = record {
    start = get_or order w.start 0;
    below = a.below w.start (omega (arith, w.below, r.size));
    given = text_back w.start text w.below w.given;
    least = λ other t lt v b. w.least (place_in order other) t (omega (arith, (place_of other lt).0, r.size)) (text_placed other t lt v) b;
  }

pub given_order_is_free : GivenOrderIsFree
given_order_is_free m n order text one a r = (least_placed m n order one.closed a r text, least_back m n order one.closed a r text)
