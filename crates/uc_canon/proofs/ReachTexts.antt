-- The text of a member depends on the places of what is reached when it is written, and on no later ones.
use Rattle.std.proofs.Common.{◌≡◌, ℕ, ◌+◌, ◌<◌, ◌≤◌, ◌==◌, ◌↔◌, true, false, List, [], ◌∷◌, ◌++◌, Option, Some, length, get_or, drop, append-nil, refl, sym, ap, subst, ◌∙◌, inl, inr, arith}
use Rattle.std.specs.List.{list_any, All, Contains, slice_get}
use Rattle.std.specs.Option.{option_map, option_map_or, option_and_then}
use Rattle.std.proofs.lemmas.Bool.{cases_lt, eqb-true}
use Rattle.std.proofs.lemmas.List.{get_or_append_left, get_or_default, drop_all}
use Rattle.std.proofs.lemmas.List.Elements.{Contains-get_or}
use Rattle.std.proofs.lemmas.Option.{slice_get-get_or, slice_get_read, slice_get-map, get_or_from_slice_get}
use Rattle.std.specs.Cmp.Lexicographic.{slice_cmp}
use Rattle.std.specs.Ordering.{nat_cmp}
use Rattle.std.specs.declared.cmp.Ordering.TheVariants.{Less}
use Rattle.uc_base.specs.Graph.{row}
use Rattle.uc_tree.specs.declared.target.Target.{Target}
use Rattle.uc_tree.specs.declared.target.Target.TheVariants.{Stored, Own, OwnCtor}
use Rattle.uc_tree.specs.declared.item.Item.{Item}
use Rattle.uc_tree.specs.Targets.{targets_of}
use Rattle.uc_tree.specs.Replacing.{Replacement, by_images, by_members, target_under, constructor_under, constructor_of, replaced}
use Rattle.uc_tree.proofs.ReplacingLaws.{item_stays, items_in_turn}
use Rattle.uc_canon.specs.Members.{Members, items_of, count_of}
use Rattle.uc_canon.specs.Numbering.{links_of, rows_of, IsOneComponent, added, reached, order_from, place_in, renumbering, moved, IsBefore}
use Rattle.uc_canon.specs.Starts.{AreReached, item_text, moved_text, moved_texts, ComesBefore}
use Rattle.uc_canon.specs.declared.standing.Standing.{Standing}
use Rattle.uc_canon.proofs.Complete.{contains_any, added_has, reached_front, reached_stuck, order_arranged}
use Rattle.uc_canon.proofs.ReachSteps.{place_in_front}
use Rattle.uc_canon.proofs.Renumbered.{OfMember, of_members, renumbering_at, renumbering_stands, replaced_there, links_below}

-- ---- one item under two replacements

-- what stands for the targets of an item is the same under both
abbrev Agree : Replacement → Replacement → Target → Type 0
Agree m o x = (target_under m x ≡ target_under o x) × (constructor_under m x ≡ constructor_under o x)

stays_in_tree : (y : Target) → target_under (by_images []) y ≡ Some y
stays_in_tree (Stored r) = refl
stays_in_tree (Own u) = refl
stays_in_tree (OwnCtor u c) = refl

stays_in_pattern : (y : Target) → constructor_under (by_images []) y ≡ Some y
stays_in_pattern (Stored r) = refl
stays_in_pattern (Own u) = refl
stays_in_pattern (OwnCtor u c) = refl

same_replaced : (m o : Replacement) (i j : Item) → replaced m i ≡ Some j → ((x : Target) → Contains (targets_of i) x → Agree m o x) → replaced o i ≡ Some j
same_replaced m o i j e agree =
    items_in_turn m (by_images []) o i j j e (item_stays (by_images []) j (λ x h. record { in_tree = stays_in_tree x; in_pattern = stays_in_pattern x }))
    (λ x h. record {
      in_tree = λ y z p q. sym (agree x h).0 ∙ p ∙ sym (stays_in_tree y) ∙ q;
      in_pattern = λ y z p q. sym (agree x h).1 ∙ p ∙ sym (stays_in_pattern y) ∙ q;
    })

-- where both have the same members, they agree
members_agree : (ms ns : List Target) (x : Target) → OfMember (λ u. slice_get ms u ≡ slice_get ns u) x → Agree (by_members ms) (by_members ns) x
members_agree ms ns (Stored r) h = (refl, refl)
members_agree ms ns (Own u) h = (h, h)
members_agree ms ns (OwnCtor u c) h = let e = ap (option_and_then (constructor_of c)) h in (e, e)

-- ---- what is reached

row_is : (m : Members) (u : ℕ) (i : Item) → slice_get (items_of m) u ≡ Some i → row (rows_of m) u ≡ links_of i
row_is m u i e = get_or_from_slice_get (rows_of m) u (links_of i) [] (slice_get-map links_of (items_of m) u ∙ ap (option_map links_of) e)

module _ (m : Members) (start : ℕ) (one : IsOneComponent m) (below : start < count_of m) where
  -- in one component a member has the next number, while not all are written
  pub next_reached : (k : ℕ) → k < count_of m → k < length (reached (rows_of m) start k)
  next_reached k lt = elim (cases_lt k (length (reached (rows_of m) start k))) [
    | inl l ↦ l
    | inr ge ↦
        let stuck : order_from m start ≡ reached (rows_of m) start k = reached_stuck (rows_of m) start k (count_of m) (omega arith) (omega arith) in
        let all = (order_arranged m start one below).size in
        absurd (omega (arith, all, ap (λ (xs : List ℕ). length xs) stuck))
  ]

  -- and keeps it
  pub number_stays : (k u : ℕ) (order : List ℕ) → k < count_of m → order ≡ reached (rows_of m) start k → u ≡ get_or order k u → get_or (order_from m start) k 0 ≡ u
  number_stays k u order lt is e =
      let f = reached_front (rows_of m) start k (count_of m) (omega arith) in
      let l = next_reached k lt in
      let r = reached (rows_of m) start k in
      ap (λ (xs : List ℕ). get_or xs k 0) f.1 ∙ get_or_append_left r f.0 0 k l ∙ get_or_default r k 0 u l ∙ ap (λ (xs : List ℕ). get_or xs k u) (sym is) ∙ sym e

  -- what is written of a member whose links are reached
  pub part_of_reached : (round k u : ℕ) (before order starts : List ℕ) (numbers : List Target) (items : List Item) (i : Item) (part : List ℕ)
      → k < count_of m → before ≡ reached (rows_of m) start k → order ≡ added before (row (rows_of m) u) → order ≡ reached (rows_of m) start (k + 1)
      → AreReached (count_of m) round starts numbers order → u < count_of m → items ≡ items_of m → i ≡ get_or items u i
      → part ≡ option_map_or item_text (replaced (by_members numbers) i) [] → part ≡ moved_text (order_from m start) m u
  part_of_reached round k u before order starts numbers items i part lt was is whole r ul same at e =
      let n = count_of m in
      let full = order_from m start in
      let s : slice_get (items_of m) u ≡ Some i = ap (λ (xs : List Item). slice_get xs u) (sym same) ∙ slice_get_read items (length items) u i refl (omega (arith, ap (λ (xs : List Item). length xs) same)) at in
      let links : row (rows_of m) u ≡ links_of i = row_is m u i s in
      let f = reached_front (rows_of m) start (k + 1) n (omega arith) in
      let front : full ≡ order ++ f.0 = f.1 ∙ ap (λ (xs : List ℕ). xs ++ f.0) (sym whole) in
      let held : (v : ℕ) → Contains (links_of i) v → list_any (λ y. y == v) order ≡ true = λ v h.
      let P : List ℕ → Type 0 = λ xs. Contains xs v in
      let c : Contains (added before (row (rows_of m) u)) v = added_has before (row (rows_of m) u) v (subst P (sym links) h) in
      contains_any order v (subst P (sym is) c) in
      let given = links_below m u i one.closed s in
      let known : (v : ℕ) → v < n → list_any (λ y. y == v) order ≡ true → slice_get numbers v ≡ Some (Own (place_in order v)) = λ v vl h.
      slice_get-get_or numbers v (Own 0) (omega (arith, r.table.numbers_size)) ∙ ap Some (r.placed v vl h) in
      let agree : All (λ v. slice_get numbers v ≡ slice_get (renumbering full n) v) (links_of i) = λ j d jl.
      let v : ℕ = get_or (links_of i) j d in
      let vl : v < n = given j d jl in
      let h = held v (Contains-get_or (links_of i) j d jl) in
      let place : place_in full v ≡ place_in order v = ap (λ (xs : List ℕ). place_in xs v) front ∙ place_in_front order f.0 v h in
      known v vl h ∙ ap (λ p. Some (Own p)) (sym place) ∙ sym (renumbering_at full n v vl) in
      let there : (j : Item) × (replaced (by_members (renumbering full n)) i ≡ Some j) = replaced_there (renumbering full n) n i (renumbering_stands full n) given in
      let back : replaced (by_members numbers) i ≡ Some there.0 = same_replaced (by_members (renumbering full n)) (by_members numbers) i there.0 there.1
      (λ x h. let a = members_agree numbers (renumbering full n) x (of_members (λ v. slice_get numbers v ≡ slice_get (renumbering full n) v) (targets_of i) agree x h) in (sym a.0, sym a.1)) in
      let put : moved full m u ≡ Some there.0 = ap (option_and_then (replaced (by_members (renumbering full n)))) s ∙ there.1 in
      e ∙ ap (λ (o : Option Item). option_map_or item_text o []) (back ∙ sym put)

-- ---- the end of a text

-- when all are written, nothing is to come
pub text_done : (order : List ℕ) (m : Members) (text whole : List ℕ) (k : ℕ) → length order ≤ k → text ++ moved_texts order m (drop k order) ≡ whole → text ≡ whole
text_done order m text whole k le e = sym (append-nil text) ∙ ap (λ (xs : List ℕ). text ++ moved_texts order m xs) (sym (drop_all k order le)) ∙ e

-- a whole text comes before the least one so far exactly where nothing comes before the rest of that one
pub stands_at_end : (known now : Standing) (text : List ℕ) → ((rest : List ℕ) → ComesBefore known (text ++ rest) ↔ ComesBefore now rest) → ComesBefore known text ↔ ComesBefore now []
stands_at_end known now text f = let P : List ℕ → Type 0 = λ xs. ComesBefore known xs ↔ ComesBefore now [] in subst P (append-nil text) (f [])

pub before_some : (xs : List ℕ) → (length xs == 0) ≡ false → IsBefore [] xs
before_some [] e = absurd cc
before_some (x ∷ xs) e = refl

pub before_none : (xs : List ℕ) → (length xs == 0) ≡ true → IsBefore [] xs → ⊥
before_none [] e h = let r : slice_cmp nat_cmp [] [] ≡ Less = h in absurd cc
before_none (x ∷ xs) e h = absurd (omega (arith, eqb-true (length (x ∷ xs)) 0 e))
