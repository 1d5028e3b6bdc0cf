-- An index where entries come in place of one.
use Rattle.std.proofs.Common.{◌≡◌, ◌≢◌, ℕ, suc, ◌+◌, ◌-◌, ◌<◌, ◌≤◌, Bool, true, false, cond, ◌||◌, ◌==◌, List, [], ◌∷◌, ◌++◌, length, get_or, take, drop, map, Option, Some, None, is_some, arith, refl, sym, ap, subst, ◌∙◌, inl, inr}
use Rattle.std.specs.List.{list_any, All}
use Rattle.std.specs.Prelude.{count_by, MatchOption}
use Rattle.std.proofs.lemmas.Bool.{or_from, or_right, or_parts, false≢true, eq-eqb, cases_lt}
use Rattle.std.proofs.lemmas.List.{get_or_past, get_or-drop, length-drop, drop-append-le}
use Rattle.std.proofs.lemmas.List.Elements.{All-more, All-weaker}
use Rattle.std.proofs.lemmas.List.Folds.{list_any-append, list_any_at}
use Rattle.std.proofs.lemmas.List.Sums.{sum_by-append, sum_by-cons}
use Rattle.uc_context.specs.declared.entry.Entry.{Entry}
use Rattle.uc_context.specs.declared.entry.Entry.TheVariants.{Exists, Solved}
use Rattle.uc_context.specs.declared.index.Index.{Index}
use Rattle.uc_context.specs.Opens.{Open}
use Rattle.uc_context.specs.Entries.{ContextEntries, number_of, is_numbered, is_variable, is_binder}
use Rattle.uc_context.specs.Index.{place_at, last_place}
use Rattle.uc_context.specs.Indexes.{Indexes, AreNoted, AreNotedBelow, noted_at, Exchanges, HasPlaces}
use Rattle.uc_context.specs.Numbers.{uses_at}
use Rattle.uc_context.proofs.LastPlaces.{last_place-within, last_place-passes, last_place-some, last_place-front, none_behind_last_place}
use Rattle.uc_context.proofs.Noting.{IsByNumber, variable_by_number, binder_by_number, noted_same, noted_other, length-noted_at, none_counted}

-- room for one number more
pub more_room : (ns : List ℕ) (i k m : ℕ) → i < length ns → All (λ x. x < k) (take i ns) → k ≤ m → get_or ns i 0 < m → All (λ x. x < m) (take (i + 1) ns)
more_room ns i k m within so_far longer room = All-more (λ x. x < m) ns i 0 within (All-weaker (λ x. x < k) (λ x. x < m) (λ x h. omega arith) (take i ns) so_far) room

-- places of last entries
module _ (test : Entry → Bool) where
  -- an entry that passes isn't behind the last one
  not_behind : (es : ContextEntries) (k i : ℕ) (e : Entry) → last_place test es ≡ Some k → i < length es → test (get_or es i e) ≡ true → i ≤ k
  not_behind es k i e found within passes = elim (cases_lt k i) [
    | inl behind ↦ absurd (false≢true (sym (none_behind_last_place test es k found) ∙ list_any_at test (drop (suc k) es) (i - suc k) e (omega (arith, length-drop {A = Entry}))
        (ap test (get_or-drop (suc k) es (i - suc k) e ∙ ap (λ (j : ℕ). get_or es j e) (omega arith)) ∙ passes)))
    | inr h ↦ h
  ]

  -- and where none passes there is none
  not_none : (es : ContextEntries) (i : ℕ) (e : Entry) → last_place test es ≡ None → i < length es → test (get_or es i e) ≡ true → ⊥
  not_none es i e none within passes = false≢true (sym (last_place-some test es ∙ ap is_some none) ∙ list_any_at test es i e within passes)

  -- what passes behind a front has its last place there
  behind_front : (front es : ContextEntries) (k : ℕ) → list_any test es ≡ true → last_place test (front ++ es) ≡ Some k → length front ≤ k
  behind_front front es k some found = elim (cases_lt k (length front)) [
    | inl before ↦ absurd (false≢true (sym (none_there before) ∙ some))
    | inr h ↦ h
  ]
    where
      none_there : k < length front → list_any test es ≡ false
      none_there before =
          let parts : (list_any test (drop (suc k) front) || list_any test es) ≡ false = sym (list_any-append test (drop (suc k) front) es) ∙ ap (list_any test) (sym (drop-append-le (suc k) front es (omega arith))) ∙ none_behind_last_place test (front ++ es) k found in
          (or_parts (list_any test (drop (suc k) front)) (list_any test es) parts).1

-- noting entry by entry
module _ (test : ℕ → Entry → Bool) (by_number : IsByNumber test) (places : List (Option ℕ)) (es : ContextEntries) (at : ℕ) (e : Entry) (within : at < length es) (is : e ≡ get_or es at e) (room : number_of e < length places) where
  pub noted_one_more : AreNotedBelow test at places es → AreNotedBelow test (at + 1) (noted_at test e (Some at) places) es
  noted_one_more so_far x = go (last_place (test x) es) refl (test x e) refl (so_far x)
    where
      go : (o : Option ℕ) → last_place (test x) es ≡ o → (b : Bool) → test x e ≡ b → MatchOption o (place_at places x ≡ None) (λ k. k < at → place_at places x ≡ Some k)
          → MatchOption o (place_at (noted_at test e (Some at) places) x ≡ None) (λ k. k < at + 1 → place_at (noted_at test e (Some at) places) x ≡ Some k)
      go None found true passes h = absurd (not_none (test x) es at e found within (ap (test x) (sym is) ∙ passes))
      go None found false fails h = noted_other test by_number places e (Some at) x fails ∙ h
      go (Some k) found true passes h = λ below.
          let here : at ≡ k = omega (arith, not_behind (test x) es k at e found within (ap (test x) (sym is) ∙ passes)) in
          noted_same test by_number places e (Some at) room x passes ∙ ap Some here
      go (Some k) found false fails h = λ below.
          let other : k ≢ at = λ same. false≢true (sym fails ∙ last_place-passes (test x) es k e found (is ∙ ap (λ (j : ℕ). get_or es j e) (sym same))) in
          noted_other test by_number places e (Some at) x fails ∙ h (omega arith)

pub index_noted : (i j : Index) (ns : List ℕ) (es : ContextEntries) (at : ℕ) (e : Entry) → at < length es → e ≡ get_or es at e → All (λ d. number_of d < length ns) es
    → (i.numbers ≡ ns) × HasPlaces i × AreNotedBelow is_variable at i.variables es × AreNotedBelow is_binder at i.binders es
    → j.numbers ≡ i.numbers → j.variables ≡ noted_at is_variable e (Some at) i.variables → j.binders ≡ noted_at is_binder e (Some at) i.binders
    → (j.numbers ≡ ns) × HasPlaces j × AreNotedBelow is_variable (at + 1) j.variables es × AreNotedBelow is_binder (at + 1) j.binders es
index_noted i j ns es at e within is room h numbers variables binders =
    let r : number_of e < length ns = subst (λ (d : Entry). number_of d < length ns) (sym is) (room at e within) in
    let v : length j.variables ≡ length i.variables = ap length variables ∙ length-noted_at is_variable variable_by_number i.variables e (Some at) in
    let b : length j.binders ≡ length i.binders = ap length binders ∙ length-noted_at is_binder binder_by_number i.binders e (Some at) in (
      numbers ∙ h.0,
      record {
        variables = omega (arith, h.1.variables, v, ap length numbers);
        binders = omega (arith, h.1.binders, b, ap length numbers);
      },
      subst (λ (ps : List (Option ℕ)). AreNotedBelow is_variable (at + 1) ps es) (sym variables) (noted_one_more is_variable variable_by_number i.variables es at e within is (omega (arith, h.1.variables, ap length h.0)) h.2),
      subst (λ (ps : List (Option ℕ)). AreNotedBelow is_binder (at + 1) ps es) (sym binders) (noted_one_more is_binder binder_by_number i.binders es at e within is (omega (arith, h.1.binders, ap length h.0)) h.3),
    )

pub all_noted : (test : ℕ → Entry → Bool) (places : List (Option ℕ)) (es : ContextEntries) (at : ℕ) → length es ≤ at → AreNotedBelow test at places es → AreNoted test places es
all_noted test places es at end below x = go (last_place (test x) es) refl (below x)
  where
    go : (o : Option ℕ) → last_place (test x) es ≡ o → MatchOption o (place_at places x ≡ None) (λ k. k < at → place_at places x ≡ Some k) → place_at places x ≡ last_place (test x) es
    go None found h = h ∙ sym found
    go (Some k) found h = h (omega (arith, last_place-within (test x) es k found)) ∙ sym found

-- new existentials and a solved one in place of an unsolved one
module _ (x : ℕ) (t : Open) (numbers : List ℕ) (left right : ContextEntries) where
  -- places in front are as they were noted
  module _ (test : ℕ → Entry → Bool) (same : (y : ℕ) → test y (Exists x) ≡ test y (Solved x t)) (places : List (Option ℕ)) where
    pub noted_in_front : AreNoted test places (left ++ Exists x ∷ right) → AreNotedBelow test (length left) places (left ++ (map (λ n. Exists n) numbers ++ Solved x t ∷ right))
    noted_in_front noted y = go (list_any (test y) (map (λ n. Exists n) numbers ++ Solved x t ∷ right)) refl (last_place (test y) (left ++ (map (λ n. Exists n) numbers ++ Solved x t ∷ right))) refl
      where
        as_before : list_any (test y) (map (λ n. Exists n) numbers ++ Solved x t ∷ right) ≡ false → place_at places y ≡ last_place (test y) (left ++ (map (λ n. Exists n) numbers ++ Solved x t ∷ right))
        as_before fails =
            let p = or_parts (list_any (test y) (map (λ n. Exists n) numbers)) (list_any (test y) (Solved x t ∷ right)) (sym (list_any-append (test y) (map (λ n. Exists n) numbers) (Solved x t ∷ right)) ∙ fails) in
            let q = or_parts (test y (Solved x t)) (list_any (test y) right) p.1 in
            noted y ∙ last_place-front (test y) left (Exists x ∷ right) (or_from (test y (Exists x)) (list_any (test y) right) (same y ∙ q.0) q.1) ∙ sym (last_place-front (test y) left (map (λ n. Exists n) numbers ++ Solved x t ∷ right) fails)

        shown : (o : Option ℕ) → place_at places y ≡ o → MatchOption o (place_at places y ≡ None) (λ k. k < length left → place_at places y ≡ Some k)
        shown None e = e
        shown (Some k) e = λ below. e

        go : (b : Bool) → list_any (test y) (map (λ n. Exists n) numbers ++ Solved x t ∷ right) ≡ b → (o : Option ℕ) → last_place (test y) (left ++ (map (λ n. Exists n) numbers ++ Solved x t ∷ right)) ≡ o → MatchOption o (place_at places y ≡ None) (λ k. k < length left → place_at places y ≡ Some k)
        go false fails o found = shown o (as_before fails ∙ found)
        go true some None found = absurd (false≢true (sym (last_place-some (test y) (left ++ (map (λ n. Exists n) numbers ++ Solved x t ∷ right)) ∙ ap is_some found)
            ∙ list_any-append (test y) left (map (λ n. Exists n) numbers ++ Solved x t ∷ right) ∙ or_right (list_any (test y) left) (list_any (test y) (map (λ n. Exists n) numbers ++ Solved x t ∷ right)) some))
        go true some (Some k) found = λ below. absurd (omega (arith, behind_front (test y) left (map (λ n. Exists n) numbers ++ Solved x t ∷ right) k some found))

  -- uses are those before, with one more for each new number
  count_new : (y : ℕ) (ns : List ℕ) → count_by (is_numbered y) (map (λ n. Exists n) ns) ≡ count_by (λ n. n == y) ns
  count_new y [] = refl
  count_new y (n ∷ ns) = omega (arith, count_new y ns, sum_by-cons (λ (e : Entry). cond (is_numbered y e) 1 0) (Exists n) (map (λ n. Exists n) ns), sum_by-cons (λ (m : ℕ). cond (m == y) 1 0) n ns)

  pub uses_exchanged : (y : ℕ) → count_by (is_numbered y) (left ++ (map (λ n. Exists n) numbers ++ Solved x t ∷ right)) ≡ count_by (is_numbered y) (left ++ Exists x ∷ right) + count_by (λ n. n == y) numbers
  uses_exchanged y =
      omega (
        arith,
        count_new y numbers,
        sum_by-append (λ (e : Entry). cond (is_numbered y e) 1 0) left (map (λ n. Exists n) numbers ++ Solved x t ∷ right),
        sum_by-append (λ (e : Entry). cond (is_numbered y e) 1 0) (map (λ n. Exists n) numbers) (Solved x t ∷ right),
        sum_by-append (λ (e : Entry). cond (is_numbered y e) 1 0) left (Exists x ∷ right),
        sum_by-cons (λ (e : Entry). cond (is_numbered y e) 1 0) (Solved x t) right,
        sum_by-cons (λ (e : Entry). cond (is_numbered y e) 1 0) (Exists x) right,
      )

-- what is counted has room
pub used_have_room : (uses : List ℕ) (es : ContextEntries) → ((y : ℕ) → uses_at uses y ≡ count_by (is_numbered y) es) → All (λ e. number_of e < length uses) es
used_have_room uses es counted k d within = elim (cases_lt (number_of (get_or es k d)) (length uses)) [
  | inl h ↦ h
  | inr past ↦ absurd (false≢true (sym (none_counted (is_numbered (number_of (get_or es k d))) es (sym (counted (number_of (get_or es k d))) ∙ get_or_past uses (number_of (get_or es k d)) 0 past))
      ∙ list_any_at (is_numbered (number_of (get_or es k d))) es k d within (eq-eqb (number_of (get_or es k d)) (number_of (get_or es k d)) refl)))
]

module _ (i : Index) (place : ℕ) (numbers ns : List ℕ) (ds : ContextEntries) (h : (es : ContextEntries) × Indexes i es × Exchanges es place numbers ds) (added : (y : ℕ) → uses_at ns y ≡ uses_at i.numbers y + count_by (λ n. n == y) numbers) where
  e : Exchanges h.0 place numbers ds
  e = h.2

  indexed : Indexes i (h.2.left ++ Exists h.2.which ∷ h.2.right)
  indexed = subst (Indexes i) h.2.before h.1

  pub counted_exchanged : (y : ℕ) → uses_at ns y ≡ count_by (is_numbered y) ds
  counted_exchanged y =
      added y ∙ ap (λ (n : ℕ). n + count_by (λ n. n == y) numbers) (indexed.uses y) ∙ sym (uses_exchanged h.2.which h.2.with numbers h.2.left h.2.right y) ∙ ap (count_by (is_numbered y)) (sym h.2.after)

  noted_by : (test : ℕ → Entry → Bool) → ((y : ℕ) → test y (Exists h.2.which) ≡ test y (Solved h.2.which h.2.with)) → (places : List (Option ℕ)) → AreNoted test places (h.2.left ++ Exists h.2.which ∷ h.2.right) → AreNotedBelow test place places ds
  noted_by test same places noted =
      subst (λ (n : ℕ). AreNotedBelow test n places ds) (sym h.2.at) (subst (AreNotedBelow test (length h.2.left) places) (sym h.2.after) (noted_in_front h.2.which h.2.with numbers h.2.left h.2.right test same places noted))

  pub variables_exchanged : AreNotedBelow is_variable place i.variables ds
  variables_exchanged = noted_by is_variable (λ y. refl) i.variables indexed.variables

  pub binders_exchanged : AreNotedBelow is_binder place i.binders ds
  binders_exchanged = noted_by is_binder (λ y. refl) i.binders indexed.binders

  pub rooms_exchanged : length ns ≡ length i.numbers → (length ns ≤ length i.variables) × (length ns ≤ length i.binders)
  rooms_exchanged same = (omega (arith, indexed.room_for_variables), omega (arith, indexed.room_for_binders))
