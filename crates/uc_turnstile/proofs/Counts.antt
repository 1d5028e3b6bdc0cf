-- What the seats hold, counted.
use Rattle.std.proofs.Common.{◌≡◌, ◌⊎◌, ℕ, zero, suc, ◌+◌, ◌<◌, ◌≤◌, false, cond, ◌&&◌, eqb, ltb, List, [], ◌∷◌, ◌++◌, length, set, Option, Some, None, MatchOption, slice_get, sym, refl, ap, ◌∙◌, inl, inr, ⊎_elim, arith, length-append}
use Rattle.std.proofs.lemmas.Bool.Decides.{nat_tests}
use mathlib.Core.List.{IsPrefix}
use mathlib.Core.Option.{some}
use lib.ListN.{get_elem?}
use Rattle.uc_turnstile.specs.declared.view.TurnRow.{TurnRow}
use Rattle.uc_turnstile.specs.declared.view.PassRecord.{PassRecord}
use Rattle.uc_turnstile.specs.declared.view.SeatView.{SeatView}
use Rattle.uc_base.specs.Worked.{Extends}
use Rattle.uc_turnstile.specs.Lists.{bit, total, Each, first_or, rest_of}
use Rattle.uc_turnstile.specs.Passes.{name_count, entries_if, entries_of_row, entries_of_pass, entries_at, IsInPlace, AllInPlace, place_count}
use Rattle.uc_turnstile.specs.Rule.{new_records, split_count, turn_count, is_spent, records_of, names_held, splits_held, entries_held, turns_held, IsCounted, record_with}
use Rattle.uc_turnstile.proofs.Sums.{total_set, total_snoc, total_same, total-append, each_map, each-append, prefix_get, get_end}

-- two sides that differ by one place
pub within_more : (o l p : ℕ) → o ≤ l → place_count o (l + 1) p ≡ place_count o l p + bit (eqb l p)
within_more o l p le = grind (arith, nat_tests)

pub within_none : (o p : ℕ) → place_count o o p ≡ 0
within_none o p = grind (arith, nat_tests)

pub within_most : (o l p : ℕ) → place_count o l p ≤ 1
within_most o l p = grind (arith, nat_tests)

pub within_next : (o l k : ℕ) → o ≤ k → k < l → place_count o l k ≡ 1
within_next o l k a b = grind (arith, nat_tests)

pub past_more : (x i s k j : ℕ) → s ≡ 0 → bit (eqb x i && (eqb s 0 && ltb j (k + 1))) ≡ bit (eqb x i && (eqb s 0 && ltb j k)) + bit (eqb x i && eqb (k + 1) (j + 1))
past_more x i s k j zero_split = grind (arith, nat_tests)

pub not_first : (x i k : ℕ) → bit (eqb x i && eqb (k + 1) 0) ≡ 0
not_first x i k = grind (arith, nat_tests)

pub not_split : (x i k j m : ℕ) → bit (eqb x i && (eqb (k + 1) 0 && ltb j m)) ≡ 0
not_split x i k j m = grind (arith, nat_tests)

pub get_past : {E : Type 0} (xs : List E) → slice_get xs (length xs) ≡ None
get_past [] = refl
get_past (x ∷ xs) = get_past xs

module _ {E : Type 0} where
  -- a turn is made
  made_there : (p : ℕ) (seen now : List E) → Extends seen now → (entries_if p (length seen) (slice_get now (length seen)) + place_count 0 0 0 ≡ bit (eqb (length seen) p)) × (length now ≡ length seen + 1) ⊎ ((entries_if p (length seen) (slice_get now (length seen)) ≡ 0) × (length now ≡ length seen))
  made_there p seen now more = ⊎_elim
      (λ (e : now ≡ seen). inr (ap (entries_if p (length seen)) (ap (λ (l : List E). slice_get l (length seen)) e ∙ get_past seen), ap length e))
      (λ (e : (x : E) × (now ≡ seen ++ x ∷ [])). inl (
        let a : entries_if p (length seen) (slice_get now (length seen)) ≡ bit (eqb (length seen) p) = ap (entries_if p (length seen)) (ap (λ (l : List E). slice_get l (length seen)) e.1 ∙ get_end seen e.0) in
            let z = within_none 0 0 in omega arith,
        ap length e.1 ∙ length-append seen (e.0 ∷ []),
      ))
      more

  pub places_after : (o l p t t' : ℕ) (seen now : List E) → o ≤ l → length seen ≡ l → Extends seen now → t ≡ place_count o l p → t' ≡ t + entries_if p (length seen) (slice_get now (length seen)) → t' ≡ place_count o (length now) p
  places_after o l p t t' seen now le len more was is = ⊎_elim
      (λ (e : (entries_if p (length seen) (slice_get now (length seen)) + place_count 0 0 0 ≡ bit (eqb (length seen) p)) × (length now ≡ length seen + 1)).
      let z = within_none 0 0 in let a = e.0 in let len' : length now ≡ l + 1 = e.1 ∙ ap (λ (k : ℕ). k + 1) len in
      let b = within_more o l p le in let d : bit (eqb (length seen) p) ≡ bit (eqb l p) = ap (λ (k : ℕ). bit (eqb k p)) len in
      let g : t' ≡ place_count o (l + 1) p = omega arith in g ∙ ap (λ (k : ℕ). place_count o k p) (sym len'))
      (λ (e : (entries_if p (length seen) (slice_get now (length seen)) ≡ 0) × (length now ≡ length seen)).
      let a = e.0 in let g : t' ≡ place_count o l p = omega arith in g ∙ ap (λ (k : ℕ). place_count o k p) (sym (e.1 ∙ len)))
      (made_there p seen now more)

  -- what stands at its place stays there
  fit_by : (o : Option E) (p : ℕ) (seen now : List E) → IsPrefix seen now → MatchOption o (Unit {0}) (λ e. slice_get seen p ≡ Some e) → MatchOption o (Unit {0}) (λ e. slice_get now p ≡ Some e)
  fit_by None p seen now more h = tt
  fit_by (Some e) p seen now more h = prefix_get seen now p e more h

  fit_self : (o g : Option E) → g ≡ o → MatchOption o (Unit {0}) (λ e. g ≡ Some e)
  fit_self None g is = tt
  fit_self (Some e) g is = is

module _ {E Q R : Type 0} where
  pub held_live : (v : SeatView E Q R) → is_spent v.stage ≡ false → records_of v ≡ v.own ∷ v.met
  held_live v live = ap (λ b. cond b [] (v.own ∷ v.met)) live

  -- a seat's view changes, and not what it holds
  pub counted_same : (n t o l : ℕ) (views : List (SeatView E Q R)) (id : ℕ) (v w : SeatView E Q R) → IsCounted n t o l views → get_elem? views id ≡ some v → records_of w ≡ records_of v → IsCounted n t o l (set views id w)
  counted_same n t o l views id v w c at same = record {
    turns = total_same turns_held views id v w at (ap (total turn_count) same) ∙ c.turns;
    firsts = λ i. let a = c.firsts i in let b = total_same (names_held i 0) views id v w at (ap (total (name_count i 0)) same) in omega arith;
    splits = λ i j. let a = c.splits i j in let b = total_same (names_held i (j + 1)) views id v w at (ap (total (name_count i (j + 1))) same) in
        let d = total_same (splits_held i j) views id v w at (ap (total (split_count i j)) same) in omega arith;
    places = λ p. let a = c.places p in let b = total_same (entries_held p) views id v w at (ap (entries_at p) same) in omega arith;
  }

  pub counted_turn : (n t o l : ℕ) (views : List (SeatView E Q R)) (id : ℕ) (v w : SeatView E Q R) (row : TurnRow E Q R) (now : List E) → IsCounted n t o l views → get_elem? views id ≡ some v → is_spent v.stage ≡ false → is_spent w.stage ≡ false
      → w.own ≡ record_with v.own row → w.met ≡ v.met → o ≤ l → length v.seen ≡ l → row.place ≡ length v.seen → row.entry ≡ slice_get now (length v.seen) → Extends v.seen now → IsCounted n (t + 1) o (length now) (set views id w)
  counted_turn n t o l views id v w row now c at live live' own met le len place entry more =
      let was : records_of v ≡ v.own ∷ v.met = held_live v live in
      let is : records_of w ≡ record_with v.own row ∷ v.met = held_live w live' ∙ (λ i. own i ∷ met i) in record {
        turns =
            let a = c.turns in
            let s = total_set turns_held views id v w at in
            let x : turns_held v ≡ turn_count v.own + total turn_count v.met = ap (total turn_count) was in
            let y : turns_held w ≡ turn_count (record_with v.own row) + total turn_count v.met = ap (total turn_count) is in
            let z : turn_count (record_with v.own row) ≡ turn_count v.own + 1 = length-append v.own.turns (row ∷ []) in omega arith;
        firsts = λ i. let a = c.firsts i in let b = total_same (names_held i 0) views id v w at (ap (total (name_count i 0)) is ∙ sym (ap (total (name_count i 0)) was)) in omega arith;
        splits = λ i j. let a = c.splits i j in let b = total_same (names_held i (j + 1)) views id v w at (ap (total (name_count i (j + 1))) is ∙ sym (ap (total (name_count i (j + 1))) was)) in
            let d = total_same (splits_held i j) views id v w at (ap (total (split_count i j)) is ∙ sym (ap (total (split_count i j)) was)) in omega arith;
        places = λ p.
            let s = total_set (entries_held p) views id v w at in
            let x : entries_held p v ≡ entries_of_pass p v.own + entries_at p v.met = ap (entries_at p) was in
            let y : entries_held p w ≡ entries_of_pass p (record_with v.own row) + entries_at p v.met = ap (entries_at p) is in
            let z : entries_of_pass p (record_with v.own row) ≡ entries_of_pass p v.own + entries_of_row p row = total_snoc (entries_of_row p) v.own.turns row in
            let m : entries_of_row p row ≡ entries_if p (length v.seen) (slice_get now (length v.seen)) = (λ i. entries_if p (place i) (entry i)) in
            places_after o l p (total (entries_held p) views) (total (entries_held p) (set views id w)) v.seen now le len more (c.places p) (omega arith);
      }

  -- a seat's passes are shared out
  pub counted_split : (n t o l : ℕ) (views : List (SeatView E Q R)) (id : ℕ) (v left right : SeatView E Q R) → IsCounted n t o l views → get_elem? views id ≡ some v
      → ((i : ℕ) → names_held i 0 left + names_held i 0 right ≡ names_held i 0 v)
      → ((i j : ℕ) → (names_held i (j + 1) left + names_held i (j + 1) right) + splits_held i j v ≡ names_held i (j + 1) v + (splits_held i j left + splits_held i j right))
      → ((p : ℕ) → entries_held p left + entries_held p right ≡ entries_held p v) → turns_held left + turns_held right ≡ turns_held v → IsCounted n t o l (set views id left ++ right ∷ [])
  counted_split n t o l views id v left right c at a b d e = record {
    turns = let x = c.turns in let s = total_set turns_held views id v left at in let r = total_snoc turns_held (set views id left) right in omega arith;
    firsts = λ i. let x = c.firsts i in let y = a i in let s = total_set (names_held i 0) views id v left at in let t = total_snoc (names_held i 0) (set views id left) right in omega arith;
    splits = λ i j. let x = c.splits i j in let y = b i j in let s = total_set (names_held i (j + 1)) views id v left at in let t = total_snoc (names_held i (j + 1)) (set views id left) right in
        let s' = total_set (splits_held i j) views id v left at in let t' = total_snoc (splits_held i j) (set views id left) right in omega arith;
    places = λ p. let x = c.places p in let y = d p in let s = total_set (entries_held p) views id v left at in let t = total_snoc (entries_held p) (set views id left) right in omega arith;
  }

  -- two seats' passes come together
  pub counted_join : (n t o l : ℕ) (views : List (SeatView E Q R)) (id other : ℕ) (v w both spent : SeatView E Q R) → IsCounted n t o l views → get_elem? views id ≡ some v → get_elem? (set views id both) other ≡ some w → records_of spent ≡ []
      → is_spent v.stage ≡ false → is_spent w.stage ≡ false → records_of both ≡ records_of v ++ records_of w → IsCounted n t o l (set (set views id both) other spent)
  counted_join n t o l views id other v w both spent c at there none_held live live' all = record {
    turns = sums turn_count ∙ c.turns;
    firsts = λ i. let x = c.firsts i in let y = sums (name_count i 0) in omega arith;
    splits = λ i j. let x = c.splits i j in let y = sums (name_count i (j + 1)) in let z = sums (split_count i j) in omega arith;
    places = λ p. let x = c.places p in let y = sums (entries_of_pass p) in omega arith;
  }
    where
      sums : (f : PassRecord E Q R → ℕ) → total (λ u. total f (records_of u)) (set (set views id both) other spent) ≡ total (λ u. total f (records_of u)) views
      sums f =
          let s = total_set (λ (u : SeatView E Q R). total f (records_of u)) views id v both at in
          let t = total_set (λ (u : SeatView E Q R). total f (records_of u)) (set views id both) other w spent there in
          let z : total f (records_of spent) ≡ 0 = ap (total f) none_held in
          let b : total f (records_of both) ≡ total f (records_of v) + total f (records_of w) = ap (total f) all ∙ total-append f (records_of v) (records_of w) in
          omega arith

  -- the accounts that are still to be dealt
  pub deal_total : (f : PassRecord E Q R → ℕ) (own : PassRecord E Q R) (met : List (PassRecord E Q R)) → 0 < length met → total f (first_or own met ∷ rest_of met) + total f (own ∷ []) ≡ total f (own ∷ met)
  deal_total f own [] some_met = absurd (omega arith)
  deal_total f own (a ∷ rest) some_met = omega arith

  pub deal_fits : (seen : List E) (own : PassRecord E Q R) (met : List (PassRecord E Q R)) → 0 < length met → AllInPlace seen (own ∷ met) → AllInPlace seen (first_or own met ∷ rest_of met)
  deal_fits seen own [] some_met h = absurd (omega arith)
  deal_fits seen own (a ∷ rest) some_met h = h.1

  pub fit_more : (seen now : List E) → IsPrefix seen now → (accounts : List (PassRecord E Q R)) → AllInPlace seen accounts → AllInPlace now accounts
  fit_more seen now more accounts h =
      each_map (λ (a : PassRecord E Q R). Each (IsInPlace seen) a.turns) (λ (a : PassRecord E Q R). Each (IsInPlace now) a.turns) (λ a. each_map (IsInPlace seen) (IsInPlace now) (λ row. fit_by row.entry row.place seen now more) a.turns) accounts h

  pub fit_turn : (seen now : List E) (own : PassRecord E Q R) (met : List (PassRecord E Q R)) (row : TurnRow E Q R) → IsPrefix seen now → row.entry ≡ slice_get now row.place → AllInPlace seen (own ∷ met) → AllInPlace now (record_with own row ∷ met)
  fit_turn seen now own met row more entry h = let k = fit_more seen now more (own ∷ met) h in (each-append (IsInPlace now) own.turns (row ∷ []) k.0 (fit_self row.entry (slice_get now row.place) (sym entry), tt), k.1)

module _ (E Q R : Type 0) where
  -- before the first turn
  pub roots_named : (i a k : ℕ) → total (name_count {E = E} {Q = Q} {R = R} i 0) (new_records a k) ≡ place_count a (a + k) i
  roots_named i a zero = let z = within_none a i in let e : place_count a (a + 0) i ≡ place_count a a i = ap (λ (m : ℕ). place_count a m i) (omega arith) in omega arith
  roots_named i a (suc k) = let h = roots_named i (suc a) k in
      let e : place_count (suc a) (suc a + k) i ≡ place_count (suc a) (a + suc k) i = ap (λ (m : ℕ). place_count (suc a) m i) (omega arith) in
      let s : bit (eqb a i && eqb 0 0) + place_count (suc a) (a + suc k) i ≡ place_count a (a + suc k) i = from_first i a (a + suc k) (omega arith) in omega arith
    where
      from_first : (i a l : ℕ) → a < l → bit (eqb a i && eqb 0 0) + place_count (suc a) l i ≡ place_count a l i
      from_first i a l lt = grind (arith, nat_tests)

  pub roots_split : (i j a k : ℕ) → total (name_count {E = E} {Q = Q} {R = R} i (j + 1)) (new_records a k) ≡ 0
  roots_split i j a zero = refl
  roots_split i j a (suc k) = let h = roots_split i j (suc a) k in let s : bit (eqb a i && eqb 0 (j + 1)) ≡ 0 = not_zero in omega arith
    where
      not_zero : bit (eqb a i && eqb 0 (j + 1)) ≡ 0
      not_zero = grind (arith, nat_tests)

  pub roots_past : (i j a k : ℕ) → total (split_count {E = E} {Q = Q} {R = R} i j) (new_records a k) ≡ 0
  roots_past i j a zero = refl
  roots_past i j a (suc k) = let h = roots_past i j (suc a) k in let s : bit (eqb a i && (eqb 0 0 && ltb j 0)) ≡ 0 = not_below in omega arith
    where
      not_below : bit (eqb a i && (eqb 0 0 && ltb j 0)) ≡ 0
      not_below = grind (arith, nat_tests)

  pub roots_make : (p a k : ℕ) → entries_at {E = E} {Q = Q} {R = R} p (new_records a k) ≡ 0
  roots_make p a zero = refl
  roots_make p a (suc k) = omega (arith, roots_make p (suc a) k)

  pub roots_turns : (a k : ℕ) → total (turn_count {E = E} {Q = Q} {R = R}) (new_records a k) ≡ 0
  roots_turns a zero = refl
  roots_turns a (suc k) = omega (arith, roots_turns (suc a) k)

  pub roots_fit : (seen : List E) (a k : ℕ) → AllInPlace {E = E} {Q = Q} {R = R} seen (new_records a k)
  roots_fit seen a zero = tt
  roots_fit seen a (suc k) = (tt, roots_fit seen (suc a) k)
