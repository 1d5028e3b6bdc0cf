-- What the pass that holds all others knows at the end.
use Rattle.std.proofs.Common.{◌≡◌, ◌≢◌, ◌⊎◌, ℕ, zero, suc, ◌+◌, ◌<◌, ◌≤◌, Bool, true, false, true≢false, eqb, ltb, leb, ◌&&◌, List, [], ◌∷◌, length, Option, Some, None, MatchOption, slice_get, sym, refl, ap, ◌∙◌, subst, inl, inr, ⊎_elim, arith, eq-eqb}
use Rattle.std.proofs.lemmas.Bool.Decides.{leb_tells, eqb_tells}
use mathlib.Core.Logic.{dite}
use mathlib.Core.Option.{some, some-injective}
use mathlib.Core.Option.{Option as Maybe}
use native.Mathlib.Decide.{dec_le, ℕ_discrete}
use lib.ListN.{get_elem?}
use Rattle.atomic_table.specs.Table.{State, Final, Seen}
use Rattle.uc_turnstile.specs.declared.view.TurnRow.{TurnRow}
use Rattle.uc_turnstile.specs.declared.view.PassRecord.{PassRecord}
use Rattle.uc_turnstile.specs.declared.view.Stage.{Stage}
use Rattle.uc_turnstile.specs.declared.view.Stage.TheVariants.{Idle, Drawn, Served, Spent}
use Rattle.uc_turnstile.specs.declared.view.SeatView.{SeatView}
use Rattle.uc_turnstile.specs.Lists.{bit, total, Each}
use Rattle.uc_turnstile.specs.Passes.{name_count, entries_if, entries_of_row, entries_of_pass, entries_at, IsInPlace, AllInPlace, HasPass, place_count, IsComplete, HoldsAllPasses}
use Rattle.uc_turnstile.specs.Rule.{split_count, is_served, is_spent, records_of, names_held, splits_held, entries_held, IsHome, IsOut, Stands, pass_view}
use Rattle.uc_turnstile.proofs.Sums.{total_part, total_two, total_only, prefix_whole}
use Rattle.uc_turnstile.proofs.Counts.{within_next, held_live}

past_least : (a b c : Bool) → bit (a && (b && c)) ≤ bit (a && b)
past_least true true true = omega arith
past_least true true false = omega arith
past_least true false c = omega arith
past_least false b c = omega arith

below_or : (i n x : ℕ) → x ≤ bit (ltb i n) → (i < n) ⊎ (x ≡ 0)
below_or i n x le = ⊎_elim (λ (t : (leb (suc i) n ≡ true) × (suc i ≤ n)). inl (let l = t.1 in omega arith)) (λ (t : (leb (suc i) n ≡ false) × (n < suc i)). inr (let e : bit (ltb i n) ≡ 0 = ap bit t.0 in omega arith)) (leb_tells (suc i) n)

bit_most : (b : Bool) → bit b ≤ 1
bit_most true = omega arith
bit_most false = omega arith

get_inside : {A : Type 0} (xs : List A) (k : ℕ) (x : A) → slice_get xs k ≡ Some x → k < length xs
get_inside [] k x e = absurd (cc)
get_inside (y ∷ ys) zero x e = omega arith
get_inside (y ∷ ys) (suc k) x e = omega (arith, get_inside ys k x e)

positive : (x y : ℕ) → 0 < x + y → (0 < x) ⊎ (0 < y)
positive zero y h = inr (omega arith)
positive (suc x) y h = inl (omega arith)

live_served : (st : Stage) → is_served st ≡ true → is_spent st ≡ false
live_served (Served t f) e = refl
live_served Idle e = absurd (true≢false (sym e))
live_served Spent e = absurd (true≢false (sym e))
live_served (Drawn t) e = absurd (true≢false (sym e))

module _ {E : Type 0} where
  row_below : (seen : List E) (p place : ℕ) (o : Option E) → MatchOption o (Unit {0}) (λ e. slice_get seen place ≡ Some e) → 0 < entries_if p place o → p < length seen
  row_below seen p place None fit some_made = absurd (omega arith)
  row_below seen p place (Some e) fit some_made = ⊎_elim
      (λ (t : (eqb place p ≡ true) × (place ≡ p)). let l = get_inside seen place e fit in let s = t.1 in omega arith)
      (λ (t : (eqb place p ≡ false) × (place ≢ p)). let z : bit (eqb place p) ≡ 0 = ap bit t.0 in absurd (omega arith))
      (eqb_tells place p)

module _ {E Q R : Type 0} where
  rows_below : (seen : List E) (p : ℕ) (rows : List (TurnRow E Q R)) → Each (IsInPlace seen) rows → 0 < total (entries_of_row p) rows → p < length seen
  rows_below seen p [] fit some_made = absurd (omega arith)
  rows_below seen p (row ∷ rows) fit some_made = ⊎_elim (λ (h : 0 < entries_of_row p row). row_below seen p row.place row.entry fit.0 h) (λ (h : 0 < total (entries_of_row p) rows). rows_below seen p rows fit.1 h) (positive (entries_of_row p row) (total (entries_of_row p) rows) some_made)

  made_below : (seen : List E) (p : ℕ) (accounts : List (PassRecord E Q R)) → AllInPlace seen accounts → 0 < entries_at p accounts → p < length seen
  made_below seen p [] fit some_made = absurd (omega arith)
  made_below seen p (a ∷ rest) fit some_made = ⊎_elim (λ (h : 0 < entries_of_pass p a). rows_below seen p a.turns fit.0 h) (λ (h : 0 < entries_at p rest). made_below seen p rest fit.1 h) (positive (entries_of_pass p a) (entries_at p rest) some_made)

  past_named : (i j : ℕ) (accounts : List (PassRecord E Q R)) → total (split_count i j) accounts ≤ total (name_count i 0) accounts
  past_named i j [] = omega arith
  past_named i j (a ∷ rest) = let h = past_named i j rest in let l = past_least (eqb a.name.number i) (eqb a.name.split 0) (ltb j a.splits) in omega arith

  -- a pass that was split off of one that is there
  past_there : (Q' : ℕ → ℕ → Type 0) (i j : ℕ) (accounts : List (PassRecord E Q R)) → Each (λ (a : PassRecord E Q R). a.name.split ≡ 0 → (m : ℕ) → m < a.splits → Q' a.name.number (m + 1)) accounts → 0 < total (split_count i j) accounts → Q' i (j + 1)
  past_there Q' i j [] h some_past = absurd (omega arith)
  past_there Q' i j (a ∷ rest) h some_past = ⊎_elim
      (λ (p : 0 < split_count i j a). let t = tests a.name.number a.name.split a.splits p in subst (λ (x : ℕ). Q' x (j + 1)) t.0 (h.0 t.1 j t.2))
      (λ (p : 0 < total (split_count i j) rest). past_there Q' i j rest h.1 p)
      (positive (split_count i j a) (total (split_count i j) rest) some_past)
    where
      tests : (x s k : ℕ) → 0 < bit (eqb x i && (eqb s 0 && ltb j k)) → (x ≡ i) × (s ≡ 0) × (j < k)
      tests x s k h = ⊎_elim (λ (t : (eqb x i ≡ true) × (x ≡ i)). ⊎_elim (λ (u : (eqb s 0 ≡ true) × (s ≡ 0)). ⊎_elim (λ (w : (leb (suc j) k ≡ true) × (suc j ≤ k)). (t.1, u.1, let l = w.1 in omega arith))
          (λ (w : (leb (suc j) k ≡ false) × (k < suc j)). absurd (let z : bit (eqb x i && (eqb s 0 && ltb j k)) ≡ 0 = (λ i'. bit (t.0 i' && (u.0 i' && w.0 i'))) in omega arith)) (leb_tells (suc j) k))
          (λ (u : (eqb s 0 ≡ false) × (s ≢ 0)). absurd (let z : bit (eqb x i && (eqb s 0 && ltb j k)) ≡ 0 = (λ i'. bit (t.0 i' && (u.0 i' && ltb j k))) in omega arith)) (eqb_tells s 0))
          (λ (t : (eqb x i ≡ false) × (x ≢ i)). absurd (let z : bit (eqb x i && (eqb s 0 && ltb j k)) ≡ 0 = (λ i'. bit (t.0 i' && (eqb s 0 && ltb j k))) in omega arith)) (eqb_tells x i)

  none_there : (accounts : List (PassRecord E Q R)) → ((i j : ℕ) → total (name_count i j) accounts ≡ 0) → accounts ≡ []
  none_there [] h = refl
  none_there (a ∷ rest) h = let z = h a.name.number a.name.split in
      let one : name_count a.name.number a.name.split a ≡ 1 = (λ i. bit (eq-eqb a.name.number a.name.number refl i && eq-eqb a.name.split a.name.split refl i)) in absurd (omega arith)

  holds_some : (v : SeatView E Q R) → is_spent v.stage ≡ false → records_of v ≡ [] → ⊥
  holds_some v live none_held = let l : length (v.own ∷ v.met) ≡ 0 = ap length (sym (held_live v live) ∙ none_held) in omega arith

module _ {T E : Type 0} (Q R : Type 0) (entries : T → List E) (n : ℕ) (opening : List E) (s : State (Option T) (SeatView E Q R)) (r : Stands entries n opening s) (id : ℕ) (v : SeatView E Q R)
    (at : get_elem? s.views id ≡ some v) (idle : v.stage ≡ Idle) (all : HoldsAllPasses n (pass_view v)) where
  abbrev V : Type 0
  V = SeatView E Q R

  live : is_spent v.stage ≡ false
  live = ap is_spent idle

  was : records_of v ≡ v.own ∷ v.met
  was = held_live v live

  first_alone : (i j : ℕ) (u : V) → j ≢ id → get_elem? s.views j ≡ some u → names_held i 0 u ≡ 0
  first_alone i j u apart there =
      let most = r.counted.firsts i in
      let two = total_two (names_held i 0) s.views id j v u apart at there in
      ⊎_elim (λ (l : i < n). let has : 0 < total (name_count i 0) (v.own ∷ v.met) = all.0 i l in let e : names_held i 0 v ≡ total (name_count i 0) (v.own ∷ v.met) = ap (total (name_count i 0)) was in let m = bit_most (ltb i n) in omega arith)
      (λ (z : total (names_held i 0) s.views ≡ 0). omega arith)
      (below_or i n (total (names_held i 0) s.views) most)

  past_alone : (i k j : ℕ) (u : V) → j ≢ id → get_elem? s.views j ≡ some u → splits_held i k u ≡ 0
  past_alone i k j u apart there = let a = first_alone i j u apart there in let b = past_named i k (records_of u) in omega arith

  past_has : (i k : ℕ) → splits_held i k v ≤ names_held i (k + 1) v
  past_has i k =
      let e : splits_held i k v ≡ total (split_count i k) (v.own ∷ v.met) = ap (total (split_count i k)) was in
      let f : names_held i (k + 1) v ≡ total (name_count i (k + 1)) (v.own ∷ v.met) = ap (total (name_count i (k + 1))) was in
      let most = r.counted.firsts i in
      let part = total_part (names_held i 0) s.views id v at in
      let le = past_named i k (records_of v) in
      let m = bit_most (ltb i n) in
      dite (ℕ_discrete (splits_held i k v) 0) (λ z. omega arith)
      (λ some_past. let has : 0 < total (name_count i (k + 1)) (v.own ∷ v.met) = past_there (HasPass (v.own ∷ v.met)) i k (v.own ∷ v.met) all.1 (omega arith) in omega arith)

  part_alone : (i k j : ℕ) (u : V) → j ≢ id → get_elem? s.views j ≡ some u → names_held i (k + 1) u ≡ 0
  part_alone i k j u apart there =
      let balance = r.counted.splits i k in
      let only = total_only (splits_held i k) s.views id v at (past_alone i k) in
      let has = past_has i k in
      let two = total_two (names_held i (k + 1)) s.views id j v u apart at there in omega arith

  alone : (j : ℕ) (u : V) → j ≢ id → get_elem? s.views j ≡ some u → records_of u ≡ []
  alone j u apart there = none_there (records_of u) each
    where
      each : (i k : ℕ) → names_held i k u ≡ 0
      each i zero = first_alone i j u apart there
      each i (suc k) = subst (λ (m : ℕ). names_held i m u ≡ 0) (omega arith) (part_alone i k j u apart there)

  makes_only : (p : ℕ) → total (entries_held p) s.views ≡ entries_at p (v.own ∷ v.met)
  makes_only p = total_only (entries_held p) s.views id v at (λ j u apart there. ap (entries_at p) (alone j u apart there)) ∙ ap (entries_at p) was

  sees_all : v.seen ≡ r.log
  sees_all =
      let k = r.each_seat id v at in
      let o = k.opened live in
      prefix_whole v.seen r.log k.seen (dite (dec_le (length r.log) (length v.seen)) (λ le. le)
      (λ (not : ¬ (length r.log ≤ length v.seen)).
      let lt : length v.seen < length r.log = omega arith in
      let a = r.counted.places (length v.seen) in
      let b = makes_only (length v.seen) in
      let c = within_next (length opening) (length r.log) (length v.seen) o lt in
      let below : length v.seen < length v.seen = made_below v.seen (length v.seen) (v.own ∷ v.met) (subst (AllInPlace v.seen) was k.in_place) (omega arith) in absurd (omega arith)))

  is_home : IsHome entries r.log s
  is_home = ⊎_elim (λ (h : IsHome entries r.log s). h)
      (λ (o : IsOut entries s). let out = o.1 in absurd (dite (ℕ_discrete out.0 id)
      (λ same. true≢false (sym out.3 ∙ (ap (λ (u : V). is_served u.stage) (some-injective _ _ (sym out.2 ∙ (ap (get_elem? s.views) same ∙ at))) ∙ ap is_served idle)))
      (λ apart. holds_some out.1 (live_served out.1.stage out.3) (alone out.0 out.1 apart out.2))))
      r.slot

  complete : IsComplete opening (pass_view v)
  complete = record {
    places = λ p. sym (makes_only p) ∙ r.counted.places p ∙ ap (λ (l : List E). place_count (length opening) (length l) p) (sym sees_all);
    in_place = subst (AllInPlace v.seen) was (r.each_seat id v at).in_place;
  }

-- the state that comes out
pub closes : {T E : Type 0} (Q R : Type 0) (entries : T → List E) (n : ℕ) (opening : List E) (id : ℕ) (v : SeatView E Q R) (ws : List ℕ) (xs : List (Option T)) → v.stage ≡ Idle → HoldsAllPasses n (pass_view v)
    → Final (Seen (Stands entries n opening) id v) ws xs → IsComplete opening (pass_view v) × ((x : T) × (get_elem? xs 0 ≡ some (Some x)) × (entries x ≡ v.seen))
closes Q R entries n opening id v ws xs idle all final =
    let s = final.0 in
    let r = final.1.0 in
    let at = final.1.1 in
    let home = is_home Q R entries n opening s r id v at idle all in
    (complete Q R entries n opening s r id v at idle all, (home.0, final.4 0 (Some home.0) (ap (λ (hs : List _). get_elem? hs 0) home.1), home.2 ∙ sym (sees_all Q R entries n opening s r id v at idle all)))

-- what was taken out of the slot
pub taken_is : {K : Type 0} (found : Maybe (Option K)) (x : K) (o : Option K) → found ≡ some (Some x) → found ≡ some o → o ≡ Some x
taken_is found x o e f = some-injective _ _ (sym f ∙ e)
