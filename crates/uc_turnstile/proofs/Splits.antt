-- The steps by which passes come and go keep the rule.
use Rattle.std.proofs.Common.{◌≡◌, ◌⊎◌, ℕ, ◌+◌, ◌*◌, ◌^◌, ◌<◌, ◌≤◌, false, List, [], ◌∷◌, ◌++◌, length, get_or, set, Option, sym, refl, ap, ◌∙◌, subst, inl, inr, ⊎_elim, arith}
use mathlib.Core.List.{IsPrefix}
use mathlib.Core.Option.{none, some}
use lib.ListN.{get_elem?}
use Rattle.atomic_table.specs.Table.{State, Me, keeps, step, Allows, Splits, Joins}
use Rattle.atomic_table.proofs.Lists.{at_snoc, at_longer, set_else, set_again}
use Rattle.uc_turnstile.specs.declared.view.PassRecord.{PassRecord}
use Rattle.uc_turnstile.specs.declared.view.Stage.TheVariants.{Idle}
use Rattle.uc_turnstile.specs.declared.view.SeatView.{SeatView}
use Rattle.uc_turnstile.specs.Lists.{total}
use Rattle.uc_turnstile.specs.Passes.{name_count, entries_of_pass, entries_at, AllInPlace, Meets}
use Rattle.uc_turnstile.specs.Rule.{split_count, turn_count, is_served, is_spent, records_of, room_of, entries_held, KnowsTicket, Knows, IsHome, IsOut, Stands, split_left, split_right, deal_left, deal_right, view_joined, spent_view, Tells, pass_view}
use Rattle.uc_turnstile.proofs.Sums.{total_set, total_snoc, total_part, total-append, each-append, prefix_length, longer_of, shorter_begins, met_sees, is_longer}
use Rattle.uc_turnstile.proofs.Counts.{past_more, not_first, not_split, within_most, held_live, counted_split, counted_join, deal_total, deal_fits, fit_more}
use Rattle.uc_turnstile.proofs.Keeps.{off, seats_stay, slot_stays, reads}

module _ {T E : Type 0} (Q R : Type 0) (entries : T → List E) (passes_made : ℕ) (opening : List E) where
  abbrev V : Type 0
  V = SeatView E Q R

  abbrev K : Type 0
  K = T

  abbrev St : Type 0
  St = State (Option K) V

  abbrev M : Type 0
  M = Me (Option K) V

  abbrev Rule : St → Type 0
  Rule = Stands entries passes_made opening

  abbrev tickets : St → ℕ
  tickets s = get_or s.words 0 0

  abbrev serving : St → ℕ
  serving s = get_or s.words 1 0

  slot_longer : (words : List ℕ) (views : List V) (homes_log : List E) (s : St) (w : V) → IsHome entries homes_log record { words = words; homes = s.homes; views = views } ⊎ IsOut entries record { words = words; homes = s.homes; views = views }
      → IsHome entries homes_log record { words = words; homes = s.homes; views = views ++ w ∷ [] } ⊎ IsOut entries record { words = words; homes = s.homes; views = views ++ w ∷ [] }
  slot_longer words views log s w slot = ⊎_elim (λ (h : IsHome entries log record { words = words; homes = s.homes; views = views }). inl h)
      (λ (o : IsOut entries record { words = words; homes = s.homes; views = views }). let out = o.1 in inr (o.0, (out.0, out.1, at_longer views (w ∷ []) out.0 out.1 out.2, out.3))) slot

  -- a seat's passes are shared with a new seat
  shares_out : (id : ℕ) (v left right : V) → v.stage ≡ Idle → left.stage ≡ Idle → right.stage ≡ Idle → left.seen ≡ v.seen → left.beside ≡ v.beside → right.seen ≡ v.seen → right.beside ≡ [] → left.room + right.room ≤ v.room
      → (AllInPlace v.seen (v.own ∷ v.met) → AllInPlace v.seen (left.own ∷ left.met)) → (AllInPlace v.seen (v.own ∷ v.met) → AllInPlace v.seen (right.own ∷ right.met))
      → ((i : ℕ) → total (name_count i 0) (left.own ∷ left.met) + total (name_count i 0) (right.own ∷ right.met) ≡ total (name_count i 0) (v.own ∷ v.met))
      → ((i j : ℕ) → (total (name_count i (j + 1)) (left.own ∷ left.met) + total (name_count i (j + 1)) (right.own ∷ right.met)) + total (split_count i j) (v.own ∷ v.met) ≡ total (name_count i (j + 1)) (v.own ∷ v.met) + (total (split_count i j) (left.own ∷ left.met) + total (split_count i j) (right.own ∷ right.met)))
      → ((p : ℕ) → entries_at p (left.own ∷ left.met) + entries_at p (right.own ∷ right.met) ≡ entries_at p (v.own ∷ v.met)) → total turn_count (left.own ∷ left.met) + total turn_count (right.own ∷ right.met) ≡ total turn_count (v.own ∷ v.met) → Splits Rule id v left right
  shares_out id v left right idle idle_left idle_right seen_left beside_left seen_right beside_right rooms fits_left fits_right a b d e s r at =
      let k = r.each_seat id v at in
      let live : is_spent v.stage ≡ false = ap is_spent idle in
      let live_left : is_spent left.stage ≡ false = ap is_spent idle_left in
      let live_right : is_spent right.stage ≡ false = ap is_spent idle_right in
      let was : records_of v ≡ v.own ∷ v.met = held_live v live in
      let at_left : records_of left ≡ left.own ∷ left.met = held_live left live_left in
      let at_right : records_of right ≡ right.own ∷ right.met = held_live right live_right in
      let fits = subst (AllInPlace v.seen) was k.in_place in
      let bounded = r.bounded in
      let set_sum = total_set room_of s.views id v left at in
      let sum = total_snoc room_of (set s.views id left) right in
      let Each_knows : ℕ → V → Type 0 = Knows (tickets s) (serving s) opening r.log r.holder in
      let knows_left : Each_knows id left = record {
        seen = subst (λ (l : List E). IsPrefix l r.log) (sym seen_left) k.seen;
        ticket = subst (KnowsTicket (tickets s) (serving s) r.log r.holder id left.seen) (sym idle_left) tt;
        beside = subst (λ (z : List E × List E). IsPrefix z.0 z.1) (λ i. (sym beside_left i, sym seen_left i)) k.beside;
        opened = λ _. subst (λ (l : List E). length opening ≤ length l) (sym seen_left) (k.opened live);
        in_place = subst (λ (z : List E × List (PassRecord E Q R)). AllInPlace z.0 z.1) (λ i. (sym seen_left i, sym at_left i)) (fits_left fits);
      } in
      let knows_right : (j : ℕ) → Each_knows j right = λ j. record {
        seen = subst (λ (l : List E). IsPrefix l r.log) (sym seen_right) k.seen;
        ticket = subst (KnowsTicket (tickets s) (serving s) r.log r.holder j right.seen) (sym idle_right) tt;
        beside = subst (λ (l : List E). IsPrefix l right.seen) (sym beside_right) (right.seen, refl);
        opened = λ _. subst (λ (l : List E). length opening ≤ length l) (sym seen_right) (k.opened live);
        in_place = subst (λ (z : List E × List (PassRecord E Q R)). AllInPlace z.0 z.1) (λ i. (sym seen_right i, sym at_right i)) (fits_right fits);
      } in
      record {
        log = r.log;
        holder = r.holder;
        wide = r.wide;
        behind = r.behind;
        bounded = omega arith;
        opened = r.opened;
        slot = slot_longer s.words (set s.views id left) r.log s right (slot_stays Q R entries passes_made opening s r.log s.words id v left at (ap is_served idle) r.slot);
        each_seat = λ j u there. ⊎_elim (seats_stay Each_knows s.views id left knows_left (λ i x _. r.each_seat i x) j u) (λ (t : right ≡ u). subst (Each_knows j) t (knows_right j)) (at_snoc (set s.views id left) right u j there);
        counted = counted_split passes_made (serving s) (length opening) (length r.log) s.views id v left right r.counted at
            (λ i. (λ k. total (name_count i 0) (at_left k) + total (name_count i 0) (at_right k)) ∙ a i ∙ ap (total (name_count i 0)) (sym was))
            (λ i j. (λ k. (total (name_count i (j + 1)) (at_left k) + total (name_count i (j + 1)) (at_right k)) + total (split_count i j) (was k)) ∙ b i j ∙ (λ k. total (name_count i (j + 1)) (sym was k) + (total (split_count i j) (sym at_left k) + total (split_count i j) (sym at_right k))))
            (λ p. (λ k. entries_at p (at_left k) + entries_at p (at_right k)) ∙ d p ∙ ap (entries_at p) (sym was))
            ((λ k. total turn_count (at_left k) + total turn_count (at_right k)) ∙ e ∙ ap (total turn_count) (sym was));
      }

  pub splits_keep : (id : ℕ) (v : V) → v.stage ≡ Idle → v.own.name.split ≡ 0 → 2 ^ 40 ≤ v.room → Splits Rule id v (split_left v) (split_right v)
  splits_keep id v idle first some_room =
      shares_out id v (split_left v) (split_right v) idle idle refl refl refl refl refl (omega arith) (λ h. h) (λ h. (tt, tt))
      (λ i. let n = not_first v.own.name.number i v.own.splits in omega arith)
      (λ i j. let n = past_more v.own.name.number i v.own.name.split v.own.splits j first in let m = not_split v.own.name.number i v.own.splits j 0 in omega arith)
      (λ p. omega arith) (omega arith)

  pub deals_keep : (id : ℕ) (v : V) → v.stage ≡ Idle → 0 < length v.met → 16 * 2 ^ 40 ≤ v.room → Splits Rule id v (deal_left v) (deal_right v)
  deals_keep id v idle some_met some_room =
      shares_out id v (deal_left v) (deal_right v) idle idle refl refl refl refl refl (omega arith) (deal_fits v.seen v.own v.met some_met) (λ h. (h.0, tt))
      (λ i. deal_total (name_count i 0) v.own v.met some_met)
      (λ i j. let x = deal_total (name_count i (j + 1)) v.own v.met some_met in let y = deal_total (split_count i j) v.own v.met some_met in omega arith)
      (λ p. deal_total (entries_of_pass p) v.own v.met some_met) (deal_total turn_count v.own v.met some_met)

  pub joins_keep : (id : ℕ) (v : V) (other : ℕ) (w : V) → v.stage ≡ Idle → w.stage ≡ Idle → Joins Rule id v other w (view_joined v w) spent_view
  joins_keep id v other w idle idle' s r at apart there =
      let both : V = view_joined v w in
      let views : List V = set s.views id both in
      let at_other : get_elem? s.views other ≡ some w = sym (set_else s.views id other both apart) ∙ there in
      let k = r.each_seat id v at in
      let k' = r.each_seat other w at_other in
      let live : is_spent v.stage ≡ false = ap is_spent idle in
      let live' : is_spent w.stage ≡ false = ap is_spent idle' in
      let was : records_of v ≡ v.own ∷ v.met = held_live v live in
      let was' : records_of w ≡ w.own ∷ w.met = held_live w live' in
      let is : records_of both ≡ v.own ∷ (v.met ++ (w.own ∷ w.met)) = held_live both live in
      let sees = met_sees v.seen w.seen (shorter_begins v.seen w.seen r.log k.seen k'.seen) in
      let bounded = r.bounded in
      let sum = total_set room_of s.views id v both at in
      let sum' = total_set room_of views other w spent_view there in
      let fits = fit_more v.seen both.seen sees.1 (v.own ∷ v.met) (subst (AllInPlace v.seen) was k.in_place) in
      let fits' = fit_more w.seen both.seen sees.2 (w.own ∷ w.met) (subst (AllInPlace w.seen) was' k'.in_place) in
      let Each_knows : ℕ → V → Type 0 = Knows (tickets s) (serving s) opening r.log r.holder in
      let knows_both : Each_knows id both = record {
        seen = longer_of (λ (l : List E). IsPrefix l r.log) v.seen w.seen k.seen k'.seen;
        ticket = subst (KnowsTicket (tickets s) (serving s) r.log r.holder id both.seen) (sym idle) tt;
        beside = shorter_begins v.seen w.seen r.log k.seen k'.seen;
        opened = λ _. let a = k.opened live in let b = prefix_length v.seen both.seen sees.1 in omega arith;
        in_place = subst (AllInPlace both.seen) (sym is) (fits.0, each-append _ v.met (w.own ∷ w.met) fits.1 fits');
      } in
      let knows_nobody : Each_knows other spent_view = record { seen = (r.log, refl); ticket = tt; beside = ([], refl); opened = λ e. absurd (off e); in_place = tt } in
      record {
        log = r.log;
        holder = r.holder;
        wide = r.wide;
        behind = r.behind;
        bounded = omega arith;
        opened = r.opened;
        slot = slot_stays Q R entries passes_made opening record { words = s.words; homes = s.homes; views = views } r.log s.words other w spent_view there (ap is_served idle')
            (slot_stays Q R entries passes_made opening s r.log s.words id v both at (ap is_served idle) r.slot);
        each_seat = seats_stay Each_knows views other spent_view knows_nobody (λ j x _. seats_stay Each_knows s.views id both knows_both (λ i y _. r.each_seat i y) j x);
        counted = counted_join passes_made (serving s) (length opening) (length r.log) s.views id other v w both spent_view r.counted at there refl live live' (is ∙ (λ i. sym was i ++ sym was' i));
      }

  pub tells_keep : (slots id : ℕ) (me : M) → me.0.stage ≡ Idle → Allows Rule slots id me 1 (λ n. n) (Tells entries (step slots 1 0 0 none) me)
  tells_keep slots id me idle s r _ at small =
      let k = r.each_seat id me.0 at in (
        me.0,
        keeps,
        tt,
        reads Q R entries passes_made opening s 1 s.homes (set s.views id me.0) (subst (λ (vs : List V). Rule record { words = s.words; homes = s.homes; views = vs }) (sym (set_again s.views id me.0 at)) r),
        (refl, k.beside, λ p. let c = r.counted.places p in let m = within_most (length opening) (length r.log) p in let t = total_part (entries_held p) s.views id me.0 at in omega arith),
      )

-- what a meeting comes to
pub meets : {E Q R : Type 0} (v other w m : SeatView E Q R) → v.stage ≡ Idle → m ≡ view_joined v other → w ≡ m → IsPrefix m.beside m.seen → ((p : ℕ) → entries_held p m ≤ 1) → Meets (pass_view v) (pass_view other) (pass_view w)
meets v other w m idle joins same tell once =
    subst (λ z. Meets (pass_view v) (pass_view other) (pass_view z)) (sym (same ∙ joins)) record {
      seen = is_longer v.seen other.seen (subst (λ (z : SeatView _ _ _). IsPrefix z.beside z.seen) joins tell);
      own = refl;
      met = refl;
      apart = λ p. let a : entries_held p (view_joined v other) ≤ 1 = subst (λ (z : SeatView _ _ _). entries_held p z ≤ 1) joins (once p) in
          let b : entries_held p (view_joined v other) ≡ entries_at p (v.own ∷ (v.met ++ (other.own ∷ other.met))) = ap (entries_at p) (held_live (view_joined v other) (ap is_spent idle)) in
          let c = total-append (entries_of_pass p) (v.own ∷ v.met) (other.own ∷ other.met) in omega arith;
    }
