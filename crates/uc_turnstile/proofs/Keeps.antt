-- Each step of a turn keeps the rule.
use Rattle.std.proofs.Common.{◌≡◌, ◌≢◌, ◌⊎◌, ℕ, zero, suc, ◌+◌, ◌-◌, ◌^◌, ◌%◌, ◌<◌, ◌≤◌, true, false, true≢false, cond, eqb, List, [], ◌∷◌, ◌++◌, length, get_or, set, Option, Some, None, MatchOption, slice_get, sym, refl, ap, ◌∙◌, subst, inl, inr, ⊎_elim, arith, length-set, length-append, get_or-set_same, get_or-set_other, eq-eqb, ne_eqb}
use mathlib.Core.Logic.{dite}
use mathlib.Core.List.{IsPrefix}
use mathlib.Core.Option.{none, some, some-injective, some-ne-none}
use mathlib.Core.Option.{Option as Maybe}
use native.Mathlib.Decide.{ℕ_discrete}
use lib.ListN.{get_elem?}
use lib.Seq.{set-get_or}
use Rattle.atomic_table.specs.Table.{State, Me, Act, keeps, takes, gives, step, stepped, rest, put_back, carried_after, Valid, Allows}
use Rattle.atomic_table.proofs.Lists.{at_set, set_else, set_here, set_again}
use Rattle.uc_turnstile.specs.declared.view.TurnRow.{TurnRow}
use Rattle.uc_turnstile.specs.declared.view.Stage.{Stage}
use Rattle.uc_turnstile.specs.declared.view.Stage.TheVariants.{Idle, Drawn, Served, Spent}
use Rattle.uc_turnstile.specs.declared.view.SeatView.{SeatView}
use Rattle.uc_base.specs.Worked.{Extends}
use Rattle.uc_turnstile.specs.Passes.{AllInPlace, TakesTurn}
use Rattle.uc_turnstile.specs.Rule.{is_served, is_idle, is_spent, records_of, KnowsTicket, Knows, IsCounted, room_of, view_drawn, view_served, view_passed, turn_row, IsHome, IsOut, Stands, Draws, IsServed, IsHeld, HasWorked, MayPass, PassesOn, Looks, Passes, pass_view}
use Rattle.uc_turnstile.proofs.Counts.{held_live, counted_same, counted_turn, fit_more, fit_turn, get_past}
use Rattle.uc_turnstile.proofs.Sums.{total_set, total_part, prefix_self, prefix_more, prefix_trans, prefix_length, get_end}

-- the ticket t goes to the seat j
abbrev gets : (ℕ → ℕ) → ℕ → ℕ → ℕ → ℕ
gets holder t j u = cond (eqb u t) j (holder u)

gets_here : (holder : ℕ → ℕ) (t j : ℕ) → gets holder t j t ≡ j
gets_here holder t j = ap (λ b. cond b j (holder t)) (eq-eqb t t refl)

gets_else : (holder : ℕ → ℕ) (t j u : ℕ) → u ≢ t → gets holder t j u ≡ holder u
gets_else holder t j u other = ap (λ b. cond b j (holder u)) (ne_eqb u t other)

-- a seat has the view w now, and the others have theirs
module _ {V : Type 0} where
  pub seats_stay : (K : ℕ → V → Type 0) (vs : List V) (me : ℕ) (w : V) → K me w → ((j : ℕ) (d : V) → j ≢ me → get_elem? vs j ≡ some d → K j d)
      → (j : ℕ) (d : V) → get_elem? (set vs me w) j ≡ some d → K j d
  seats_stay K vs me w mine others j d e = ⊎_elim (λ (t : (j ≡ me) × (w ≡ d)). subst (λ (x : ℕ × V). K x.0 x.1) (λ i. (sym t.0 i, t.1 i)) mine)
      (λ (t : (j ≢ me) × (get_elem? vs j ≡ some d)). others j d t.0 t.1) (at_set vs me j w d e)

module _ {E : Type 0} where
  -- a ticket drawn by another
  others_after_draw : (n serving : ℕ) (log : List E) (holder : ℕ → ℕ) (me j : ℕ) (seen : List E) (st : Stage) → KnowsTicket n serving log holder j seen st
      → KnowsTicket (n + 1) serving log (gets holder n me) j seen st
  others_after_draw n serving log holder me j seen Idle k = tt
  others_after_draw n serving log holder me j seen Spent k = tt
  others_after_draw n serving log holder me j seen (Drawn t) k = let l = k.0 in (omega arith, gets_else holder n me t (λ e. omega arith) ∙ k.1)
  others_after_draw n serving log holder me j seen (Served t f) k = let l = k.1 in (k.0, omega arith, gets_else holder n me t (λ e. omega arith) ∙ k.2, k.3)

  -- a turn passed on by another, which has the ticket `serving`
  others_after_pass : (n serving : ℕ) (log now : List E) (holder : ℕ → ℕ) (me j : ℕ) (seen : List E) (st : Stage) → holder serving ≡ me → j ≢ me → KnowsTicket n serving log holder j seen st
      → KnowsTicket n (serving + 1) now holder j seen st
  others_after_pass n serving log now holder me j seen Idle mine apart k = tt
  others_after_pass n serving log now holder me j seen Spent mine apart k = tt
  others_after_pass n serving log now holder me j seen (Drawn t) mine apart k = k
  others_after_pass n serving log now holder me j seen (Served t f) mine apart k = absurd (apart (sym k.2 ∙ (ap holder k.0 ∙ mine)))

  -- who has the ticket that is served, if another holds the state
  served_holds : (n serving : ℕ) (log : List E) (holder : ℕ → ℕ) (j : ℕ) (seen : List E) (st : Stage) → is_served st ≡ true → KnowsTicket n serving log holder j seen st → holder serving ≡ j
  served_holds n serving log holder j seen Idle is k = absurd (true≢false (sym is))
  served_holds n serving log holder j seen Spent is k = absurd (true≢false (sym is))
  served_holds n serving log holder j seen (Drawn t) is k = absurd (true≢false (sym is))
  served_holds n serving log holder j seen (Served t f) is k = ap holder (sym k.0) ∙ k.2

ticket_or : Stage → ℕ
ticket_or (Drawn t) = t
ticket_or _ = 0

ticket_of : {t u : ℕ} → Drawn t ≡ Drawn u → t ≡ u
unfolding ticket_or
ticket_of e = ap ticket_or e

inside : {A : Type 0} (xs : List A) (i : ℕ) (x : A) → get_elem? xs i ≡ some x → i < length xs
inside [] i x e = absurd (some-ne-none x (sym e))
inside (y ∷ ys) zero x e = omega arith
inside (y ∷ ys) (suc i) x e = omega (arith, inside ys i x e)

extends_prefix : {E : Type 0} (xs ys : List E) → Extends xs ys → IsPrefix xs ys
extends_prefix {E} xs ys more = ⊎_elim (λ (e : ys ≡ xs). subst (IsPrefix xs) (sym e) (prefix_self xs)) (λ (e : (z : E) × (ys ≡ xs ++ z ∷ [])). subst (IsPrefix xs) (sym e.1) (prefix_more xs (e.0 ∷ []))) more

-- what a turn made, by whether the list has one entry more
the_entry : {E : Type 0} (log now : List E) → Extends log now → MatchOption (slice_get now (length log)) (now ≡ log) (λ e. now ≡ log ++ e ∷ [])
the_entry {E} log now more = ⊎_elim
    (λ (e : now ≡ log). subst (λ (o : Option E). MatchOption o (now ≡ log) (λ x. now ≡ log ++ x ∷ [])) (sym (ap (λ (l : List E). slice_get l (length log)) e ∙ get_past log)) e)
    (λ (e : (z : E) × (now ≡ log ++ z ∷ [])). subst (λ (o : Option E). MatchOption o (now ≡ log) (λ x. now ≡ log ++ x ∷ [])) (sym (ap (λ (l : List E). slice_get l (length log)) e.1 ∙ get_end log e.0)) e.1)
    more

-- the turn, as its caller sees it
pub turned : {E Q R : Type 0} (tied : List E → List E → Q → R → ℕ → ℕ → Type 0) (v : SeatView E Q R) (t : ℕ) (log now : List E) (f g : ℕ) (q : Q) (p : R)
    → IsPrefix v.seen log → Extends log now → f ≤ g → tied log now q p f g → TakesTurn tied q p (pass_view v) (pass_view (view_passed (view_served (view_drawn v t) t log f) now g q p))
turned tied v t log now f g q p later more counted is_tied = record {
  row = turn_row (view_served (view_drawn v t) t log f) now g q p;
  history = log;
  added = refl;
  place = refl;
  asked = refl;
  answered = refl;
  seen_before = later;
  seen_after = extends_prefix log now more;
  entry = the_entry log now more;
  is_tied = is_tied;
  faults = counted;
  name = refl;
  splits = refl;
  met = refl;
}

pub off : true ≡ false → ⊥
off e = true≢false e

abbrev kept_or : {K : Type 0} → K → List (ℕ × Option K) → K
kept_or d [] = d
kept_or d ((k, None) ∷ ys) = d
kept_or d ((k, Some x) ∷ ys) = x

kept_same : {K : Type 0} (x y : K) (l : List (ℕ × Option K)) → l ≡ (0, Some x) ∷ [] → l ≡ (0, Some y) ∷ [] → x ≡ y
kept_same x y l e f = sym (ap (kept_or x) e) ∙ ap (kept_or x) f

module _ {T E : Type 0} (Q R : Type 0) (entries : T → List E) (passes_made : ℕ) (opening : List E) where
  abbrev pub V : Type 0
  V = SeatView E Q R

  abbrev pub K : Type 0
  K = T

  abbrev pub St : Type 0
  St = State (Option K) V

  abbrev pub M : Type 0
  M = Me (Option K) V

  abbrev pub Rule : St → Type 0
  Rule = Stands entries passes_made opening

  abbrev pub tickets : St → ℕ
  tickets s = get_or s.words 0 0

  abbrev pub serving : St → ℕ
  serving s = get_or s.words 1 0

  -- the slot stays as it is where a seat that doesn't hold the state changes its view
  pub slot_stays : (s : St) (log : List E) (words : List ℕ) (me : ℕ) (v w : V) → get_elem? s.views me ≡ some v → is_served v.stage ≡ false → IsHome entries log s ⊎ IsOut entries s
      → IsHome entries log record { words = words; homes = s.homes; views = set s.views me w } ⊎ IsOut entries record { words = words; homes = s.homes; views = set s.views me w }
  slot_stays s log words me v w at not slot = ⊎_elim (λ (h : IsHome entries log s). inl h)
      (λ (o : IsOut entries s). let out = o.1 in
      inr (o.0, (out.0, out.1, set_else s.views me out.0 w (λ e. off (sym out.3 ∙ (ap (λ (u : V). is_served u.stage) (some-injective _ _ (sym out.2 ∙ (ap (get_elem? s.views) e ∙ at))) ∙ not))) ∙ out.2, out.3)))
      slot

  one_slot : (s : St) → Rule s → (y : Maybe (Option K)) → set s.homes 0 y ≡ y ∷ []
  one_slot s r y = ⊎_elim (λ (h : IsHome entries r.log s). ap (λ (hs : List (Maybe (Option K))). set hs 0 y) h.1) (λ (o : IsOut entries s). ap (λ (hs : List (Maybe (Option K))). set hs 0 y) o.0) r.slot

  call_same : (c : Option (Q × R)) (q q' : Q) (p p' : R) → c ≡ Some (q, p) → c ≡ Some (q', p') → (q ≡ q') × (p ≡ p')
  call_same c q q' p p' e f = let a : Q × R = (q, p) in let b : Q × R = (q', p') in let h : a ≡ b = cc in ((λ i. (h i).0), (λ i. (h i).1))

  pub draws_keep : (slots id : ℕ) (me : M) → me.0.stage ≡ Idle → 0 < me.0.room → Allows Rule slots id me 0 (λ n. (n + 1) % 2 ^ 64) (Draws entries (step slots 0 1 0 none) me)
  draws_keep slots id me idle some_room s r _ at small =
      let v : V = me.0 in
      let n : ℕ = tickets s in
      let w : V = view_drawn v n in
      let wide = r.wide in
      let behind = r.behind in
      let bounded = r.bounded in
      let live : is_spent v.stage ≡ false = ap is_spent idle in
      let was : records_of v ≡ v.own ∷ v.met = held_live v live in
      let sums = total_set room_of s.views id v w at in
      let part = total_part room_of s.views id v at in
      let fits : (n + 1) % 2 ^ 64 ≡ n + 1 = omega arith in
      let now : get_or (set s.words 0 ((n + 1) % 2 ^ 64)) 0 0 ≡ n + 1 = get_or-set_same s.words 0 ((n + 1) % 2 ^ 64) 0 (omega arith) ∙ fits in
      let same : get_or (set s.words 0 ((n + 1) % 2 ^ 64)) 1 0 ≡ serving s = get_or-set_other s.words 0 1 ((n + 1) % 2 ^ 64) 0 (λ e. omega arith) in (
        w,
        keeps,
        tt,
        record {
          log = r.log;
          holder = gets r.holder n id;
          wide = length-set s.words 0 ((n + 1) % 2 ^ 64) ∙ wide;
          behind = omega arith;
          bounded = omega arith;
          opened = r.opened;
          slot = slot_stays s r.log (set s.words 0 ((n + 1) % 2 ^ 64)) id v w at (ap is_served idle) r.slot;
          each_seat = subst (λ (z : ℕ × ℕ). (j : ℕ) (d : V) → get_elem? (set s.views id w) j ≡ some d → Knows z.0 z.1 opening r.log (gets r.holder n id) j d) (λ i. (sym now i, sym same i))
              (seats_stay (Knows (n + 1) (serving s) opening r.log (gets r.holder n id)) s.views id w
              (let k = r.each_seat id v at in record {
                seen = k.seen;
                ticket = (omega arith, gets_here r.holder n id);
                beside = k.beside;
                opened = λ _. k.opened live;
                in_place = subst (AllInPlace v.seen) was k.in_place;
              })
              (λ j d other e. let k = r.each_seat j d e in record {
                seen = k.seen;
                ticket = others_after_draw n (serving s) r.log r.holder id j d.seen d.stage k.ticket;
                beside = k.beside;
                opened = k.opened;
                in_place = k.in_place;
              }));
          counted = subst (λ (z : ℕ). IsCounted passes_made z (length opening) (length r.log) (set s.views id w)) (sym same) (counted_same passes_made (serving s) (length opening) (length r.log) s.views id v w r.counted at (sym was));
        },
        refl,
      )

  -- a state whose words are read and not changed
  pub reads : (s : St) (i : ℕ) (homes : List (Maybe (Option K))) (views : List V) → Rule record { words = s.words; homes = homes; views = views } → Rule record { words = set s.words i (get_or s.words i 0); homes = homes; views = views }
  reads s i homes views = subst (λ (ws : List ℕ). Rule record { words = ws; homes = homes; views = views }) (sym (set-get_or s.words i 0))

  -- only the seat that holds the ticket which is served may have the state out
  home_for : (s : St) (r : Rule s) (id : ℕ) (v : V) → get_elem? s.views id ≡ some v → r.holder (serving s) ≡ id → is_served v.stage ≡ false → IsHome entries r.log s
  home_for s r id v at mine not = ⊎_elim (λ (h : IsHome entries r.log s). h)
      (λ (o : IsOut entries s). let out = o.1 in
      let holds : r.holder (serving s) ≡ out.0 = served_holds (tickets s) (serving s) r.log r.holder out.0 out.1.seen out.1.stage out.3 (r.each_seat out.0 out.1 out.2).ticket in
      let same : out.0 ≡ id = sym holds ∙ mine in
      absurd (off (sym out.3 ∙ (ap (λ (u : V). is_served u.stage) (some-injective _ _ (sym out.2 ∙ (ap (get_elem? s.views) same ∙ at))) ∙ not))))
      r.slot

  module _ (faults : T → ℕ) where
    look_miss : (slots id : ℕ) (me : M) (t : ℕ) (s : St) → Rule s → me.0.stage ≡ Drawn t → get_elem? s.views id ≡ some me.0 → serving s ≢ t
        → (w : V) × (a : Act (Option K)) × Valid s.homes me.1 a × Rule (stepped s 1 (serving s) id me.1 w a) × Looks entries faults (step slots 1 0 0 none) me (serving s) (w, carried_after me.1 a)
    look_miss slots id me t s r is at miss = (
      me.0,
      keeps,
      tt,
      reads s 1 s.homes (set s.views id me.0) (subst (λ (vs : List V). Rule record { words = s.words; homes = s.homes; views = vs }) (sym (set_again s.views id me.0 at)) r),
      λ u there. ((λ e. absurd (miss (e ∙ ticket_of (sym there ∙ is)))), λ _. refl),
    )

    look_hit : (slots id : ℕ) (me : M) (t : ℕ) (s : St) → Rule s → me.0.stage ≡ Drawn t → me.1 ≡ [] → get_elem? s.views id ≡ some me.0 → serving s ≡ t
        → (w : V) × (a : Act (Option K)) × Valid s.homes me.1 a × Rule (stepped s 1 (serving s) id me.1 w a) × Looks entries faults (step slots 1 0 0 none) me (serving s) (w, carried_after me.1 a)
    look_hit slots id me t s r is empty at hit =
        let v : V = me.0 in
        let known = subst (KnowsTicket (tickets s) (serving s) r.log r.holder id v.seen) is (r.each_seat id v at).ticket in
        let home = home_for s r id v at (ap r.holder hit ∙ known.1) (ap is_served is) in
        let x : K = home.0 in
        let f : ℕ = faults x in
        let w : V = view_served v t (entries x) f in
        let bounded = r.bounded in
        let k = r.each_seat id v at in
        let live : is_spent v.stage ≡ false = ap is_spent is in
        let was : records_of v ≡ v.own ∷ v.met = held_live v live in
        let later : IsPrefix v.seen (entries x) = subst (IsPrefix v.seen) (sym home.2) k.seen in
        let sums = total_set room_of s.views id v w at in (
          w,
          takes 0 (Some x),
          ap (λ (hs : List (Maybe (Option K))). get_elem? hs 0) home.1,
          reads s 1 (set s.homes 0 none) (set s.views id w) record {
            log = r.log;
            holder = r.holder;
            wide = r.wide;
            behind = r.behind;
            bounded = omega arith;
            slot = inr (ap (λ (hs : List (Maybe (Option K))). set hs 0 none) home.1, (id, w, set_here s.views id w (inside s.views id v at), refl));
            opened = r.opened;
            each_seat = seats_stay (Knows (tickets s) (serving s) opening r.log r.holder) s.views id w
                (record {
                  seen = subst (λ (l : List E). IsPrefix l r.log) (sym home.2) (prefix_self r.log);
                  ticket = (sym hit, known.0, known.1, home.2);
                  beside = prefix_trans v.beside v.seen (entries x) k.beside later;
                  opened = λ _. let a = k.opened live in let b = prefix_length v.seen (entries x) later in omega arith;
                  in_place = fit_more v.seen (entries x) later (v.own ∷ v.met) (subst (AllInPlace v.seen) was k.in_place);
                })
                (λ j d other e. r.each_seat j d e);
            counted = counted_same passes_made (serving s) (length opening) (length r.log) s.views id v w r.counted at (sym was);
          },
          λ u there. let same : t ≡ u = ticket_of (sym is ∙ there) in (
            (λ e. record { kept = x; now = λ i. (view_served v (same i) (entries x) f, (0, Some x) ∷ empty i); later = later }),
            λ not. absurd (not (hit ∙ same)),
          ),
        )

    pub looks_keep : (slots id : ℕ) (me : M) (t : ℕ) → me.0.stage ≡ Drawn t → me.1 ≡ [] → Allows Rule slots id me 1 (λ n. n) (Looks entries faults (step slots 1 0 0 none) me)
    looks_keep slots id me t is empty s r _ at small = dite (ℕ_discrete (serving s) t) (λ hit. look_hit slots id me t s r is empty at hit) (λ miss. look_miss slots id me t s r is at miss)

    pub passes_keep : (slots id : ℕ) (me : M) (t f : ℕ) (x : K) (c : Option (Q × R)) (q : Q) (p : R) → me.0.stage ≡ Served t f → me.1 ≡ (0, Some x) ∷ [] → c ≡ Some (q, p) → Extends me.0.seen (entries x)
        → Allows Rule slots id me 1 (λ n. (n + 1) % 2 ^ 64) (Passes entries faults c (step slots 1 1 0 none) me)
    passes_keep slots id me t f x c q p is out call more s r _ at small =
        let v : V = me.0 in
        let n : ℕ = serving s in
        let now : List E = entries x in
        let w : V = view_passed v now (faults x) q p in
        let k = r.each_seat id v at in
        let live : is_spent v.stage ≡ false = ap is_spent is in
        let row : TurnRow E Q R = turn_row v now (faults x) q p in
        let own_more : IsPrefix v.seen now = extends_prefix v.seen now more in
        let known = subst (KnowsTicket (tickets s) n r.log r.holder id v.seen) is k.ticket in
        let log_more : IsPrefix r.log now = subst (λ (l : List E). IsPrefix l now) known.3 (extends_prefix v.seen now more) in
        let mine : r.holder n ≡ id = ap r.holder (sym known.0) ∙ known.2 in
        let wide = r.wide in
        let bounded = r.bounded in
        let ticket = known.0 in
        let below = known.1 in
        let sums = total_set room_of s.views id v w at in
        let fits : (n + 1) % 2 ^ 64 ≡ n + 1 = omega arith in
        let up : get_or (set s.words 1 ((n + 1) % 2 ^ 64)) 1 0 ≡ n + 1 = get_or-set_same s.words 1 ((n + 1) % 2 ^ 64) 0 (omega arith) ∙ fits in
        let same : get_or (set s.words 1 ((n + 1) % 2 ^ 64)) 0 0 ≡ tickets s = get_or-set_other s.words 1 0 ((n + 1) % 2 ^ 64) 0 (λ e. omega arith) in
        let back : put_back s.homes me.1 ≡ some (Some x) ∷ [] = ap (put_back s.homes) out ∙ one_slot s r (some (Some x)) in (
          w,
          gives,
          tt,
          record {
            log = now;
            holder = r.holder;
            wide = length-set s.words 1 ((n + 1) % 2 ^ 64) ∙ wide;
            behind = omega arith;
            bounded = omega arith;
            opened = let a = prefix_length r.log now log_more in let b = r.opened in omega arith;
            slot = inl (x, back, refl);
            each_seat = subst (λ (z : ℕ × ℕ). (j : ℕ) (d : V) → get_elem? (set s.views id w) j ≡ some d → Knows z.0 z.1 opening now r.holder j d) (λ i. (sym same i, sym up i))
                (seats_stay (Knows (tickets s) (n + 1) opening now r.holder) s.views id w
                (record {
                  seen = prefix_self now;
                  ticket = tt;
                  beside = prefix_trans v.beside v.seen now k.beside own_more;
                  opened = λ _. let a = k.opened live in let b = prefix_length v.seen now own_more in omega arith;
                  in_place = fit_turn v.seen now v.own v.met row own_more refl (subst (AllInPlace v.seen) (held_live v live) k.in_place);
                })
                (λ j d other e. let u = r.each_seat j d e in record {
                  seen = prefix_trans d.seen r.log now u.seen log_more;
                  ticket = others_after_pass (tickets s) n r.log now r.holder id j d.seen d.stage mine other u.ticket;
                  beside = u.beside;
                  opened = u.opened;
                  in_place = u.in_place;
                }));
            counted = subst (λ (z : ℕ). IsCounted passes_made z (length opening) (length now) (set s.views id w)) (sym up) (counted_turn passes_made n (length opening) (length r.log) s.views id v w row now r.counted at live refl refl refl r.opened (ap (length {A = E}) known.3) refl refl more);
          },
          λ x' q' p' held' call'. let same_x : x ≡ x' = kept_same x x' me.1 out held' in
              let same_c = call_same c q q' p p' call call' in
              λ i. (view_passed v (entries (same_x i)) (faults (same_x i)) (same_c.0 i) (same_c.1 i), rest (out i)),
        )

pub slot_held : {A : Type 0} (l : List (ℕ × A)) (x : A) → l ≡ (0, x) ∷ [] → l ≡ (0, x) ∷ rest l
slot_held l x e = e ∙ (λ i. (0, x) ∷ rest (sym e i))

module _ {T E Q R : Type 0} (entries : T → List E) (faults : T → ℕ) (tied : List E → List E → Q → R → ℕ → ℕ → Type 0) where
  pub worked : (q : Q) (p : R) (m m1 m2 : Me (Option T) (SeatView E Q R)) (o : Option T) (old new : T) → IsHeld m → m.1 ≡ (0, o) ∷ rest m.1 → m1 ≡ (m.0, (0, None) ∷ rest m.1)
      → o ≡ Some old → m2 ≡ (m1.0, (0, Some new) ∷ rest m1.1) → Extends (entries old) (entries new) → faults old ≤ faults new
      → tied (entries old) (entries new) q p (faults old) (faults new) → HasWorked entries faults tied q p m m2
  worked q p m m1 m2 o old new out found taken is given more counted is_tied = record {
    old = old;
    new = new;
    before = found ∙ (λ i. (0, is i) ∷ rest (out.1 i));
    after = given ∙ (λ i. ((taken i).0, (0, Some new) ∷ rest ((taken i).1))) ∙ (λ i. (m.0, (0, Some new) ∷ rest (out.1 i)));
    more = more;
    counted = counted;
    is_tied = is_tied;
  }

  pub is_held : (v : SeatView E Q R) (t : ℕ) (m : Me (Option T) (SeatView E Q R)) → IsServed entries faults v t m → IsHeld m
  is_held v t m is = (is.kept, ap (λ (z : Me (Option T) (SeatView E Q R)). z.1) is.now)

  -- where a seat was served, and then worked
  stands_at : (q : Q) (p : R) (v : SeatView E Q R) (t : ℕ) (m2 m3 : Me (Option T) (SeatView E Q R)) → (is : IsServed entries faults v t m2) → (h : HasWorked entries faults tied q p m2 m3)
      → m3.0 ≡ view_served v t (entries h.old) (faults h.old)
  stands_at q p v t m2 m3 is h =
      let same : is.kept ≡ h.old = kept_same is.kept h.old m2.1 (ap (λ (z : Me (Option T) (SeatView E Q R)). z.1) is.now) h.before in
      ap (λ (z : Me (Option T) (SeatView E Q R)). z.0) h.after ∙ (ap (λ (z : Me (Option T) (SeatView E Q R)). z.0) is.now ∙ ap (λ (k : T). view_served v t (entries k) (faults k)) same)

  seen_at : (q : Q) (p : R) (v : SeatView E Q R) (t : ℕ) (m2 m3 : Me (Option T) (SeatView E Q R)) → IsServed entries faults v t m2 → (h : HasWorked entries faults tied q p m2 m3) → IsPrefix v.seen (entries h.old)
  seen_at q p v t m2 m3 is h = subst (λ (k : T). IsPrefix v.seen (entries k)) (kept_same is.kept h.old m2.1 (ap (λ (z : Me (Option T) (SeatView E Q R)). z.1) is.now) h.before) is.later

  pub may_pass : (q : Q) (p : R) (v : SeatView E Q R) (t : ℕ) (m2 m3 : Me (Option T) (SeatView E Q R)) → IsServed entries faults v t m2 → HasWorked entries faults tied q p m2 m3 → MayPass entries m3
  may_pass q p v t m2 m3 is h = let at = stands_at q p v t m2 m3 is h in record {
    ticket = t;
    faults = faults h.old;
    kept = h.new;
    stage = ap (λ (z : SeatView E Q R). z.stage) at;
    out = ap (λ (z : Me (Option T) (SeatView E Q R)). z.1) h.after;
    more = subst (λ (l : List E). Extends l (entries h.new)) (sym (ap (λ (z : SeatView E Q R). z.seen) at)) h.more;
  }

  -- the seat after a turn
  comes_to : (q : Q) (p : R) (t : ℕ) (m0 m1 m2 m3 m4 : Me (Option T) (SeatView E Q R)) → m1 ≡ (view_drawn m0.0 t, m0.1) → (is : IsServed entries faults m1.0 t m2) → (h : HasWorked entries faults tied q p m2 m3)
      → PassesOn entries faults (Some (q, p)) m3 m4 → m4 ≡ (view_passed (view_served (view_drawn m0.0 t) t (entries h.old) (faults h.old)) (entries h.new) (faults h.new) q p, [])
  comes_to q p t m0 m1 m2 m3 m4 draw is h pass =
      let at = stands_at q p m1.0 t m2 m3 is h in
      pass h.new q p (ap (λ (z : Me (Option T) (SeatView E Q R)). z.1) h.after) refl
      ∙ (λ i. (view_passed (at i) (entries h.new) (faults h.new) q p, []))
      ∙ (λ i. (view_passed (view_served ((draw i).0) t (entries h.old) (faults h.old)) (entries h.new) (faults h.new) q p, []))

  pub makes_turn : (q : Q) (p : R) (t : ℕ) (m0 m1 m2 m3 m4 : Me (Option T) (SeatView E Q R)) → m1 ≡ (view_drawn m0.0 t, m0.1) → IsServed entries faults m1.0 t m2 → HasWorked entries faults tied q p m2 m3
      → PassesOn entries faults (Some (q, p)) m3 m4 → TakesTurn tied q p (pass_view m0.0) (pass_view m4.0)
  makes_turn q p t m0 m1 m2 m3 m4 draw is h pass =
      subst (λ (z : SeatView E Q R). TakesTurn tied q p (pass_view m0.0) (pass_view z)) (sym (ap (λ (z : Me (Option T) (SeatView E Q R)). z.0) (comes_to q p t m0 m1 m2 m3 m4 draw is h pass)))
      (turned tied m0.0 t (entries h.old) (entries h.new) (faults h.old) (faults h.new) q p (subst (λ (z : Me (Option T) (SeatView E Q R)). IsPrefix z.0.seen (entries h.old)) draw (seen_at q p m1.0 t m2 m3 is h)) h.more h.counted h.is_tied)

  -- what a pass rests on
  pub rests_after : (q : Q) (p : R) (t : ℕ) (m0 m1 m2 m3 m4 : Me (Option T) (SeatView E Q R)) → m1 ≡ (view_drawn m0.0 t, m0.1) → IsServed entries faults m1.0 t m2 → HasWorked entries faults tied q p m2 m3
      → PassesOn entries faults (Some (q, p)) m3 m4 → (is_idle m4.0.stage ≡ true) × (length m4.1 ≡ 0) × (length m4.0.own.turns ≡ length m0.0.own.turns + 1) × (m4.0.room ≡ m0.0.room - 1) × (m4.0.own.name.split ≡ m0.0.own.name.split)
  rests_after q p t m0 m1 m2 m3 m4 draw is h pass = let at = comes_to q p t m0 m1 m2 m3 m4 draw is h pass in (
    ap (λ (z : Me (Option T) (SeatView E Q R)). is_idle z.0.stage) at,
    ap (λ (z : Me (Option T) (SeatView E Q R)). length z.1) at,
    ap (λ (z : Me (Option T) (SeatView E Q R)). length z.0.own.turns) at ∙ length-append m0.0.own.turns _,
    ap (λ (z : Me (Option T) (SeatView E Q R)). z.0.room) at,
    ap (λ (z : Me (Option T) (SeatView E Q R)). z.0.own.name.split) at,
  )

pub empty_of : {A : Type 0} (l : List A) → length l ≡ 0 → l ≡ []
empty_of [] e = refl
empty_of (x ∷ xs) e = absurd (omega arith)

pub idle_of : (st : Stage) → is_idle st ≡ true → st ≡ Idle
idle_of Idle e = refl
idle_of Spent e = absurd (true≢false (sym e))
idle_of (Drawn t) e = absurd (true≢false (sym e))
idle_of (Served t f) e = absurd (true≢false (sym e))
