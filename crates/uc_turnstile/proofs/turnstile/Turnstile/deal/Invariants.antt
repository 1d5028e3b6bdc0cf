use Rattle.std.proofs.Common.{◌≡◌, ◌-◌, ◌^◌, ℕ, List, [], All, vec_len, vec_capacity, slice_get, Some}
use Rattle.uc_turnstile.specs.Rule.{first_view, dealer_view, new_view}
use Rattle.uc_turnstile.proofs.turnstile.Turnstile.deal.Given as goal

abbrev pub invariant-loop-i : goal.invariant-loop-i
invariant-loop-i g l = record {
  table : l.seat.table_id ≡ l.initial.seat.table_id;
  me : (log : List g.row.S-Entry.Denot) → l.initial.seat.me ≡ (first_view l.fn.passes log, []) → l.seat.me ≡ (dealer_view l.i ((l.fn.passes - 1) - l.i) log, []);
  count : vec_len l.all ≡ l.i;
  capacity : vec_capacity l.all ≡ vec_capacity l.initial.all;
  own : All (λ p. p.seat.table_id ≡ l.initial.seat.table_id) l.all.items;
  left : All (λ p. (p.turns_left ≡ 2 ^ 40) × (p.splits_left ≡ 15)) l.all.items;
  each : (log : List g.row.S-Entry.Denot) → l.initial.seat.me ≡ (first_view l.fn.passes log, []) → (k : ℕ) (p : _) → slice_get l.all.items k ≡ Some p → p.seat.me ≡ (new_view k log, []);
}
