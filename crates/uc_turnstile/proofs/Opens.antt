-- The table at the start keeps the rule.
use Rattle.std.proofs.Common.{◌≡◌, ℕ, zero, suc, ◌+◌, ◌-◌, ◌<◌, ◌≤◌, ltb, List, [], ◌∷◌, map, length, Option, Some, sym, refl, ap, subst, inl, arith}
use Rattle.std.proofs.lemmas.Bool.Decides.{nat_tests}
use mathlib.Core.Option.{some, some-injective, some-ne-none}
use lib.ListN.{get_elem?}
use Rattle.atomic_table.specs.Table.{opening}
use Rattle.uc_turnstile.specs.declared.view.SeatView.{SeatView}
use Rattle.uc_turnstile.specs.Lists.{bit}
use Rattle.uc_turnstile.specs.Passes.{place_count}
use Rattle.uc_turnstile.specs.Rule.{Knows, first_view, Stands}
use Rattle.uc_turnstile.proofs.Sums.{prefix_self}
use Rattle.uc_turnstile.proofs.Counts.{within_none, roots_named, roots_split, roots_past, roots_make, roots_turns, roots_fit}

within_first : (n i : ℕ) → place_count 0 n i ≤ bit (ltb i n)
within_first n i = grind (arith, nat_tests)

pub stands_open : {T E Q R : Type 0} (entries : T → List E) (n : ℕ) (log : List E) (items : List (Option T)) (k : T) → 0 < n → n ≤ 4096 → items ≡ Some k ∷ [] → entries k ≡ log
    → Stands {Q = Q} {R = R} entries n log (opening (0 ∷ 0 ∷ []) items (first_view n log))
stands_open {T} {E} {Q} {R} entries n log items k some_pass few is same = record {
  log = log;
  holder = λ _. 0;
  wide = refl;
  behind = omega arith;
  bounded = omega arith;
  opened = omega arith;
  slot = inl (k, ap (map some) is, same);
  each_seat = only;
  counted = record {
    turns = let a = roots_turns E Q R 0 (suc (n - 1)) in omega arith;
    firsts = λ i. let a = roots_named E Q R i 0 (suc (n - 1)) in let b : place_count 0 (0 + suc (n - 1)) i ≡ place_count 0 n i = ap (λ (m : ℕ). place_count 0 m i) (omega arith) in let c = within_first n i in omega arith;
    splits = λ i j. let a = roots_split E Q R i j 0 (suc (n - 1)) in let b = roots_past E Q R i j 0 (suc (n - 1)) in omega arith;
    places = λ p. let a = roots_make E Q R p 0 (suc (n - 1)) in let b = within_none (length log) p in omega arith;
  };
}
  where
    only : (j : ℕ) (v : SeatView E Q R) → get_elem? (first_view n log ∷ []) j ≡ some v → Knows 0 0 log log (λ _. 0) j v
    only zero v e = subst (Knows 0 0 log log (λ _. 0) 0) (some-injective _ _ e) (record { seen = prefix_self log; ticket = tt; beside = (log, refl); opened = λ _. omega arith; in_place = roots_fit E Q R log 0 (suc (n - 1)) })
    only (suc j) v e = absurd (some-ne-none v (sym e))
