use Rattle.std.proofs.Common.{◌≡◌, ◌+◌}
use Rattle.uc_turnstile.specs.Shown.{IsPassOf, turns_left_of, view_of}
use Rattle.uc_turnstile.proofs.tests.take_turns.Given as goal

abbrev pub invariant-loop : goal.invariant-loop
invariant-loop g l = record {
  own : IsPassOf l.turnstile l.pass;
  left : turns_left_of l.pass + l.counter ≡ turns_left_of l.initial.pass;
  name : (view_of l.pass).own.name ≡ (view_of l.initial.pass).own.name;
  splits : (view_of l.pass).own.splits ≡ (view_of l.initial.pass).own.splits;
  met : (view_of l.pass).met ≡ (view_of l.initial.pass).met;
}
