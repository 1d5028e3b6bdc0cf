use Rattle.std.proofs.Common.{◌≡◌, ◌++◌, drop, take}
use Rattle.uc_meaning.specs.Meanings.{before_mark, from_mark}
use Rattle.uc_meaning.proofs.hashes.mark_place.Given as goal

abbrev pub invariant-loop-i : goal.invariant-loop-i
invariant-loop-i l = record {
  front : take l.i l.text ++ before_mark (drop l.i l.text) ≡ before_mark l.text;
  back : from_mark (drop l.i l.text) ≡ from_mark l.text;
}
