use Rattle.std.proofs.Common.{◌≡◌, ◌≤◌, length}
use Rattle.uc_layout.specs.Judgement.{value_from}
use Rattle.uc_layout.proofs.judge.fits.Given as goal

abbrev pub invariant-digits : goal.invariant-digits
invariant-digits l = record {
  value : value_from l.value l.rest ≡ value_from 0 l.digits;
  small : l.value ≤ l.most;
}

abbrev pub decreases-digits : goal.decreases-digits
decreases-digits l = length l.rest
