use Rattle.std.proofs.Common.{◌≡◌, ◌+◌, length}
use Rattle.uc_layout.specs.Lexeme.{initial}
use Rattle.uc_layout.proofs.Longest.{run_len, best}
use Rattle.uc_layout.proofs.automaton.longest.Given as goal

abbrev pub invariant-bytes : goal.invariant-bytes
invariant-bytes l = record {
  best : best l.longest l.count (run_len l.state l.rest) ≡ run_len (initial l.fn.form) l.bytes;
  counted : l.count + length l.rest ≡ length l.bytes;
}

abbrev pub decreases-bytes : goal.decreases-bytes
decreases-bytes l = length l.rest
