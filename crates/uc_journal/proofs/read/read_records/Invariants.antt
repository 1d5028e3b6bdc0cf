use Rattle.std.proofs.Common.{◌≡◌, ◌<◌, ◌-◌, ◌++◌, length, drop}
use Rattle.uc_journal.specs.Text.{text_limit, front}
use Rattle.uc_journal.proofs.read.read_records.Given as goal

abbrev pub invariant-loop-gate : goal.invariant-loop-gate
invariant-loop-gate l = record {
  read : l.bytes ≡ front l.payloads.items ++ drop l.gate l.bytes;
  at : l.gate ≡ length (front l.payloads.items);
  inside : l.gate < length l.bytes;
  small : l.gate < text_limit;
}

abbrev pub decreases-loop-gate : goal.decreases-loop-gate
decreases-loop-gate l = length l.bytes - l.gate
