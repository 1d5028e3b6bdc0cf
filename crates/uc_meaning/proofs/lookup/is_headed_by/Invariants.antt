use Rattle.std.proofs.Common.{◌≡◌, drop}
use Rattle.uc_meaning.specs.Candidates as spec
use Rattle.uc_meaning.proofs.lookup.is_headed_by.Given as goal

abbrev pub invariant-loop-c : goal.invariant-loop-c
invariant-loop-c l = spec.is_headed_by (drop l.c-index l.name) l.rest ≡ spec.is_headed_by l.name l.written
