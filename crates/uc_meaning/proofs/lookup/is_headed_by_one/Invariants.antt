use Rattle.std.proofs.Common.{◌≡◌, drop}
use Rattle.uc_scratch.specs.TypeLevels.{texts_of}
use Rattle.uc_meaning.specs.Candidates as spec
use Rattle.uc_meaning.proofs.lookup.is_headed_by_one.Given as goal

abbrev pub invariant-loop-name : goal.invariant-loop-name
invariant-loop-name l = spec.is_headed_by_one (texts_of (drop l.name-index l.names)) l.written ≡ spec.is_headed_by_one (texts_of l.names) l.written
