use Rattle.std.proofs.Common.{◌≡◌, length}
use Rattle.uc_base.specs.Name.{segments_of}
use Rattle.uc_scratch.specs.Terminals.{last_of}
use Rattle.uc_scratch.proofs.terminal.last_segment.Given as goal

abbrev pub invariant-segments : goal.invariant-segments
invariant-segments l = last_of (segments_of l.rest) ≡ last_of (segments_of l.text)

abbrev pub decreases-segments : goal.decreases-segments
decreases-segments l = length l.rest
