use Rattle.std.proofs.Common.{◌≡◌, length}
use Rattle.uc_base.specs.Name.{segments_of, are_segments}
use Rattle.uc_base.proofs.name.are_segments.Given as goal

abbrev pub invariant-segments : goal.invariant-segments
invariant-segments l = are_segments (segments_of l.rest) ≡ are_segments (segments_of l.text)

abbrev pub decreases-segments : goal.decreases-segments
decreases-segments l = length l.rest
