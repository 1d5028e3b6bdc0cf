use Rattle.std.proofs.Common.{◌≡◌, take}
use Rattle.uc_outside.specs.Image.{filled}
use Rattle.uc_outside.specs.Ranges.{ranges_of}
use Rattle.uc_outside.proofs.image.fill_ranges.Given as goal

abbrev pub invariant-loop-i : goal.invariant-loop-i
invariant-loop-i l = l.image ≡ filled l.fill (ranges_of (take l.i l.done)) 0 l.fn.image
