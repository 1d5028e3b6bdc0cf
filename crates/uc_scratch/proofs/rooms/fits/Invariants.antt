use Rattle.std.proofs.Common.{◌≡◌, drop}
use Rattle.uc_scratch.specs.Nesting.{fits}
use Rattle.uc_scratch.proofs.rooms.fits.Given as goal

abbrev pub invariant-loop-i : goal.invariant-loop-i
invariant-loop-i l = fits l.left (drop l.i l.tokens) ≡ fits l.levels l.tokens
