use Rattle.std.proofs.Common.{◌≡◌, true, length}
use Rattle.uc_scratch.specs.Nesting.{fits}
use Rattle.uc_scratch.proofs.shown.levels_fit.Given as goal

abbrev pub invariant-levels : goal.invariant-levels
invariant-levels l = fits l.left l.rest ≡ true → fits l.most l.tokens ≡ true

abbrev pub decreases-levels : goal.decreases-levels
decreases-levels l = length l.rest
