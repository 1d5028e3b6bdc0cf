use Rattle.std.proofs.Common.{◌≡◌}
use Rattle.uc_tree.specs.Constructors.{quantified_over}
use Rattle.uc_tree.proofs.constructors.quantify.Given as goal

abbrev pub invariant-loop-i : goal.invariant-loop-i
invariant-loop-i l = l.ty ≡ quantified_over l.i l.fn.body
