use Rattle.std.proofs.Common.{◌≡◌, drop}
use Rattle.uc_context.specs.Generalising.{bound_by}
use Rattle.uc_context.proofs.generalising.bind.Given as goal

abbrev pub invariant-loop-place : goal.invariant-loop-place
invariant-loop-place l = bound_by (drop l.place l.numbers) l.k l.x ≡ bound_by l.numbers l.k l.x
