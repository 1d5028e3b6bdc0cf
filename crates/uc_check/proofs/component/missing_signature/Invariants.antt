use Rattle.std.proofs.Common.{◌≡◌, drop}
use Rattle.uc_typing.specs.Components.{first_unsigned}
use Rattle.uc_check.proofs.component.missing_signature.Given as goal

abbrev pub invariant-loop-number : goal.invariant-loop-number
invariant-loop-number l = first_unsigned l.number (drop l.number l.fn.members) ≡ first_unsigned 0 l.fn.members
