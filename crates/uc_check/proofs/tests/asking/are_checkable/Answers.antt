use Rattle.std.proofs.Common.{◌≡◌, None, sym, ◌∙◌, arith}
use Rattle.std.proofs.lemmas.Option.{none-some}
use Rattle.uc_typing.specs.Components.{missing_signature}
use Rattle.uc_check.proofs.tests.asking.are_checkable.Goals as goal

pub returns-in-Some : goal.returns-in-Some
returns-in-Some c = λ h. record {
  known = c.is_known.ensures c.if-not-is_known.false;
  formed = λ unsigned. absurd (none-some c.in-Some.field-0 (sym unsigned ∙ sym c.in_ok-missing_signature.ensures.ok ∙ c.in-Some.is));
  few = omega (arith, c.if-members-gt100.false);
  small = c.are_small.ensures c.if-not-are_small.false;
}
