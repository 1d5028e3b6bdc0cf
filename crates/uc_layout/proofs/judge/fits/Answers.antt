use Rattle.std.proofs.Common.{◌∙◌, arith}
use Rattle.uc_layout.proofs.Judged.{passes}
use Rattle.uc_layout.proofs.judge.fits.Goals as goal
use Rattle.uc_layout.proofs.judge.fits.Goals.{then-digit-most-via-then-digit-most, then-digit-most-via-else-digit-most+then-value-most}

pub returns-then-digit-most : goal.returns-then-digit-most
returns-then-digit-most c =
    elim c.then-digit-most.branch [
      | then-digit-most-via-then-digit-most w ↦ passes c.args.digits.now c.digits.rest.now c.in-Some.after.now c.in-Some.c c.digits.value c.from-digit.result c.args.most c.in-Some.ensures (c.from-digit.ensures ∙ c.saturating_sub.ensures) c.digits.invariant.value (omega arith)
      | then-digit-most-via-else-digit-most+then-value-most w ↦ passes c.args.digits.now c.digits.rest.now c.in-Some.after.now c.in-Some.c c.digits.value c.from-digit.result c.args.most c.in-Some.ensures (c.from-digit.ensures ∙ c.saturating_sub.ensures) c.digits.invariant.value (omega arith)
    ]
