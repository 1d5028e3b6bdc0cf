use Rattle.std.proofs.Common.{inr, IsTrue, false, refl}
use Rattle.std.proofs.lemmas.Result.{err_from_is_err_and}
use Rattle.uc_layout.specs.Text.{too_long, not_utf8}
use Rattle.uc_layout.proofs.Whole.{scan_fault}
use Rattle.uc_layout.proofs.text.tokens_in.Goals as goal

pub returns-then-text-gt-TEXT_LIMIT-clause-fault : goal.returns-then-text-gt-TEXT_LIMIT-clause-fault
returns-then-text-gt-TEXT_LIMIT-clause-fault c = inr (too_long c.if-text-gt-TEXT_LIMIT.true)

pub returns-then-not-is_utf8-clause-fault : goal.returns-then-not-is_utf8-clause-fault
returns-then-not-is_utf8-clause-fault c = inr (not_utf8 c.if-text-gt-TEXT_LIMIT.false (λ u. let h : IsTrue false = c.if-not-is_utf8.ensures.1 u in cc))

pub returns-in_err-tokens-clause-fault : goal.returns-in_err-tokens-clause-fault
returns-in_err-tokens-clause-fault c =
    let p = err_from_is_err_and c.from_residual.result c.from_residual.ensures.1 in
    rw (p.1, p.2) (scan_fault _ _ c.if-text-gt-TEXT_LIMIT.false (c.if-not-is_utf8.ensures.0 refl) c.in_err-tokens.ensures.fault)
