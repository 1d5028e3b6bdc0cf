use Rattle.uc_check.proofs.FewFormed.{few_is_known}
use Rattle.uc_check.proofs.tests.asking.is_known.Goals as goal

pub returns : goal.returns
returns c = λ h.
    few_is_known c.args.env.now.plus c.args.env.now.none c.args.env.now.some c.args.members.now (c.is_closed.ensures c.if-not-is_closed.false) (c.is_closed-2.ensures c.if-not-is_closed-2.false)
    (c.is_closed-3.ensures c.if-not-is_closed-3.false) (c.are_closed_signatures.ensures h)
