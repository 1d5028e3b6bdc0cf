use Rattle.std.proofs.Common.{sym, ◌∙◌}
use Rattle.uc_scratch.proofs.Cuts.{goes_on, ends}
use Rattle.uc_scratch.proofs.items.first_item.Goals as goal

pub returns-then-ends_before-clause-cut : goal.returns-then-ends_before-clause-cut
returns-then-ends_before-clause-cut c =
    ends _ _ _ _ _ _ _ c.loop-i-test.true c.blocks_behind-blocks.ensures c.split_at.ensures.front c.split_at.ensures.back
    (sym c.ends_before.ensures ∙ c.if-ends_before.true) c.loop-i.invariant

pub loop-i-preserved : goal.loop-i-preserved
loop-i-preserved c =
    goes_on _ _ _ _ _ _ c.loop-i-test.true c.blocks_behind-blocks.ensures c.split_at.ensures.back
    (sym c.ends_before.ensures ∙ c.if-ends_before.false) c.loop-i.invariant
