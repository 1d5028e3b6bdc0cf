use Rattle.std.proofs.Common.{arith, sym, ◌∙◌, ◌-◌}
use Rattle.uc_context.specs.Entries.{is_binder}
use Rattle.uc_context.proofs.LastPlaces.{last_place-found, last_place-fails}
use Rattle.uc_context.proofs.index.last_binder.Goals as goal

pub returns-then-is_binder : goal.returns-then-is_binder
returns-then-is_binder c =
    last_place-found (is_binder c.args.x) c.args.entries.now (c.loop-at.at - 1) c.loop-at.at c.index-entries-at.result (omega arith) (omega arith) c.index-entries-at.is
    (sym c.is_binder.ensures ∙ c.if-is_binder.true) c.loop-at.invariant

pub loop-at-preserved : goal.loop-at-preserved
loop-at-preserved c =
    last_place-fails (is_binder c.args.x) c.args.entries.now (c.loop-at.at - 1) c.loop-at.at c.index-entries-at.result (omega arith) (omega arith) c.index-entries-at.is
    (sym c.is_binder.ensures ∙ c.if-is_binder.false) c.loop-at.invariant
