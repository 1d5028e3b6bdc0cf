use Rattle.std.proofs.Common.{arith, sym, ◌∙◌, ◌-◌}
use Rattle.uc_context.specs.Entries.{is_same_entry}
use Rattle.uc_context.proofs.LastPlaces.{last_place-found, last_place-fails}
use Rattle.uc_context.proofs.context.last_same.Goals as goal

pub returns-then-same_entry : goal.returns-then-same_entry
returns-then-same_entry c =
    last_place-found (is_same_entry c.args.entry.now) c.args.entries.now (c.loop-at.at - 1) c.loop-at.at c.index-entries-at.result (omega arith) (omega arith) c.index-entries-at.is
    (sym c.same_entry.ensures ∙ c.if-same_entry.true) c.loop-at.invariant

pub loop-at-preserved : goal.loop-at-preserved
loop-at-preserved c =
    last_place-fails (is_same_entry c.args.entry.now) c.args.entries.now (c.loop-at.at - 1) c.loop-at.at c.index-entries-at.result (omega arith) (omega arith) c.index-entries-at.is
    (sym c.same_entry.ensures ∙ c.if-same_entry.false) c.loop-at.invariant
