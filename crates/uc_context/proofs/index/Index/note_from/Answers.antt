use Rattle.std.proofs.Common.{arith}
use Rattle.uc_context.specs.Entries.{is_variable, is_binder}
use Rattle.uc_context.proofs.Exchanging.{index_noted, all_noted}
use Rattle.uc_context.proofs.index.Index.note_from.Goals as goal

pub loop-at-preserved : goal.loop-at-preserved
loop-at-preserved c =
    index_noted c.loop-at.self c.note.new.self c.args.self.now.numbers c.args.entries.now c.loop-at.at c.index-entries-at.result c.loop-at-test.true c.index-entries-at.is c.requires.room c.loop-at.invariant c.note.ensures.numbers c.note.ensures.variables c.note.ensures.binders

pub returns-clause-variables : goal.returns-clause-variables
returns-clause-variables c = all_noted is_variable c.loop-at.self.variables c.args.entries.now c.loop-at.at (omega arith) c.loop-at.invariant.2

pub returns-clause-binders : goal.returns-clause-binders
returns-clause-binders c = all_noted is_binder c.loop-at.self.binders c.args.entries.now c.loop-at.at (omega arith) c.loop-at.invariant.3
