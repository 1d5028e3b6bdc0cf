use Rattle.std.proofs.Common.{◌≡◌}
use Rattle.uc_context.specs.Entries.{is_variable, is_binder}
use Rattle.uc_context.specs.Indexes.{HasPlaces, AreNotedBelow}
use Rattle.uc_context.proofs.index.Index.note_from.Given as goal

abbrev pub invariant-loop-at : goal.invariant-loop-at
invariant-loop-at l = (l.self.numbers ≡ l.fn.self.numbers) × HasPlaces l.self × AreNotedBelow is_variable l.at l.self.variables l.entries × AreNotedBelow is_binder l.at l.self.binders l.entries
