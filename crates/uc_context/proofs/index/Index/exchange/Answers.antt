use Rattle.uc_context.proofs.Exchanging.{used_have_room, counted_exchanged, variables_exchanged, binders_exchanged}
use Rattle.uc_context.proofs.index.Index.exchange.Goals as goal

pub note_from-requires-clause-room : goal.note_from-requires-clause-room
note_from-requires-clause-room c =
    used_have_room c.add_all.new.self c.args.entries.now (counted_exchanged c.args.self.now c.args.place c.args.numbers.now c.add_all.new.self c.args.entries.now c.requires.exchanged c.add_all.ensures.uses)

pub note_from-requires-clause-variables : goal.note_from-requires-clause-variables
note_from-requires-clause-variables c = variables_exchanged c.args.self.now c.args.place c.args.numbers.now c.add_all.new.self c.args.entries.now c.requires.exchanged c.add_all.ensures.uses

pub note_from-requires-clause-binders : goal.note_from-requires-clause-binders
note_from-requires-clause-binders c = binders_exchanged c.args.self.now c.args.place c.args.numbers.now c.add_all.new.self c.args.entries.now c.requires.exchanged c.add_all.ensures.uses
