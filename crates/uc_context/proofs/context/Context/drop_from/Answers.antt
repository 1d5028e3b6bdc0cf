use Rattle.uc_context.proofs.Dropping.{dropped_at, none_dropped, place_within, kept_take}
use Rattle.uc_context.proofs.context.Context.drop_from.Goals as goal

pub truncate-requires-clause-within : goal.truncate-requires-clause-within
truncate-requires-clause-within c =
    place_within c.self.inside.entries.items c.args.self.now c.deref.result.now c.args.entry.now c.last_same.result c.self.view_is c.deref.ensures.value c.last_same.ensures
    c.in-Some.place c.deref-in-Some.result.now c.in-Some.is c.deref-in-Some.ensures.value

pub invariant_of-self : goal.invariant_of-self
invariant_of-self c =
    kept_take c.self.inside.entries.items c.truncate-in-Some.new.self.items c.deref-in-Some.result.now c.in-Some.place c.self.inside.index c.truncate.new.self c.truncate-in-Some.ensures.items c.deref-in-Some.ensures.value c.self.invariant c.truncate.ensures

pub returns-in-Some : goal.returns-in-Some
returns-in-Some c =
    dropped_at c.self.inside.entries.items c.args.self.now c.deref.result.now c.args.entry.now c.last_same.result c.self.view_is c.deref.ensures.value c.last_same.ensures
    c.in-Some.place c.truncate-in-Some.new.self.items c.in-Some.is c.truncate-in-Some.ensures.items

pub returns-in_default : goal.returns-in_default
returns-in_default c =
    none_dropped c.self.inside.entries.items c.args.self.now c.deref.result.now c.args.entry.now c.last_same.result c.self.view_is c.deref.ensures.value c.last_same.ensures c.in_default.is
