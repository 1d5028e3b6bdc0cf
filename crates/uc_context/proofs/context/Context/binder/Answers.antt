use Rattle.std.proofs.Common.{arith, ◌∙◌}
use Rattle.uc_context.specs.Entries.{is_binder}
use Rattle.uc_context.proofs.Looked.{noted_within, binder_noted, none_noted}
use Rattle.uc_context.proofs.context.Context.binder.Goals as goal

pub index-requires : goal.index-requires
index-requires c = omega (arith, noted_within is_binder c.args.number c.self.inside.entries.items c.self.inside.index.binders c.get.result c.in-Some.place c.self.invariant.indexed.binders c.get.ensures c.in-Some.is)

pub returns-in-Some : goal.returns-in-Some
returns-in-Some c =
    c.binder_type.ensures
    ∙ binder_noted c.args.number c.self.inside.entries.items c.args.self.now c.self.inside.index.binders c.get.result c.self.view_is c.self.invariant.indexed.binders c.get.ensures c.in-Some.place c.index.result.now c.in-Some.is c.index.ensures

pub returns-in-None : goal.returns-in-None
returns-in-None c = none_noted c.args.number c.self.inside.entries.items c.args.self.now c.self.inside.index.binders c.get.result c.self.view_is c.self.invariant.indexed.binders c.get.ensures c.in-None.is
