use Rattle.std.proofs.Common.{sym, ap, ◌∙◌, slice_get}
use Rattle.std.specs.Option.{option_copied}
use Rattle.uc_check.proofs.FindBound.{slot_is, unbound_never}
use Rattle.uc_check.proofs.finding.find_variable.Goals as goal

pub unreachable-requires-in_default-binder : goal.unreachable-requires-in_default-binder
unreachable-requires-in_default-binder c =
    unbound_never c.requires.bound c.args.variable c.in-Some.number (slot_is (slice_get c.args.state.now.sight.variables c.args.variable) c.binder.result c.in-Some.number c.binder.ensures c.in-Some.is)
    (sym c.binder-2.ensures ∙ ap option_copied c.in_default-binder.is)
