use Rattle.std.proofs.Common.{◌≡◌, take}
use Rattle.uc_context.specs.Entries.{is_binder}
use Rattle.uc_context.specs.Index.{last_place}
use Rattle.uc_context.proofs.index.last_binder.Given as goal

abbrev pub invariant-loop-at : goal.invariant-loop-at
invariant-loop-at l = last_place (is_binder l.x) (take l.at l.entries) ≡ last_place (is_binder l.x) l.entries
