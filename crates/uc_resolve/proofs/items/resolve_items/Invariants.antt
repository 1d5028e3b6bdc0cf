use Rattle.std.proofs.Common.{◌≡◌, drop}
use Rattle.std.specs.Option.{option_map}
use Rattle.uc_scratch.specs.FileViews.{items_of}
use Rattle.uc_meaning.specs.Programs.{items_meaning, file_meaning}
use Rattle.uc_bodies.specs.BodyViews.{signed_of}
use Rattle.uc_resolve.specs.ItemMeanings.{behind}
use Rattle.uc_resolve.specs.ProgramViews.{draft_of}
use Rattle.uc_resolve.proofs.items.resolve_items.Given as goal

abbrev pub invariant-loop-item : goal.invariant-loop-item
invariant-loop-item g l =
    behind (draft_of l.draft) (items_meaning (g.M.Meanings.known l.meanings) l.before.locals (option_map signed_of l.before.signed) l.before.kinds (items_of (drop l.item-index l.items)))
    ≡ file_meaning (g.M.Meanings.known l.meanings) (items_of l.items)
