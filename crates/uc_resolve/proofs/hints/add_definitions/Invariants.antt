use Rattle.std.proofs.Common.{◌≡◌, ◌++◌, drop}
use Rattle.uc_scratch.specs.FileViews.{items_of}
use Rattle.uc_tree.specs.Hints.{names_of}
use Rattle.uc_meaning.specs.Hints.{definitions_hints}
use Rattle.uc_resolve.proofs.hints.add_definitions.Given as goal

abbrev pub invariant-loop-item : goal.invariant-loop-item
invariant-loop-item l = names_of l.out.items ++ definitions_hints (items_of (drop l.item-index l.items)) ≡ names_of l.initial.out.items ++ definitions_hints (items_of l.items)
