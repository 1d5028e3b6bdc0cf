use Rattle.std.proofs.Common.{◌≡◌, drop}
use Rattle.uc_scratch.specs.FileViews.{constructors_of}
use Rattle.uc_meaning.specs.Programs.{ctors_meaning}
use Rattle.uc_resolve.specs.Collected.{after}
use Rattle.uc_resolve.proofs.declarations.constructor_names.Given as goal

abbrev pub invariant-loop-constructor : goal.invariant-loop-constructor
invariant-loop-constructor l =
    after l.names.items (ctors_meaning l.number l.declaration.name l.next (constructors_of (drop l.constructor-index l.declaration.constructors.items)))
    ≡ ctors_meaning l.number l.declaration.name 0 (constructors_of l.declaration.constructors.items)
