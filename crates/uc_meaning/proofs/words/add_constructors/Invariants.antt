use Rattle.std.proofs.Common.{◌≡◌, ◌++◌, drop}
use Rattle.uc_scratch.specs.FileViews.{constructors_of}
use Rattle.uc_meaning.specs.Words.{constructors_words}
use Rattle.uc_meaning.proofs.words.add_constructors.Given as goal

abbrev pub invariant-loop-constructor : goal.invariant-loop-constructor
invariant-loop-constructor l =
    l.out ++ constructors_words (constructors_of (drop l.constructor-index l.constructors)) ≡ l.initial.out ++ constructors_words (constructors_of l.constructors)
