use Rattle.std.proofs.Common.{◌≡◌, ◌++◌, drop}
use Rattle.uc_scratch.specs.FileViews.{items_of}
use Rattle.uc_meaning.specs.Words as spec
use Rattle.uc_meaning.proofs.words.file_words.Given as goal

abbrev pub invariant-loop-item : goal.invariant-loop-item
invariant-loop-item l = l.words ++ spec.file_words (items_of (drop l.item-index l.item-items)) ≡ spec.file_words l.file
