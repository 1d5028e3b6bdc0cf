use Rattle.std.proofs.Common.{◌≡◌, length}
use Rattle.std.specs.List.{list_all}
use Rattle.uc_base.specs.Name.{segments_of, is_word}
use Rattle.uc_base.proofs.name.are_words.Given as goal

abbrev pub invariant-segments : goal.invariant-segments
invariant-segments l = list_all is_word (segments_of l.rest) ≡ list_all is_word (segments_of l.text)

abbrev pub decreases-segments : goal.decreases-segments
decreases-segments l = length l.rest
