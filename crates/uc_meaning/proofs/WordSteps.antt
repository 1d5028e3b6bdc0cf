-- The names that written trees have.
use Rattle.std.proofs.Common.{◌≡◌, List, [], ◌∷◌, refl}
use Rattle.uc_scratch.specs.declared.written.Written.{Written}
use Rattle.uc_scratch.specs.Patterns.{PatternAtom}
use Rattle.uc_scratch.specs.PatternViews.{names_before}
use Rattle.uc_scratch.proofs.Sizes.{pattern_at, pattern_atom_at, pattern_operand_at, heads_size, form_below}
use Rattle.uc_meaning.specs.Words.{pattern_atom_words}

-- names with `@` add none
pub words_of_named : (ws : List Written) (a : PatternAtom) → pattern_atom_words (names_before ws a) ≡ pattern_atom_words a
words_of_named [] a = refl
words_of_named (w ∷ ws) a = words_of_named ws a

pub ruleset pattern_parts = (pattern_at, pattern_atom_at, pattern_operand_at, heads_size, form_below, words_of_named)
