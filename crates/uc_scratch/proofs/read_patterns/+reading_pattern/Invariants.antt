use Rattle.std.proofs.Common.{◌≡◌, ◌+◌, ◌*◌, true, length}
use Rattle.uc_scratch.specs.Follows.{ends_pattern_atoms}
use Rattle.uc_scratch.specs.Nesting.{fits}
use Rattle.uc_scratch.specs.PatternBrackets.{closing_terminal}
use Rattle.uc_scratch.proofs.PatternSteps.{NamesSoFar, AtomsSoFar, TailsSoFar, HeadsSoFar, PatternsSoFar}
use Rattle.uc_scratch.proofs.read_patterns.+reading_pattern.Given as goal

abbrev pub decreases-read_round_pattern : goal.decreases-read_round_pattern
decreases-read_round_pattern l = 9 * l.depth + 1

abbrev pub decreases-read_list_pattern : goal.decreases-read_list_pattern
decreases-read_list_pattern l = 9 * l.depth + 1

abbrev pub decreases-read_pattern_form : goal.decreases-read_pattern_form
decreases-read_pattern_form l = 9 * l.depth + 2

abbrev pub decreases-read_pattern_atom : goal.decreases-read_pattern_atom
decreases-read_pattern_atom l = 9 * l.depth + 3

abbrev pub decreases-read_pattern_atoms : goal.decreases-read_pattern_atoms
decreases-read_pattern_atoms l = 9 * l.depth + 4

abbrev pub decreases-read_pattern_operand : goal.decreases-read_pattern_operand
decreases-read_pattern_operand l = 9 * l.depth + 5

abbrev pub decreases-read_tails : goal.decreases-read_tails
decreases-read_tails l = 9 * l.depth + 6

abbrev pub decreases-read_pattern : goal.decreases-read_pattern
decreases-read_pattern l = 9 * l.depth + 7

abbrev pub decreases-read_patterns : goal.decreases-read_patterns
decreases-read_patterns l = 9 * l.depth + 8

abbrev pub invariant-read_pattern_atom-names : goal.invariant-read_pattern_atom-names
invariant-read_pattern_atom-names l = NamesSoFar l.tokens l.rest l.names.items × (fits l.depth l.rest ≡ true)

abbrev pub decreases-read_pattern_atom-names : goal.decreases-read_pattern_atom-names
decreases-read_pattern_atom-names l = length l.rest

abbrev pub invariant-read_pattern_atoms-atoms : goal.invariant-read_pattern_atoms-atoms
invariant-read_pattern_atoms-atoms l = AtomsSoFar l.tokens l.rest l.atoms.items × (fits l.depth l.rest ≡ true)

abbrev pub decreases-read_pattern_atoms-atoms : goal.decreases-read_pattern_atoms-atoms
decreases-read_pattern_atoms-atoms l = length l.rest

abbrev pub invariant-read_tails-tails : goal.invariant-read_tails-tails
invariant-read_tails-tails l =
    TailsSoFar l.tokens l.rest l.tails.items × (ends_pattern_atoms l.rest ≡ true) × (fits l.depth l.rest ≡ true)

abbrev pub decreases-read_tails-tails : goal.decreases-read_tails-tails
decreases-read_tails-tails l = length l.rest

abbrev pub invariant-read_pattern-heads : goal.invariant-read_pattern-heads
invariant-read_pattern-heads l = HeadsSoFar l.tokens l.rest l.heads.items × (fits l.depth l.rest ≡ true)

abbrev pub decreases-read_pattern-heads : goal.decreases-read_pattern-heads
decreases-read_pattern-heads l = length l.rest

abbrev pub invariant-read_patterns-patterns : goal.invariant-read_patterns-patterns
invariant-read_patterns-patterns l =
    PatternsSoFar (closing_terminal l.bracket) l.tokens l.rest l.patterns.items × (fits l.depth l.rest ≡ true)

abbrev pub decreases-read_patterns-patterns : goal.decreases-read_patterns-patterns
decreases-read_patterns-patterns l = length l.rest
