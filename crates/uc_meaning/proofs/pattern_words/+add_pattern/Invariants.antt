use Rattle.std.proofs.Common.{◌≡◌, ◌++◌, ◌+◌, ◌*◌, drop}
use Rattle.uc_scratch.specs.Patterns.{snocs, patterns_of, pattern_size, operand_size, atom_size, patterns_size, operands_size, atoms_size}
use Rattle.uc_scratch.specs.PatternViews.{pattern_operand, pattern_operands, pattern_atom, pattern_atoms, pattern_form, heads_before}
use Rattle.uc_meaning.specs.Words as spec
use Rattle.uc_meaning.proofs.pattern_words.+add_pattern.Given as goal

abbrev pub decreases-add_pattern : goal.decreases-add_pattern
decreases-add_pattern l = 2 * pattern_size l.p.now

abbrev pub decreases-add_operands : goal.decreases-add_operands
decreases-add_operands l = 2 * operands_size (pattern_operands l.operands.now)

abbrev pub decreases-add_operand : goal.decreases-add_operand
decreases-add_operand l = 2 * operand_size (pattern_operand l.operand.now)

abbrev pub decreases-add_atom : goal.decreases-add_atom
decreases-add_atom l = 2 * atom_size (pattern_atom l.atom.now) + 1

abbrev pub decreases-add_form : goal.decreases-add_form
decreases-add_form l = 2 * atom_size (pattern_form l.form.now)

abbrev pub decreases-add_patterns : goal.decreases-add_patterns
decreases-add_patterns l = 2 * patterns_size (patterns_of l.ps.now)

abbrev pub decreases-add_atoms : goal.decreases-add_atoms
decreases-add_atoms l = 2 * atoms_size (pattern_atoms l.atoms.now)

abbrev pub invariant-add_pattern-loop-head : goal.invariant-add_pattern-loop-head
invariant-add_pattern-loop-head l =
    l.out ++ spec.pattern_words (heads_before (drop l.head-index l.p-inside.heads.items) (snocs (pattern_operand l.p-inside.middle) (pattern_operands l.p-inside.tails.items)))
    ≡ l.initial.out ++ spec.pattern_words l.p

abbrev pub invariant-add_operands-loop-operand : goal.invariant-add_operands-loop-operand
invariant-add_operands-loop-operand l =
    l.out ++ spec.pattern_operands_words (pattern_operands (drop l.operand-index l.operands)) ≡ l.initial.out ++ spec.pattern_operands_words (pattern_operands l.operands)

abbrev pub invariant-add_patterns-loop-p : goal.invariant-add_patterns-loop-p
invariant-add_patterns-loop-p l = l.out ++ spec.patterns_words (patterns_of (drop l.p-index l.ps)) ≡ l.initial.out ++ spec.patterns_words (patterns_of l.ps)

abbrev pub invariant-add_atoms-loop-atom : goal.invariant-add_atoms-loop-atom
invariant-add_atoms-loop-atom l = l.out ++ spec.pattern_atoms_words (pattern_atoms (drop l.atom-index l.atoms)) ≡ l.initial.out ++ spec.pattern_atoms_words (pattern_atoms l.atoms)
