use Rattle.std.proofs.Common.{◌≡◌, ◌+◌, ◌*◌, max, drop}
use Rattle.uc_scratch.specs.Patterns.{snocs, patterns_of, pattern_size, operand_size, atom_size, patterns_size, operands_size, atoms_size}
use Rattle.uc_scratch.specs.PatternViews.{pattern_operand, pattern_operands, pattern_atom, pattern_atoms, pattern_form, heads_before}
use Rattle.uc_scratch.specs.PatternLevels as spec
use Rattle.uc_scratch.proofs.pattern_levels.+pattern_levels.Given as goal

abbrev pub decreases-pattern_levels : goal.decreases-pattern_levels
decreases-pattern_levels l = 2 * pattern_size l.p.now

abbrev pub decreases-operand_levels : goal.decreases-operand_levels
decreases-operand_levels l = 2 * operand_size (pattern_operand l.operand.now)

abbrev pub decreases-atom_levels : goal.decreases-atom_levels
decreases-atom_levels l = 2 * atom_size (pattern_atom l.atom.now) + 1

abbrev pub decreases-form_levels : goal.decreases-form_levels
decreases-form_levels l = 2 * atom_size (pattern_form l.form.now)

abbrev pub decreases-patterns_levels : goal.decreases-patterns_levels
decreases-patterns_levels l = 2 * patterns_size (patterns_of l.ps.now)

abbrev pub decreases-atoms_levels : goal.decreases-atoms_levels
decreases-atoms_levels l = 2 * atoms_size (pattern_atoms l.atoms.now)

abbrev pub invariant-pattern_levels-loop-head : goal.invariant-pattern_levels-loop-head
invariant-pattern_levels-loop-head l =
    max l.deepest (l.above + spec.pattern_levels (heads_before (drop l.head-index l.p-inside.heads.items) (snocs (pattern_operand l.p-inside.middle) (pattern_operands l.p-inside.tails.items))))
    ≡ spec.pattern_levels l.p

abbrev pub decreases-tails_levels : goal.decreases-tails_levels
decreases-tails_levels l = 2 * operands_size (pattern_operands l.tails.now)

abbrev pub invariant-tails_levels-loop-tail : goal.invariant-tails_levels-loop-tail
invariant-tails_levels-loop-tail l =
    spec.snocs_levels l.levels (pattern_operands (drop l.tail-index l.tails)) ≡ spec.snocs_levels l.before (pattern_operands l.tails)

abbrev pub invariant-patterns_levels-loop-p : goal.invariant-patterns_levels-loop-p
invariant-patterns_levels-loop-p l = max l.levels (spec.patterns_levels (patterns_of (drop l.p-index l.ps))) ≡ spec.patterns_levels (patterns_of l.ps)

abbrev pub invariant-atoms_levels-loop-atom : goal.invariant-atoms_levels-loop-atom
invariant-atoms_levels-loop-atom l = max l.levels (spec.pattern_atoms_levels (pattern_atoms (drop l.atom-index l.atoms))) ≡ spec.pattern_atoms_levels (pattern_atoms l.atoms)
