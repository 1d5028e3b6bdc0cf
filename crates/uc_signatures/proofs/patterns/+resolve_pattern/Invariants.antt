use Rattle.std.proofs.Common.{◌≡◌, ◌+◌, ◌*◌, drop}
use Rattle.uc_scratch.specs.Patterns.{snocs, patterns_of, pattern_size, operand_size, operands_size, atom_size, patterns_size, atoms_size}
use Rattle.uc_scratch.specs.PatternViews.{heads_before, pattern_operand, pattern_operands, pattern_atom, pattern_atoms, pattern_form}
use Rattle.uc_meaning.specs.PatternMeanings.{operand_start, snocs_meaning, patterns_meaning, atoms_meaning, pattern_meaning}
use Rattle.uc_signatures.specs.Joined.{behind_patterns}
use Rattle.uc_signatures.specs.PlacedViews.{placed_of}
use Rattle.uc_signatures.proofs.patterns.+resolve_pattern.Given as goal

abbrev pub decreases-resolve_pattern : goal.decreases-resolve_pattern
decreases-resolve_pattern g l = 4 * pattern_size l.p.now + 1

abbrev pub decreases-resolve_heads : goal.decreases-resolve_heads
decreases-resolve_heads g l = 4 * pattern_size (heads_before l.heads.now (snocs (pattern_operand l.middle.now) (pattern_operands l.tails.now)))

abbrev pub decreases-resolve_tails : goal.decreases-resolve_tails
decreases-resolve_tails g l = 4 * (operand_size (pattern_operand l.middle.now) + operands_size (pattern_operands l.tails.now)) + 2

abbrev pub decreases-resolve_operand : goal.decreases-resolve_operand
decreases-resolve_operand g l = 4 * operand_size (pattern_operand l.operand.now)

abbrev pub decreases-resolve_atom : goal.decreases-resolve_atom
decreases-resolve_atom g l = 4 * atom_size (pattern_atom l.atom.now) + 1

abbrev pub decreases-resolve_form : goal.decreases-resolve_form
decreases-resolve_form g l = 4 * atom_size (pattern_form l.form.now)

abbrev pub decreases-add_pattern : goal.decreases-add_pattern
decreases-add_pattern g l = 4 * pattern_size l.p.now + 2

abbrev pub decreases-resolve_patterns : goal.decreases-resolve_patterns
decreases-resolve_patterns g l = 4 * patterns_size (patterns_of l.ps.now)

abbrev pub decreases-add_atom : goal.decreases-add_atom
decreases-add_atom g l = 4 * atom_size (pattern_atom l.atom.now) + 2

abbrev pub decreases-resolve_atoms : goal.decreases-resolve_atoms
decreases-resolve_atoms g l = 4 * atoms_size (pattern_atoms l.atoms.now)

abbrev pub invariant-resolve_tails-loop-tail : goal.invariant-resolve_tails-loop-tail
invariant-resolve_tails-loop-tail g l =
    snocs_meaning (g.M.Meanings.known l.meanings) l.usings (operand_start (pattern_operand l.middle)) (placed_of l.front) (pattern_operands (drop l.tail-index l.tails))
    ≡ pattern_meaning (g.M.Meanings.known l.meanings) l.usings (snocs (pattern_operand l.middle) (pattern_operands l.tails))

abbrev pub invariant-resolve_patterns-loop-p : goal.invariant-resolve_patterns-loop-p
invariant-resolve_patterns-loop-p g l =
    behind_patterns l.found.tree.items l.found.places (patterns_meaning (g.M.Meanings.known l.meanings) l.usings (patterns_of (drop l.p-index l.ps)))
    ≡ patterns_meaning (g.M.Meanings.known l.meanings) l.usings (patterns_of l.ps)

abbrev pub invariant-resolve_atoms-loop-atom : goal.invariant-resolve_atoms-loop-atom
invariant-resolve_atoms-loop-atom g l =
    behind_patterns l.found.tree.items l.found.places (atoms_meaning (g.M.Meanings.known l.meanings) l.usings (pattern_atoms (drop l.atom-index l.atoms)))
    ≡ atoms_meaning (g.M.Meanings.known l.meanings) l.usings (pattern_atoms l.atoms)
