use Rattle.std.proofs.Common.{◌≡◌, ◌+◌, max, drop}
use Rattle.uc_scratch.specs.TypeExprs.{operand, types_of, type_size, operand_size, atom_size, types_size, atoms_size}
use Rattle.uc_scratch.specs.TypeViews.{type_operand, type_atom, type_atoms, fronts_before}
use Rattle.uc_scratch.specs.TypeLevels as spec
use Rattle.uc_scratch.proofs.type_levels.+type_levels.Given as goal

abbrev pub decreases-type_levels : goal.decreases-type_levels
decreases-type_levels l = type_size l.t.now

abbrev pub decreases-operand_levels : goal.decreases-operand_levels
decreases-operand_levels l = operand_size (type_operand l.operand.now)

abbrev pub decreases-atom_levels : goal.decreases-atom_levels
decreases-atom_levels l = atom_size (type_atom l.atom.now)

abbrev pub decreases-types_levels : goal.decreases-types_levels
decreases-types_levels l = types_size (types_of l.ts.now)

abbrev pub decreases-atoms_levels : goal.decreases-atoms_levels
decreases-atoms_levels l = atoms_size (type_atoms l.atoms.now)

abbrev pub invariant-type_levels-loop-front : goal.invariant-type_levels-loop-front
invariant-type_levels-loop-front l =
    max l.deepest (l.above + spec.type_levels (fronts_before (drop l.front-index l.t-inside.fronts.items) (operand (type_operand l.t-inside.last))))
    ≡ spec.type_levels l.t

abbrev pub invariant-types_levels-loop-t : goal.invariant-types_levels-loop-t
invariant-types_levels-loop-t l = max l.levels (spec.types_levels (types_of (drop l.t-index l.ts))) ≡ spec.types_levels (types_of l.ts)

abbrev pub invariant-atoms_levels-loop-atom : goal.invariant-atoms_levels-loop-atom
invariant-atoms_levels-loop-atom l = max l.levels (spec.type_atoms_levels (type_atoms (drop l.atom-index l.atoms))) ≡ spec.type_atoms_levels (type_atoms l.atoms)
