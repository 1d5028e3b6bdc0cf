use Rattle.std.proofs.Common.{◌≡◌, ◌++◌, ◌+◌, ◌*◌, drop}
use Rattle.uc_scratch.specs.TypeExprs.{operand, types_of, type_size, operand_size, atom_size, types_size, atoms_size}
use Rattle.uc_scratch.specs.TypeViews.{type_operand, type_atom, type_atoms, fronts_before}
use Rattle.uc_scratch.proofs.Sizes.{front_size}
use Rattle.uc_meaning.specs.Words as spec
use Rattle.uc_meaning.proofs.type_words.+add_type.Given as goal

abbrev pub decreases-add_type : goal.decreases-add_type
decreases-add_type l = 2 * type_size l.t.now

abbrev pub decreases-add_front : goal.decreases-add_front
decreases-add_front l = 2 * front_size l.front.now + 1

abbrev pub decreases-add_operand : goal.decreases-add_operand
decreases-add_operand l = 2 * operand_size (type_operand l.operand.now)

abbrev pub decreases-add_atom : goal.decreases-add_atom
decreases-add_atom l = 2 * atom_size (type_atom l.atom.now)

abbrev pub decreases-add_types : goal.decreases-add_types
decreases-add_types l = 2 * types_size (types_of l.ts.now)

abbrev pub decreases-add_atoms : goal.decreases-add_atoms
decreases-add_atoms l = 2 * atoms_size (type_atoms l.atoms.now)

abbrev pub invariant-add_type-loop-front : goal.invariant-add_type-loop-front
invariant-add_type-loop-front l =
    l.out ++ spec.type_words (fronts_before (drop l.front-index l.t-inside.fronts.items) (operand (type_operand l.t-inside.last))) ≡ l.initial.out ++ spec.type_words l.t

abbrev pub invariant-add_types-loop-t : goal.invariant-add_types-loop-t
invariant-add_types-loop-t l = l.out ++ spec.types_words (types_of (drop l.t-index l.ts)) ≡ l.initial.out ++ spec.types_words (types_of l.ts)

abbrev pub invariant-add_atoms-loop-atom : goal.invariant-add_atoms-loop-atom
invariant-add_atoms-loop-atom l = l.out ++ spec.type_atoms_words (type_atoms (drop l.atom-index l.atoms)) ≡ l.initial.out ++ spec.type_atoms_words (type_atoms l.atoms)
