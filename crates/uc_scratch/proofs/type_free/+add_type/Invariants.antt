use Rattle.std.proofs.Common.{◌≡◌, ◌+◌, ◌*◌, length, take, drop}
use Rattle.uc_scratch.specs.TypeExprs.{operand, types_of, type_size, operand_size, atom_size, types_size, atoms_size}
use Rattle.uc_scratch.specs.TypeViews.{type_operand, type_atom, type_atoms, fronts_before}
use Rattle.uc_scratch.specs.TypeLevels as spec
use Rattle.uc_scratch.specs.TypeLevels.{quantified_in}
use Rattle.uc_scratch.proofs.Sizes.{front_size}
use Rattle.uc_scratch.proofs.type_free.+add_type.Given as goal

abbrev pub decreases-add_type : goal.decreases-add_type
decreases-add_type l = 2 * type_size l.t.now

abbrev pub decreases-add_front : goal.decreases-add_front
decreases-add_front l = 2 * front_size l.front.now + 1

abbrev pub decreases-add_operand : goal.decreases-add_operand
decreases-add_operand l = 2 * operand_size (type_operand l.operand.now)

abbrev pub decreases-add_atom : goal.decreases-add_atom
decreases-add_atom l = 2 * atom_size (type_atom l.atom.now)

abbrev pub decreases-add_types : goal.decreases-add_types
decreases-add_types l = 2 * types_size (types_of l.ts.now)

abbrev pub decreases-add_atoms : goal.decreases-add_atoms
decreases-add_atoms l = 2 * atoms_size (type_atoms l.atoms.now)

abbrev pub invariant-add_type-loop-front : goal.invariant-add_type-loop-front
invariant-add_type-loop-front l =
    (spec.type_free (quantified_in l.bound l.scope) (fronts_before (drop l.front-index l.t-inside.fronts.items) (operand (type_operand l.t-inside.last))) l.found
    ≡ spec.type_free (quantified_in l.initial.bound l.scope) l.t l.initial.found)
    × (take (length l.initial.bound) l.bound ≡ l.initial.bound)

abbrev pub invariant-add_types-loop-t : goal.invariant-add_types-loop-t
invariant-add_types-loop-t l =
    (spec.types_free (quantified_in l.bound l.scope) (types_of (drop l.t-index l.ts)) l.found ≡ spec.types_free (quantified_in l.initial.bound l.scope) (types_of l.ts) l.initial.found)
    × (l.bound ≡ l.initial.bound)

abbrev pub invariant-add_atoms-loop-atom : goal.invariant-add_atoms-loop-atom
invariant-add_atoms-loop-atom l =
    (spec.type_atoms_free (quantified_in l.bound l.scope) (type_atoms (drop l.atom-index l.atoms)) l.found ≡ spec.type_atoms_free (quantified_in l.initial.bound l.scope) (type_atoms l.atoms) l.initial.found)
    × (l.bound ≡ l.initial.bound)
