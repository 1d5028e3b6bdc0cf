use Rattle.std.proofs.Common.{◌≡◌, ◌+◌, ◌*◌, true, length}
use Rattle.uc_scratch.specs.Nesting.{fits}
use Rattle.uc_scratch.proofs.TypeSteps.{AtomsSoFar, TypeSoFar, TypesSoFar}
use Rattle.uc_scratch.proofs.read_types.+reading_type.Given as goal

abbrev pub decreases-read_round_type : goal.decreases-read_round_type
decreases-read_round_type l = 8 * l.depth + 1

abbrev pub decreases-read_list_type : goal.decreases-read_list_type
decreases-read_list_type l = 8 * l.depth + 1

abbrev pub decreases-read_type_atom : goal.decreases-read_type_atom
decreases-read_type_atom l = 8 * l.depth + 2

abbrev pub decreases-read_type_atoms : goal.decreases-read_type_atoms
decreases-read_type_atoms l = 8 * l.depth + 3

abbrev pub decreases-read_type_operand : goal.decreases-read_type_operand
decreases-read_type_operand l = 8 * l.depth + 4

abbrev pub decreases-read_type : goal.decreases-read_type
decreases-read_type l = 8 * l.depth + 5

abbrev pub decreases-read_types : goal.decreases-read_types
decreases-read_types l = 8 * l.depth + 6

abbrev pub invariant-read_type_atoms-atoms : goal.invariant-read_type_atoms-atoms
invariant-read_type_atoms-atoms l = AtomsSoFar l.tokens l.rest l.atoms.items × (fits l.depth l.rest ≡ true)

abbrev pub decreases-read_type_atoms-atoms : goal.decreases-read_type_atoms-atoms
decreases-read_type_atoms-atoms l = length l.rest

abbrev pub invariant-read_type-fronts : goal.invariant-read_type-fronts
invariant-read_type-fronts l = TypeSoFar l.tokens l.rest l.fronts.items × (fits l.depth l.rest ≡ true)

abbrev pub decreases-read_type-fronts : goal.decreases-read_type-fronts
decreases-read_type-fronts l = length l.rest

abbrev pub invariant-read_types-types : goal.invariant-read_types-types
invariant-read_types-types l = TypesSoFar l.tokens l.rest l.types.items × (fits l.depth l.rest ≡ true)

abbrev pub decreases-read_types-types : goal.decreases-read_types-types
decreases-read_types-types l = length l.rest
