use Rattle.std.proofs.Common.{◌≡◌, ◌+◌, ◌*◌, drop}
use Rattle.uc_scratch.specs.TypeExprs.{types_of, type_size, operand_size, atom_size, types_size, atoms_size}
use Rattle.uc_scratch.specs.TypeViews.{type_of, type_operand, type_atom, type_atoms}
use Rattle.uc_meaning.specs.TypeMeanings.{types_meaning, type_atoms_meaning}
use Rattle.uc_signatures.specs.Joined.{behind_types}
use Rattle.uc_signatures.proofs.types.+resolve_type.Given as goal

abbrev pub decreases-resolve_type : goal.decreases-resolve_type
decreases-resolve_type g l = 3 * type_size l.t.now + 1

abbrev pub decreases-resolve_fronts : goal.decreases-resolve_fronts
decreases-resolve_fronts g l = 3 * type_size (type_of l.fronts.now l.last.now)

abbrev pub decreases-resolve_operand : goal.decreases-resolve_operand
decreases-resolve_operand g l = 3 * operand_size (type_operand l.operand.now)

abbrev pub decreases-resolve_atom : goal.decreases-resolve_atom
decreases-resolve_atom g l = 3 * atom_size (type_atom l.atom.now)

abbrev pub decreases-add_type : goal.decreases-add_type
decreases-add_type g l = 3 * type_size l.t.now + 2

abbrev pub decreases-resolve_types : goal.decreases-resolve_types
decreases-resolve_types g l = 3 * types_size (types_of l.ts.now)

abbrev pub decreases-add_atom : goal.decreases-add_atom
decreases-add_atom g l = 3 * atom_size (type_atom l.atom.now) + 1

abbrev pub decreases-resolve_type_atoms : goal.decreases-resolve_type_atoms
decreases-resolve_type_atoms g l = 3 * atoms_size (type_atoms l.atoms.now)

abbrev pub invariant-resolve_types-loop-t : goal.invariant-resolve_types-loop-t
invariant-resolve_types-loop-t g l =
    (behind_types l.found.tree.items l.found.places (types_meaning (g.M.Meanings.known l.meanings) l.usings l.variables (types_of (drop l.t-index l.ts)))
    ≡ types_meaning (g.M.Meanings.known l.meanings) l.usings l.initial.variables (types_of l.ts))
    × (l.variables ≡ l.initial.variables)

abbrev pub invariant-resolve_type_atoms-loop-atom : goal.invariant-resolve_type_atoms-loop-atom
invariant-resolve_type_atoms-loop-atom g l =
    (behind_types l.found.tree.items l.found.places (type_atoms_meaning (g.M.Meanings.known l.meanings) l.usings l.variables (type_atoms (drop l.atom-index l.atoms)))
    ≡ type_atoms_meaning (g.M.Meanings.known l.meanings) l.usings l.initial.variables (type_atoms l.atoms))
    × (l.variables ≡ l.initial.variables)
