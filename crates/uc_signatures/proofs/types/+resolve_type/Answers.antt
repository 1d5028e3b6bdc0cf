use Rattle.std.proofs.Common.{refl, sym, ap, ◌∙◌, ◌++◌, ◌∷◌, [], drop, arith, Ok}
use Rattle.uc_scratch.specs.TypeExprs.{types_of}
use Rattle.uc_scratch.specs.TypeViews.{type_atoms}
use Rattle.uc_scratch.proofs.Sizes.{type_at, type_atom_at}
use Rattle.uc_meaning.specs.Results.{◌>>=◌}
use Rattle.uc_meaning.specs.TypeMeanings as spec
use Rattle.uc_signatures.specs.Joined.{behind_types}
use Rattle.uc_signatures.specs.PlacedViews.{placed_of}
use Rattle.uc_signatures.proofs.Joined.{type_added, types_at_end}
use Rattle.uc_signatures.proofs.types.+resolve_type.Goals as goal

pub add_atom-returns-clause-added : goal.add_atom-returns-clause-added
add_atom-returns-clause-added g t c = λ bs.
    let further = spec.type_atoms_meaning (g.M.Meanings.known c.args.meanings.now) c.args.usings.now c.args.variables.now bs in
    ap (λ m. behind_types c.args.found.now.tree.items c.args.found.now.places (m >>= λ x. further >>= λ xs. Ok (spec.ty_before x xs))) c.in_ok-t.ensures.value
    ∙ type_added c.args.found.now.tree.items c.args.found.now.places (placed_of c.in_ok-t.t) further
    ∙ sym (ap (λ ts. behind_types ts c.push_type.new.self.places further) c.in_ok-push_type.ensures.tree
    ∙ ap (λ ps. behind_types (c.args.found.now.tree.items ++ c.in_ok-t.t.tree ∷ []) ps further) c.in_ok-push_type.ensures.places)

pub add_type-returns-clause-added : goal.add_type-returns-clause-added
add_type-returns-clause-added g t c = λ us.
    let further = spec.types_meaning (g.M.Meanings.known c.args.meanings.now) c.args.usings.now c.args.variables.now us in
    ap (λ m. behind_types c.args.found.now.tree.items c.args.found.now.places (m >>= λ x. further >>= λ xs. Ok (spec.ty_before x xs))) c.in_ok-t.ensures.value
    ∙ type_added c.args.found.now.tree.items c.args.found.now.places (placed_of c.in_ok-t.t) further
    ∙ sym (ap (λ ts. behind_types ts c.push_type.new.self.places further) c.in_ok-push_type.ensures.tree
    ∙ ap (λ ps. behind_types (c.args.found.now.tree.items ++ c.in_ok-t.t.tree ∷ []) ps further) c.in_ok-push_type.ensures.places)

pub resolve_type_atoms-add_atom-requires : goal.resolve_type_atoms-add_atom-requires
resolve_type_atoms-add_atom-requires g t c κs within = grind (arith, type_atom_at)

pub resolve_type_atoms-returns-clause-value : goal.resolve_type_atoms-returns-clause-value
resolve_type_atoms-returns-clause-value g t c =
    types_at_end (λ bs. spec.type_atoms_meaning (g.M.Meanings.known c.args.meanings.now) c.args.usings.now c.args.variables.now (type_atoms bs)) refl
    c.loop-atom.found.tree.items c.loop-atom.found.places c.loop-atom.atom-index c.args.atoms.now c.loop-atom-test.false
    (ap (λ v. behind_types c.loop-atom.found.tree.items c.loop-atom.found.places (spec.type_atoms_meaning (g.M.Meanings.known c.args.meanings.now) c.args.usings.now v (type_atoms (drop c.loop-atom.atom-index c.args.atoms.now))))
    (sym c.loop-atom.invariant.1) ∙ c.loop-atom.invariant.0)

pub resolve_types-add_type-requires : goal.resolve_types-add_type-requires
resolve_types-add_type-requires g t c κs within = grind (arith, type_at)

pub resolve_types-returns-clause-value : goal.resolve_types-returns-clause-value
resolve_types-returns-clause-value g t c =
    types_at_end (λ us. spec.types_meaning (g.M.Meanings.known c.args.meanings.now) c.args.usings.now c.args.variables.now (types_of us)) refl
    c.loop-t.found.tree.items c.loop-t.found.places c.loop-t.t-index c.args.ts.now c.loop-t-test.false
    (ap (λ v. behind_types c.loop-t.found.tree.items c.loop-t.found.places (spec.types_meaning (g.M.Meanings.known c.args.meanings.now) c.args.usings.now v (types_of (drop c.loop-t.t-index c.args.ts.now))))
    (sym c.loop-t.invariant.1) ∙ c.loop-t.invariant.0)
