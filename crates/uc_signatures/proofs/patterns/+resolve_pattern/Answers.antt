use Rattle.std.proofs.Common.{refl, sym, ap, ◌∙◌, ◌++◌, ◌∷◌, [], arith, rules, Ok}
use Rattle.uc_scratch.specs.Patterns.{patterns_of}
use Rattle.uc_scratch.specs.PatternViews.{pattern_atoms, pattern_form}
use Rattle.uc_scratch.proofs.Sizes.{pattern_at, pattern_atom_at, pattern_operand_at, form_below}
use Rattle.uc_meaning.specs.Results.{◌>>=◌}
use Rattle.uc_meaning.specs.PatternMeanings as spec
use Rattle.uc_signatures.specs.Joined.{behind_patterns}
use Rattle.uc_signatures.specs.PlacedViews.{placed_of, aliases}
use Rattle.uc_signatures.proofs.Joined.{pattern_added, patterns_at_end, aliases_of}
use Rattle.uc_signatures.proofs.patterns.+resolve_pattern.Goals as goal

pub add_atom-returns-clause-added : goal.add_atom-returns-clause-added
add_atom-returns-clause-added g t c = λ bs.
    let further = spec.atoms_meaning (g.M.Meanings.known c.args.meanings.now) c.args.usings.now bs in
    ap (λ m. behind_patterns c.args.found.now.tree.items c.args.found.now.places (m >>= λ x. further >>= λ xs. Ok (spec.pattern_before x xs))) c.in_ok-p.ensures
    ∙ pattern_added c.args.found.now.tree.items c.args.found.now.places (placed_of c.in_ok-p.p) further
    ∙ sym (ap (λ ts. behind_patterns ts c.push_pattern.new.self.places further) c.in_ok-push_pattern.ensures.tree
    ∙ ap (λ ps. behind_patterns (c.args.found.now.tree.items ++ c.in_ok-p.p.tree ∷ []) ps further) c.in_ok-push_pattern.ensures.places)

pub add_pattern-returns-clause-added : goal.add_pattern-returns-clause-added
add_pattern-returns-clause-added g t c = λ us.
    let further = spec.patterns_meaning (g.M.Meanings.known c.args.meanings.now) c.args.usings.now us in
    ap (λ m. behind_patterns c.args.found.now.tree.items c.args.found.now.places (m >>= λ x. further >>= λ xs. Ok (spec.pattern_before x xs))) c.in_ok-p.ensures
    ∙ pattern_added c.args.found.now.tree.items c.args.found.now.places (placed_of c.in_ok-p.p) further
    ∙ sym (ap (λ ts. behind_patterns ts c.push_pattern.new.self.places further) c.in_ok-push_pattern.ensures.tree
    ∙ ap (λ ps. behind_patterns (c.args.found.now.tree.items ++ c.in_ok-p.p.tree ∷ []) ps further) c.in_ok-push_pattern.ensures.places)

pub resolve_atom-resolve_form-requires : goal.resolve_atom-resolve_form-requires
resolve_atom-resolve_form-requires g t c κs within = grind (arith, form_below)

pub resolve_atom-returns-in_err-inside : goal.resolve_atom-returns-in_err-inside
resolve_atom-returns-in_err-inside g t c = rw (aliases_of (g.M.Meanings.known c.args.meanings.now) c.args.usings.now c.args.atom.now.names.items (pattern_form c.args.atom.now.form)) (search rules)

pub resolve_atom-returns : goal.resolve_atom-returns
resolve_atom-returns g t c =
    aliases_of (g.M.Meanings.known c.args.meanings.now) c.args.usings.now c.args.atom.now.names.items (pattern_form c.args.atom.now.form)
    ∙ ap (λ m. m >>= λ x. Ok (aliases c.args.atom.now.names.items x)) c.in_ok-inside.ensures
    ∙ ap (λ ws. Ok (aliases ws (placed_of c.in_ok-inside.inside))) (sym c.deref.ensures.value) ∙ ap Ok (sym c.in_ok-aliases_over.ensures)

pub resolve_atoms-add_atom-requires : goal.resolve_atoms-add_atom-requires
resolve_atoms-add_atom-requires g t c κs within = grind (arith, pattern_atom_at)

pub resolve_atoms-returns : goal.resolve_atoms-returns
resolve_atoms-returns g t c =
    patterns_at_end (λ bs. spec.atoms_meaning (g.M.Meanings.known c.args.meanings.now) c.args.usings.now (pattern_atoms bs)) refl
    c.loop-atom.found.tree.items c.loop-atom.found.places c.loop-atom.atom-index c.args.atoms.now c.loop-atom-test.false c.loop-atom.invariant

pub resolve_patterns-add_pattern-requires : goal.resolve_patterns-add_pattern-requires
resolve_patterns-add_pattern-requires g t c κs within = grind (arith, pattern_at)

pub resolve_patterns-returns : goal.resolve_patterns-returns
resolve_patterns-returns g t c =
    patterns_at_end (λ us. spec.patterns_meaning (g.M.Meanings.known c.args.meanings.now) c.args.usings.now (patterns_of us)) refl
    c.loop-p.found.tree.items c.loop-p.found.places c.loop-p.p-index c.args.ps.now c.loop-p-test.false c.loop-p.invariant

pub resolve_tails-resolve_operand-requires-in-loop-tail : goal.resolve_tails-resolve_operand-requires-in-loop-tail
resolve_tails-resolve_operand-requires-in-loop-tail g t c κs within = grind (arith, pattern_operand_at)
