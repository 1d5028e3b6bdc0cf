use Rattle.std.proofs.Common.{◌++◌, sym, ap, ◌∙◌, append_assoc}
use Rattle.uc_scratch.specs.PatternViews.{pattern_form}
use Rattle.uc_scratch.specs.NameFaults.{pattern_atom_names}
use Rattle.uc_scratch.proofs.Sizes.{names_of_named}
use Rattle.uc_scratch.proofs.pattern_names.+add_pattern.Goals as goal

pub add_atom-returns : goal.add_atom-returns
add_atom-returns t c =
    let form = pattern_form c.args.atom.now.form in
    c.in_ok-add_form.ensures
    ∙ ap (λ l. l ++ pattern_atom_names form) (c.in_ok-push_all.ensures ∙ ap (λ l. c.args.out.now ++ l) c.deref.ensures.value)
    ∙ append_assoc c.args.out.now c.args.atom.now.names.items (pattern_atom_names form)
    ∙ ap (λ l. c.args.out.now ++ l) (sym (names_of_named c.args.atom.now.names.items form))
