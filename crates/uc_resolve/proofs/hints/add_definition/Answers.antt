use Rattle.std.proofs.Common.{◌∷◌, ◌++◌, sym, ap, ◌∙◌}
use Rattle.uc_scratch.specs.FileViews.{item_of}
use Rattle.uc_tree.specs.Hints.{names_of}
use Rattle.uc_meaning.specs.Hints.{definitions_hints}
use Rattle.uc_resolve.specs.HintViews.{bound_hints}
use Rattle.uc_resolve.proofs.HintSteps.{member_added, definition_hints}
use Rattle.uc_resolve.proofs.hints.add_definition.Goals as goal

pub returns-in_ok-push-in-Binding : goal.returns-in_ok-push-in-Binding
returns-in_ok-push-in-Binding c = λ is.
    let old = c.args.out.now.items in
    let binding = c.in-Binding.binding in
    member_added old c.push.new.self.items _ (bound_hints binding.front binding.body) (definitions_hints is) c.in_ok-push-in-Binding.ensures.items c.in_ok-bound_names-in-Binding.ensures
    ∙ ap (λ l. names_of old ++ l) (sym (definition_hints binding.front binding.body is))
    ∙ ap (λ i. names_of old ++ definitions_hints (item_of i ∷ is)) (sym c.in-Binding.is)
