use Rattle.std.proofs.Common.{Some, ap, sym, ◌∙◌}
use Rattle.uc_tree.specs.declared.definition.Definition.{Definition}
use Rattle.uc_tree.specs.declared.item.Item.TheVariants.{Term}
use Rattle.uc_tree.specs.Replacing.{by_members, replaced}
use Rattle.uc_canon.proofs.TakenInOrder.{definition_from}
use Rattle.uc_canon.proofs.reordering.renumbered_definition.Goals as goal

pub returns-clause-definition : goal.returns-clause-definition
returns-clause-definition c =
    definition_from c.args.numbers.now c.args.definition.now c.in-Some-Term.renumbered
    (ap (λ (d : Definition). replaced (by_members c.args.numbers.now) (Term d)) (sym c.in_ok-copy.ensures) ∙ sym c.in_ok-renumbered.ensures.item ∙ c.in-Some-Term.is ∙ ap Some c.in-Some-Term.field-0-is)
