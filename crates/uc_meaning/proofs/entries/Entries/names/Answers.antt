use Rattle.std.proofs.Common.{map, ap, ◌∙◌, ◌++◌}
use Rattle.std.specs.List.{list_all}
use Rattle.uc_base.specs.Name.{is_name}
use Rattle.uc_meaning.proofs.EntrySteps.{texts_view}
use Rattle.uc_meaning.proofs.entries.Entries.names.Goals as goal

pub loop-text-init : goal.loop-text-init
loop-text-init c = record {
  texts =
      ap (λ l. l ++ map (λ text. text.items) c.into_iter-text-iterator.result) c.new-names.ensures.items
      ∙ ap (map (λ text. text.items)) (c.into_iter-text-iterator.ensures.into_iter_gives ∙ c.keys-text-items.ensures.rest) ∙ texts_view c.self.inside.targets.entries ∙ ap (map (λ e. e.0)) c.self.view_is;
  named = ap (list_all is_name) c.new-names.ensures.items;
}
