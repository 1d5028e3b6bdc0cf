use Rattle.std.proofs.Common.{ap, ◌∙◌}
use Rattle.std.specs.List.{list_all}
use Rattle.uc_meaning.specs.Candidates.{is_same_target}
use Rattle.uc_meaning.proofs.EntrySteps.{all_view}
use Rattle.uc_meaning.proofs.entries.Entries.all_stand_for.Goals as goal

pub loop-t-init : goal.loop-t-init
loop-t-init c =
    ap (list_all (λ t. is_same_target t c.args.target.now)) (c.into_iter-t-iterator.ensures.into_iter_gives ∙ c.values-t-items.ensures.rest)
    ∙ all_view (λ t. is_same_target t c.args.target.now) c.self.inside.targets.entries ∙ ap (list_all (λ e. is_same_target e.1 c.args.target.now)) c.self.view_is
