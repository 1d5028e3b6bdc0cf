use Rattle.std.proofs.Common.{refl, ap, ◌∙◌}
use Rattle.uc_meaning.specs.Suffixes.{ending_at}
use Rattle.uc_meaning.proofs.SuffixSteps.{text_found}
use Rattle.uc_meaning.proofs.suffixes.Suffixes.get.Goals as goal

pub returns : goal.returns
returns c =
    c.copied.ensures ∙ c.get.ensures.value ∙ text_found c.args.text.now _ (λ v. refl) c.self.inside.endings.entries ∙ ap (λ s. ending_at s c.args.text.now) c.self.view_is
