use Rattle.std.proofs.Common.{refl, ap, ◌∙◌}
use Rattle.std.specs.Prelude.{bytes_eq}
use Rattle.std.specs.Map.{lookup}
use Rattle.uc_meaning.proofs.EntrySteps.{looked_up}
use Rattle.uc_meaning.proofs.entries.Entries.get.Goals as goal

pub returns : goal.returns
returns c =
    c.copied.ensures ∙ c.get.ensures.value ∙ looked_up c.args.name.now _ (λ v. refl) c.self.inside.targets.entries ∙ ap (lookup (bytes_eq c.args.name.now)) c.self.view_is
