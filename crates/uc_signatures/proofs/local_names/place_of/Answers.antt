use Rattle.std.proofs.Common.{refl, ap, ◌∙◌}
use Rattle.uc_signatures.specs.LocalViews.{noted}
use Rattle.uc_signatures.proofs.Locals.{looked_up}
use Rattle.uc_signatures.proofs.local_names.place_of.Goals as goal

pub returns-in-None : goal.returns-in-None
returns-in-None c = ap noted (c.in-None.ensures.value ∙ looked_up c.args.text.now _ (λ v. refl) c.args.last.now.entries)

pub returns-in-Some : goal.returns-in-Some
returns-in-Some c = ap noted (c.in-Some.ensures.value ∙ looked_up c.args.text.now _ (λ v. refl) c.args.last.now.entries)
