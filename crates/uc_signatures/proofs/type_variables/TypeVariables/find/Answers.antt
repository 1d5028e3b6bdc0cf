use Rattle.std.proofs.Common.{ap, ◌∙◌}
use Rattle.std.specs.Prelude.{bytes_eq}
use Rattle.std.specs.List.{position_from}
use Rattle.uc_meaning.specs.ExprMeanings.{is_binder_of}
use Rattle.uc_signatures.specs.PlacedViews.{named}
use Rattle.uc_signatures.proofs.AllNamed.{found_among}
use Rattle.uc_signatures.proofs.type_variables.TypeVariables.find.Goals as goal

pub returns : goal.returns
returns c =
    c.find.ensures ∙ ap (λ l. position_from (is_binder_of c.args.text.now) 0 l) c.self.invariant ∙ found_among c.args.text.now 0 (named c.self.inside.names)
    ∙ ap (λ l. position_from (bytes_eq c.args.text.now) 0 l) c.self.view_is
