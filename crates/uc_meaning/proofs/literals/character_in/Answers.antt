use Rattle.std.proofs.Common.{◌∙◌, ap}
use Rattle.std.specs.Prelude.{slice_get, unwrap_or}
use Rattle.std.specs.Str.{chars}
use Rattle.uc_meaning.proofs.LiteralTexts.{character_none, character_some}
use Rattle.uc_meaning.proofs.literals.character_in.Goals as goal

pub returns-in-Ok : goal.returns-in-Ok
returns-in-Ok c =
    c.unwrap_or.ensures ∙ ap (λ o. unwrap_or o 0) c.next.ensures.steps.2
    ∙ ap (λ text. unwrap_or (slice_get (chars text) 0) 0) (c.chars.ensures.rest ∙ c.in-Ok.ensures.cases.0) ∙ character_some c.args.text.now c.in-Ok.ensures.cases.1

pub returns-in-Err : goal.returns-in-Err
returns-in-Err c = character_none c.args.text.now c.in-Err.ensures.cases.0
