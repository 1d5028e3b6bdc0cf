use Rattle.uc_scratch.proofs.DeclarationSteps.{unique_found, tagged_found, no_unique}
use Rattle.uc_scratch.proofs.read_declarations.unique_front.Goals as goal

pub returns-in-Some : goal.returns-in-Some
returns-in-Some c = unique_found _ _ _ _ c.in-Some.ensures

pub returns-in-None-tag_front : goal.returns-in-None-tag_front
returns-in-None-tag_front c = no_unique _ _ c.in-None.ensures c.in-None-tag_front.ensures

pub returns-in_ok-tag-in-Some-tag_front : goal.returns-in_ok-tag-in-Some-tag_front
returns-in_ok-tag-in-Some-tag_front c = tagged_found _ _ _ _ _ c.in-Some-tag_front.ensures c.in_ok-tag-in-Some-tag_front.ensures
