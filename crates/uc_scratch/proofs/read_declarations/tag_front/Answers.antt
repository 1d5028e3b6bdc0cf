use Rattle.uc_scratch.proofs.DeclarationSteps.{tag_there, no_tag_square, no_tag_word}
use Rattle.uc_scratch.proofs.read_declarations.tag_front.Goals as goal

pub returns-in-None : goal.returns-in-None
returns-in-None c = no_tag_square _ c.in-None.ensures

pub returns-in-None-type_word_front : goal.returns-in-None-type_word_front
returns-in-None-type_word_front c = no_tag_word _ _ _ c.in-Some.ensures c.in-None-type_word_front.ensures

pub returns-in-Some-type_word_front : goal.returns-in-Some-type_word_front
returns-in-Some-type_word_front c = tag_there _ _ _ _ _ c.in-Some.ensures c.in-Some-type_word_front.ensures
