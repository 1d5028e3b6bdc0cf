use Rattle.uc_scratch.proofs.DeclarationSteps.{no_sort_here, plain_found, structural_found, no_structural, unique_at, no_unique_at, no_sort}
use Rattle.uc_scratch.proofs.read_declarations.sort_front.Goals as goal

pub returns-in-None : goal.returns-in-None
returns-in-None c = no_sort_here _ c.in-None.ensures

pub returns-in-TypeWord : goal.returns-in-TypeWord
returns-in-TypeWord c = plain_found _ _ _ _ c.in-Some.ensures c.in-TypeWord.is

pub returns-in-None-type_word_front : goal.returns-in-None-type_word_front
returns-in-None-type_word_front c = no_structural _ _ _ _ c.in-Some.ensures c.in-Structural.is c.in-None-type_word_front.ensures

pub returns-in-Some-type_word_front : goal.returns-in-Some-type_word_front
returns-in-Some-type_word_front c = structural_found _ _ _ _ _ _ c.in-Some.ensures c.in-Structural.is c.in-Some-type_word_front.ensures

pub returns-in-None-sort : goal.returns-in-None-sort
returns-in-None-sort c = no_unique_at _ _ _ _ c.in-Some.ensures c.in-Unique.is (rw c.in-None-sort.is at c.in_ok-sort-in-Unique.ensures)

pub returns-in-Some-sort : goal.returns-in-Some-sort
returns-in-Some-sort c = unique_at _ _ _ _ _ _ c.in-Some.ensures c.in-Unique.is (rw c.in-Some-sort.is at c.in_ok-sort-in-Unique.ensures)

pub returns-in_default : goal.returns-in_default
returns-in_default c = no_sort _ _ _ c.in-Some.ensures c.in_default.not-TypeWord c.in_default.not-Structural c.in_default.not-Unique
