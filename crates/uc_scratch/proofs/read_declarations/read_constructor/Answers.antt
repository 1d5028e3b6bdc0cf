use Rattle.std.proofs.lemmas.Result.{err_from_is_err_and}
use Rattle.uc_scratch.proofs.Stops.{err_again}
use Rattle.uc_scratch.proofs.DeclarationSteps.{constructor_found, no_constructor_here, no_constructor_word, no_constructor_fields, fits_behind_word}
use Rattle.uc_scratch.proofs.read_declarations.read_constructor.Goals as goal

pub read_type_atoms-requires : goal.read_type_atoms-requires
read_type_atoms-requires c = fits_behind_word _ _ _ _ _ c.in-Some.ensures c.in-Some-word_of.ensures c.requires

pub returns-in-None-clause-none : goal.returns-in-None-clause-none
returns-in-None-clause-none c = λ _. no_constructor_here _ c.in-None.ensures

pub returns-in-None-word_of-clause-none : goal.returns-in-None-word_of-clause-none
returns-in-None-word_of-clause-none c = λ _. no_constructor_word _ _ _ c.in-Some.ensures c.in-None-word_of.ensures

pub returns-in_err-fields-in-Some-word_of-clause-none : goal.returns-in_err-fields-in-Some-word_of-clause-none
returns-in_err-fields-in-Some-word_of-clause-none c =
    let p = err_from_is_err_and c.from_residual-in_err-fields-in-Some-word_of.result c.from_residual-in_err-fields-in-Some-word_of.ensures.1 in
    rw (p.1, p.2) (λ h. no_constructor_fields _ _ _ c.in-Some.ensures (c.in_err-fields-in-Some-word_of.ensures.none (err_again _ h)))

pub returns-in_ok-fields-in-Some-word_of-clause-found : goal.returns-in_ok-fields-in-Some-word_of-clause-found
returns-in_ok-fields-in-Some-word_of-clause-found c =
    constructor_found _ _ _ _ _ _ _ c.in-Some.ensures c.in-Some-word_of.ensures c.in_ok-name-in-Some-word_of.ensures c.in_ok-fields-in-Some-word_of.ensures.found
