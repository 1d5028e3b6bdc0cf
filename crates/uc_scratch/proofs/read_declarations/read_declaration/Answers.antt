use Rattle.std.proofs.lemmas.Result.{err_from_is_err_and}
use Rattle.uc_scratch.proofs.Stops.{err_again}
use Rattle.uc_scratch.proofs.DeclarationSteps.{fits_declared, declaration_there, no_declaration_front, no_declaration_constructors, no_declaration_names}
use Rattle.uc_scratch.proofs.read_declarations.read_declaration.Goals as goal

pub read_constructors-requires : goal.read_constructors-requires
read_constructors-requires c = fits_declared _ _ _ _ _ _ c.in_ok-sort.ensures.found c.requires

pub returns-in_err-sort-clause-none : goal.returns-in_err-sort-clause-none
returns-in_err-sort-clause-none c =
    let p = err_from_is_err_and c.from_residual.result c.from_residual.ensures.1 in
    rw (p.1, p.2) (λ h. no_declaration_front _ (c.in_err-sort.ensures.none (err_again _ h)))

pub returns-in_err-constructors-clause-none : goal.returns-in_err-constructors-clause-none
returns-in_err-constructors-clause-none c =
    let p = err_from_is_err_and c.from_residual-in_err-constructors.result c.from_residual-in_err-constructors.ensures.1 in
    rw (p.1, p.2) (λ h. no_declaration_constructors _ _ _ _ _ c.in_ok-sort.ensures.found (c.in_err-constructors.ensures.none (err_again _ h)))

pub returns-then-not-names_fit-clause-none : goal.returns-then-not-names_fit-clause-none
returns-then-not-names_fit-clause-none c = λ _. no_declaration_names _ _ _ _ _ c.in_ok-constructors.constructors.items _ c.in_ok-sort.ensures.found c.in_ok-constructors.ensures.found c.as_slice.ensures.value c.if-not-names_fit.ensures

pub returns-clause-found : goal.returns-clause-found
returns-clause-found c = declaration_there _ _ _ _ _ c.in_ok-constructors.constructors.items _ c.in_ok-sort.ensures.found c.in_ok-constructors.ensures.found c.as_slice.ensures.value c.if-not-names_fit.ensures
