use Rattle.std.proofs.Common.{rules}
use Rattle.std.proofs.lemmas.Result.{err_from_is_err_and}
use Rattle.uc_scratch.proofs.Stops.{err_again}
use Rattle.uc_scratch.proofs.DeclarationSteps.{constructors_begin, constructors_bar, constructors_done, constructors_stuck, constructors_none, constructor_smaller, fits_next}
use Rattle.uc_scratch.proofs.read_declarations.read_constructors.Goals as goal

pub constructors-init : goal.constructors-init
constructors-init c = record { so_far = constructors_begin _ _ (search rules); fitting = c.requires }

pub constructors-smaller : goal.constructors-smaller
constructors-smaller c = constructor_smaller _ _ _ _ c.in_ok-constructor.ensures.found c.in-Some.ensures

pub constructors-preserved : goal.constructors-preserved
constructors-preserved c = record {
  so_far = constructors_bar _ _ _ _ _ _ _ c.in_ok-constructor.ensures.found c.in-Some.ensures c.in_ok-push.ensures.items c.constructors.invariant.so_far;
  fitting = fits_next _ _ _ _ _ c.in_ok-constructor.ensures.found c.in-Some.ensures c.constructors.invariant.fitting;
}

pub returns-then-is_empty-clause-found : goal.returns-then-is_empty-clause-found
returns-then-is_empty-clause-found c = constructors_done _ _ _ _ _ _ c.in_ok-constructor.ensures.found (search rules) c.in_ok-push.ensures.items c.constructors.invariant.so_far

pub returns-in-None-clause-none : goal.returns-in-None-clause-none
returns-in-None-clause-none c =
    λ _. constructors_stuck _ _ _ _ _ c.in_ok-constructor.ensures.found c.in_ok-constructor.ensures.ends (search rules) c.in-None.ensures c.constructors.invariant.so_far

pub returns-in_err-constructor-clause-none : goal.returns-in_err-constructor-clause-none
returns-in_err-constructor-clause-none c =
    let p = err_from_is_err_and c.from_residual.result c.from_residual.ensures.1 in
    rw (p.1, p.2) (λ h. constructors_none _ _ _ (c.in_err-constructor.ensures.none (err_again _ h)) c.constructors.invariant.so_far)
