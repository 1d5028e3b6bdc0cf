use Rattle.std.proofs.Common.{◌≡◌, false, inl, inr, refl, sym, ap, rules}
use Rattle.std.proofs.lemmas.Result.{err_from_is_err_and}
use Rattle.uc_scratch.specs.TypeGrammar.{atom_type}
use Rattle.uc_scratch.proofs.Stops.{err_again}
use Rattle.uc_scratch.proofs.Fits.{fits_type_atom}
use Rattle.uc_scratch.proofs.Lengths.{type_atom_length}
use Rattle.uc_scratch.proofs.TypeSteps.{fits_forall, fits_arrow, fits_comma, forall_smaller, arrow_smaller, comma_smaller, variable_found, path_found, reference_found, unit_found, is_of_type, no_type_front, atom_step, atom_none, atoms_done, operand_found_at, con_read, operand_at_con, operand_at_atom, operand_none, forall_step, forall_none, arrow_step, type_none, type_done, comma_step, types_done, types_without, types_not_behind, round_found_at, round_none, list_found, list_not_closed}
use Rattle.uc_scratch.proofs.read_types.+reading_type.Goals as goal

pub read_list_type-returns-in_ok-of-in-Some-clause-found : goal.read_list_type-returns-in_ok-of-in-Some-clause-found
read_list_type-returns-in_ok-of-in-Some-clause-found t c =
    list_found _ _ _ _ _ _ c.in_ok-of.ensures.found c.in-Some.ensures c.in_ok-of-in-Some.ensures.ok

pub read_list_type-returns-in-None-clause-none : goal.read_list_type-returns-in-None-clause-none
read_list_type-returns-in-None-clause-none t c = λ _. list_not_closed _ _ _ _ c.in_ok-of.ensures.found c.in_ok-of.ensures.ends c.in-None.ensures

pub read_round_type-returns-in_err-types-in-None-clause-none : goal.read_round_type-returns-in_err-types-in-None-clause-none
read_round_type-returns-in_err-types-in-None-clause-none t c =
    let p = err_from_is_err_and c.from_residual.result c.from_residual.ensures.1 in
    rw (p.1, p.2) (λ h. round_none _ _ c.in-None.ensures (c.in_err-types-in-None.ensures.none (err_again _ h)))

pub read_round_type-returns-in-Some-clause-found : goal.read_round_type-returns-in-Some-clause-found
read_round_type-returns-in-Some-clause-found t c = unit_found _ _ _ c.in-Some.ensures

pub read_round_type-returns-in_ok-atom-in-None-clause-found : goal.read_round_type-returns-in_ok-atom-in-None-clause-found
read_round_type-returns-in_ok-atom-in-None-clause-found t c = round_found_at _ _ _ _ _ c.in_ok-types-in-None.ensures.found c.in_ok-atom-in-None.ensures

pub read_type-returns-in_err-variables-in-Some-clause-none : goal.read_type-returns-in_err-variables-in-Some-clause-none
read_type-returns-in_err-variables-in-Some-clause-none t c =
    let p = err_from_is_err_and c.from_residual.result c.from_residual.ensures.1 in
    rw (p.1, p.2) (λ h. forall_none _ _ _ _ _ c.in-Some.ensures (c.in_err-variables-in-Some.ensures.none (err_again _ h)) c.fronts.invariant.0)

pub read_type-fronts-smaller-in-Some : goal.read_type-fronts-smaller-in-Some
read_type-fronts-smaller-in-Some t c = forall_smaller _ _ _ _ _ c.in-Some.ensures c.in_ok-variables-in-Some.ensures.found

pub read_type-fronts-preserved-in-Some : goal.read_type-fronts-preserved-in-Some
read_type-fronts-preserved-in-Some t c = (
  forall_step _ _ _ _ _ _ _ _ _ c.in-Some.ensures c.in_ok-variables-in-Some.ensures.found c.in_ok-variables-in-Some.ensures.some (λ _. refl) c.in_ok-push-in-Some.ensures.items c.fronts.invariant.0,
  fits_forall _ _ _ _ _ _ c.in-Some.ensures c.in_ok-variables-in-Some.ensures.found c.fronts.invariant.1,
)

pub read_type-returns-in_err-last-in-None-clause-none : goal.read_type-returns-in_err-last-in-None-clause-none
read_type-returns-in_err-last-in-None-clause-none t c =
    let p = err_from_is_err_and c.from_residual-in_err-last-in-None.result c.from_residual-in_err-last-in-None.ensures.1 in
    rw (p.1, p.2) (λ h. type_none _ _ _ c.in-None.ensures (c.in_err-last-in-None.ensures.none (err_again _ h)) c.fronts.invariant.0)

pub read_type-fronts-smaller : goal.read_type-fronts-smaller
read_type-fronts-smaller t c = arrow_smaller _ _ _ _ c.in_ok-last-in-None.ensures.found c.in-Some-behind.ensures

pub read_type-fronts-preserved : goal.read_type-fronts-preserved
read_type-fronts-preserved t c = (
  arrow_step _ _ _ _ _ _ _ _ c.in_ok-last-in-None.ensures.found c.in-Some-behind.ensures (λ _. refl) c.in_ok-push-in-Some-behind.ensures.items c.fronts.invariant.0,
  fits_arrow _ _ _ _ _ c.in_ok-last-in-None.ensures.found c.in-Some-behind.ensures c.fronts.invariant.1,
)

pub read_type-returns-in-None-behind-clause-found : goal.read_type-returns-in-None-behind-clause-found
read_type-returns-in-None-behind-clause-found t c = type_done _ _ _ _ _ c.in_ok-last-in-None.ensures.found c.fronts.invariant.0

pub read_type_atom-returns-in_ok-copy-in-Variable-clause-found : goal.read_type_atom-returns-in_ok-copy-in-Variable-clause-found
read_type_atom-returns-in_ok-copy-in-Variable-clause-found t c = variable_found _ _ _ _ c.in-Variable.ensures c.in_ok-copy-in-Variable.ensures

pub read_type_atom-returns-in_ok-copy-in-Path-clause-found : goal.read_type_atom-returns-in_ok-copy-in-Path-clause-found
read_type_atom-returns-in_ok-copy-in-Path-clause-found t c = path_found _ _ _ _ c.in-Path.ensures c.in_ok-copy-in-Path.ensures

pub read_type_atom-returns-in_ok-copy-in-Reference-clause-found : goal.read_type_atom-returns-in_ok-copy-in-Reference-clause-found
read_type_atom-returns-in_ok-copy-in-Reference-clause-found t c = reference_found _ _ _ _ c.in-Reference.ensures c.in_ok-copy-in-Reference.ensures

pub read_type_atom-returns-in-Wildcard-clause-none : goal.read_type_atom-returns-in-Wildcard-clause-none
read_type_atom-returns-in-Wildcard-clause-none t c =
    let q : is_of_type c.atom_front.result ≡ false =
    elim c.in-Wildcard.is [ inl w ↦ ap is_of_type w.2 | inr v ↦ elim v [ inl w ↦ ap is_of_type w.2 | inr e ↦ ap is_of_type e ] ] in
    λ _. no_type_front _ c.atom_front.result c.atom_front.ensures q

pub read_type_atoms-returns-in_err-atom-clause-none : goal.read_type_atoms-returns-in_err-atom-clause-none
read_type_atoms-returns-in_err-atom-clause-none t c =
    let p = err_from_is_err_and c.from_residual.result c.from_residual.ensures.1 in
    rw (p.1, p.2) (λ h. atom_none _ _ _ (sym c.atoms-test.ensures) (c.in_err-atom.ensures.none (err_again _ h)) c.atoms.invariant.0)

pub read_type_atoms-atoms-smaller : goal.read_type_atoms-atoms-smaller
read_type_atoms-atoms-smaller t c = type_atom_length c.in_ok-atom.ensures.found

pub read_type_atoms-atoms-preserved : goal.read_type_atoms-atoms-preserved
read_type_atoms-atoms-preserved t c =
    (atom_step _ _ _ _ _ _ c.in_ok-atom.ensures.found c.in_ok-push.ensures.items c.atoms.invariant.0, fits_type_atom _ c.in_ok-atom.ensures.found c.atoms.invariant.1)

pub read_type_atoms-returns-clause-found : goal.read_type_atoms-returns-clause-found
read_type_atoms-returns-clause-found t c = atoms_done _ _ _ c.atoms.invariant.0

pub read_type_operand-returns-in_err-first-clause-none : goal.read_type_operand-returns-in_err-first-clause-none
read_type_operand-returns-in_err-first-clause-none t c =
    let p = err_from_is_err_and c.from_residual.result c.from_residual.ensures.1 in
    rw (p.1, p.2) (λ h. operand_none (c.in_err-first.ensures.none (err_again _ h)))

pub read_type_operand-returns-in_err-atoms-in-Con-clause-none : goal.read_type_operand-returns-in_err-atoms-in-Con-clause-none
read_type_operand-returns-in_err-atoms-in-Con-clause-none t c =
    let p = err_from_is_err_and c.from_residual-in_err-atoms-in-Con.result c.from_residual-in_err-atoms-in-Con.ensures.1 in
    rw (p.1, p.2) (λ h. operand_at_con (con_read _ _ _ _ c.in-Con.is c.in_ok-first.ensures.found) (c.in_err-atoms-in-Con.ensures.none (err_again _ h)))

pub read_type_operand-returns-then-not-ends_atoms : goal.read_type_operand-returns-then-not-ends_atoms
read_type_operand-returns-then-not-ends_atoms t c =
    record { found = tt; ends = tt; none = λ _. operand_at_atom _ _ _ c.in_ok-first.ensures.found c.in_default.not-Con (sym c.if-not-ends_atoms.ensures) }

pub read_type_operand-returns-in_ok-atoms-in-Con-clause-found : goal.read_type_operand-returns-in_ok-atoms-in-Con-clause-found
read_type_operand-returns-in_ok-atoms-in-Con-clause-found t c =
    operand_found_at _ _ _ _ _ _ (con_read _ _ _ _ c.in-Con.is c.in_ok-first.ensures.found) c.in_ok-atoms-in-Con.ensures.found c.operand.ensures

pub read_type_operand-returns-else-not-ends_atoms : goal.read_type_operand-returns-else-not-ends_atoms
read_type_operand-returns-else-not-ends_atoms t c =
    record { found = atom_type c.in_ok-first.ensures.found; ends = sym c.if-not-ends_atoms.ensures; none = search rules }

pub read_types-returns-in_err-of-clause-none : goal.read_types-returns-in_err-of-clause-none
read_types-returns-in_err-of-clause-none t c =
    let p = err_from_is_err_and c.from_residual.result c.from_residual.ensures.1 in
    rw (p.1, p.2) (λ h. types_without _ _ _ (c.in_err-of.ensures.none (err_again _ h)) c.types.invariant.0)

pub read_types-types-smaller : goal.read_types-types-smaller
read_types-types-smaller t c = comma_smaller _ _ _ _ c.in_ok-of.ensures.found c.in-Some.ensures

pub read_types-types-preserved : goal.read_types-types-preserved
read_types-types-preserved t c =
    (comma_step _ _ _ _ _ _ _ c.in_ok-of.ensures.found c.in-Some.ensures c.in_ok-push.ensures.items c.types.invariant.0, fits_comma _ _ _ _ _ c.in_ok-of.ensures.found c.in-Some.ensures c.types.invariant.1)

pub read_types-returns-in-Some-behind-clause-found : goal.read_types-returns-in-Some-behind-clause-found
read_types-returns-in-Some-behind-clause-found t c = types_done _ _ _ _ _ _ _ c.in_ok-of.ensures.found c.in-Some-behind.ensures c.in_ok-push.ensures.items c.types.invariant.0

pub read_types-returns-in-None-behind-clause-none : goal.read_types-returns-in-None-behind-clause-none
read_types-returns-in-None-behind-clause-none t c = λ _. types_not_behind _ _ _ _ _ c.in_ok-of.ensures.found c.in_ok-of.ensures.ends (c.in-None-behind.ensures, c.in-None.ensures) c.types.invariant.0
