use Rattle.std.proofs.Common.{List, sym, rules}
use Rattle.std.proofs.lemmas.Result.{err_from_is_err_and}
use Rattle.uc_scratch.specs.declared.written.Con.{Con}
use Rattle.uc_scratch.specs.declared.terminal.Terminal.{Terminal}
use Rattle.uc_scratch.specs.PatternGrammar.{list_pattern, atom_pattern}
use Rattle.uc_scratch.specs.AtomFronts.{BeginsCon}
use Rattle.uc_scratch.proofs.Stops.{err_again}
use Rattle.uc_scratch.proofs.Fits.{fits_pattern_operand, fits_pattern_atom}
use Rattle.uc_scratch.proofs.Lengths.{pattern_atom_length}
use Rattle.uc_scratch.proofs.PatternSteps.{is_right, snoc_smaller, cons_smaller, comma_smaller, fits_named, fits_snoc, fits_cons, fits_comma, variable_found, literal_found, any_found, path_con, reference_con_front, con_found, unit_found, other_front, name_step, at_behind, atom_step, atom_none, atoms_done, operand_found_at, operand_at_con, operand_none, operand_at_atom, tail_step, tail_none, cons_behind, tails_done, head_step, pattern_none, tails_none, pattern_done, closing_at, not_closing, comma_step, patterns_done, patterns_without, patterns_not_behind, round_found_at, round_none, empty_list_found}
use Rattle.uc_scratch.proofs.read_patterns.+reading_pattern.Goals as goal

pub read_list_pattern-returns-in-Some-clause-found : goal.read_list_pattern-returns-in-Some-clause-found
read_list_pattern-returns-in-Some-clause-found t c = empty_list_found _ _ _ _ c.in-Some.ensures c.new.ensures.items

pub read_list_pattern-returns-in_ok-patterns-in-None-clause-found : goal.read_list_pattern-returns-in_ok-patterns-in-None-clause-found
read_list_pattern-returns-in_ok-patterns-in-None-clause-found t c = list_pattern c.in_ok-patterns-in-None.ensures.found

pub read_pattern-returns-in_err-middle-clause-none : goal.read_pattern-returns-in_err-middle-clause-none
read_pattern-returns-in_err-middle-clause-none t c =
    let p = err_from_is_err_and c.from_residual.result c.from_residual.ensures.1 in
    rw (p.1, p.2) (λ h. pattern_none _ _ _ (c.in_err-middle.ensures.none (err_again _ h)) c.heads.invariant.0)

pub read_pattern-heads-smaller : goal.read_pattern-heads-smaller
read_pattern-heads-smaller t c = cons_smaller _ _ _ _ _ c.in_ok-middle.ensures.found c.in-Some.ensures

pub read_pattern-heads-preserved : goal.read_pattern-heads-preserved
read_pattern-heads-preserved t c = (
  head_step _ _ _ _ _ _ _ _ c.in_ok-middle.ensures.found c.in-Some.ensures c.in_ok-push-in-Some.ensures.items c.heads.invariant.0,
  fits_cons _ _ _ _ _ _ c.in_ok-middle.ensures.found c.in-Some.ensures c.heads.invariant.1,
)

pub read_pattern-read_tails-requires : goal.read_pattern-read_tails-requires
read_pattern-read_tails-requires t c = (search rules, (c.in_ok-middle.ensures.ends, fits_pattern_operand _ c.in_ok-middle.ensures.found c.heads.invariant.1))

pub read_pattern-returns-in_err-tails-in-None-clause-none : goal.read_pattern-returns-in_err-tails-in-None-clause-none
read_pattern-returns-in_err-tails-in-None-clause-none t c =
    let p = err_from_is_err_and c.from_residual-in_err-tails-in-None.result c.from_residual-in_err-tails-in-None.ensures.1 in
    rw (p.1, p.2) (λ h. tails_none _ _ _ _ _ c.in_ok-middle.ensures.found c.in_ok-middle.ensures.ends c.in-None.ensures (c.in_err-tails-in-None.ensures.none (err_again _ h)) c.heads.invariant.0)

pub read_pattern-returns-in-None-clause-found : goal.read_pattern-returns-in-None-clause-found
read_pattern-returns-in-None-clause-found t c = pattern_done _ _ _ _ _ _ _ c.in_ok-middle.ensures.found c.in_ok-tails-in-None.ensures.found c.heads.invariant.0

pub read_pattern_atom-names-preserved : goal.read_pattern_atom-names-preserved
read_pattern_atom-names-preserved t c =
    (name_step _ _ _ _ _ _ _ c.in-Some.ensures c.in_ok-copy-in-Some.ensures c.in_ok-push-in-Some.ensures.items c.names.invariant.0, fits_named _ _ _ _ c.in-Some.ensures c.names.invariant.1)

pub read_pattern_atom-returns-in-Some-behind-clause-none : goal.read_pattern_atom-returns-in-Some-behind-clause-none
read_pattern_atom-returns-in-Some-behind-clause-none t c = λ _. at_behind _ _ _ _ _ _ c.in-None.ensures c.in_ok-form-in-None.ensures.found c.in-Some-behind.ensures c.names.invariant.0

pub read_pattern_atoms-returns-in_err-atom-clause-none : goal.read_pattern_atoms-returns-in_err-atom-clause-none
read_pattern_atoms-returns-in_err-atom-clause-none t c =
    let p = err_from_is_err_and c.from_residual.result c.from_residual.ensures.1 in
    rw (p.1, p.2) (λ h. atom_none _ _ _ (sym c.atoms-test.ensures) (c.in_err-atom.ensures.none (err_again _ h)) c.atoms.invariant.0)

pub read_pattern_atoms-atoms-smaller : goal.read_pattern_atoms-atoms-smaller
read_pattern_atoms-atoms-smaller t c = pattern_atom_length c.in_ok-atom.ensures.found

pub read_pattern_atoms-atoms-preserved : goal.read_pattern_atoms-atoms-preserved
read_pattern_atoms-atoms-preserved t c =
    (atom_step _ _ _ _ _ _ c.in_ok-atom.ensures.found c.in_ok-atom.ensures.ends c.in_ok-push.ensures.items c.atoms.invariant.0, fits_pattern_atom _ c.in_ok-atom.ensures.found c.atoms.invariant.1)

pub read_pattern_atoms-returns-clause-found : goal.read_pattern_atoms-returns-clause-found
read_pattern_atoms-returns-clause-found t c = atoms_done _ _ _ c.atoms.invariant.0

pub read_pattern_form-returns-in_ok-copy-in-Variable-clause-found : goal.read_pattern_form-returns-in_ok-copy-in-Variable-clause-found
read_pattern_form-returns-in_ok-copy-in-Variable-clause-found t c = variable_found _ _ _ _ c.in-Variable.ensures c.in_ok-copy-in-Variable.ensures

pub read_pattern_form-returns-in_ok-copy-in-Path-clause-found : goal.read_pattern_form-returns-in_ok-copy-in-Path-clause-found
read_pattern_form-returns-in_ok-copy-in-Path-clause-found t c = con_found (path_con _ _ _ _ c.in-Path.ensures c.in_ok-copy-in-Path.ensures)

pub read_pattern_form-returns-in_ok-copy-in-Reference-clause-found : goal.read_pattern_form-returns-in_ok-copy-in-Reference-clause-found
read_pattern_form-returns-in_ok-copy-in-Reference-clause-found t c = con_found (reference_con_front _ _ _ _ c.in-Reference.ensures c.in_ok-copy-in-Reference.ensures)

pub read_pattern_form-returns-in-Wildcard-clause-found : goal.read_pattern_form-returns-in-Wildcard-clause-found
read_pattern_form-returns-in-Wildcard-clause-found t c = any_found _ _ _ c.in-Wildcard.ensures

pub read_pattern_form-returns-in_ok-copy-in-Literal-clause-found : goal.read_pattern_form-returns-in_ok-copy-in-Literal-clause-found
read_pattern_form-returns-in_ok-copy-in-Literal-clause-found t c = literal_found _ _ _ _ c.in-Literal.ensures c.in_ok-copy-in-Literal.ensures

pub read_pattern_form-returns-in-Other-clause-none : goal.read_pattern_form-returns-in-Other-clause-none
read_pattern_form-returns-in-Other-clause-none t c = λ _. other_front _ c.in-Other.ensures

pub read_pattern_operand-returns-in_err-atoms-in-Some-clause-none : goal.read_pattern_operand-returns-in_err-atoms-in-Some-clause-none
read_pattern_operand-returns-in_err-atoms-in-Some-clause-none t c =
    let p = err_from_is_err_and c.from_residual-in_err-atoms-in-Some.result c.from_residual-in_err-atoms-in-Some.ensures.1 in
    let b : BeginsCon c.args.tokens.now c.in-Some.con c.in-Some.after.now = rw c.in-Some.is at c.in_ok-con.ensures in
    rw (p.1, p.2) (λ h. operand_at_con b (c.in_err-atoms-in-Some.ensures.none (err_again _ h)))

pub read_pattern_operand-returns-in_err-atom-in-None-clause-none : goal.read_pattern_operand-returns-in_err-atom-in-None-clause-none
read_pattern_operand-returns-in_err-atom-in-None-clause-none t c =
    let p = err_from_is_err_and c.from_residual-in_err-atom-in-None.result c.from_residual-in_err-atom-in-None.ensures.1 in
    let n : (d : Con) (us : List Terminal) → BeginsCon c.args.tokens.now d us → ⊥ = rw c.in-None.is at c.in_ok-con.ensures in
    rw (p.1, p.2) (λ h. operand_none n (c.in_err-atom-in-None.ensures.none (err_again _ h)))

pub read_pattern_operand-returns-then-not-ends_atoms-clause-none : goal.read_pattern_operand-returns-then-not-ends_atoms-clause-none
read_pattern_operand-returns-then-not-ends_atoms-clause-none t c =
    let n : (d : Con) (us : List Terminal) → BeginsCon c.args.tokens.now d us → ⊥ = rw c.in-None.is at c.in_ok-con.ensures in
    λ _. operand_at_atom n c.in_ok-atom-in-None.ensures.found c.in_ok-atom-in-None.ensures.ends (sym c.if-not-ends_atoms.ensures)

pub read_pattern_operand-returns-in_ok-atoms-in-Some-clause-found : goal.read_pattern_operand-returns-in_ok-atoms-in-Some-clause-found
read_pattern_operand-returns-in_ok-atoms-in-Some-clause-found t c =
    let b : BeginsCon c.args.tokens.now c.in-Some.con c.in-Some.after.now = rw c.in-Some.is at c.in_ok-con.ensures in
    operand_found_at _ _ _ _ _ _ b c.in_ok-atoms-in-Some.ensures.found c.operand.ensures

pub read_pattern_operand-returns-else-not-ends_atoms-clause-found : goal.read_pattern_operand-returns-else-not-ends_atoms-clause-found
read_pattern_operand-returns-else-not-ends_atoms-clause-found t c = atom_pattern c.in_ok-atom-in-None.ensures.found

pub read_patterns-returns-in_err-pattern-clause-none : goal.read_patterns-returns-in_err-pattern-clause-none
read_patterns-returns-in_err-pattern-clause-none t c =
    let p = err_from_is_err_and c.from_residual.result c.from_residual.ensures.1 in
    rw (p.1, p.2) (λ h. patterns_without _ _ _ _ (is_right c.args.bracket) (c.in_err-pattern.ensures.none (err_again _ h)) c.patterns.invariant.0)

pub read_patterns-patterns-smaller : goal.read_patterns-patterns-smaller
read_patterns-patterns-smaller t c = comma_smaller _ _ _ _ c.in_ok-pattern.ensures.found c.in-Some.ensures

pub read_patterns-patterns-preserved : goal.read_patterns-patterns-preserved
read_patterns-patterns-preserved t c = (
  comma_step _ _ _ _ _ _ _ _ (is_right c.args.bracket) c.in_ok-pattern.ensures.found c.in-Some.ensures c.in_ok-push.ensures.items c.patterns.invariant.0,
  fits_comma _ _ _ _ _ c.in_ok-pattern.ensures.found c.in-Some.ensures c.patterns.invariant.1,
)

pub read_patterns-returns-in-Some-behind-clause-found : goal.read_patterns-returns-in-Some-behind-clause-found
read_patterns-returns-in-Some-behind-clause-found t c =
    patterns_done _ _ _ _ _ _ _ _ c.in_ok-pattern.ensures.found (closing_at _ _ _ _ c.closing.ensures c.in-Some-behind.ensures) c.in_ok-push.ensures.items c.patterns.invariant.0

pub read_patterns-returns-in-None-behind-clause-none : goal.read_patterns-returns-in-None-behind-clause-none
read_patterns-returns-in-None-behind-clause-none t c =
    λ _. patterns_not_behind _ _ _ _ _ _ (is_right c.args.bracket) c.in_ok-pattern.ensures.found c.in_ok-pattern.ensures.ends (not_closing _ _ _ c.closing.ensures c.in-None-behind.ensures) c.in-None.ensures c.patterns.invariant.0

pub read_round_pattern-returns-in_err-patterns-in-None-clause-none : goal.read_round_pattern-returns-in_err-patterns-in-None-clause-none
read_round_pattern-returns-in_err-patterns-in-None-clause-none t c =
    let p = err_from_is_err_and c.from_residual.result c.from_residual.ensures.1 in
    rw (p.1, p.2) (λ h. round_none _ _ c.in-None.ensures (c.in_err-patterns-in-None.ensures.none (err_again _ h)))

pub read_round_pattern-returns-in-Some-clause-found : goal.read_round_pattern-returns-in-Some-clause-found
read_round_pattern-returns-in-Some-clause-found t c = unit_found _ _ _ c.in-Some.ensures

pub read_round_pattern-returns-in_ok-form-in-None-clause-found : goal.read_round_pattern-returns-in_ok-form-in-None-clause-found
read_round_pattern-returns-in_ok-form-in-None-clause-found t c = round_found_at _ _ _ _ _ c.in_ok-patterns-in-None.ensures.found c.in_ok-form-in-None.ensures

pub read_tails-returns-in_err-operand-in-Some-clause-none : goal.read_tails-returns-in_err-operand-in-Some-clause-none
read_tails-returns-in_err-operand-in-Some-clause-none t c =
    let p = err_from_is_err_and c.from_residual.result c.from_residual.ensures.1 in
    rw (p.1, p.2) (λ h. tail_none _ _ _ _ _ c.in-Some.ensures (c.in_err-operand-in-Some.ensures.none (err_again _ h)) c.tails.invariant.0)

pub read_tails-tails-smaller : goal.read_tails-tails-smaller
read_tails-tails-smaller t c = snoc_smaller _ _ _ _ _ c.in-Some.ensures c.in_ok-operand-in-Some.ensures.found

pub read_tails-tails-preserved : goal.read_tails-tails-preserved
read_tails-tails-preserved t c = (
  tail_step _ _ _ _ _ _ _ _ c.in-Some.ensures c.in_ok-operand-in-Some.ensures.found c.in_ok-operand-in-Some.ensures.ends c.in_ok-push-in-Some.ensures.items c.tails.invariant.0,
  c.in_ok-operand-in-Some.ensures.ends,
  fits_snoc _ _ _ _ _ _ c.in-Some.ensures c.in_ok-operand-in-Some.ensures.found c.tails.invariant.2,
)

pub read_tails-returns-in-Some-cons_front-clause-none : goal.read_tails-returns-in-Some-cons_front-clause-none
read_tails-returns-in-Some-cons_front-clause-none t c = λ _. cons_behind _ _ _ _ _ c.in-Some-cons_front.ensures c.tails.invariant.0

pub read_tails-returns-in-None-cons_front-clause-found : goal.read_tails-returns-in-None-cons_front-clause-found
read_tails-returns-in-None-cons_front-clause-found t c = tails_done _ _ _ c.tails.invariant.0
