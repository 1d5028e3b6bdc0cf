-- The loops over steps, expressions and cases: what is left means the same in the scope at the front, which each part gives back.
use Rattle.std.proofs.Common.{◌≡◌, ◌⊎◌, inl, inr, ℕ, ◌+◌, ◌<◌, ◌≤◌, List, [], ◌∷◌, ◌++◌, drop, get_or, length, Result, Ok, Err, refl, ap, sym, ◌∙◌}
use Rattle.uc_base.specs.declared.place.Place.{Place}
use Rattle.uc_base.specs.declared.fault.Fault.{Fault}
use Rattle.uc_base.specs.declared.fault.Fault.TheVariants.{Memory}
use Rattle.uc_tree.specs.Terms.{Term, Terms, Cases, more, none, no_case, terms_of}
use Rattle.uc_tree.specs.TermViews.{cases_of as tree_cases}
use Rattle.uc_tree.specs.declared.term.Case as tree_case
use Rattle.uc_scratch.specs.Exprs.{Expr, done, exprs_of}
use Rattle.uc_scratch.specs.ExprViews.{cases_of, steps_before}
use Rattle.uc_scratch.specs.declared.expr.Step.{Step}
use Rattle.uc_scratch.specs.declared.block.Case.{Case}
use Rattle.uc_meaning.specs.Meanings.{Known}
use Rattle.uc_meaning.specs.Placed.{Placed}
use Rattle.uc_meaning.specs.Results.{◌>>=◌}
use Rattle.uc_meaning.specs.ExprMeanings.{Scope, Parts, Outer, no_parts, term_before, expr_meaning, exprs_meaning, cases_meaning}
use Rattle.uc_bodies.specs.StepMeanings.{step_meaning, case_meaning}
use Rattle.uc_bodies.proofs.Steps.{goes_on, stops, fails, fails_as}
use Rattle.uc_bodies.proofs.StepLaws.{next_step, case_first}
use Rattle.uc_bodies.proofs.Gathered.{ahead, put_case, gathers, fails_at, gathered, all_terms, all_cases}

module _ (known : Known) (scope now : Scope) (same : now ≡ scope) where
  -- a step
  pub step_passed : (ss : List Step) (i : ℕ) (st : Step) (s : Parts) (os : Outer) (after : Parts × Outer) (whole : Result (Placed Term) Fault)
      → i < length ss → st ≡ get_or ss i st → step_meaning known now st s os ≡ Ok after
      → expr_meaning known scope (steps_before (drop i ss) done) s os ≡ whole
      → expr_meaning known scope (steps_before (drop (i + 1) ss) done) after.0 after.1 ≡ whole
  step_passed ss i st s os after whole h is passed so_far =
      sym (goes_on (step_meaning known scope st s os) after (λ r. expr_meaning known scope (steps_before (drop (i + 1) ss) done) r.0 r.1)
      (sym (ap (λ l. step_meaning known l st s os) same) ∙ passed))
      ∙ sym (next_step known scope ss i st s os h is) ∙ so_far

  pub step_failed : (ss : List Step) (i : ℕ) (st : Step) (s : Parts) (os : Outer) (whole : Result (Placed Term) Fault) (fault : Fault)
      → i < length ss → st ≡ get_or ss i st → (fault ≡ Memory) ⊎ (step_meaning known now st s os ≡ Err fault)
      → expr_meaning known scope (steps_before (drop i ss) done) s os ≡ whole
      → (fault ≡ Memory) ⊎ (whole ≡ Err fault)
  step_failed ss i st s os whole fault h is failed so_far =
      fails_as (step_meaning known scope st s os >>= λ r. expr_meaning known scope (steps_before (drop (i + 1) ss) done) r.0 r.1) whole fault
      (sym so_far ∙ next_step known scope ss i st s os h is)
      (fails (step_meaning known scope st s os) fault (λ r. expr_meaning known scope (steps_before (drop (i + 1) ss) done) r.0 r.1)
      (fails_as (step_meaning known now st s os) (step_meaning known scope st s os) fault (sym (ap (λ l. step_meaning known l st s os) same)) failed))

  -- an expression of a list
  pub expr_passed : (es : List Expr) (i : ℕ) (e : Expr) (xs ys : List Term) (ps qs : List Place) (x : Placed Term) (whole : Result (Placed Terms) Fault)
      → i < length es → e ≡ get_or es i e → expr_meaning known now e no_parts [] ≡ Ok x → ys ≡ xs ++ x.0 ∷ [] → qs ≡ ps ++ x.1
      → (exprs_meaning known scope (exprs_of (drop i es)) >>= λ r. Ok (ahead more xs ps r)) ≡ whole
      → (exprs_meaning known scope (exprs_of (drop (i + 1) es)) >>= λ r. Ok (ahead more ys qs r)) ≡ whole
  expr_passed es i e xs ys ps qs x whole h is passed tree places so_far =
      ap (λ l. exprs_meaning known scope (exprs_of (drop (i + 1) es)) >>= λ r. Ok (ahead more l qs r)) tree
      ∙ ap (λ l. exprs_meaning known scope (exprs_of (drop (i + 1) es)) >>= λ r. Ok (ahead more (xs ++ x.0 ∷ []) l r)) places
      ∙ gathers more (λ (l : List Expr). exprs_meaning known scope (exprs_of l)) es i e xs ps x.0 x.1 whole h is
      (λ rest. goes_on (expr_meaning known scope e no_parts []) x (λ y. exprs_meaning known scope (exprs_of rest) >>= λ r. Ok (term_before y r))
      (sym (ap (λ l. expr_meaning known l e no_parts []) same) ∙ passed))
      so_far

  -- a case
  pub case_passed : (cs : List Case) (i : ℕ) (c : Case) (xs ys : List tree_case.Case) (ps qs : List Place) (x : Placed tree_case.Case) (whole : Result (Placed Cases) Fault)
      → i < length cs → c ≡ get_or cs i c → case_meaning known now c ≡ Ok x → ys ≡ xs ++ x.0 ∷ [] → qs ≡ ps ++ x.1
      → (cases_meaning known scope (cases_of (drop i cs)) >>= λ r. Ok (ahead put_case xs ps r)) ≡ whole
      → (cases_meaning known scope (cases_of (drop (i + 1) cs)) >>= λ r. Ok (ahead put_case ys qs r)) ≡ whole
  case_passed cs i c xs ys ps qs x whole h is passed tree places so_far =
      ap (λ l. cases_meaning known scope (cases_of (drop (i + 1) cs)) >>= λ r. Ok (ahead put_case l qs r)) tree
      ∙ ap (λ l. cases_meaning known scope (cases_of (drop (i + 1) cs)) >>= λ r. Ok (ahead put_case (xs ++ x.0 ∷ []) l r)) places
      ∙ gathers put_case (λ (l : List Case). cases_meaning known scope (cases_of l)) cs i c xs ps x.0 x.1 whole h is
      (λ rest. case_first known scope c (cases_of rest)
      ∙ goes_on (case_meaning known scope c) x (λ y. cases_meaning known scope (cases_of rest) >>= λ r. Ok (put_case y.0 r.0, y.1 ++ r.1))
      (sym (ap (λ l. case_meaning known l c) same) ∙ passed))
      so_far

  pub case_failed : (cs : List Case) (i : ℕ) (c : Case) (xs : List tree_case.Case) (ps : List Place) (whole : Result (Placed Cases) Fault) (fault : Fault)
      → i < length cs → c ≡ get_or cs i c → (fault ≡ Memory) ⊎ (case_meaning known now c ≡ Err fault)
      → (cases_meaning known scope (cases_of (drop i cs)) >>= λ r. Ok (ahead put_case xs ps r)) ≡ whole
      → (fault ≡ Memory) ⊎ (whole ≡ Err fault)
  case_failed cs i c xs ps whole fault h is (inl m) so_far = inl m
  case_failed cs i c xs ps whole fault h is (inr failed) so_far =
      inr (fails_at put_case (λ (l : List Case). cases_meaning known scope (cases_of l)) cs i c xs ps whole fault h is
      (λ rest. case_first known scope c (cases_of rest)
      ∙ stops (case_meaning known scope c) fault (λ y. cases_meaning known scope (cases_of rest) >>= λ r. Ok (put_case y.0 r.0, y.1 ++ r.1))
      (sym (ap (λ l. case_meaning known l c) same) ∙ failed))
      so_far)

-- all expressions of a list
pub exprs_passed : (known : Known) (scope : Scope) (es : List Expr) (i : ℕ) (xs : List Term) (ps : List Place) (whole : Result (Placed Terms) Fault)
    → length es ≤ i → (exprs_meaning known scope (exprs_of (drop i es)) >>= λ r. Ok (ahead more xs ps r)) ≡ whole → whole ≡ Ok (terms_of xs, ps)
exprs_passed known scope es i xs ps whole h so_far =
    gathered more (λ (l : List Expr). exprs_meaning known scope (exprs_of l)) es i xs ps whole none h refl so_far ∙ ap (λ t. Ok (t, ps)) (all_terms xs)

-- all cases
pub cases_passed : (known : Known) (scope : Scope) (cs : List Case) (i : ℕ) (xs : List tree_case.Case) (ps : List Place) (whole : Result (Placed Cases) Fault)
    → length cs ≤ i → (cases_meaning known scope (cases_of (drop i cs)) >>= λ r. Ok (ahead put_case xs ps r)) ≡ whole → whole ≡ Ok (tree_cases xs, ps)
cases_passed known scope cs i xs ps whole h so_far =
    gathered put_case (λ (l : List Case). cases_meaning known scope (cases_of l)) cs i xs ps whole no_case h refl so_far ∙ ap (λ t. Ok (t, ps)) (all_cases xs)
