-- The meanings of expressions, cases and bindings, one step after the other.
use Rattle.std.proofs.Common.{◌≡◌, ℕ, ◌+◌, ◌<◌, List, [], ◌∷◌, ◌++◌, map, drop, get_or, length, Option, Some, None, Result, Ok, Err, refl, ap, sym, ◌∙◌}
use Rattle.std.proofs.lemmas.List.{at_drop_more}
use Rattle.uc_base.specs.declared.fault.Fault.{Fault}
use Rattle.uc_tree.specs.Patterns.{Pattern as TreePattern}
use Rattle.uc_tree.specs.Terms.{Term, Cases as TreeCases}
use Rattle.uc_scratch.specs.Patterns.{Pattern}
use Rattle.uc_scratch.specs.Exprs.{Expr, done, Cases, Block}
use Rattle.uc_scratch.specs.ExprViews.{atom_of, cases_of, case_before, step_before, steps_before}
use Rattle.uc_scratch.specs.declared.expr.Step.{Step}
use Rattle.uc_scratch.specs.declared.expr.Step.TheVariants as step
use Rattle.uc_scratch.specs.declared.block.Case as written
use Rattle.uc_meaning.specs.Meanings.{Known}
use Rattle.uc_meaning.specs.Placed.{Placed}
use Rattle.uc_meaning.specs.Results.{◌>>=◌}
use Rattle.uc_meaning.specs.PatternMeanings.{pattern_meaning}
use Rattle.uc_meaning.specs.ExprMeanings as spec
use Rattle.uc_meaning.specs.ExprMeanings.{Scope, Signed, Parts, Outer, under, in_block, body_scope, signature_for, binding_over, param_binder, param_place, pattern_binders, lambdas_over, whole_of, innermost, others, expr_meaning, cases_meaning, block_meaning, bound_meaning}
use Rattle.uc_bodies.specs.StepMeanings.{step_meaning, guard_meaning, case_of, case_meaning}
use Rattle.uc_bodies.proofs.Steps.{through, through_both}
use Rattle.uc_bodies.proofs.Gathered.{put_case}

module _ (known : Known) (scope : Scope) where
  -- the first step of an expression
  pub step_first : (st : Step) (e : Expr) (s : Parts) (os : Outer)
      → expr_meaning known scope (step_before st e) s os ≡ (step_meaning known scope st s os >>= λ r. expr_meaning known scope e r.0 r.1)
  unfolding body_scope
  step_first (step.Lambda ps b) e s os =
      let body : Result (Placed Term) Fault = block_meaning known (in_block (under (map param_binder ps.items) scope)) None b in
      through body (λ x. (spec.with_atom s (spec.form (lambdas_over ps.items x)), os)) (λ r. expr_meaning known scope e r.0 r.1)
      ∙ ap (λ m. m >>= λ r. expr_meaning known scope e r.0 r.1) (through body (lambdas_over ps.items) (λ x. Ok (spec.with_atom s (spec.form x), os)))
  step_first (step.Atom a) e s os = through (spec.atom_meaning known scope (atom_of a)) (λ x. (spec.with_atom s (spec.atom_start (atom_of a), x), os)) (λ r. expr_meaning known scope e r.0 r.1)
  step_first (step.Operator w) e s os = through (spec.word_meaning known scope w) (λ x. (spec.behind_operator s x, os)) (λ r. expr_meaning known scope e r.0 r.1)
  step_first step.And e s os = refl
  step_first step.Or e s os = refl
  step_first (step.If p) e s os = refl
  step_first (step.Then b c) e s os =
      through_both (block_meaning known (in_block scope) None b) (block_meaning known (in_block scope) None c)
      (λ x y. (spec.with_atom (innermost os).1 (spec.form (spec.conditional_at (innermost os).0 (whole_of s).1 x y)), others os)) (λ r. expr_meaning known scope e r.0 r.1)
  step_first (step.Match p) e s os = refl
  step_first (step.With cs) e s os =
      through (cases_meaning known scope (cases_of cs.items)) (λ x. (spec.with_atom (innermost os).1 (spec.form (spec.match_at (innermost os).0 (whole_of s).1 x)), others os))
      (λ r. expr_meaning known scope e r.0 r.1)
  step_first (step.Cases p cs) e s os =
      through (cases_meaning known (under (None ∷ []) scope) (cases_of cs.items)) (λ x. (spec.with_atom s (spec.form (spec.cases_at p x)), os)) (λ r. expr_meaning known scope e r.0 r.1)
  step_first (step.Let p b) e s os =
      through (block_meaning known (in_block scope) None b) (λ x. (spec.with_atom s (p, x), os)) (λ r. expr_meaning known scope e r.0 r.1)

  -- the steps from one on
  pub next_step : (ss : List Step) (i : ℕ) (st : Step) (s : Parts) (os : Outer) → i < length ss → st ≡ get_or ss i st
      → expr_meaning known scope (steps_before (drop i ss) done) s os
      ≡ (step_meaning known scope st s os >>= λ r. expr_meaning known scope (steps_before (drop (i + 1) ss) done) r.0 r.1)
  next_step ss i st s os h is =
      at_drop_more (λ l. expr_meaning known scope (steps_before l done) s os) ss i st h
      ∙ ap (λ t. expr_meaning known scope (step_before t (steps_before (drop (i + 1) ss) done)) s os) (sym is)
      ∙ step_first st (steps_before (drop (i + 1) ss) done) s os

plain_case : (m : Result (Placed TreePattern) Fault) (n : Result (Placed Term) Fault) (o : Result (Placed TreeCases) Fault)
    → (m >>= λ x. n >>= λ b. o >>= λ rest. Ok (spec.case_before x b rest))
    ≡ ((m >>= λ x. n >>= λ b. Ok (case_of x None b)) >>= λ c. o >>= λ rest. Ok (put_case c.0 rest.0, c.1 ++ rest.1))
plain_case (Ok x) (Ok b) o = refl
plain_case (Ok x) (Err e) o = refl
plain_case (Err e) n o = refl

guarded_case : (m : Result (Placed TreePattern) Fault) (l n : Result (Placed Term) Fault) (o : Result (Placed TreeCases) Fault)
    → (m >>= λ x. l >>= λ g. n >>= λ b. o >>= λ rest. Ok (spec.guarded_before x g b rest))
    ≡ ((m >>= λ x. (l >>= λ g. Ok (Some g)) >>= λ g. n >>= λ b. Ok (case_of x g b)) >>= λ c. o >>= λ rest. Ok (put_case c.0 rest.0, c.1 ++ rest.1))
guarded_case (Ok x) (Ok g) (Ok b) o = refl
guarded_case (Ok x) (Ok g) (Err e) o = refl
guarded_case (Ok x) (Err e) n o = refl
guarded_case (Err e) l n o = refl

-- the first of some cases
case_parts : (known : Known) (scope : Scope) (p : Pattern) (g : Option Expr) (b : Block) (cs : Cases)
    → cases_meaning known scope (case_before p g b cs)
    ≡ ((pattern_meaning known scope.usings p >>= λ x. guard_meaning known (under (pattern_binders p) scope) g >>= λ u.
    block_meaning known (in_block (under (pattern_binders p) scope)) None b >>= λ t. Ok (case_of x u t))
    >>= λ c. cases_meaning known scope cs >>= λ rest. Ok (put_case c.0 rest.0, c.1 ++ rest.1))
case_parts known scope p None b cs =
    plain_case (pattern_meaning known scope.usings p) (block_meaning known (in_block (under (pattern_binders p) scope)) None b) (cases_meaning known scope cs)
case_parts known scope p (Some e) b cs =
    guarded_case (pattern_meaning known scope.usings p) (expr_meaning known (under (pattern_binders p) scope) e spec.no_parts [])
    (block_meaning known (in_block (under (pattern_binders p) scope)) None b) (cases_meaning known scope cs)

pub case_first : (known : Known) (scope : Scope) (c : written.Case) (cs : Cases)
    → cases_meaning known scope (case_before c.pattern c.guard c.body cs)
    ≡ (case_meaning known scope c >>= λ x. cases_meaning known scope cs >>= λ rest. Ok (put_case x.0 rest.0, x.1 ++ rest.1))
case_first known scope c cs = case_parts known scope c.pattern c.guard c.body cs
