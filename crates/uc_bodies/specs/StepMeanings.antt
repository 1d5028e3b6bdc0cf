-- The meaning of what expressions and blocks are made of, one after the other.
use Rattle.std.specs.Prelude.{[], ◌∷◌, ◌++◌, Option, Some, None, Result, Ok}
use Rattle.std.specs.Option.{option_map}
use Rattle.uc_base.specs.declared.fault.Fault.{Fault}
use Rattle.uc_tree.specs.Patterns.{Pattern}
use Rattle.uc_tree.specs.Terms.{Term, link}
use Rattle.uc_tree.specs.declared.term.Case as tree_case
use Rattle.uc_scratch.specs.declared.written.Reference.{Reference}
use Rattle.uc_scratch.specs.declared.written.Head.{Head}
use Rattle.uc_scratch.specs.declared.expr.Step.{Step}
use Rattle.uc_scratch.specs.declared.expr.Step.TheVariants as step
use Rattle.uc_scratch.specs.declared.block.Case.{Case}
use Rattle.uc_scratch.specs.TypeExprs.{TypeExpr}
use Rattle.uc_scratch.specs.Exprs.{Expr, Block, result}
use Rattle.uc_scratch.specs.ExprViews.{atom_of, cases_of, binding_before, block_of}
use Rattle.uc_meaning.specs.declared.wanted.Wanted.TheVariants as wanted
use Rattle.uc_meaning.specs.Meanings.{Known, reference_meaning}
use Rattle.uc_meaning.specs.Placed.{Placed}
use Rattle.uc_meaning.specs.Results.{◌>>=◌}
use Rattle.uc_meaning.specs.TypeMeanings.{signature_meaning}
use Rattle.uc_meaning.specs.PatternMeanings.{pattern_meaning}
use Rattle.uc_meaning.specs.ExprMeanings.{Scope, Signed, Parts, Outer, no_parts, innermost, others, under, in_block, pattern_binders, reference_place, signed_by, form, atom_start, with_atom, behind_operator, behind_and, behind_or, whole_of, conditional_at, match_at, cases_at, word_meaning, atom_meaning, expr_meaning, cases_meaning, block_meaning, bound_meaning}
use Rattle.uc_bodies.specs.BodyViews.{signed_of}
use Rattle.uc_bodies.specs.declared.runs.Run.{Run}
use Rattle.uc_bodies.specs.declared.runs.Run.TheVariants as run

-- a reference as a term
abbrev pub link_meaning : Known → Reference → Result (Placed Term) Fault
link_meaning known r = reference_meaning known wanted.Term r >>= λ x. Ok (link x, reference_place r ∷ [])

-- what a signature gives to the binding behind it
abbrev pub signing_meaning : Known → Scope → Head → TypeExpr → Result Signed Fault
signing_meaning known scope h t = signature_meaning known scope.usings scope.variables t >>= λ ty. Ok (signed_by scope.variables h t ty)

-- the parts of the innermost expression behind a step, and the expressions round it
abbrev pub step_meaning : Known → Scope → Step → Parts → Outer → Result (Parts × Outer) Fault
step_meaning known scope (step.Lambda ps b) s os = bound_meaning known scope None ps.items b >>= λ x. Ok (with_atom s (form x), os)
step_meaning known scope (step.Atom a) s os = atom_meaning known scope (atom_of a) >>= λ x. Ok (with_atom s (atom_start (atom_of a), x), os)
step_meaning known scope (step.Operator w) s os = word_meaning known scope w >>= λ x. Ok (behind_operator s x, os)
step_meaning known scope step.And s os = Ok (behind_and s, os)
step_meaning known scope step.Or s os = Ok (behind_or s, os)
step_meaning known scope (step.If p) s os = Ok (no_parts, (p, s) ∷ os)
step_meaning known scope (step.Then b c) s os =
    block_meaning known (in_block scope) None b >>= λ x. block_meaning known (in_block scope) None c >>= λ y.
    Ok (with_atom (innermost os).1 (form (conditional_at (innermost os).0 (whole_of s).1 x y)), others os)
step_meaning known scope (step.Match p) s os = Ok (no_parts, (p, s) ∷ os)
step_meaning known scope (step.With cs) s os =
    cases_meaning known scope (cases_of cs.items) >>= λ x. Ok (with_atom (innermost os).1 (form (match_at (innermost os).0 (whole_of s).1 x)), others os)
step_meaning known scope (step.Cases p cs) s os = cases_meaning known (under (None ∷ []) scope) (cases_of cs.items) >>= λ x. Ok (with_atom s (form (cases_at p x)), os)
step_meaning known scope (step.Let p b) s os = block_meaning known (in_block scope) None b >>= λ x. Ok (with_atom s (p, x), os)

-- the meaning of a guard or none
abbrev pub guard_meaning : Known → Scope → Option Expr → Result (Option (Placed Term)) Fault
guard_meaning known scope None = Ok None
guard_meaning known scope (Some e) = expr_meaning known scope e no_parts [] >>= λ x. Ok (Some x)

-- a case of its parts
abbrev pub case_of : Placed Pattern → Option (Placed Term) → Placed Term → Placed tree_case.Case
case_of x None b = (record { pattern = x.0; guard = None; body = b.0 }, x.1 ++ b.1)
case_of x (Some g) b = (record { pattern = x.0; guard = Some g.0; body = b.0 }, x.1 ++ g.1 ++ b.1)

-- guard and body of a case stand under the names of its pattern
abbrev pub case_meaning : Known → Scope → Case → Result (Placed tree_case.Case) Fault
case_meaning known scope c =
    let inner = under (pattern_binders c.pattern) scope in
    pattern_meaning known scope.usings c.pattern >>= λ x. guard_meaning known inner c.guard >>= λ g.
    block_meaning known (in_block inner) None c.body >>= λ b. Ok (case_of x g b)

-- what stands behind a run of `use` clauses and signatures, with the expression at the end of the block
abbrev pub behind_run : Run → Expr → Block
behind_run run.End e = result e
behind_run (run.Binding s d xs) e = binding_before d.now.front d.now.body (block_of xs.now e)

abbrev pub run_signed : Run → Option Signed
run_signed run.End = None
run_signed (run.Binding s d xs) = option_map signed_of s
