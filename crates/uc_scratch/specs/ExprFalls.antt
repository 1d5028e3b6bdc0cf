-- Each part of a written expression is smaller than the expression, and each part of a block than the block.
use Rattle.std.specs.Prelude.{◌+◌, ◌≤◌, max, List, [], ◌∷◌, Option, Some, None}
use Rattle.std.proofs.Common.{arith}
use denote.Param.Weighed.{most}
use Rattle.uc_scratch.specs.Patterns.{Pattern}
use Rattle.uc_scratch.specs.Exprs as plain
use Rattle.uc_scratch.specs.Exprs.{Expr, Block, Cases, exprs_of, expr_size, atom_size, exprs_size, cases_size, block_size}
use Rattle.uc_scratch.specs.ExprViews.{atom_of, cases_of, case_before, step_before, steps_before, expr_of, entry_before, entries_before, block_of}
use Rattle.uc_scratch.specs.declared.expr.Step.{Step}
use Rattle.uc_scratch.specs.declared.expr.Step.TheVariants as step
use Rattle.uc_scratch.specs.declared.expr.Atom.{Atom}
use Rattle.uc_scratch.specs.declared.expr.Atom.TheVariants as atom
use Rattle.uc_scratch.specs.declared.block.Case.{Case}
use Rattle.uc_scratch.specs.declared.block.Entry.{Entry}
use Rattle.uc_scratch.specs.declared.block.Entry.TheVariants as entry
use Rattle.uc_scratch.specs.declared.block.BindingFront.{BindingFront}
use Rattle.uc_scratch.specs.declared.block.BindingFront.TheVariants as front
use Rattle.uc_scratch.specs.declared.block.Block.TheDeep.{deep-Step, deep-Atom, deep-Case, deep-Entry}

some_exprs : (es : List Expr) → most (λ e. expr_size e + 1) es ≤ exprs_size (exprs_of es) + 1
some_exprs [] = omega arith
some_exprs (e ∷ es) = omega (arith, some_exprs es)

an_atom : (a : Atom) → deep-Atom a ≤ atom_size (atom_of a)
an_atom (atom.Path w) = omega arith
an_atom (atom.Operator p w) = omega arith
an_atom (atom.Literal l) = omega arith
an_atom (atom.Reference r) = omega arith
an_atom (atom.Unit p) = omega arith
an_atom (atom.Group p e) = omega arith
an_atom (atom.Annotated p e t) = omega arith
an_atom (atom.Tuple p es) = omega (arith, some_exprs es.items)
an_atom (atom.List p es) = omega (arith, some_exprs es.items)

one_case : (p : Pattern) (g : Option Expr) (b : Block) (cs : Cases) → deep-Case (record { pattern = p; guard = g; body = b }) + cases_size cs ≤ cases_size (case_before p g b cs)
one_case p None b cs = omega arith
one_case p (Some g) b cs = omega arith

some_cases : (cs : List Case) → most deep-Case cs ≤ cases_size (cases_of cs)
some_cases [] = omega arith
some_cases (c ∷ cs) = omega (arith, some_cases cs, one_case c.pattern c.guard c.body (cases_of cs))

a_step : (s : Step) (e : Expr) → deep-Step s + expr_size e ≤ expr_size (step_before s e)
a_step (step.Lambda ps b) e = omega arith
a_step (step.Atom a) e = omega (arith, an_atom a)
a_step (step.Operator w) e = omega arith
a_step step.And e = omega arith
a_step step.Or e = omega arith
a_step (step.If p) e = omega arith
a_step (step.Then b c) e = omega arith
a_step (step.Match p) e = omega arith
a_step (step.With cs) e = omega (arith, some_cases cs.items)
a_step (step.Cases p cs) e = omega (arith, some_cases cs.items)
a_step (step.Let p b) e = omega arith

some_steps : (ss : List Step) → most deep-Step ss ≤ expr_size (expr_of ss)
some_steps [] = omega arith
some_steps (s ∷ ss) = omega (arith, a_step s (expr_of ss), some_steps ss)

pub expr_falls : (ss : List Step) → max (most deep-Step ss) 0 ≤ expr_size (expr_of ss)
expr_falls ss = omega (arith, some_steps ss)

a_binding : (f : BindingFront) (c b : Block) → block_size c + block_size b + 1 ≤ block_size (entry_before (entry.Binding (record { front = f; body = c })) b)
a_binding (front.Prefix h ps) c b = omega arith
a_binding (front.Infix p w q) c b = omega arith

an_entry : (x : Entry) (b : Block) → deep-Entry x + block_size b ≤ block_size (entry_before x b)
an_entry (entry.Use u) b = omega arith
an_entry (entry.Signature s) b = omega arith
an_entry (entry.Binding d) b = omega (arith, a_binding d.front d.body b)

some_entries : (xs : List Entry) (b : Block) → (most deep-Entry xs ≤ block_size (entries_before xs b)) × (block_size b ≤ block_size (entries_before xs b))
some_entries [] b = (omega arith, omega arith)
some_entries (x ∷ xs) b =
    (omega (arith, an_entry x (entries_before xs b), (some_entries xs b).0), omega (arith, an_entry x (entries_before xs b), (some_entries xs b).1))

pub block_falls : (xs : List Entry) (e : Expr) → max (most deep-Entry xs) (max (expr_size e + 1) 0) ≤ block_size (block_of xs e)
block_falls xs e = omega (arith, (some_entries xs (plain.result e)).0, (some_entries xs (plain.result e)).1)
