-- The expression that steps stand for, and the block that entries and an expression stand for.
use Rattle.std.specs.Prelude.{List, [], ◌∷◌, Option, Some, None}
use Rattle.uc_scratch.specs.Patterns.{Pattern}
use Rattle.uc_scratch.specs.Exprs as plain
use Rattle.uc_scratch.specs.Exprs.{Expr, Block, Cases, exprs_of}
use Rattle.uc_scratch.specs.declared.expr.Step.{Step}
use Rattle.uc_scratch.specs.declared.expr.Step.TheVariants as step
use Rattle.uc_scratch.specs.declared.expr.Atom.{Atom}
use Rattle.uc_scratch.specs.declared.expr.Atom.TheVariants as atom
use Rattle.uc_scratch.specs.declared.block.Case.{Case}
use Rattle.uc_scratch.specs.declared.block.Entry.{Entry}
use Rattle.uc_scratch.specs.declared.block.Entry.TheVariants as entry
use Rattle.uc_scratch.specs.declared.block.BindingFront.{BindingFront}
use Rattle.uc_scratch.specs.declared.block.BindingFront.TheVariants as front

abbrev pub atom_of : Atom → plain.Atom
atom_of (atom.Path w) = plain.path w
atom_of (atom.Operator p w) = plain.bracketed p w
atom_of (atom.Literal l) = plain.literal l
atom_of (atom.Reference r) = plain.reference r
atom_of (atom.Unit p) = plain.unit p
atom_of (atom.Group p e) = plain.group p e.value
atom_of (atom.Annotated p e t) = plain.annotated p e.value t
atom_of (atom.Tuple p es) = plain.tuple p (exprs_of es.items)
atom_of (atom.List p es) = plain.list p (exprs_of es.items)

-- a case before others
abbrev pub case_before : Pattern → Option Expr → Block → Cases → Cases
case_before p None b cs = plain.case p b cs
case_before p (Some g) b cs = plain.guarded p g b cs

abbrev pub cases_of : List Case → Cases
cases_of [] = plain.no_case
cases_of (c ∷ cs) = case_before c.pattern c.guard c.body (cases_of cs)

-- a step before others
abbrev pub step_before : Step → Expr → Expr
step_before (step.Lambda ps b) e = plain.lambda ps.items b e
step_before (step.Atom a) e = plain.atom (atom_of a) e
step_before (step.Operator w) e = plain.operator w e
step_before step.And e = plain.and e
step_before step.Or e = plain.or e
step_before (step.If p) e = plain.opens_if p e
step_before (step.Then b c) e = plain.branches b c e
step_before (step.Match p) e = plain.opens_match p e
step_before (step.With cs) e = plain.with_cases (cases_of cs.items) e
step_before (step.Cases p cs) e = plain.cases p (cases_of cs.items) e
step_before (step.Let p b) e = plain.block p b e

-- steps before others
abbrev pub steps_before : List Step → Expr → Expr
steps_before [] e = e
steps_before (s ∷ ss) e = step_before s (steps_before ss e)

abbrev pub expr_of : List Step → Expr
expr_of ss = steps_before ss plain.done

-- a binding before the rest of a block
abbrev pub binding_before : BindingFront → Block → Block → Block
binding_before (front.Prefix h ps) c b = plain.prefix h ps.items c b
binding_before (front.Infix p w q) c b = plain.infix_operator p w q c b

-- an entry before the rest of a block
abbrev pub entry_before : Entry → Block → Block
entry_before (entry.Use u) b = plain.using u.place u.path u.names.items b
entry_before (entry.Signature s) b = plain.signature s.head s.of b
entry_before (entry.Binding d) b = binding_before d.front d.body b

-- entries before the rest of a block
abbrev pub entries_before : List Entry → Block → Block
entries_before [] b = b
entries_before (x ∷ xs) b = entry_before x (entries_before xs b)

abbrev pub block_of : List Entry → Expr → Block
block_of xs e = entries_before xs (plain.result e)
