-- Written expressions and blocks as plain trees.
use Rattle.std.specs.Prelude.{ℕ, ◌+◌, List, [], ◌∷◌}
use Rattle.uc_base.specs.declared.place.Place.{Place}
use Rattle.uc_scratch.specs.declared.written.Written.{Written}
use Rattle.uc_scratch.specs.declared.written.Reference.{Reference}
use Rattle.uc_scratch.specs.declared.written.Literal.{Literal}
use Rattle.uc_scratch.specs.declared.written.Param.{Param}
use Rattle.uc_scratch.specs.declared.written.Head.{Head}
use Rattle.uc_scratch.specs.TypeExprs.{TypeExpr}
use Rattle.uc_scratch.specs.Patterns.{Pattern}

mutual
  -- An expression as its steps: each is the first step and those behind it. A condition stands between `opens_if` and
  -- `branches`, a subject between `opens_match` and `with_cases`.
  pub data Expr : Type 0 where
    done : Expr
    lambda : List Param → Block → Expr → Expr
    atom : Atom → Expr → Expr
    operator : Written → Expr → Expr
    and : Expr → Expr
    or : Expr → Expr
    opens_if : Place → Expr → Expr
    branches : Block → Block → Expr → Expr
    opens_match : Place → Expr → Expr
    with_cases : Cases → Expr → Expr
    cases : Place → Cases → Expr → Expr
    block : Place → Block → Expr → Expr

  -- a path, an operator in brackets, a literal, a reference, the unit, an expression in brackets, an annotation, a tuple,
  -- or a list
  pub data Atom : Type 0 where
    path : Written → Atom
    bracketed : Place → Written → Atom
    literal : Literal → Atom
    reference : Reference → Atom
    unit : Place → Atom
    group : Place → Expr → Atom
    annotated : Place → Expr → TypeExpr → Atom
    tuple : Place → Exprs → Atom
    list : Place → Exprs → Atom

  -- a list of expressions
  pub data Exprs : Type 0 where
    none : Exprs
    more : Expr → Exprs → Exprs

  -- cases, each with its pattern, perhaps a guard, and its body
  pub data Cases : Type 0 where
    no_case : Cases
    case : Pattern → Block → Cases → Cases
    guarded : Pattern → Expr → Block → Cases → Cases

  -- a block: entries, and the expression at its end
  pub data Block : Type 0 where
    result : Expr → Block
    using : Place → Written → List Written → Block → Block
    signature : Head → TypeExpr → Block → Block
    prefix : Head → List Param → Block → Block → Block
    infix_operator : Param → Written → Param → Block → Block → Block

-- the expressions of a list
abbrev pub exprs_of : List Expr → Exprs
exprs_of [] = none
exprs_of (e ∷ es) = more e (exprs_of es)

abbrev mutual
  -- what falls in a walk over an expression
  pub expr_size : Expr → ℕ
  expr_size done = 1
  expr_size (lambda ps b e) = block_size b + expr_size e + 1
  expr_size (atom a e) = atom_size a + expr_size e + 1
  expr_size (operator w e) = expr_size e + 1
  expr_size (and e) = expr_size e + 1
  expr_size (or e) = expr_size e + 1
  expr_size (opens_if p e) = expr_size e + 1
  expr_size (branches b c e) = block_size b + block_size c + expr_size e + 1
  expr_size (opens_match p e) = expr_size e + 1
  expr_size (with_cases cs e) = cases_size cs + expr_size e + 1
  expr_size (cases p cs e) = cases_size cs + expr_size e + 1
  expr_size (block p b e) = block_size b + expr_size e + 1

  pub atom_size : Atom → ℕ
  atom_size (path w) = 1
  atom_size (bracketed p w) = 1
  atom_size (literal l) = 1
  atom_size (reference r) = 1
  atom_size (unit p) = 1
  atom_size (group p e) = expr_size e + 1
  atom_size (annotated p e t) = expr_size e + 1
  atom_size (tuple p es) = exprs_size es + 1
  atom_size (list p es) = exprs_size es + 1

  pub exprs_size : Exprs → ℕ
  exprs_size none = 0
  exprs_size (more e es) = expr_size e + exprs_size es + 1

  pub cases_size : Cases → ℕ
  cases_size no_case = 0
  cases_size (case p b cs) = block_size b + cases_size cs + 1
  cases_size (guarded p g b cs) = expr_size g + block_size b + cases_size cs + 2

  pub block_size : Block → ℕ
  block_size (result e) = expr_size e + 1
  block_size (using p w ws b) = block_size b + 1
  block_size (signature h t b) = block_size b + 1
  block_size (prefix h ps c b) = block_size c + block_size b + 1
  block_size (infix_operator p w q c b) = block_size c + block_size b + 1
