-- The levels of expressions and blocks. A node of a term is one level; a definition, a signature, a case and the literal in
-- a node are none. The types in a term count on from their node.
use Rattle.std.specs.Prelude.{ℕ, ◌+◌, ◌==◌, max, List, [], ◌∷◌, Option, Some, None, length, bytes_eq, if◌then◌else◌}
use Rattle.uc_scratch.specs.declared.written.Written.{Written}
use Rattle.uc_scratch.specs.declared.written.Head.{Head}
use Rattle.uc_scratch.specs.declared.parts.Parts.{Parts}
use Rattle.uc_scratch.specs.declared.block.BindingFront.{BindingFront}
use Rattle.uc_scratch.specs.declared.block.BindingFront.TheVariants as front
use Rattle.uc_scratch.specs.TypeExprs.{TypeExpr}
use Rattle.uc_scratch.specs.Exprs.{Expr, done, lambda, atom, operator, and, or, opens_if, branches, opens_match, with_cases, cases, block, Atom, path, bracketed, literal, reference, unit, group, annotated, tuple, list, Exprs, none, more, Cases, no_case, case, guarded, Block, result, using, signature, prefix, infix_operator}
use Rattle.uc_scratch.specs.ExprGrammar.{head_name}
use Rattle.uc_scratch.specs.TypeLevels.{signature_levels, scope_under}
use Rattle.uc_scratch.specs.PatternLevels.{pattern_levels}

-- nothing yet
abbrev pub no_parts : Parts
no_parts = record { ors = 0; ands = 0; operands = 0; atoms = 0 }

-- one node over two parts, or the second part alone where there is no first
abbrev pub joined : ℕ → ℕ → ℕ
joined m n = if m == 0 then n else max m n + 1

-- an atom or a form behind the atoms before it: an application
abbrev pub with_atom : Parts → ℕ → Parts
with_atom s n = record s { atoms = joined s.atoms n }

-- the levels of the operands up to here: an operator applied to two
abbrev pub infix_levels : Parts → ℕ
infix_levels s = joined s.operands s.atoms

-- the operator applied to what stands left of it
abbrev pub behind_operator : Parts → Parts
behind_operator s = record { ors = s.ors; ands = s.ands; operands = infix_levels s + 1; atoms = 0 }

abbrev pub and_levels : Parts → ℕ
and_levels s = joined s.ands (infix_levels s)

abbrev pub behind_and : Parts → Parts
behind_and s = record { ors = s.ors; ands = and_levels s; operands = 0; atoms = 0 }

-- the levels of the whole expression up to here
abbrev pub or_levels : Parts → ℕ
or_levels s = joined s.ors (and_levels s)

abbrev pub behind_or : Parts → Parts
behind_or s = record { ors = or_levels s; ands = 0; operands = 0; atoms = 0 }

-- the innermost expression in whose condition or subject a step stands, and the others
abbrev pub innermost : List Parts → Parts
innermost [] = no_parts
innermost (s ∷ ss) = s

abbrev pub others : List Parts → List Parts
others [] = []
others (s ∷ ss) = ss

-- a name, and the type variables that are in scope in a body under its signature
pub record Signed : Type 0 where
  pub name : List ℕ
  pub scope : List (List ℕ)

-- what a signature gives to a binding that follows it
abbrev pub signed_by : List (List ℕ) → Head → TypeExpr → Option Signed
signed_by scope h t = Some (record { name = (head_name h).text; scope = scope_under scope t })

-- the type variables in scope in the body of a binding, behind a signature or none
abbrev pub body_scope : List (List ℕ) → Option Signed → Written → List (List ℕ)
body_scope scope None w = scope
body_scope scope (Some s) w = if bytes_eq s.name w.text then s.scope else scope

abbrev mutual
  -- The levels of the steps of an expression, behind parts of it, and inside the conditions and subjects of others. A form's
  -- condition or subject, its branches and its cases are parts of its node; `cases` is a lambda over a match on its variable.
  pub expr_levels : List (List ℕ) → Expr → Parts → List Parts → ℕ
  expr_levels scope done s ss = or_levels s
  expr_levels scope (lambda ps b e) s ss = expr_levels scope e (with_atom s (length ps + block_levels scope None b)) ss
  expr_levels scope (atom a e) s ss = expr_levels scope e (with_atom s (atom_levels scope a)) ss
  expr_levels scope (operator w e) s ss = expr_levels scope e (behind_operator s) ss
  expr_levels scope (and e) s ss = expr_levels scope e (behind_and s) ss
  expr_levels scope (or e) s ss = expr_levels scope e (behind_or s) ss
  expr_levels scope (opens_if p e) s ss = expr_levels scope e no_parts (s ∷ ss)
  expr_levels scope (branches b c e) s ss =
      expr_levels scope e (with_atom (innermost ss) (max (or_levels s) (max (block_levels scope None b) (block_levels scope None c)) + 1)) (others ss)
  expr_levels scope (opens_match p e) s ss = expr_levels scope e no_parts (s ∷ ss)
  expr_levels scope (with_cases cs e) s ss = expr_levels scope e (with_atom (innermost ss) (max (or_levels s) (cases_levels scope cs) + 1)) (others ss)
  expr_levels scope (cases p cs e) s ss = expr_levels scope e (with_atom s (max 1 (cases_levels scope cs) + 2)) ss
  expr_levels scope (block p b e) s ss = expr_levels scope e (with_atom s (block_levels scope None b)) ss

  -- a bracket alone is no level
  pub atom_levels : List (List ℕ) → Atom → ℕ
  atom_levels scope (path w) = 1
  atom_levels scope (bracketed p w) = 1
  atom_levels scope (literal l) = 1
  atom_levels scope (reference r) = 1
  atom_levels scope (unit p) = 1
  atom_levels scope (group p e) = expr_levels scope e no_parts []
  atom_levels scope (annotated p e t) = max (expr_levels scope e no_parts []) (signature_levels scope t) + 1
  atom_levels scope (tuple p es) = exprs_levels scope es + 1
  atom_levels scope (list p es) = exprs_levels scope es + 1

  pub exprs_levels : List (List ℕ) → Exprs → ℕ
  exprs_levels scope none = 0
  exprs_levels scope (more e es) = max (expr_levels scope e no_parts []) (exprs_levels scope es)

  pub cases_levels : List (List ℕ) → Cases → ℕ
  cases_levels scope no_case = 0
  cases_levels scope (case x b cs) = max (max (pattern_levels x) (block_levels scope None b)) (cases_levels scope cs)
  cases_levels scope (guarded x g b cs) =
      max (max (pattern_levels x) (max (expr_levels scope g no_parts []) (block_levels scope None b))) (cases_levels scope cs)

  -- the levels of a block behind a signature or none: each binding is one, over its signature, its body and the rest
  pub block_levels : List (List ℕ) → Option Signed → Block → ℕ
  block_levels scope signed (result e) = expr_levels scope e no_parts []
  block_levels scope signed (using p w ws b) = block_levels scope None b
  block_levels scope signed (signature h t b) = max (signature_levels scope t + 1) (block_levels scope (signed_by scope h t) b)
  block_levels scope signed (prefix h ps c b) =
      max (length ps + block_levels (body_scope scope signed (head_name h)) None c) (block_levels scope None b) + 1
  block_levels scope signed (infix_operator x w y c b) =
      max (2 + block_levels (body_scope scope signed w) None c) (block_levels scope None b) + 1

-- the levels of a guard or none
abbrev pub guard_levels : List (List ℕ) → Option Expr → ℕ
guard_levels scope None = 0
guard_levels scope (Some e) = expr_levels scope e no_parts []

-- the levels of the body of a binding under its parameters, behind a signature or none
abbrev pub bound_levels : List (List ℕ) → Option Signed → BindingFront → Block → ℕ
bound_levels scope signed (front.Prefix h ps) b = length ps.items + block_levels (body_scope scope signed (head_name h)) None b
bound_levels scope signed (front.Infix x w y) b = 2 + block_levels (body_scope scope signed w) None b
