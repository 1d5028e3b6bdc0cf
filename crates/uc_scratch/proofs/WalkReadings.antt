-- What is read step by step is what the grammar reads.
use Rattle.std.proofs.Common.{◌≡◌, ℕ, ◌≤◌, List, [], ◌∷◌, refl, arith}
use Rattle.uc_base.specs.declared.place.Place.{Place}
use Rattle.uc_scratch.specs.declared.written.Written.{Written}
use Rattle.uc_scratch.specs.declared.terminal.Terminal.{Terminal}
use Rattle.uc_scratch.specs.declared.terminal.Terminal.TheVariants.{AndAnd, OrOr, If, Then, Else, Match, With}
use Rattle.uc_scratch.specs.declared.walk.Stage.{Stage}
use Rattle.uc_scratch.specs.declared.walk.Stage.TheVariants.{Start, Operand, Atoms, Formed, Whole}
use Rattle.uc_scratch.specs.declared.walk.Form.{Form}
use Rattle.uc_scratch.specs.declared.walk.Form.TheVariants as form
use Rattle.uc_scratch.specs.Exprs.{Expr, done, atom, operator, and, or, opens_if, branches, opens_match, with_cases, Atom, Cases, Block}
use Rattle.uc_scratch.specs.Terminals.{IsOperator}
use Rattle.uc_scratch.specs.ExprGrammar.{ReadsExpr, lambda_expr, or_expr, ReadsOr, last_and, more_ands, ReadsAnd, last_infix, more_infixes, ReadsInfix, last_operand, more_operands, ReadsOperand, atoms_operand, atoms_form_operand, form_operand, ReadsAtoms, last_atom, more_atoms, ReadsForm, if_form, match_form, cases_form, let_form, ReadsAtom, ReadsCases, ReadsBlock}
use Rattle.uc_scratch.specs.Follows.{reach}
use Rattle.uc_scratch.specs.Walks.{TakesAtom, takes_first, takes_next, EndsOperand, ends_atoms, ends_form, EndsExpr, ends_with_atoms, ends_with_form, ends_with_lambda, Walks, walk_end, walk_lambda, walk_start, walk_atom, walk_if, walk_match, walk_cases, walk_let, walk_operator, walk_and, walk_or, walk_then, walk_with, MayStart}

-- what goes on behind a lambda goes on behind a form, and that behind atoms

formed_of_whole : {n : ℕ} {fs : List Form} {ts us : List Terminal} {e : Expr} → Walks n Whole fs ts e us → Walks n Formed fs ts e us
formed_of_whole (walk_end i p) = walk_end ends_with_form p
formed_of_whole (walk_then i h k w) = walk_then ends_with_form h k w
formed_of_whole (walk_with i h w) = walk_with ends_with_form h w
formed_of_whole (walk_atom i h w) = elim i [ ]
formed_of_whole (walk_if i w) = elim i [ ]
formed_of_whole (walk_match i w) = elim i [ ]
formed_of_whole (walk_cases i h w) = elim i [ ]
formed_of_whole (walk_let i h w) = elim i [ ]
formed_of_whole (walk_operator i h w) = elim i [ ]
formed_of_whole (walk_and i w) = elim i [ ]
formed_of_whole (walk_or i w) = elim i [ ]

atoms_of_formed : {n : ℕ} {fs : List Form} {ts us : List Terminal} {e : Expr} → Walks n Formed fs ts e us → Walks n Atoms fs ts e us
atoms_of_formed (walk_end i p) = walk_end ends_with_atoms p
atoms_of_formed (walk_then i h k w) = walk_then ends_with_atoms h k w
atoms_of_formed (walk_with i h w) = walk_with ends_with_atoms h w
atoms_of_formed (walk_atom i h w) = elim i [ ]
atoms_of_formed (walk_if i w) = elim i [ ]
atoms_of_formed (walk_match i w) = elim i [ ]
atoms_of_formed (walk_cases i h w) = elim i [ ]
atoms_of_formed (walk_let i h w) = elim i [ ]
atoms_of_formed (walk_operator i h w) = walk_operator ends_atoms h w
atoms_of_formed (walk_and i w) = walk_and ends_atoms w
atoms_of_formed (walk_or i w) = walk_or ends_atoms w

-- What the grammar reads is read step by step, where what stands behind it is.
mutual
  expr_walks : {n : ℕ} {fs : List Form} {ts us vs : List Terminal} {e r : Expr} → ReadsExpr ts e us r → Walks n Whole fs us r vs → Walks n Start fs ts e vs
  expr_walks (lambda_expr h i) w = walk_lambda h i w
  expr_walks (or_expr h) w = walk_start (or_walks h (formed_of_whole w))

  or_walks : {n : ℕ} {fs : List Form} {ts us vs : List Terminal} {e r : Expr} → ReadsOr ts e us r → Walks n Formed fs us r vs → Walks n Operand fs ts e vs
  or_walks (last_and h) w = and_walks h w
  or_walks (more_ands h i) w = and_walks h (walk_or ends_form (or_walks i w))

  and_walks : {n : ℕ} {fs : List Form} {ts us vs : List Terminal} {e r : Expr} → ReadsAnd ts e us r → Walks n Formed fs us r vs → Walks n Operand fs ts e vs
  and_walks (last_infix h) w = infix_walks h w
  and_walks (more_infixes h i) w = infix_walks h (walk_and ends_form (and_walks i w))

  infix_walks : {n : ℕ} {fs : List Form} {ts us vs : List Terminal} {e r : Expr} → ReadsInfix ts e us r → Walks n Formed fs us r vs → Walks n Operand fs ts e vs
  infix_walks (last_operand h) w = operand_walks h w
  infix_walks (more_operands h o i) w = operand_walks h (walk_operator ends_form o (infix_walks i w))

  operand_walks : {n : ℕ} {fs : List Form} {ts us vs : List Terminal} {e r : Expr} → ReadsOperand ts e us r → Walks n Formed fs us r vs → Walks n Operand fs ts e vs
  operand_walks (atoms_operand h) w = atoms_walks takes_first h (atoms_of_formed w)
  operand_walks (atoms_form_operand h i) w = atoms_walks takes_first h (form_walks takes_next i w)
  operand_walks (form_operand h) w = form_walks takes_first h w

  atoms_walks : {n : ℕ} {s : Stage} {fs : List Form} {ts us vs : List Terminal} {e r : Expr} → TakesAtom s → ReadsAtoms ts e us r → Walks n Atoms fs us r vs → Walks n s fs ts e vs
  atoms_walks i (last_atom h) w = walk_atom i h w
  atoms_walks i (more_atoms h k) w = walk_atom i h (atoms_walks takes_next k w)

  form_walks : {n : ℕ} {s : Stage} {fs : List Form} {ts us vs : List Terminal} {e r : Expr} → TakesAtom s → ReadsForm ts e us r → Walks n Formed fs us r vs → Walks n s fs ts e vs
  form_walks i (if_form h j k) w = walk_if i (expr_walks h (walk_then ends_with_lambda j k w))
  form_walks i (match_form h j) w = walk_match i (expr_walks h (walk_with ends_with_lambda j w))
  form_walks i (cases_form h) w = walk_cases i h w
  form_walks i (let_form h) w = walk_let i h w

pub expr_is_walked : (n : ℕ) (ts us : List Terminal) (e : Expr) → n ≤ reach us → ReadsExpr ts e us done → Walks n Start [] ts e us
expr_is_walked n ts us e p h = expr_walks h (walk_end ends_with_lambda p)

pub or_is_walked : (n : ℕ) (ts us : List Terminal) (e : Expr) → n ≤ reach us → ReadsOr ts e us done → Walks n Operand [] ts e us
or_is_walked n ts us e p h = or_walks h (walk_end ends_with_form p)

-- What is read step by step is what the grammar reads: what stands behind an operand goes on with it to the end of an
-- expression, and closes the open forms from there on.

-- the rest of an expression behind an operand that ends here
abbrev GoesOn : List Terminal → Expr → List Terminal → Expr → Type 0
GoesOn ts e us r = (xs : List Terminal) (d : Expr) → ReadsOperand xs d ts e → ReadsOr xs d us r

-- the rest of an expression behind atoms that end here
abbrev AtomsGoOn : List Terminal → Expr → List Terminal → Expr → Type 0
AtomsGoOn ts e us r = (xs : List Terminal) (d : Expr) → ReadsAtoms xs d ts e → ReadsOr xs d us r

data Closes (n : ℕ) : List Form → List Terminal → Expr → List Terminal → Type 0 where
  closes_none : {ts : List Terminal} → n ≤ reach ts → Closes n [] ts done ts
  closes_if : {fs : List Form} {b c : Block} {e r : Expr} {ts us vs ws xs : List Terminal}
      → ReadsBlock ts b (Else ∷ us) → ReadsBlock us c vs → GoesOn vs e ws r → Closes n fs ws r xs → Closes n (form.If ∷ fs) (Then ∷ ts) (branches b c e) xs
  closes_match : {fs : List Form} {cs : Cases} {e r : Expr} {ts us ws xs : List Terminal}
      → ReadsCases ts cs us → GoesOn us e ws r → Closes n fs ws r xs → Closes n (form.Match ∷ fs) (With ∷ ts) (with_cases cs e) xs

operand_or : {ts us : List Terminal} {e r : Expr} → ReadsOperand ts e us r → ReadsOr ts e us r
operand_or h = last_and (last_infix (last_operand h))

add_atom : {ts us vs : List Terminal} {e r : Expr} {a : Atom} → ReadsAtoms ts e us (atom a r) → ReadsAtom us a vs → ReadsAtoms ts e vs r
add_atom (last_atom h) k = more_atoms h (last_atom k)
add_atom (more_atoms h i) k = more_atoms h (add_atom i k)

operator_before_infix : {ts us vs : List Terminal} {t : Terminal} {w : Written} {d e r : Expr}
    → ReadsOperand ts d (t ∷ us) (operator w e) → IsOperator t w → ReadsInfix us e vs r → ReadsInfix ts d vs r
operator_before_infix h o i = more_operands h o i

operator_before_and : {ts us vs : List Terminal} {t : Terminal} {w : Written} {d e r : Expr}
    → ReadsOperand ts d (t ∷ us) (operator w e) → IsOperator t w → ReadsAnd us e vs r → ReadsAnd ts d vs r
operator_before_and h o (last_infix i) = last_infix (more_operands h o i)
operator_before_and h o (more_infixes i j) = more_infixes (more_operands h o i) j

operator_before_or : {ts us vs : List Terminal} {t : Terminal} {w : Written} {d e r : Expr}
    → ReadsOperand ts d (t ∷ us) (operator w e) → IsOperator t w → ReadsOr us e vs r → ReadsOr ts d vs r
operator_before_or h o (last_and i) = last_and (operator_before_and h o i)
operator_before_or h o (more_ands i j) = more_ands (operator_before_and h o i) j

and_before_or : {ts us vs : List Terminal} {d e r : Expr} → ReadsOperand ts d (AndAnd ∷ us) (and e) → ReadsOr us e vs r → ReadsOr ts d vs r
and_before_or h (last_and i) = last_and (more_infixes (last_operand h) i)
and_before_or h (more_ands i j) = more_ands (more_infixes (last_operand h) i) j

or_before_or : {ts us vs : List Terminal} {d e r : Expr} → ReadsOperand ts d (OrOr ∷ us) (or e) → ReadsOr us e vs r → ReadsOr ts d vs r
or_before_or h i = more_ands (last_infix (last_operand h)) i

-- an expression up to where it ends, and what closes the open forms behind it
record StartRest (n : ℕ) (fs : List Form) (ts : List Terminal) (e : Expr) (xs : List Terminal) : Type 0 where
  end : List Terminal
  rest : Expr
  read : ReadsExpr ts e end rest
  closed : Closes n fs end rest xs

record OperandRest (n : ℕ) (fs : List Form) (ts : List Terminal) (e : Expr) (xs : List Terminal) : Type 0 where
  end : List Terminal
  rest : Expr
  read : ReadsOr ts e end rest
  closed : Closes n fs end rest xs

record AtomsRest (n : ℕ) (fs : List Form) (ts : List Terminal) (e : Expr) (xs : List Terminal) : Type 0 where
  end : List Terminal
  rest : Expr
  read : AtomsGoOn ts e end rest
  closed : Closes n fs end rest xs

record FormedRest (n : ℕ) (fs : List Form) (ts : List Terminal) (e : Expr) (xs : List Terminal) : Type 0 where
  end : List Terminal
  rest : Expr
  read : GoesOn ts e end rest
  closed : Closes n fs end rest xs

-- what a walk reads at each stage
abbrev Rest : ℕ → Stage → List Form → List Terminal → Expr → List Terminal → Type 0
Rest n Start fs ts e xs = StartRest n fs ts e xs
Rest n Operand fs ts e xs = OperandRest n fs ts e xs
Rest n Atoms fs ts e xs = AtomsRest n fs ts e xs
Rest n Formed fs ts e xs = FormedRest n fs ts e xs
Rest n Whole fs ts e xs = Closes n fs ts e xs

ended : {n : ℕ} {s : Stage} {fs : List Form} {ts xs : List Terminal} {e : Expr} → EndsExpr s → Closes n fs ts e xs → Rest n s fs ts e xs
ended ends_with_atoms c = record { end = _; rest = _; read = λ ys d h. operand_or (atoms_operand h); closed = c }
ended ends_with_form c = record { end = _; rest = _; read = λ ys d h. operand_or h; closed = c }
ended ends_with_lambda c = c

-- a connective behind an operand
connected : {n : ℕ} {s : Stage} {fs : List Form} {ts us xs : List Terminal} {e f : Expr} → EndsOperand s
    → ((ys vs : List Terminal) (d r : Expr) → ReadsOperand ys d ts e → ReadsOr us f vs r → ReadsOr ys d vs r)
    → OperandRest n fs us f xs → Rest n s fs ts e xs
connected ends_atoms g o = record { end = o.end; rest = o.rest; read = λ ys d h. g ys o.end d o.rest (atoms_operand h) o.read; closed = o.closed }
connected ends_form g o = record { end = o.end; rest = o.rest; read = λ ys d h. g ys o.end d o.rest h o.read; closed = o.closed }

-- a form behind atoms or none
formed : {n : ℕ} {s : Stage} {fs : List Form} {ts us xs : List Terminal} {e f : Expr} → TakesAtom s
    → ReadsForm ts e us f → FormedRest n fs us f xs → Rest n s fs ts e xs
formed takes_first h o = record { end = o.end; rest = o.rest; read = o.read _ _ (form_operand h); closed = o.closed }
formed takes_next h o = record { end = o.end; rest = o.rest; read = λ ys d k. o.read _ _ (atoms_form_operand k h); closed = o.closed }

-- an atom behind atoms or none
atomed : {n : ℕ} {s : Stage} {fs : List Form} {ts us xs : List Terminal} {a : Atom} {e : Expr} → TakesAtom s
    → ReadsAtom ts a us → AtomsRest n fs us e xs → Rest n s fs ts (atom a e) xs
atomed takes_first h o = record { end = o.end; rest = o.rest; read = o.read _ _ (last_atom h); closed = o.closed }
atomed takes_next h o = record { end = o.end; rest = o.rest; read = λ ys d k. o.read _ _ (add_atom k h); closed = o.closed }

if_formed : {n : ℕ} {s : Stage} {fs : List Form} (p : Place) {ts us xs : List Terminal} {e r : Expr} → TakesAtom s
    → ReadsExpr ts e us r → Closes n (form.If ∷ fs) us r xs → Rest n s fs (If p ∷ ts) (opens_if p e) xs
if_formed p i h (closes_if j k g c) = formed i (if_form h j k) (record { end = _; rest = _; read = g; closed = c })

match_formed : {n : ℕ} {s : Stage} {fs : List Form} (p : Place) {ts us xs : List Terminal} {e r : Expr} → TakesAtom s
    → ReadsExpr ts e us r → Closes n (form.Match ∷ fs) us r xs → Rest n s fs (Match p ∷ ts) (opens_match p e) xs
match_formed p i h (closes_match j g c) = formed i (match_form h j) (record { end = _; rest = _; read = g; closed = c })

walk_rest : {n : ℕ} {s : Stage} {fs : List Form} {ts xs : List Terminal} {e : Expr} → Walks n s fs ts e xs → Rest n s fs ts e xs
walk_rest (walk_end i p) = ended i (closes_none p)
walk_rest (walk_lambda h k w) = record { end = _; rest = _; read = lambda_expr h k; closed = walk_rest w }
walk_rest (walk_start w) = let o = walk_rest w in record { end = o.end; rest = o.rest; read = or_expr o.read; closed = o.closed }
walk_rest (walk_atom i h w) = atomed i h (walk_rest w)
walk_rest (walk_if {p = p} i w) = let o = walk_rest w in if_formed p i o.read o.closed
walk_rest (walk_match {p = p} i w) = let o = walk_rest w in match_formed p i o.read o.closed
walk_rest (walk_cases i h w) = formed i (cases_form h) (walk_rest w)
walk_rest (walk_let i h w) = formed i (let_form h) (walk_rest w)
walk_rest (walk_operator i o w) = connected i (λ ys vs d r h k. operator_before_or h o k) (walk_rest w)
walk_rest (walk_and i w) = connected i (λ ys vs d r h k. and_before_or h k) (walk_rest w)
walk_rest (walk_or i w) = connected i (λ ys vs d r h k. or_before_or h k) (walk_rest w)
walk_rest (walk_then i h k w) = let o = walk_rest w in ended i (closes_if h k o.read o.closed)
walk_rest (walk_with i h w) = let o = walk_rest w in ended i (closes_match h o.read o.closed)

closed_expr : {n : ℕ} {ts us xs : List Terminal} {e r : Expr} → ReadsExpr ts e us r → Closes n [] us r xs → ReadsExpr ts e xs done
closed_expr h (closes_none p) = h

closed_or : {n : ℕ} {ts us xs : List Terminal} {e r : Expr} → ReadsOr ts e us r → Closes n [] us r xs → ReadsOr ts e xs done
closed_or h (closes_none p) = h

pub walked_expr : {n : ℕ} {ts us : List Terminal} {e : Expr} → Walks n Start [] ts e us → ReadsExpr ts e us done
walked_expr w = let o = walk_rest w in closed_expr o.read o.closed

pub walked_or : {n : ℕ} {ts us : List Terminal} {e : Expr} → Walks n Operand [] ts e us → ReadsOr ts e us done
walked_or w = let o = walk_rest w in closed_or o.read o.closed

-- the expression that is no lambda at the front of a walk, and how far its end goes on
pub record OperandReads (ts : List Terminal) : Type 0 where
  pub steps : Expr
  pub end : List Terminal
  pub rest : Expr
  pub read : ReadsOr ts steps end rest
  pub far : 6 ≤ reach end

closes_far : {n : ℕ} {fs : List Form} {ts xs : List Terminal} {e : Expr} → Closes n fs ts e xs → MayStart n Start fs → 6 ≤ reach ts
closes_far (closes_none p) m = omega arith
closes_far (closes_if h k g c) m = omega arith
closes_far (closes_match h g c) m = omega arith

pub operand_reads : {n : ℕ} {fs : List Form} {ts xs : List Terminal} {e : Expr} → Walks n Operand fs ts e xs → MayStart n Start fs → OperandReads ts
operand_reads w m = let o = walk_rest w in record { steps = _; end = o.end; rest = o.rest; read = o.read; far = closes_far o.closed m }
