-- What a walk does at a token.
use Rattle.std.proofs.Common.{◌≡◌, ℕ, ◌≤◌, List, [], ◌∷◌, refl, sym, arith}
use Rattle.uc_base.specs.declared.place.Place.{Place}
use Rattle.uc_scratch.specs.declared.written.Written.{Written}
use Rattle.uc_scratch.specs.declared.written.Param.{Param}
use Rattle.uc_scratch.specs.declared.terminal.Terminal.{Terminal}
use Rattle.uc_scratch.specs.declared.terminal.Terminal.TheVariants.{Arrow, AndAnd, OrOr, If, Then, Else, Match, With, Cases as CasesWord, Let}
use Rattle.uc_scratch.specs.declared.walk.Stage.{Stage}
use Rattle.uc_scratch.specs.declared.walk.Stage.TheVariants.{Start, Operand, Atoms, Formed, Whole}
use Rattle.uc_scratch.specs.declared.walk.Form.{Form}
use Rattle.uc_scratch.specs.declared.walk.Form.TheVariants as form
use Rattle.uc_scratch.specs.Exprs.{Expr, Atom, Cases, Block}
use Rattle.uc_scratch.specs.Terminals.{IsOperator}
use Rattle.uc_scratch.specs.ExprGrammar.{ReadsParams, ReadsAtom, ReadsCases, ReadsBlock}
use Rattle.uc_scratch.specs.Follows.{goes_on, reach}
use Rattle.uc_scratch.specs.Walks.{TakesAtom, takes_first, takes_next, EndsOperand, ends_atoms, ends_form, EndsExpr, ends_with_atoms, ends_with_form, ends_with_lambda, Walks, walk_end, walk_lambda, walk_start, walk_atom, walk_if, walk_match, walk_cases, walk_let, walk_operator, walk_and, walk_or, walk_then, walk_with, Behind, EndsAt, atoms_end, form_ends, lambda_ends}
use Rattle.uc_scratch.proofs.Classes.{operator_reach}
use Rattle.uc_scratch.proofs.Begins.{atom_reach}

-- an atom, and the walk behind it
pub record AtomStep (n : ℕ) (fs : List Form) (ts xs : List Terminal) : Type 0 where
  pub value : Atom
  pub behind : List Terminal
  pub steps : Expr
  pub read : ReadsAtom ts value behind
  pub walked : Walks n Atoms fs behind steps xs

pub atom_step : {n : ℕ} {s : Stage} {fs : List Form} {ts xs : List Terminal} {e : Expr} → 5 ≤ n → TakesAtom s → reach ts ≡ 0
    → Walks n s fs ts e xs → AtomStep n fs ts xs
atom_step q i r (walk_end j p) = absurd (omega arith)
atom_step q i r (walk_lambda h k w) = elim i [ ]
atom_step q i r (walk_start w) = elim i [ ]
atom_step q i r (walk_atom j h w) = record { value = _; behind = _; steps = _; read = h; walked = w }
atom_step q i r (walk_if j w) = absurd (omega arith)
atom_step q i r (walk_match j w) = absurd (omega arith)
atom_step q i r (walk_cases j h w) = absurd (omega arith)
atom_step q i r (walk_let j h w) = absurd (omega arith)
atom_step q i r (walk_operator j o w) = absurd (omega (arith, operator_reach o))
atom_step q i r (walk_and j w) = absurd (omega arith)
atom_step q i r (walk_or j w) = absurd (omega arith)
atom_step q i r (walk_then j h k w) = absurd (omega arith)
atom_step q i r (walk_with j h w) = absurd (omega arith)

pub if_step : {n : ℕ} {s : Stage} {fs : List Form} {p : Place} {ts xs : List Terminal} {e : Expr} → 5 ≤ n → TakesAtom s
    → Walks n s fs (If p ∷ ts) e xs → Behind n Start (form.If ∷ fs) ts xs
if_step q i (walk_end j p) = absurd (omega arith)
if_step q i (walk_lambda h k w) = elim i [ ]
if_step q i (walk_start w) = elim i [ ]
if_step q i (walk_atom j h w) = absurd (omega (arith, atom_reach h))
if_step q i (walk_if j w) = record { steps = _; walked = w }
if_step q i (walk_operator j o w) = elim o [ ]

pub match_step : {n : ℕ} {s : Stage} {fs : List Form} {p : Place} {ts xs : List Terminal} {e : Expr} → 5 ≤ n → TakesAtom s
    → Walks n s fs (Match p ∷ ts) e xs → Behind n Start (form.Match ∷ fs) ts xs
match_step q i (walk_end j p) = absurd (omega arith)
match_step q i (walk_lambda h k w) = elim i [ ]
match_step q i (walk_start w) = elim i [ ]
match_step q i (walk_atom j h w) = absurd (omega (arith, atom_reach h))
match_step q i (walk_match j w) = record { steps = _; walked = w }
match_step q i (walk_operator j o w) = elim o [ ]

-- cases, and the walk behind them
pub record CasesStep (n : ℕ) (fs : List Form) (ts xs : List Terminal) : Type 0 where
  pub value : Cases
  pub behind : List Terminal
  pub steps : Expr
  pub read : ReadsCases ts value behind
  pub walked : Walks n Formed fs behind steps xs

pub cases_step : {n : ℕ} {s : Stage} {fs : List Form} {p : Place} {ts xs : List Terminal} {e : Expr} → 5 ≤ n → TakesAtom s
    → Walks n s fs (CasesWord p ∷ ts) e xs → CasesStep n fs ts xs
cases_step q i (walk_end j p) = absurd (omega arith)
cases_step q i (walk_lambda h k w) = elim i [ ]
cases_step q i (walk_start w) = elim i [ ]
cases_step q i (walk_atom j h w) = absurd (omega (arith, atom_reach h))
cases_step q i (walk_cases j h w) = record { value = _; behind = _; steps = _; read = h; walked = w }
cases_step q i (walk_operator j o w) = elim o [ ]

-- a block, and the walk behind it
pub record BlockStep (n : ℕ) (s : Stage) (fs : List Form) (ts xs : List Terminal) : Type 0 where
  pub value : Block
  pub behind : List Terminal
  pub steps : Expr
  pub read : ReadsBlock ts value behind
  pub walked : Walks n s fs behind steps xs

pub let_step : {n : ℕ} {s : Stage} {fs : List Form} {p : Place} {ts xs : List Terminal} {e : Expr} → 5 ≤ n → TakesAtom s
    → Walks n s fs (Let p ∷ ts) e xs → BlockStep n Formed fs ts xs
let_step q i (walk_end j p) = absurd (omega arith)
let_step q i (walk_lambda h k w) = elim i [ ]
let_step q i (walk_start w) = elim i [ ]
let_step q i (walk_atom j h w) = absurd (omega (arith, atom_reach h))
let_step q i (walk_let j h w) = record { value = _; behind = _; steps = _; read = h; walked = w }
let_step q i (walk_operator j o w) = elim o [ ]

-- an operand begins with an atom or a form
pub no_operand : {n : ℕ} {fs : List Form} {ts xs : List Terminal} {e : Expr} → 2 ≤ reach ts → Walks n Operand fs ts e xs → ⊥
no_operand q (walk_end j p) = elim j [ ]
no_operand q (walk_atom j h w) = absurd (omega (arith, atom_reach h))
no_operand q (walk_if j w) = absurd (omega arith)
no_operand q (walk_match j w) = absurd (omega arith)
no_operand q (walk_cases j h w) = absurd (omega arith)
no_operand q (walk_let j h w) = absurd (omega arith)
no_operand q (walk_operator j o w) = elim j [ ]
no_operand q (walk_and j w) = elim j [ ]
no_operand q (walk_or j w) = elim j [ ]
no_operand q (walk_then j h k w) = elim j [ ]
no_operand q (walk_with j h w) = elim j [ ]

pub operator_step : {n : ℕ} {s : Stage} {fs : List Form} {t : Terminal} {w : Written} {ts xs : List Terminal} {e : Expr} → 5 ≤ n → EndsOperand s → IsOperator t w
    → Walks n s fs (t ∷ ts) e xs → Behind n Operand fs ts xs
operator_step q i o (walk_end j p) = absurd (omega (arith, operator_reach o))
operator_step q i o (walk_lambda h k w) = elim i [ ]
operator_step q i o (walk_start w) = elim i [ ]
operator_step q i o (walk_atom j h w) = absurd (omega (arith, operator_reach o, atom_reach h))
operator_step q i o (walk_if j w) = elim o [ ]
operator_step q i o (walk_match j w) = elim o [ ]
operator_step q i o (walk_cases j h w) = elim o [ ]
operator_step q i o (walk_let j h w) = elim o [ ]
operator_step q i o (walk_operator j m w) = record { steps = _; walked = w }
operator_step q i o (walk_and j w) = elim o [ ]
operator_step q i o (walk_or j w) = elim o [ ]
operator_step q i o (walk_then j h k w) = elim o [ ]
operator_step q i o (walk_with j h w) = elim o [ ]

pub and_step : {n : ℕ} {s : Stage} {fs : List Form} {ts xs : List Terminal} {e : Expr} → 5 ≤ n → EndsOperand s
    → Walks n s fs (AndAnd ∷ ts) e xs → Behind n Operand fs ts xs
and_step q i (walk_end j p) = absurd (omega arith)
and_step q i (walk_lambda h k w) = elim i [ ]
and_step q i (walk_start w) = elim i [ ]
and_step q i (walk_atom j h w) = absurd (omega (arith, atom_reach h))
and_step q i (walk_operator j o w) = elim o [ ]
and_step q i (walk_and j w) = record { steps = _; walked = w }

pub or_step : {n : ℕ} {s : Stage} {fs : List Form} {ts xs : List Terminal} {e : Expr} → 5 ≤ n → EndsOperand s
    → Walks n s fs (OrOr ∷ ts) e xs → Behind n Operand fs ts xs
or_step q i (walk_end j p) = absurd (omega arith)
or_step q i (walk_lambda h k w) = elim i [ ]
or_step q i (walk_start w) = elim i [ ]
or_step q i (walk_atom j h w) = absurd (omega (arith, atom_reach h))
or_step q i (walk_operator j o w) = elim o [ ]
or_step q i (walk_or j w) = record { steps = _; walked = w }

no_atom_there : {s : Stage} {ts us : List Terminal} {a : Atom} → EndsAt s (reach ts) → TakesAtom s → ReadsAtom ts a us → ⊥
no_atom_there (atoms_end p) i h = absurd (omega (arith, atom_reach h))
no_atom_there (form_ends p) i h = elim i [ ]
no_atom_there lambda_ends i h = elim i [ ]

no_form_there : {s : Stage} {m : ℕ} → EndsAt s m → TakesAtom s → m ≡ 1 → ⊥
no_form_there (atoms_end p) i e = absurd (omega arith)
no_form_there (form_ends p) i e = elim i [ ]
no_form_there lambda_ends i e = elim i [ ]

no_connective_there : {s : Stage} {m : ℕ} → EndsAt s m → EndsOperand s → 2 ≤ m → m ≤ 4 → ⊥
no_connective_there (atoms_end p) i q r = absurd (omega arith)
no_connective_there (form_ends p) i q r = let x = p q in absurd (omega (arith, x))
no_connective_there lambda_ends i q r = elim i [ ]

-- both branches of a condition, and the walk behind them
pub record ThenStep (n : ℕ) (fs : List Form) (ts xs : List Terminal) : Type 0 where
  pub front : List Terminal
  pub is : ts ≡ Then ∷ front
  pub consequent : Block
  pub middle : List Terminal
  pub read : ReadsBlock front consequent (Else ∷ middle)
  pub other : BlockStep n Formed fs middle xs

pub then_step : {n : ℕ} {s : Stage} {fs : List Form} {ts xs : List Terminal} {e : Expr} → EndsAt s (reach ts)
    → Walks n s (form.If ∷ fs) ts e xs → ThenStep n fs ts xs
then_step i (walk_lambda h k w) = elim i [ ]
then_step i (walk_start w) = elim i [ ]
then_step i (walk_atom j h w) = absurd (no_atom_there i j h)
then_step i (walk_if j w) = absurd (no_form_there i j refl)
then_step i (walk_match j w) = absurd (no_form_there i j refl)
then_step i (walk_cases j h w) = absurd (no_form_there i j refl)
then_step i (walk_let j h w) = absurd (no_form_there i j refl)
then_step i (walk_operator j o w) = absurd (no_connective_there i j (omega (arith, operator_reach o)) (omega (arith, operator_reach o)))
then_step i (walk_and j w) = absurd (no_connective_there i j (omega arith) (omega arith))
then_step i (walk_or j w) = absurd (no_connective_there i j (omega arith) (omega arith))
then_step i (walk_then j h k w) =
    record { front = _; is = refl; consequent = _; middle = _; read = h; other = record { value = _; behind = _; steps = _; read = k; walked = w } }

-- the cases of a match, and the walk behind them
pub record WithStep (n : ℕ) (fs : List Form) (ts xs : List Terminal) : Type 0 where
  pub front : List Terminal
  pub is : ts ≡ With ∷ front
  pub cases : CasesStep n fs front xs

pub with_step : {n : ℕ} {s : Stage} {fs : List Form} {ts xs : List Terminal} {e : Expr} → EndsAt s (reach ts)
    → Walks n s (form.Match ∷ fs) ts e xs → WithStep n fs ts xs
with_step i (walk_lambda h k w) = elim i [ ]
with_step i (walk_start w) = elim i [ ]
with_step i (walk_atom j h w) = absurd (no_atom_there i j h)
with_step i (walk_if j w) = absurd (no_form_there i j refl)
with_step i (walk_match j w) = absurd (no_form_there i j refl)
with_step i (walk_cases j h w) = absurd (no_form_there i j refl)
with_step i (walk_let j h w) = absurd (no_form_there i j refl)
with_step i (walk_operator j o w) = absurd (no_connective_there i j (omega (arith, operator_reach o)) (omega (arith, operator_reach o)))
with_step i (walk_and j w) = absurd (no_connective_there i j (omega arith) (omega arith))
with_step i (walk_or j w) = absurd (no_connective_there i j (omega arith) (omega arith))
with_step i (walk_with j h w) = record { front = _; is = refl; cases = record { value = _; behind = _; steps = _; read = h; walked = w } }

-- where no form is open, a walk ends where it can't go on
pub end_step : {n : ℕ} {s : Stage} {ts xs : List Terminal} {e : Expr} → EndsAt s (reach ts) → Walks n s [] ts e xs → n ≤ reach ts
end_step i (walk_end j p) = p
end_step i (walk_lambda h k w) = elim i [ ]
end_step i (walk_start w) = elim i [ ]
end_step i (walk_atom j h w) = absurd (no_atom_there i j h)
end_step i (walk_if j w) = absurd (no_form_there i j refl)
end_step i (walk_match j w) = absurd (no_form_there i j refl)
end_step i (walk_cases j h w) = absurd (no_form_there i j refl)
end_step i (walk_let j h w) = absurd (no_form_there i j refl)
end_step i (walk_operator j o w) = absurd (no_connective_there i j (omega (arith, operator_reach o)) (omega (arith, operator_reach o)))
end_step i (walk_and j w) = absurd (no_connective_there i j (omega arith) (omega arith))
end_step i (walk_or j w) = absurd (no_connective_there i j (omega arith) (omega arith))
