-- How the steps of an expression are read one after another, with the forms whose conditions and subjects are open.
use Rattle.std.specs.Prelude.{◌≡◌, ℕ, ◌<◌, ◌≤◌, true, List, [], ◌∷◌, length}
use Rattle.uc_base.specs.declared.place.Place.{Place}
use Rattle.uc_scratch.specs.declared.written.Written.{Written}
use Rattle.uc_scratch.specs.declared.written.Param.{Param}
use Rattle.uc_scratch.specs.declared.terminal.Terminal.{Terminal}
use Rattle.uc_scratch.specs.declared.terminal.Terminal.TheVariants.{Arrow, AndAnd, OrOr, If, Then, Else, Match, With, Cases as CasesWord, Let}
use Rattle.uc_scratch.specs.declared.walk.Stage.{Stage}
use Rattle.uc_scratch.specs.declared.walk.Stage.TheVariants.{Start, Operand, Atoms, Formed, Whole}
use Rattle.uc_scratch.specs.declared.walk.Form.{Form}
use Rattle.uc_scratch.specs.declared.walk.Form.TheVariants as form
use Rattle.uc_scratch.specs.Exprs.{Expr, done, lambda, atom, operator, and, or, opens_if, branches, opens_match, with_cases, cases, block, Atom, Cases, Block}
use Rattle.uc_scratch.specs.declared.expr.Step.{Step}
use Rattle.uc_scratch.specs.ExprViews.{step_before}
use Rattle.uc_scratch.specs.Terminals.{IsOperator}
use Rattle.uc_scratch.specs.ExprGrammar.{ReadsParams, ReadsAtom, ReadsCases, ReadsBlock}
use Rattle.uc_scratch.specs.Follows.{reach}
use Rattle.uc_scratch.specs.Nesting.{fits}

-- where an atom or a form may stand
pub data TakesAtom : Stage → Type 0 where
  takes_first : TakesAtom Operand
  takes_next : TakesAtom Atoms

-- where a connective may stand
pub data EndsOperand : Stage → Type 0 where
  ends_atoms : EndsOperand Atoms
  ends_form : EndsOperand Formed

-- where an expression may end
pub data EndsExpr : Stage → Type 0 where
  ends_with_atoms : EndsExpr Atoms
  ends_with_form : EndsExpr Formed
  ends_with_lambda : EndsExpr Whole

-- At a stage, inside the conditions and subjects of some forms, the innermost first, these tokens are read as these steps up
-- to the last ones, which go on with nothing below this number.
pub data Walks (n : ℕ) : Stage → List Form → List Terminal → Expr → List Terminal → Type 0 where
  walk_end : {s : Stage} {ts : List Terminal} → EndsExpr s → n ≤ reach ts → Walks n s [] ts done ts
  walk_lambda : {fs : List Form} {p : Param} {ps : List Param} {b : Block} {e : Expr} {ts us vs ws : List Terminal}
      → ReadsParams ts (p ∷ ps) (Arrow ∷ us) → ReadsBlock us b vs → Walks n Whole fs vs e ws → Walks n Start fs ts (lambda (p ∷ ps) b e) ws
  walk_start : {fs : List Form} {e : Expr} {ts us : List Terminal} → Walks n Operand fs ts e us → Walks n Start fs ts e us
  walk_atom : {s : Stage} {fs : List Form} {a : Atom} {e : Expr} {ts us vs : List Terminal}
      → TakesAtom s → ReadsAtom ts a us → Walks n Atoms fs us e vs → Walks n s fs ts (atom a e) vs
  walk_if : {s : Stage} {fs : List Form} {p : Place} {e : Expr} {ts us : List Terminal}
      → TakesAtom s → Walks n Start (form.If ∷ fs) ts e us → Walks n s fs (If p ∷ ts) (opens_if p e) us
  walk_match : {s : Stage} {fs : List Form} {p : Place} {e : Expr} {ts us : List Terminal}
      → TakesAtom s → Walks n Start (form.Match ∷ fs) ts e us → Walks n s fs (Match p ∷ ts) (opens_match p e) us
  walk_cases : {s : Stage} {fs : List Form} {p : Place} {cs : Cases} {e : Expr} {ts us vs : List Terminal}
      → TakesAtom s → ReadsCases ts cs us → Walks n Formed fs us e vs → Walks n s fs (CasesWord p ∷ ts) (cases p cs e) vs
  walk_let : {s : Stage} {fs : List Form} {p : Place} {b : Block} {e : Expr} {ts us vs : List Terminal}
      → TakesAtom s → ReadsBlock ts b us → Walks n Formed fs us e vs → Walks n s fs (Let p ∷ ts) (block p b e) vs
  walk_operator : {s : Stage} {fs : List Form} {t : Terminal} {w : Written} {e : Expr} {ts us : List Terminal}
      → EndsOperand s → IsOperator t w → Walks n Operand fs ts e us → Walks n s fs (t ∷ ts) (operator w e) us
  walk_and : {s : Stage} {fs : List Form} {e : Expr} {ts us : List Terminal}
      → EndsOperand s → Walks n Operand fs ts e us → Walks n s fs (AndAnd ∷ ts) (and e) us
  walk_or : {s : Stage} {fs : List Form} {e : Expr} {ts us : List Terminal}
      → EndsOperand s → Walks n Operand fs ts e us → Walks n s fs (OrOr ∷ ts) (or e) us
  walk_then : {s : Stage} {fs : List Form} {b c : Block} {e : Expr} {ts us vs ws : List Terminal}
      → EndsExpr s → ReadsBlock ts b (Else ∷ us) → ReadsBlock us c vs → Walks n Formed fs vs e ws
      → Walks n s (form.If ∷ fs) (Then ∷ ts) (branches b c e) ws
  walk_with : {s : Stage} {fs : List Form} {cs : Cases} {e : Expr} {ts us vs : List Terminal}
      → EndsExpr s → ReadsCases ts cs us → Walks n Formed fs us e vs → Walks n s (form.Match ∷ fs) (With ∷ ts) (with_cases cs e) vs

-- a walk from here on
pub record Behind (n : ℕ) (s : Stage) (fs : List Form) (ts xs : List Terminal) : Type 0 where
  pub steps : Expr
  pub walked : Walks n s fs ts steps xs

-- a stage that can't go on within its expression, at a token that goes on with this much
pub data EndsAt : Stage → ℕ → Type 0 where
  atoms_end : {m : ℕ} → 5 ≤ m → EndsAt Atoms m
  form_ends : {m : ℕ} → (2 ≤ m → 5 ≤ m) → EndsAt Formed m
  lambda_ends : {m : ℕ} → EndsAt Whole m

-- where an expression that begins outside all forms has to end with more than an arrow can
abbrev pub MayStart : ℕ → Stage → List Form → Type 0
MayStart n Start [] = 6 ≤ n
MayStart n _ _ = Unit {0}

-- from a stage and tokens a step leads to another, and there is no other way
pub record Leads (s : Stage) (ts : List Terminal) (x : Step) (next : Stage) (us : List Terminal) : Type 0 where
  pub found : (n : ℕ) (fs : List Form) (e : Expr) (vs : List Terminal) → Walks n next fs us e vs → Walks n s fs ts (step_before x e) vs
  pub only : (n : ℕ) (fs : List Form) (e : Expr) (vs : List Terminal) → 5 ≤ n → MayStart n s fs → Walks n s fs ts e vs → Behind n next fs us vs
  pub starts : (n : ℕ) (fs : List Form) → MayStart n next fs
  pub shorter : length us < length ts
  pub fitting : (n : ℕ) → fits n ts ≡ true → fits n us ≡ true

-- the same of a step that begins the condition or the subject of a form
pub record LeadsInto (s : Stage) (ts : List Terminal) (x : Step) (f : Form) (us : List Terminal) : Type 0 where
  pub found : (n : ℕ) (fs : List Form) (e : Expr) (vs : List Terminal) → Walks n Start (f ∷ fs) us e vs → Walks n s fs ts (step_before x e) vs
  pub only : (n : ℕ) (fs : List Form) (e : Expr) (vs : List Terminal) → 5 ≤ n → MayStart n s fs → Walks n s fs ts e vs → Behind n Start (f ∷ fs) us vs
  pub shorter : length us < length ts
  pub fitting : (n : ℕ) → fits n ts ≡ true → fits n us ≡ true

-- the same of a step that ends one
pub record LeadsOut (s : Stage) (f : Form) (ts : List Terminal) (x : Step) (us : List Terminal) : Type 0 where
  pub found : (n : ℕ) (fs : List Form) (e : Expr) (vs : List Terminal) → Walks n Formed fs us e vs → Walks n s (f ∷ fs) ts (step_before x e) vs
  pub only : (n : ℕ) (fs : List Form) (e : Expr) (vs : List Terminal) → Walks n s (f ∷ fs) ts e vs → Behind n Formed fs us vs
  pub shorter : length us < length ts
  pub fitting : (n : ℕ) → fits n ts ≡ true → fits n us ≡ true

-- from a stage and tokens no step leads on
abbrev pub Stays : Stage → List Terminal → Type 0
Stays s ts = (n : ℕ) (fs : List Form) (e : Expr) (vs : List Terminal) → 5 ≤ n → MayStart n s fs → Walks n s fs ts e vs → ⊥
