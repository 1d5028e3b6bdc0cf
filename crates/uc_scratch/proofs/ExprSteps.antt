-- The steps of readers of expressions.
use Rattle.std.proofs.Common.{◌≡◌, ℕ, suc, zero, ◌-◌, ◌<◌, ◌≤◌, Bool, true, false, List, [], ◌∷◌, ◌++◌, length, refl, subst, sym, ap, ◌∙◌, arith}
use Rattle.std.specs.Prelude.{Option, Some, None}
use Rattle.uc_base.specs.declared.place.Place.{Place}
use Rattle.uc_scratch.specs.declared.written.Written.{Written}
use Rattle.uc_scratch.specs.declared.written.Param.{Param}
use Rattle.uc_scratch.specs.declared.terminal.Terminal.{Terminal}
use Rattle.uc_scratch.specs.declared.terminal.Terminal.TheVariants.{Arrow, AndAnd, OrOr, If, Then, Else, Match, With, Cases as CasesWord, Let}
use Rattle.uc_scratch.specs.declared.walk.Stage.{Stage}
use Rattle.uc_scratch.specs.declared.walk.Stage.TheVariants.{Start, Operand, Atoms, Formed, Whole}
use Rattle.uc_scratch.specs.declared.walk.Form.{Form}
use Rattle.uc_scratch.specs.declared.walk.Form.TheVariants as form
use Rattle.uc_scratch.specs.declared.expr.Step.{Step}
use Rattle.uc_scratch.specs.declared.expr.Step.TheVariants as step
use Rattle.uc_scratch.specs.declared.expr.Atom as atom_type
use Rattle.uc_scratch.specs.Exprs as plain
use Rattle.uc_scratch.specs.Exprs.{Expr, done, Atom, Cases, Block}
use Rattle.uc_scratch.specs.ExprViews.{atom_of, step_before, steps_before, expr_of}
use Rattle.uc_scratch.specs.Terminals.{operator_of, IsOperator}
use Rattle.uc_scratch.specs.ExprGrammar.{ReadsParams, ReadsExpr, ReadsOr, ReadsAtom, ReadsCases, ReadsBlock}
use Rattle.uc_scratch.specs.Follows.{goes_on, reach}
use Rattle.uc_scratch.specs.Nesting.{fits}
use Rattle.uc_scratch.specs.Fronts.{IsLambda, lambda_front, NoLambda}
use Rattle.uc_scratch.specs.Walks.{TakesAtom, takes_first, takes_next, EndsOperand, ends_atoms, ends_form, EndsExpr, ends_with_atoms, ends_with_form, ends_with_lambda, Walks, walk_end, walk_lambda, walk_start, walk_atom, walk_if, walk_match, walk_cases, walk_let, walk_operator, walk_and, walk_or, walk_then, walk_with, Behind, EndsAt, atoms_end, form_ends, lambda_ends, MayStart, Leads, LeadsInto, LeadsOut, Stays}
use Rattle.uc_scratch.proofs.Classes.{operator_reach}
use Rattle.uc_scratch.proofs.Named.{operator_is}
use Rattle.uc_scratch.proofs.Fits.{fits_at, fits_operator, fits_atom, fits_cases, fits_block, fits_params}
use Rattle.uc_scratch.proofs.Lengths.{atom_length, cases_length, block_length, params_length}
use Rattle.uc_scratch.specs.Moves.{IsMove, IsConnective}
use Rattle.uc_scratch.specs.declared.read_exprs.Move.{Move}
use Rattle.uc_scratch.specs.declared.read_exprs.Move.TheVariants as move
use Rattle.uc_scratch.proofs.TypeReadings.{tail_same}
use Rattle.uc_scratch.proofs.Classes.{one_params}
use Rattle.uc_scratch.proofs.Begins.{atom_reach, no_or_at_lambda}
use Rattle.uc_scratch.proofs.WalkReadings.{operand_reads}
use Rattle.uc_scratch.proofs.ExprReadings.{one_atom, one_cases, one_block, block_from, cases_from}
use Rattle.uc_scratch.proofs.WalkSteps.{AtomStep, atom_step, if_step, match_step, CasesStep, cases_step, BlockStep, let_step, no_operand, operator_step, and_step, or_step, ThenStep, then_step, WithStep, with_step, end_step}

walks_from : (n : ℕ) (s : Stage) (fs : List Form) (ts us : List Terminal) (e : Expr) (vs : List Terminal) → ts ≡ us → Walks n s fs ts e vs → Walks n s fs us e vs
walks_from n s fs ts us e vs p w = let P : List Terminal → Type 0 = λ x. Walks n s fs x e vs in subst P p w

behind_from : (n : ℕ) (s : Stage) (fs : List Form) (ts us vs : List Terminal) → ts ≡ us → Behind n s fs ts vs → Behind n s fs us vs
behind_from n s fs ts us vs p w = let P : List Terminal → Type 0 = λ x. Behind n s fs x vs in subst P p w

-- connectives

takes_no_start : {s : Stage} → EndsOperand s → (n : ℕ) (fs : List Form) → MayStart n s fs
takes_no_start ends_atoms n fs = tt
takes_no_start ends_form n fs = tt

operator_leads_at : (t : Terminal) (us : List Terminal) (w : Written) → IsOperator t w → (s : Stage) → EndsOperand s → Leads s (t ∷ us) (step.Operator w) Operand us
operator_leads_at t us w o s i = record {
  found = λ n fs e vs k. walk_operator i o k;
  only = λ n fs e vs p q k. operator_step p i o k;
  starts = λ n fs. tt;
  shorter = omega arith;
  fitting = λ n f. fits_operator n us o f;
}

leads_from : (s : Stage) (ts us : List Terminal) (x : Step) (next : Stage) (vs : List Terminal) → ts ≡ us → Leads s us x next vs → Leads s ts x next vs
leads_from s ts us x next vs e l = let P : List Terminal → Type 0 = λ z. Leads s z x next vs in subst P (sym e) l

pub operator_leads : (ts us : List Terminal) (t : Terminal) (w v : Written) → ts ≡ t ∷ us → Some w ≡ operator_of t → v ≡ w
    → (s : Stage) → EndsOperand s → Leads s ts (step.Operator v) Operand us
operator_leads ts us t w v e f g s i =
    let P : Written → Type 0 = λ z. Leads s ts (step.Operator z) Operand us in
    subst P (sym g) (leads_from _ _ _ _ _ _ e (operator_leads_at t us w (operator_is t w (sym f)) s i))

head_is : (ts us : List Terminal) (t u : Terminal) → ts ≡ t ∷ us → t ≡ u → ts ≡ u ∷ us
head_is ts us t u e f = cc

pub and_leads : (ts us : List Terminal) (t : Terminal) → ts ≡ t ∷ us → t ≡ AndAnd → (s : Stage) → EndsOperand s → Leads s ts step.And Operand us
and_leads ts us t e f s i = leads_from _ _ _ _ _ _ (head_is _ _ _ _ e f) (record {
  found = λ n fs e vs k. walk_and i k;
  only = λ n fs e vs p q k. and_step p i k;
  starts = λ n fs. tt;
  shorter = omega arith;
  fitting = λ n f. f;
})

pub or_leads : (ts us : List Terminal) (t : Terminal) → ts ≡ t ∷ us → t ≡ OrOr → (s : Stage) → EndsOperand s → Leads s ts step.Or Operand us
or_leads ts us t e f s i = leads_from _ _ _ _ _ _ (head_is _ _ _ _ e f) (record {
  found = λ n fs e vs k. walk_or i k;
  only = λ n fs e vs p q k. or_step p i k;
  starts = λ n fs. tt;
  shorter = omega arith;
  fitting = λ n f. f;
})

-- forms

pub if_leads : (ts us : List Terminal) (t : Terminal) (p : Place) → ts ≡ t ∷ us → t ≡ If p → (s : Stage) → TakesAtom s → LeadsInto s ts (step.If p) form.If us
if_leads ts us t p e f s i =
    let P : List Terminal → Type 0 = λ z. LeadsInto s z (step.If p) form.If us in
    subst P (sym (head_is _ _ _ _ e f)) (record {
      found = λ n fs d vs w. walk_if i w;
      only = λ n fs d vs q m w. if_step q i w;
      shorter = omega arith;
      fitting = λ n g. g;
    })

pub match_leads : (ts us : List Terminal) (t : Terminal) (p : Place) → ts ≡ t ∷ us → t ≡ Match p → (s : Stage) → TakesAtom s → LeadsInto s ts (step.Match p) form.Match us
match_leads ts us t p e f s i =
    let P : List Terminal → Type 0 = λ z. LeadsInto s z (step.Match p) form.Match us in
    subst P (sym (head_is _ _ _ _ e f)) (record {
      found = λ n fs d vs w. walk_match i w;
      only = λ n fs d vs q m w. match_step q i w;
      shorter = omega arith;
      fitting = λ n g. g;
    })

step_is : (n : ℕ) (s : Stage) (fs : List Form) (ts : List Terminal) (d e : Expr) (vs : List Terminal) → d ≡ e → Walks n s fs ts e vs → Walks n s fs ts d vs
step_is n s fs ts d e vs p w = let P : Expr → Type 0 = λ z. Walks n s fs ts z vs in subst P (sym p) w

behind_cases : {n : ℕ} {fs : List Form} {ts us vs : List Terminal} {cs : Cases} → ReadsCases ts cs us → CasesStep n fs ts vs → Behind n Formed fs us vs
behind_cases h o = behind_from _ _ _ _ _ _ (sym ((one_cases _ _ _ _ h o.read).1)) (record { steps = o.steps; walked = o.walked })

behind_block : {n : ℕ} {s : Stage} {fs : List Form} {ts us vs : List Terminal} {b : Block} → ReadsBlock ts b us → BlockStep n s fs ts vs → Behind n s fs us vs
behind_block h o = behind_from _ _ _ _ _ _ (sym ((one_block _ _ _ _ h o.read).1)) (record { steps = o.steps; walked = o.walked })

pub cases_lead : (ts us vs : List Terminal) (t : Terminal) (p : Place) (cs : Cases) (x : Step) → ts ≡ t ∷ us → t ≡ CasesWord p → ReadsCases us cs vs
    → ((e : Expr) → step_before x e ≡ plain.cases p cs e) → (s : Stage) → TakesAtom s → Leads s ts x Formed vs
cases_lead ts us vs t p cs x e f h g s i = leads_from _ _ _ _ _ _ (head_is _ _ _ _ e f) (record {
  found = λ n fs d ws w. step_is _ _ _ _ _ _ _ (g d) (walk_cases i h w);
  only = λ n fs d ws q m w. behind_cases h (cases_step q i w);
  starts = λ n fs. tt;
  shorter = omega (arith, cases_length h);
  fitting = λ n k. fits_cases n h k;
})

pub no_cases_stay : (ts us : List Terminal) (t : Terminal) (p : Place) → ts ≡ t ∷ us → t ≡ CasesWord p → ((cs : Cases) (vs : List Terminal) → ReadsCases us cs vs → ⊥)
    → (s : Stage) → TakesAtom s → Stays s ts
no_cases_stay ts us t p e f g s i n fs d vs q m w = let o = cases_step q i (walks_from _ _ _ _ _ _ _ (head_is _ _ _ _ e f) w) in g _ _ o.read

pub block_leads : (ts us vs : List Terminal) (t : Terminal) (p : Place) (b : Block) (x : Step) → ts ≡ t ∷ us → t ≡ Let p → ReadsBlock us b vs
    → ((e : Expr) → step_before x e ≡ plain.block p b e) → (s : Stage) → TakesAtom s → Leads s ts x Formed vs
block_leads ts us vs t p b x e f h g s i = leads_from _ _ _ _ _ _ (head_is _ _ _ _ e f) (record {
  found = λ n fs d ws w. step_is _ _ _ _ _ _ _ (g d) (walk_let i h w);
  only = λ n fs d ws q m w. behind_block h (let_step q i w);
  starts = λ n fs. tt;
  shorter = omega (arith, block_length h);
  fitting = λ n k. fits_block n h k;
})

pub no_block_stays : (ts us : List Terminal) (t : Terminal) (p : Place) → ts ≡ t ∷ us → t ≡ Let p → ((b : Block) (vs : List Terminal) → ReadsBlock us b vs → ⊥)
    → (s : Stage) → TakesAtom s → Stays s ts
no_block_stays ts us t p e f g s i n fs d vs q m w = let o = let_step q i (walks_from _ _ _ _ _ _ _ (head_is _ _ _ _ e f) w) in g _ _ o.read

-- atoms

behind_atom : {n : ℕ} {fs : List Form} {ts us vs : List Terminal} {a : Atom} → ReadsAtom ts a us → AtomStep n fs ts vs → Behind n Atoms fs us vs
behind_atom h o = behind_from _ _ _ _ _ _ (sym ((one_atom _ _ _ _ h o.read).1)) (record { steps = o.steps; walked = o.walked })

pub atom_leads : (ts us : List Terminal) (a : Atom) (x : Step) → ReadsAtom ts a us → ((e : Expr) → step_before x e ≡ plain.atom a e) → (s : Stage) → TakesAtom s → Leads s ts x Atoms us
atom_leads ts us a x h g s i = record {
  found = λ n fs d ws w. step_is _ _ _ _ _ _ _ (g d) (walk_atom i h w);
  only = λ n fs d ws q m w. behind_atom h (atom_step q i (atom_reach h) w);
  starts = λ n fs. tt;
  shorter = atom_length h;
  fitting = λ n k. fits_atom n h k;
}

pub no_atom_stays : (ts : List Terminal) → reach ts ≡ 0 → ((a : Atom) (us : List Terminal) → ReadsAtom ts a us → ⊥) → (s : Stage) → TakesAtom s → Stays s ts
no_atom_stays ts r g s i n fs d vs q m w = let o = atom_step q i r w in g _ _ o.read

pub no_part_stays : (ts : List Terminal) → 2 ≤ reach ts → Stays Operand ts
no_part_stays ts r n fs d vs q m w = no_operand r w

-- moves

pub connective_behind_atoms : (ts : List Terminal) (m : Move) → 2 ≤ reach ts → IsConnective ts m → IsMove Atoms ts m
connective_behind_atoms ts (move.Takes x next us) r f = f Atoms ends_atoms
connective_behind_atoms ts (move.Opens g x us) r f = absurd f
connective_behind_atoms ts move.Ends r f = (atoms_end (f r), ends_with_atoms)

pub connective_behind_form : (ts : List Terminal) (m : Move) → IsConnective ts m → IsMove Formed ts m
connective_behind_form ts (move.Takes x next us) f = f Formed ends_form
connective_behind_form ts (move.Opens g x us) f = absurd f
connective_behind_form ts move.Ends f = (form_ends f, ends_with_form)

-- a walk from the start of an expression is a lambda or goes on as an operand
data StartStep (n : ℕ) (fs : List Form) (ts xs : List Terminal) : Type 0 where
  starts_lambda : {p : Param} {ps : List Param} {b : Block} {e : Expr} {us vs : List Terminal}
      → ReadsParams ts (p ∷ ps) (Arrow ∷ us) → ReadsBlock us b vs → Walks n Whole fs vs e xs → StartStep n fs ts xs
  starts_operand : {e : Expr} → Walks n Operand fs ts e xs → StartStep n fs ts xs

start_step : {n : ℕ} {fs : List Form} {ts xs : List Terminal} {e : Expr} → Walks n Start fs ts e xs → StartStep n fs ts xs
start_step (walk_lambda h k w) = starts_lambda h k w
start_step (walk_start w) = starts_operand w
start_step (walk_end i p) = elim i [ ]
start_step (walk_atom i h w) = elim i [ ]
start_step (walk_if i w) = elim i [ ]
start_step (walk_match i w) = elim i [ ]
start_step (walk_cases i h w) = elim i [ ]
start_step (walk_let i h w) = elim i [ ]
start_step (walk_operator i o w) = elim i [ ]
start_step (walk_and i w) = elim i [ ]
start_step (walk_or i w) = elim i [ ]
start_step (walk_then i h k w) = elim i [ ]
start_step (walk_with i h w) = elim i [ ]

start_only : {n : ℕ} {fs : List Form} {ts xs us : List Terminal} {s : Stage} → NoLambda ts → StartStep n fs ts xs
    → ((e : Expr) → Walks n Operand fs ts e xs → Behind n s fs us xs) → Behind n s fs us xs
start_only f (starts_lambda h k w) g = absurd (f _ _ (lambda_front h))
start_only f (starts_operand w) g = g _ w

start_into : {n : ℕ} {fs gs : List Form} {ts xs us : List Terminal} → NoLambda ts → StartStep n fs ts xs
    → ((e : Expr) → Walks n Operand fs ts e xs → Behind n Start gs us xs) → Behind n Start gs us xs
start_into f (starts_lambda h k w) g = absurd (f _ _ (lambda_front h))
start_into f (starts_operand w) g = g _ w

no_ends_operand : EndsExpr Operand → ⊥
no_ends_operand h = elim h [ ]

pub move_of_operand : (ts : List Terminal) (m : Move) → NoLambda ts → IsMove Operand ts m → IsMove Start ts m
move_of_operand ts (move.Takes x next us) f l = record {
  found = λ n fs d ws w. walk_start (l.found n fs d ws w);
  only = λ n fs d ws q m w. start_only f (start_step w) (λ e v. l.only n fs e ws q tt v);
  starts = l.starts;
  shorter = l.shorter;
  fitting = l.fitting;
}
move_of_operand ts (move.Opens g x us) f l = record {
  found = λ n fs d ws w. walk_start (l.found n fs d ws w);
  only = λ n fs d ws q m w. start_into f (start_step w) (λ e v. l.only n fs e ws q tt v);
  shorter = l.shorter;
  fitting = l.fitting;
}
move_of_operand ts move.Ends f l = absurd (no_ends_operand l.1)

pub start_stays : (ts : List Terminal) → NoLambda ts → Stays Operand ts → Stays Start ts
start_stays ts f g n fs d vs q m w = no_start f (start_step w) (λ e v. g n fs e vs q tt v)
  where
    no_start : {n : ℕ} {fs : List Form} {ts xs : List Terminal} → NoLambda ts → StartStep n fs ts xs → ((e : Expr) → Walks n Operand fs ts e xs → ⊥) → ⊥
    no_start f (starts_lambda h k w) g = f _ _ (lambda_front h)
    no_start f (starts_operand w) g = g _ w

-- lambdas

lambda_only : {n : ℕ} {fs : List Form} {ts body us xs : List Terminal} {p : Param} {ps : List Param} {b : Block} → MayStart n Start fs
    → ReadsParams ts (p ∷ ps) (Arrow ∷ body) → ReadsBlock body b us → StartStep n fs ts xs → Behind n Whole fs us xs
lambda_only m h k (starts_lambda i j w) =
    let x = one_params _ _ _ _ refl refl h i in
    let y = one_block _ _ _ _ k (block_from _ _ _ _ (tail_same _ _ _ _ x.1) j) in
    record { steps = _; walked = walks_from _ _ _ _ _ _ _ (sym y.1) w }
lambda_only m h k (starts_operand w) = let o = operand_reads w m in absurd (no_or_at_lambda h o.read o.far)

pub lambda_leads : (ts body us : List Terminal) (ps : List Param) (b : Block) (x : Step) → IsLambda ts ps body → ReadsBlock body b us
    → ((e : Expr) → step_before x e ≡ plain.lambda ps b e) → Leads Start ts x Whole us
lambda_leads ts body us ps b x (lambda_front h) k g = record {
  found = λ n fs d ws w. step_is _ _ _ _ _ _ _ (g d) (walk_lambda h k w);
  only = λ n fs d ws q m w. lambda_only m h k (start_step w);
  starts = λ n fs. tt;
  shorter = omega (arith, params_length h, block_length k);
  fitting = λ n f. fits_block n k (fits_params n h f);
}

lambda_body : {n : ℕ} {fs : List Form} {ts body xs : List Terminal} {p : Param} {ps : List Param} → MayStart n Start fs
    → ReadsParams ts (p ∷ ps) (Arrow ∷ body) → StartStep n fs ts xs → ((b : Block) (us : List Terminal) → ReadsBlock body b us → ⊥) → ⊥
lambda_body m h (starts_lambda i j w) f = let x = one_params _ _ _ _ refl refl h i in f _ _ (block_from _ _ _ _ (tail_same _ _ _ _ x.1) j)
lambda_body m h (starts_operand w) f = let o = operand_reads w m in no_or_at_lambda h o.read o.far

pub lambda_stays : (ts body : List Terminal) (ps : List Param) → IsLambda ts ps body → ((b : Block) (us : List Terminal) → ReadsBlock body b us → ⊥) → Stays Start ts
lambda_stays ts body ps (lambda_front h) f n fs d vs q m w = lambda_body m h (start_step w) f

pub fits_lambda : (n : ℕ) (ts body : List Terminal) (ps : List Param) → IsLambda ts ps body → fits n ts ≡ true → fits n body ≡ true
fits_lambda n ts body ps (lambda_front h) f = fits_params n h f

-- what ends a condition or a subject

then_only : {n : ℕ} {fs : List Form} {ts us vs xs : List Terminal} {b c : Block} → ReadsBlock ts b (Else ∷ us) → ReadsBlock us c vs → ThenStep n fs (Then ∷ ts) xs → Behind n Formed fs vs xs
then_only h k o =
    let x = one_block _ _ _ _ h (block_from _ _ _ _ (tail_same _ _ _ _ o.is) o.read) in
    let r : ReadsBlock _ o.other.value o.other.behind = block_from _ _ _ _ (tail_same _ _ _ _ x.1) o.other.read in
    let y = one_block _ _ _ _ k r in
    record { steps = o.other.steps; walked = walks_from _ _ _ _ _ _ _ (sym y.1) o.other.walked }

pub if_out : (s : Stage) (ts us mid other vs : List Terminal) (b c : Block) (x : Step) → EndsAt s (reach ts) → EndsExpr s → ts ≡ Then ∷ us → ReadsBlock us b mid → mid ≡ Else ∷ other
    → ReadsBlock other c vs → ((e : Expr) → step_before x e ≡ plain.branches b c e) → LeadsOut s form.If ts x vs
if_out s ts us mid other vs b c x a i e h f k g =
    let P : List Terminal → Type 0 = λ z. ReadsBlock us b z in
    let h2 = subst P f h in record {
      found = λ n fs d ws w. step_is _ _ _ _ _ _ _ (g d) (walks_from _ _ _ _ _ _ _ (sym e) (walk_then i h2 k w));
      only = λ n fs d ws w. then_only h2 k (then_from e (then_step a w));
      shorter = omega (arith, ap length e, block_length h2, block_length k);
      fitting = λ n q. fits_block n k (fits_block n h2 (fits_at n _ _ e q));
    }
  where
    then_from : {n : ℕ} {fs : List Form} {ts us xs : List Terminal} → ts ≡ us → ThenStep n fs ts xs → ThenStep n fs us xs
    then_from {n = n} {fs = fs} {xs = xs} e o = let Q : List Terminal → Type 0 = λ z. ThenStep n fs z xs in subst Q e o

pub no_then : (s : Stage) (ts : List Terminal) → EndsAt s (reach ts) → ((us : List Terminal) → ts ≡ Then ∷ us → ⊥)
    → (n : ℕ) (fs : List Form) (e : Expr) (vs : List Terminal) → Walks n s (form.If ∷ fs) ts e vs → ⊥
no_then s ts a f n fs e vs w = let o = then_step a w in f _ o.is

pub no_consequent : (s : Stage) (ts us : List Terminal) → EndsAt s (reach ts) → ts ≡ Then ∷ us → ((b : Block) (vs : List Terminal) → ReadsBlock us b vs → ⊥)
    → (n : ℕ) (fs : List Form) (e : Expr) (vs : List Terminal) → Walks n s (form.If ∷ fs) ts e vs → ⊥
no_consequent s ts us a p f n fs e vs w = let o = then_step a w in f _ _ (block_from _ _ _ _ (tail_same _ _ _ _ (sym p ∙ o.is)) o.read)

pub no_else : (s : Stage) (ts us mid : List Terminal) (b : Block) → EndsAt s (reach ts) → ts ≡ Then ∷ us → ReadsBlock us b mid → ((vs : List Terminal) → mid ≡ Else ∷ vs → ⊥)
    → (n : ℕ) (fs : List Form) (e : Expr) (vs : List Terminal) → Walks n s (form.If ∷ fs) ts e vs → ⊥
no_else s ts us mid b a p h f n fs e vs w =
    let o = then_step a w in f _ ((one_block _ _ _ _ h (block_from _ _ _ _ (tail_same _ _ _ _ (sym p ∙ o.is)) o.read)).1)

pub no_alternative : (s : Stage) (ts us mid other : List Terminal) (b : Block) → EndsAt s (reach ts) → ts ≡ Then ∷ us → ReadsBlock us b mid → mid ≡ Else ∷ other
    → ((c : Block) (vs : List Terminal) → ReadsBlock other c vs → ⊥)
    → (n : ℕ) (fs : List Form) (e : Expr) (vs : List Terminal) → Walks n s (form.If ∷ fs) ts e vs → ⊥
no_alternative s ts us mid other b a p h q f n fs e vs w =
    let o = then_step a w in
    let x = one_block _ _ _ _ h (block_from _ _ _ _ (tail_same _ _ _ _ (sym p ∙ o.is)) o.read) in
    f _ _ (block_from _ _ _ _ (tail_same _ _ _ _ (sym q ∙ x.1)) o.other.read)

pub match_out : (s : Stage) (ts us vs : List Terminal) (cs : Cases) (x : Step) → EndsAt s (reach ts) → EndsExpr s → ts ≡ With ∷ us → ReadsCases us cs vs
    → ((e : Expr) → step_before x e ≡ plain.with_cases cs e) → LeadsOut s form.Match ts x vs
match_out s ts us vs cs x a i e h g = record {
  found = λ n fs d ws w. step_is _ _ _ _ _ _ _ (g d) (walks_from _ _ _ _ _ _ _ (sym e) (walk_with i h w));
  only = λ n fs d ws w. (let o = with_step a w in behind_cases h (with_from (tail_same _ _ _ _ (sym e ∙ o.is)) o.cases));
  shorter = omega (arith, ap length e, cases_length h);
  fitting = λ n q. fits_cases n h (fits_at n _ _ e q);
}
  where
    with_from : {n : ℕ} {fs : List Form} {ts us xs : List Terminal} → us ≡ ts → CasesStep n fs ts xs → CasesStep n fs us xs
    with_from {n = n} {fs = fs} {xs = xs} e o = let Q : List Terminal → Type 0 = λ z. CasesStep n fs z xs in subst Q (sym e) o

pub no_with : (s : Stage) (ts : List Terminal) → EndsAt s (reach ts) → ((us : List Terminal) → ts ≡ With ∷ us → ⊥)
    → (n : ℕ) (fs : List Form) (e : Expr) (vs : List Terminal) → Walks n s (form.Match ∷ fs) ts e vs → ⊥
no_with s ts a f n fs e vs w = let o = with_step a w in f _ o.is

pub no_with_cases : (s : Stage) (ts us : List Terminal) → EndsAt s (reach ts) → ts ≡ With ∷ us → ((cs : Cases) (vs : List Terminal) → ReadsCases us cs vs → ⊥)
    → (n : ℕ) (fs : List Form) (e : Expr) (vs : List Terminal) → Walks n s (form.Match ∷ fs) ts e vs → ⊥
no_with_cases s ts us a p f n fs e vs w =
    let o = with_step a w in f _ _ (cases_from _ _ _ _ (tail_same _ _ _ _ (sym p ∙ o.is)) o.cases.read)
