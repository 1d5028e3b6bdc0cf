-- What loops of readers of expressions keep: a reading of the rest completes one of the whole, and one of the whole gives
-- one of the rest.
use Rattle.std.proofs.Common.{◌≡◌, ℕ, ◌-◌, ◌<◌, ◌≤◌, true, false, List, [], ◌∷◌, ◌++◌, length, refl, subst, sym, ap, ◌∙◌, arith}
use Rattle.std.specs.Prelude.{Option, Some, None}
use Rattle.uc_base.specs.declared.place.Place.{Place}
use Rattle.uc_scratch.specs.declared.terminal.Terminal.{Terminal}
use Rattle.uc_scratch.specs.declared.terminal.Terminal.TheVariants.{Comma, Closes, Item}
use Rattle.uc_scratch.specs.declared.walk.Stage.{Stage}
use Rattle.uc_scratch.specs.declared.walk.Stage.TheVariants.{Start, Formed}
use Rattle.uc_scratch.specs.declared.walk.Form.{Form}
use Rattle.uc_scratch.specs.declared.expr.Step.{Step}
use Rattle.uc_scratch.specs.declared.block.Case.{Case}
use Rattle.uc_scratch.specs.declared.block.Entry.{Entry}
use Rattle.uc_scratch.specs.Patterns.{Pattern}
use Rattle.uc_scratch.specs.Exprs.{Expr, done, Exprs, none, more, Cases, no_case, Block, result}
use Rattle.uc_scratch.specs.Exprs as plain
use Rattle.uc_scratch.specs.ExprViews.{step_before, steps_before, expr_of, case_before, cases_of, entry_before, entries_before, block_of}
use Rattle.uc_scratch.specs.ExprGrammar.{ReadsExpr, ReadsExprs, last_expr, more_exprs, ReadsCaseItems, no_case_item, case_item, guarded_item, ReadsBlock, ReadsBlockItems, result_item, use_item as plain_use, signature_item as plain_signature, prefix_item as plain_prefix, infix_item as plain_infix}
use Rattle.uc_scratch.specs.Follows.{reach, goes_on, ends_case}
use Rattle.uc_scratch.specs.Nesting.{fits}
use Rattle.uc_scratch.specs.Marks.{IsRight}
use Rattle.uc_scratch.specs.Moves.{ReadsGuarded, with_guard, ReadsCase, plain_case, guarded_case, NoCase, RestOfBlock, IsEntry}
use Rattle.uc_scratch.specs.Walks.{Walks, walk_end, Behind, MayStart, EndsExpr, EndsAt, Leads, LeadsInto, LeadsOut, Stays}
use Rattle.uc_scratch.proofs.WalkSteps.{end_step}
use Rattle.uc_scratch.proofs.ExprReadings.{one_expr, one_block, exprs_from, right_reach, right_no_comma, expr_from}
use Rattle.uc_scratch.proofs.ExprParts.{one_case, case_shorter}
use Rattle.uc_scratch.proofs.TypeReadings.{tail_same}
use Rattle.uc_scratch.proofs.Fits.{fits_at, fits_expr, fits_pattern, fits_block}
use Rattle.uc_scratch.proofs.Lengths.{expr_length, pattern_length, block_length}

-- steps

pub record StepsSoFar (n : ℕ) (origin : Stage) (ts : List Terminal) (s : Stage) (fs : List Form) (rest : List Terminal) (ss : List Step) : Type 0 where
  pub found : (e : Expr) (us : List Terminal) → Walks n s fs rest e us → Walks n origin [] ts (steps_before ss e) us
  pub only : (e : Expr) (us : List Terminal) → Walks n origin [] ts e us → Behind n s fs rest us
  pub starts : MayStart n s fs

pub steps_begin : (n : ℕ) (origin : Stage) (ts : List Terminal) (fs : List Form) (ss : List Step) → MayStart n origin [] → fs ≡ [] → ss ≡ [] → StepsSoFar n origin ts origin fs ts ss
steps_begin n origin ts fs ss m e f =
    let P : List Form → Type 0 = λ x. StepsSoFar n origin ts origin x ts ss in
    let Q : List Step → Type 0 = λ x. StepsSoFar n origin ts origin [] ts x in
    subst P (sym e) (subst Q (sym f) (record { found = λ e us w. w; only = λ e us w. record { steps = e; walked = w }; starts = m }))

steps_push : (ss : List Step) (s : Step) (e : Expr) → steps_before (ss ++ s ∷ []) e ≡ steps_before ss (step_before s e)
steps_push [] s e = refl
steps_push (t ∷ ss) s e = ap (step_before t) (steps_push ss s e)

walks_as : (n : ℕ) (origin : Stage) (ts us : List Terminal) (e f : Expr) → e ≡ f → Walks n origin [] ts f us → Walks n origin [] ts e us
walks_as n origin ts us e f p w = let P : Expr → Type 0 = λ x. Walks n origin [] ts x us in subst P (sym p) w

after_step : (ss ss1 : List Step) (x : Step) (e : Expr) → ss1 ≡ ss ++ x ∷ [] → steps_before ss1 e ≡ steps_before ss (step_before x e)
after_step ss ss1 x e p = ap (λ z. steps_before z e) p ∙ steps_push ss x e

pub steps_take : (n : ℕ) (origin : Stage) (ts rest us : List Terminal) (s next : Stage) (fs : List Form) (x : Step) (ss ss1 : List Step) → 5 ≤ n
    → Leads s rest x next us → ss1 ≡ ss ++ x ∷ [] → StepsSoFar n origin ts s fs rest ss → StepsSoFar n origin ts next fs us ss1
steps_take n origin ts rest us s next fs x ss ss1 q l p o = record {
  found = λ e vs w. walks_as _ _ _ _ _ _ (after_step ss ss1 x e p) (o.found _ vs (l.found n fs e vs w));
  only = λ e vs w. (let b = o.only e vs w in l.only n fs b.steps vs q o.starts b.walked);
  starts = l.starts n fs;
}

pub steps_open : (n : ℕ) (origin : Stage) (ts rest us : List Terminal) (s : Stage) (fs fs1 : List Form) (f : Form) (x : Step) (ss ss1 : List Step) → 5 ≤ n
    → LeadsInto s rest x f us → ss1 ≡ ss ++ x ∷ [] → fs1 ≡ f ∷ fs → StepsSoFar n origin ts s fs rest ss → StepsSoFar n origin ts Start fs1 us ss1
steps_open n origin ts rest us s fs fs1 f x ss ss1 q l p r o =
    let P : List Form → Type 0 = λ z. StepsSoFar n origin ts Start z us ss1 in
    subst P (sym r) (record {
      found = λ e vs w. walks_as _ _ _ _ _ _ (after_step ss ss1 x e p) (o.found _ vs (l.found n fs e vs w));
      only = λ e vs w. (let b = o.only e vs w in l.only n fs b.steps vs q o.starts b.walked);
      starts = tt;
    })

pub steps_close : (n : ℕ) (origin : Stage) (ts rest us : List Terminal) (s : Stage) (fs fs1 : List Form) (f : Form) (x : Step) (ss ss1 : List Step)
    → LeadsOut s f rest x us → ss1 ≡ ss ++ x ∷ [] → fs ≡ f ∷ fs1 → StepsSoFar n origin ts s fs rest ss → StepsSoFar n origin ts Formed fs1 us ss1
steps_close n origin ts rest us s fs fs1 f x ss ss1 l p r o =
    let P : List Form → Type 0 = λ z. Walks n s z rest (step_before x done) us in
    let o2 = so_far r o in record {
      found = λ e vs w. walks_as _ _ _ _ _ _ (after_step ss ss1 x e p) (o2.found _ vs (l.found n fs1 e vs w));
      only = λ e vs w. (let b = o2.only e vs w in l.only n fs1 b.steps vs b.walked);
      starts = tt;
    }
  where
    so_far : fs ≡ f ∷ fs1 → StepsSoFar n origin ts s fs rest ss → StepsSoFar n origin ts s (f ∷ fs1) rest ss
    so_far e o = let Q : List Form → Type 0 = λ z. StepsSoFar n origin ts s z rest ss in subst Q e o

pub steps_stay : (n : ℕ) (origin : Stage) (ts rest : List Terminal) (s : Stage) (fs : List Form) (ss : List Step) → 5 ≤ n → Stays s rest → StepsSoFar n origin ts s fs rest ss
    → (e : Expr) (us : List Terminal) → Walks n origin [] ts e us → ⊥
steps_stay n origin ts rest s fs ss q h o e us w = let b = o.only e us w in h n fs b.steps us q o.starts b.walked

no_forms : (n : ℕ) (origin : Stage) (ts rest : List Terminal) (s : Stage) (fs : List Form) (ss : List Step) → fs ≡ [] → StepsSoFar n origin ts s fs rest ss → StepsSoFar n origin ts s [] rest ss
no_forms n origin ts rest s fs ss e o = let Q : List Form → Type 0 = λ z. StepsSoFar n origin ts s z rest ss in subst Q e o

pub steps_no_end : (n : ℕ) (origin : Stage) (ts rest : List Terminal) (s : Stage) (fs : List Form) (ss : List Step) → fs ≡ [] → EndsAt s (reach rest) → reach rest < n
    → StepsSoFar n origin ts s fs rest ss → (e : Expr) (us : List Terminal) → Walks n origin [] ts e us → ⊥
steps_no_end n origin ts rest s fs ss r i q o e us w =
    let b = (no_forms _ _ _ _ _ _ _ r o).only e us w in let p : n ≤ reach rest = end_step i b.walked in absurd (omega arith)

pub steps_end : (n : ℕ) (origin : Stage) (ts rest : List Terminal) (s : Stage) (fs : List Form) (ss : List Step) → fs ≡ [] → EndsExpr s → n ≤ reach rest
    → StepsSoFar n origin ts s fs rest ss → Walks n origin [] ts (expr_of ss) rest
steps_end n origin ts rest s fs ss r i q o = (no_forms _ _ _ _ _ _ _ r o).found done rest (walk_end i q)

pub steps_no_close : (n : ℕ) (origin : Stage) (ts rest : List Terminal) (s : Stage) (fs fs1 : List Form) (f : Form) (ss : List Step) → fs ≡ f ∷ fs1
    → ((n : ℕ) (gs : List Form) (e : Expr) (vs : List Terminal) → Walks n s (f ∷ gs) rest e vs → ⊥)
    → StepsSoFar n origin ts s fs rest ss → (e : Expr) (us : List Terminal) → Walks n origin [] ts e us → ⊥
steps_no_close n origin ts rest s fs fs1 f ss r h o e us w =
    let P : List Form → Type 0 = λ z. StepsSoFar n origin ts s z rest ss in
    let b = (let x : StepsSoFar n origin ts s (f ∷ fs1) rest ss = subst P r o in x.only e us w) in h n fs1 b.steps us b.walked

-- expressions with commas between

abbrev pub exprs_before : List Expr → Exprs → Exprs
exprs_before [] fs = fs
exprs_before (e ∷ es) fs = more e (exprs_before es fs)

pub record ExprsSoFar (t : Terminal) (ts rest : List Terminal) (es : List Expr) : Type 0 where
  pub found : (fs : Exprs) (us : List Terminal) → ReadsExprs t rest fs us → ReadsExprs t ts (exprs_before es fs) us
  pub only : (fs : Exprs) (us : List Terminal) → ReadsExprs t ts fs us → (gs : Exprs) × ReadsExprs t rest gs us

exprs_push : (es : List Expr) (e : Expr) (fs : Exprs) → exprs_before (es ++ e ∷ []) fs ≡ exprs_before es (more e fs)
exprs_push [] e fs = refl
exprs_push (f ∷ es) e fs = ap (more f) (exprs_push es e fs)

exprs_all : (es : List Expr) → exprs_before es none ≡ plain.exprs_of es
exprs_all [] = refl
exprs_all (e ∷ es) = ap (more e) (exprs_all es)

exprs_as : (t : Terminal) (ts us : List Terminal) (fs gs : Exprs) → fs ≡ gs → ReadsExprs t ts gs us → ReadsExprs t ts fs us
exprs_as t ts us fs gs p w = let P : Exprs → Type 0 = λ x. ReadsExprs t ts x us in subst P (sym p) w

ends_from : (ts us vs : List Terminal) (e : Expr) → us ≡ vs → ReadsExpr ts e us done → ReadsExpr ts e vs done
ends_from ts us vs e p h = let P : List Terminal → Type 0 = λ x. ReadsExpr ts e x done in subst P p h

rest_exprs : {t : Terminal} {ts us vs : List Terminal} {e : Expr} {fs : Exprs} → IsRight t → ReadsExpr ts e (Comma ∷ us) done → ReadsExprs t ts fs vs → (gs : Exprs) × ReadsExprs t us gs vs
rest_exprs i h (last_expr k) = let x = one_expr _ _ _ _ _ _ (omega arith) (right_reach i) h k in absurd (right_no_comma _ _ i (sym x.0))
rest_exprs i h (more_exprs k l) = let x = one_expr _ _ _ _ _ _ (omega arith) (omega arith) h k in (_, exprs_from _ _ _ _ _ (tail_same _ _ _ _ x.0) l)

pub exprs_begin : (t : Terminal) (ts : List Terminal) (es : List Expr) → es ≡ [] → ExprsSoFar t ts ts es
exprs_begin t ts es e =
    let P : List Expr → Type 0 = λ x. ExprsSoFar t ts ts x in
    subst P (sym e) (record { found = λ fs us h. h; only = λ fs us h. (fs, h) })

pub exprs_comma : (t : Terminal) (ts rest after next : List Terminal) (e : Expr) (es es1 : List Expr) → IsRight t → ReadsExpr rest e after done → after ≡ Comma ∷ next
    → es1 ≡ es ++ e ∷ [] → ExprsSoFar t ts rest es → ExprsSoFar t ts next es1
exprs_comma t ts rest after next e es es1 i h p q o =
    let k = ends_from _ _ _ _ p h in record {
      found = λ fs us w. exprs_as _ _ _ _ _ (ap (λ z. exprs_before z fs) q ∙ exprs_push es e fs) (o.found (more e fs) us (more_exprs k w));
      only = λ fs us w. (let x = o.only fs us w in rest_exprs i k x.1);
    }

pub exprs_end : (t : Terminal) (ts rest after last : List Terminal) (e : Expr) (es es1 : List Expr) → ReadsExpr rest e after done → after ≡ t ∷ last
    → es1 ≡ es ++ e ∷ [] → ExprsSoFar t ts rest es → ReadsExprs t ts (plain.exprs_of es1) last
exprs_end t ts rest after last e es es1 h p q o =
    exprs_as _ _ _ _ _ (sym (exprs_all es1) ∙ ap (λ z. exprs_before z none) q ∙ exprs_push es e none) (o.found (more e none) last (last_expr (ends_from _ _ _ _ p h)))

neither_end : {t : Terminal} {ts us vs : List Terminal} {e : Expr} {fs : Exprs} → IsRight t → ReadsExpr ts e us done → 6 ≤ reach us → ((xs : List Terminal) → us ≡ Comma ∷ xs → ⊥) → ((xs : List Terminal) → us ≡ t ∷ xs → ⊥)
    → ReadsExprs t ts fs vs → ⊥
neither_end i h q f g (last_expr k) = let x = one_expr _ _ _ _ _ _ q (right_reach i) h k in g _ x.0
neither_end i h q f g (more_exprs k l) = let x = one_expr _ _ _ _ _ _ q (omega arith) h k in f _ x.0

pub exprs_no_end : (t : Terminal) (ts rest after : List Terminal) (e : Expr) (es : List Expr) → IsRight t → ReadsExpr rest e after done → 6 ≤ reach after
    → ((xs : List Terminal) → after ≡ Comma ∷ xs → ⊥) → ((xs : List Terminal) → after ≡ t ∷ xs → ⊥) → ExprsSoFar t ts rest es
    → (fs : Exprs) (us : List Terminal) → ReadsExprs t ts fs us → ⊥
exprs_no_end t ts rest after e es i h q f g o fs us w = let x = o.only fs us w in neither_end i h q f g x.1

first_of : {t : Terminal} {ts vs : List Terminal} {fs : Exprs} → IsRight t → ReadsExprs t ts fs vs → ((e : Expr) (us : List Terminal) → ReadsExpr ts e us done → 6 ≤ reach us → ⊥) → ⊥
first_of i (last_expr k) f = f _ _ k (right_reach i)
first_of i (more_exprs k l) f = f _ _ k (omega arith)

pub exprs_none : (t : Terminal) (ts rest : List Terminal) (es : List Expr) → IsRight t → ((e : Expr) (us : List Terminal) → ReadsExpr rest e us done → 6 ≤ reach us → ⊥)
    → ExprsSoFar t ts rest es → (fs : Exprs) (us : List Terminal) → ReadsExprs t ts fs us → ⊥
exprs_none t ts rest es i f o fs us w = let x = o.only fs us w in first_of i x.1 f

pub expr_smaller : (rest after next : List Terminal) (t : Terminal) (e : Expr) → ReadsExpr rest e after done → after ≡ t ∷ next → length next < length rest
expr_smaller rest after next t e h p = omega (arith, expr_length h, ap length p)

pub fits_next : (n : ℕ) (rest after next : List Terminal) (t : Terminal) (e : Expr) → ReadsExpr rest e after done → after ≡ t ∷ next
    → ((ts : List Terminal) → fits n (t ∷ ts) ≡ true → fits n ts ≡ true) → fits n rest ≡ true → fits n next ≡ true
fits_next n rest after next t e h p g f = g next (fits_at n _ _ p (fits_expr n h f))

-- cases

abbrev pub cases_before : List Case → Cases → Cases
cases_before [] ds = ds
cases_before (c ∷ cs) ds = case_before c.pattern c.guard c.body (cases_before cs ds)

pub record CasesSoFar (ts rest : List Terminal) (cs : List Case) : Type 0 where
  pub found : (ds : Cases) (us : List Terminal) → ReadsCaseItems rest ds us → ReadsCaseItems ts (cases_before cs ds) us
  pub only : (ds : Cases) (us : List Terminal) → ReadsCaseItems ts ds us → (es : Cases) × ReadsCaseItems rest es us

cases_push : (cs : List Case) (c : Case) (ds : Cases) → cases_before (cs ++ c ∷ []) ds ≡ cases_before cs (case_before c.pattern c.guard c.body ds)
cases_push [] c ds = refl
cases_push (b ∷ cs) c ds = ap (case_before b.pattern b.guard b.body) (cases_push cs c ds)

cases_all : (cs : List Case) → cases_before cs no_case ≡ cases_of cs
cases_all [] = refl
cases_all (c ∷ cs) = ap (case_before c.pattern c.guard c.body) (cases_all cs)

cases_as : (ts us : List Terminal) (cs ds : Cases) → cs ≡ ds → ReadsCaseItems ts ds us → ReadsCaseItems ts cs us
cases_as ts us cs ds p w = let P : Cases → Type 0 = λ x. ReadsCaseItems ts x us in subst P (sym p) w

items_from : (ts us : List Terminal) (cs : Cases) (vs : List Terminal) → ts ≡ us → ReadsCaseItems ts cs vs → ReadsCaseItems us cs vs
items_from ts us cs vs e h = let P : List Terminal → Type 0 = λ x. ReadsCaseItems x cs vs in subst P e h

pub cases_begin : (ts : List Terminal) (cs : List Case) → cs ≡ [] → CasesSoFar ts ts cs
cases_begin ts cs e =
    let P : List Case → Type 0 = λ x. CasesSoFar ts ts x in
    subst P (sym e) (record { found = λ ds us h. h; only = λ ds us h. (ds, h) })

case_on : {p : Place} {ts us vs : List Terminal} {x : Pattern} {g : Option Expr} {b : Block} {ds : Cases} → ReadsCase ts x g b us → ReadsCaseItems us ds vs
    → ReadsCaseItems (Item p ∷ ts) (case_before x g b ds) vs
case_on (plain_case h i) k = case_item h i k
case_on (guarded_case h (with_guard i j)) k = guarded_item h i j k

-- a case in front of others
pub record CaseFront (ts xs : List Terminal) : Type 0 where
  pub pattern : Pattern
  pub guard : Option Expr
  pub body : Block
  pub behind : List Terminal
  pub others : Cases
  pub read : ReadsCase ts pattern guard body behind
  pub rest : ReadsCaseItems behind others xs

items_end_case : {ts us : List Terminal} {cs : Cases} → ReadsCaseItems ts cs us → ends_case ts ≡ true
items_end_case no_case_item = refl
items_end_case (case_item h i k) = refl
items_end_case (guarded_item h i j k) = refl

case_front : {p : Place} {ts us : List Terminal} {cs : Cases} → ReadsCaseItems (Item p ∷ ts) cs us → CaseFront ts us
case_front (case_item h i k) = record { pattern = _; guard = _; body = _; behind = _; others = _; read = plain_case h i; rest = k }
case_front (guarded_item h i j k) = record { pattern = _; guard = _; body = _; behind = _; others = _; read = guarded_case h (with_guard i j); rest = k }

pub cases_more : (ts rest inside after : List Terminal) (p : Place) (c : Case) (cs cs1 : List Case) → rest ≡ Item p ∷ inside → ReadsCase inside c.pattern c.guard c.body after → ends_case after ≡ true
    → cs1 ≡ cs ++ c ∷ [] → CasesSoFar ts rest cs → CasesSoFar ts after cs1
cases_more ts rest inside after p c cs cs1 e h q f o = record {
  found = λ ds us k. cases_as _ _ _ _ (ap (λ z. cases_before z ds) f ∙ cases_push cs c ds) (o.found _ us (items_from _ _ _ _ (sym e) (case_on h k)));
  only = λ ds us w. (let x = o.only ds us w in behind_case h q (case_front (items_from _ _ _ _ e x.1)));
}
  where
    behind_case : {ts us xs : List Terminal} {x : Pattern} {g : Option Expr} {b : Block} → ReadsCase ts x g b us → ends_case us ≡ true → CaseFront ts xs → (es : Cases) × ReadsCaseItems us es xs
    behind_case h q y = (y.others, items_from _ _ _ _ (sym (one_case _ _ _ _ _ _ _ _ q (items_end_case y.rest) h y.read)) y.rest)

pub case_smaller : (rest inside after : List Terminal) (p : Place) {x : Pattern} {g : Option Expr} {b : Block} → rest ≡ Item p ∷ inside → ReadsCase inside x g b after → length after < length rest
case_smaller rest inside after p e h = omega (arith, case_shorter h, ap length e)

pub cases_none : (ts rest inside : List Terminal) (p : Place) (cs : List Case) → rest ≡ Item p ∷ inside → NoCase inside → CasesSoFar ts rest cs
    → (ds : Cases) (us : List Terminal) → ReadsCaseItems ts ds us → ⊥
cases_none ts rest inside p cs e f o ds us w =
    let x = o.only ds us w in
    let y = case_front (items_from _ _ _ _ e x.1) in f y.pattern y.guard y.body y.behind y.read (items_end_case y.rest)

pub cases_done : (ts rest last : List Terminal) (cs : List Case) → rest ≡ Closes ∷ last → CasesSoFar ts rest cs → ReadsCaseItems ts (cases_of cs) last
cases_done ts rest last cs e o = cases_as _ _ _ _ (sym (cases_all cs)) (o.found no_case last (items_from _ _ _ _ (sym e) no_case_item))

no_case_front : {ts us : List Terminal} {cs : Cases} → ReadsCaseItems ts cs us → ((p : Place) (xs : List Terminal) → ts ≡ Item p ∷ xs → ⊥) → ((xs : List Terminal) → ts ≡ Closes ∷ xs → ⊥) → ⊥
no_case_front no_case_item f g = g _ refl
no_case_front (case_item h i k) f g = f _ _ refl
no_case_front (guarded_item h i j k) f g = f _ _ refl

pub cases_stuck : (ts rest : List Terminal) (cs : List Case) → ((p : Place) (xs : List Terminal) → rest ≡ Item p ∷ xs → ⊥) → ((xs : List Terminal) → rest ≡ Closes ∷ xs → ⊥) → CasesSoFar ts rest cs
    → (ds : Cases) (us : List Terminal) → ReadsCaseItems ts ds us → ⊥
cases_stuck ts rest cs f g o ds us w = let x = o.only ds us w in no_case_front x.1 f g

-- the lines of a block

pub record BlockSoFar (ts rest : List Terminal) (xs : List Entry) : Type 0 where
  pub found : (b : Block) (us : List Terminal) → ReadsBlockItems rest b us → ReadsBlockItems ts (entries_before xs b) us
  pub only : (b : Block) (us : List Terminal) → ReadsBlockItems ts b us → RestOfBlock rest us

entries_push : (xs : List Entry) (x : Entry) (b : Block) → entries_before (xs ++ x ∷ []) b ≡ entries_before xs (entry_before x b)
entries_push [] x b = refl
entries_push (y ∷ xs) x b = ap (entry_before y) (entries_push xs x b)

block_as : (ts us : List Terminal) (b c : Block) → b ≡ c → ReadsBlockItems ts c us → ReadsBlockItems ts b us
block_as ts us b c p w = let P : Block → Type 0 = λ x. ReadsBlockItems ts x us in subst P (sym p) w

lines_from : (ts us : List Terminal) (b : Block) (vs : List Terminal) → ts ≡ us → ReadsBlockItems ts b vs → ReadsBlockItems us b vs
lines_from ts us b vs e h = let P : List Terminal → Type 0 = λ x. ReadsBlockItems x b vs in subst P e h

pub block_begin : (ts : List Terminal) (xs : List Entry) → xs ≡ [] → BlockSoFar ts ts xs
block_begin ts xs e =
    let P : List Entry → Type 0 = λ x. BlockSoFar ts ts x in
    subst P (sym e) (record { found = λ b us h. h; only = λ b us h. record { value = b; read = h } })

pub block_entry : (ts rest inside after : List Terminal) (p : Place) (x : Entry) (xs xs1 : List Entry) → rest ≡ Item p ∷ inside → IsEntry inside (entry_before x) after → xs1 ≡ xs ++ x ∷ []
    → BlockSoFar ts rest xs → BlockSoFar ts after xs1
block_entry ts rest inside after p x xs xs1 e i q o = record {
  found = λ b us h. block_as _ _ _ _ (ap (λ z. entries_before z b) q ∙ entries_push xs x b) (o.found _ us (lines_from _ _ _ _ (sym e) (i.found p b us h)));
  only = λ b us h. (let r = o.only b us h in i.only p r.value us (lines_from _ _ _ _ e r.read));
}

pub block_result : (ts rest inside last : List Terminal) (p : Place) (e : Expr) (xs : List Entry) → rest ≡ Item p ∷ inside → ReadsExpr inside e (Closes ∷ last) done
    → BlockSoFar ts rest xs → ReadsBlockItems ts (block_of xs e) last
block_result ts rest inside last p e xs q h o = o.found (result e) last (lines_from _ _ _ _ (sym q) (result_item h))

pub block_none : (ts rest inside : List Terminal) (p : Place) (xs : List Entry) → rest ≡ Item p ∷ inside
    → ((q : Place) (b : Block) (us : List Terminal) → ReadsBlockItems (Item q ∷ inside) b us → ⊥) → BlockSoFar ts rest xs
    → (b : Block) (us : List Terminal) → ReadsBlockItems ts b us → ⊥
block_none ts rest inside p xs e f o b us h = let r = o.only b us h in f p r.value us (lines_from _ _ _ _ e r.read)

pub block_stuck : (ts rest : List Terminal) (xs : List Entry) → ((p : Place) (us : List Terminal) → rest ≡ Item p ∷ us → ⊥) → BlockSoFar ts rest xs
    → (b : Block) (us : List Terminal) → ReadsBlockItems ts b us → ⊥
block_stuck ts rest xs f o b us h = let r = o.only b us h in no_item r.read f
  where
    no_item : {ts us : List Terminal} {b : Block} → ReadsBlockItems ts b us → ((p : Place) (xs : List Terminal) → ts ≡ Item p ∷ xs → ⊥) → ⊥
    no_item (result_item h) f = f _ _ refl
    no_item (plain_use h i j) f = f _ _ refl
    no_item (plain_signature h i j) f = f _ _ refl
    no_item (plain_prefix h i j k l) f = f _ _ refl
    no_item (plain_infix h i j k l m) f = f _ _ refl
