-- A part is smaller than what it is part of.
use Rattle.std.proofs.Common.{◌≡◌, ℕ, zero, suc, ◌+◌, ◌<◌, List, [], ◌∷◌, ◌++◌, refl, Option, Some, None, length, get_or, sym, ap, ◌∙◌, subst, arith}
use Rattle.uc_scratch.specs.declared.type_expr.TypeFront.{TypeFront}
use Rattle.uc_scratch.specs.declared.type_expr.TypeFront.TheVariants as front
use Rattle.uc_scratch.specs.declared.type_expr.TypeAtom as seen_type_atom
use Rattle.uc_scratch.specs.declared.type_expr.TypeOperand as seen_operand
use Rattle.uc_scratch.specs.declared.written.Written.{Written}
use Rattle.uc_scratch.specs.declared.pattern.PatternOperand as seen_pattern_operand
use Rattle.uc_scratch.specs.declared.pattern.PatternAtom as seen_pattern_atom
use Rattle.uc_scratch.specs.Patterns as pattern
use Rattle.uc_scratch.specs.Patterns.{Pattern, PatternAtom, patterns_of, pattern_size, patterns_size, operands_size}
use Rattle.uc_scratch.specs.PatternViews.{pattern_operand, pattern_operands, pattern_atom, pattern_atoms, names_before, heads_before}
use Rattle.uc_scratch.specs.PatternLevels.{pattern_atom_levels}
use Rattle.uc_scratch.specs.NameFaults.{pattern_atom_names}
use Rattle.uc_scratch.specs.declared.expr.Step.{Step}
use Rattle.uc_scratch.specs.declared.expr.Step.TheVariants as step
use Rattle.uc_scratch.specs.declared.block.Case.{Case}
use Rattle.uc_scratch.specs.declared.block.Entry.{Entry}
use Rattle.uc_scratch.specs.declared.block.Entry.TheVariants as entry
use Rattle.uc_scratch.specs.declared.block.BindingFront.{BindingFront}
use Rattle.uc_scratch.specs.declared.block.BindingFront.TheVariants as binding_front
use Rattle.uc_scratch.specs.Exprs as expr
use Rattle.uc_scratch.specs.Exprs.{Expr, Exprs, Cases, Block, exprs_of, expr_size, exprs_size, cases_size, block_size}
use Rattle.uc_scratch.specs.ExprViews.{atom_of, case_before, cases_of, step_before, steps_before, binding_before, entries_before}
use Rattle.uc_scratch.specs.TypeExprs as type
use Rattle.uc_scratch.specs.TypeExprs.{TypeExpr, types_of, type_size, types_size, atoms_size}
use Rattle.uc_scratch.specs.TypeViews.{type_operand, type_atom, type_atoms, fronts_before}

-- more than that of the left side of an arrow
abbrev pub front_size : TypeFront → ℕ
front_size (front.Forall p ws) = 0
front_size (front.Arrow a) = type.operand_size (type_operand a)

pub type_at : (ts : List TypeExpr) (k : ℕ) (t : TypeExpr) → k < length ts → type_size (get_or ts k t) < types_size (types_of ts)
type_at [] k t h = omega arith
type_at (u ∷ ts) zero t h = omega arith
type_at (u ∷ ts) (suc k) t h = omega (arith, type_at ts k t (omega arith))

pub type_atom_at : (bs : List seen_type_atom.TypeAtom) (k : ℕ) (b : seen_type_atom.TypeAtom) → k < length bs → type.atom_size (type_atom (get_or bs k b)) < atoms_size (type_atoms bs)
type_atom_at [] k b h = omega arith
type_atom_at (a ∷ bs) zero b h = omega arith
type_atom_at (a ∷ bs) (suc k) b h = omega (arith, type_atom_at bs k b (omega arith))

pub front_at : (fs : List TypeFront) (t : TypeExpr) (k : ℕ) (f : TypeFront) → k < length fs → front_size (get_or fs k f) < type_size (fronts_before fs t)
front_at [] t k f h = omega arith
front_at (front.Forall p ws ∷ fs) t zero f h = omega arith
front_at (front.Arrow a ∷ fs) t zero f h = omega arith
front_at (front.Forall p ws ∷ fs) t (suc k) f h = omega (arith, front_at fs t k f (omega arith))
front_at (front.Arrow a ∷ fs) t (suc k) f h = omega (arith, front_at fs t k f (omega arith))

pub last_below : (fs : List TypeFront) (t : TypeExpr) → type_size t < type_size (fronts_before fs t) + 1
last_below [] t = omega arith
last_below (front.Forall p ws ∷ fs) t = omega (arith, last_below fs t)
last_below (front.Arrow a ∷ fs) t = omega (arith, last_below fs t)

pub ruleset type_parts = (type_at, type_atom_at, front_at, last_below)

-- the left side of an arrow that stands at a place of some fronts
pub arrow_at : (fs gs : List TypeFront) (t whole : TypeExpr) (k : ℕ) (f : TypeFront) (a : seen_operand.TypeOperand)
    → k < length gs → f ≡ get_or gs k f → f ≡ front.Arrow a → gs ≡ fs → fronts_before fs t ≡ whole → type.operand_size (type_operand a) < type_size whole
arrow_at fs gs t whole k f a h at is same e =
    subst (λ n. n < type_size whole) (ap front_size (sym at ∙ is)) (subst (λ w. front_size (get_or gs k f) < type_size w) (ap (λ l. fronts_before l t) same ∙ e) (front_at gs t k f h))

pub pattern_at : (ps : List Pattern) (k : ℕ) (p : Pattern) → k < length ps → pattern_size (get_or ps k p) < patterns_size (patterns_of ps)
pattern_at [] k p h = omega arith
pattern_at (q ∷ ps) zero p h = omega arith
pattern_at (q ∷ ps) (suc k) p h = omega (arith, pattern_at ps k p (omega arith))

pub pattern_atom_at : (bs : List seen_pattern_atom.PatternAtom) (k : ℕ) (b : seen_pattern_atom.PatternAtom) → k < length bs → pattern.atom_size (pattern_atom (get_or bs k b)) < pattern.atoms_size (pattern_atoms bs)
pattern_atom_at [] k b h = omega arith
pattern_atom_at (a ∷ bs) zero b h = omega arith
pattern_atom_at (a ∷ bs) (suc k) b h = omega (arith, pattern_atom_at bs k b (omega arith))

pub pattern_operand_at : (bs : List seen_pattern_operand.PatternOperand) (k : ℕ) (b : seen_pattern_operand.PatternOperand) → k < length bs → pattern.operand_size (pattern_operand (get_or bs k b)) < operands_size (pattern_operands bs)
pattern_operand_at [] k b h = omega arith
pattern_operand_at (a ∷ bs) zero b h = omega arith
pattern_operand_at (a ∷ bs) (suc k) b h = omega (arith, pattern_operand_at bs k b (omega arith))

pub heads_size : (bs : List seen_pattern_operand.PatternOperand) (p : Pattern) → pattern_size (heads_before bs p) ≡ operands_size (pattern_operands bs) + pattern_size p
heads_size [] p = omega arith
heads_size (a ∷ bs) p = omega (arith, heads_size bs p)

pub form_below : (ws : List Written) (a : PatternAtom) → pattern.atom_size a < pattern.atom_size (names_before ws a) + 1
form_below [] a = omega arith
form_below (w ∷ ws) a = omega (arith, form_below ws a)

pub named_levels : (ws : List Written) (a : PatternAtom) → pattern_atom_levels (names_before ws a) ≡ pattern_atom_levels a + length ws
named_levels [] a = omega arith
named_levels (w ∷ ws) a = omega (arith, named_levels ws a)

pub names_of_named : (ws : List Written) (a : PatternAtom) → pattern_atom_names (names_before ws a) ≡ ws ++ pattern_atom_names a
names_of_named [] a = refl
names_of_named (w ∷ ws) a = ap (λ l. w ∷ l) (names_of_named ws a)

pub ruleset pattern_parts = (pattern_at, pattern_atom_at, pattern_operand_at, heads_size, form_below, named_levels, names_of_named)

-- less than that of a step before others
abbrev pub step_size : Step → ℕ
step_size (step.Lambda ps b) = block_size b
step_size (step.Atom a) = expr.atom_size (atom_of a)
step_size (step.Operator w) = 0
step_size step.And = 0
step_size step.Or = 0
step_size (step.If p) = 0
step_size (step.Then b c) = block_size b + block_size c
step_size (step.Match p) = 0
step_size (step.With cs) = cases_size (cases_of cs.items)
step_size (step.Cases p cs) = cases_size (cases_of cs.items)
step_size (step.Let p b) = block_size b

one_step : (s : Step) (e : Expr) → expr_size (step_before s e) ≡ step_size s + expr_size e + 1
one_step (step.Lambda ps b) e = omega arith
one_step (step.Atom a) e = omega arith
one_step (step.Operator w) e = omega arith
one_step step.And e = omega arith
one_step step.Or e = omega arith
one_step (step.If p) e = omega arith
one_step (step.Then b c) e = omega arith
one_step (step.Match p) e = omega arith
one_step (step.With cs) e = omega arith
one_step (step.Cases p cs) e = omega arith
one_step (step.Let p b) e = omega arith

pub step_at : (ss : List Step) (k : ℕ) (s : Step) → k < length ss → step_size (get_or ss k s) < expr_size (steps_before ss expr.done)
step_at [] k s h = omega arith
step_at (t ∷ ss) zero s h = omega (arith, one_step t (steps_before ss expr.done))
step_at (t ∷ ss) (suc k) s h = omega (arith, one_step t (steps_before ss expr.done), step_at ss k s (omega arith))

pub expr_at : (es : List Expr) (k : ℕ) (e : Expr) → k < length es → expr_size (get_or es k e) < exprs_size (exprs_of es)
expr_at [] k e h = omega arith
expr_at (d ∷ es) zero e h = omega arith
expr_at (d ∷ es) (suc k) e h = omega (arith, expr_at es k e (omega arith))

abbrev pub guard_size : Option Expr → ℕ
guard_size None = 0
guard_size (Some e) = expr_size e + 1

one_case : (p : Pattern) (g : Option Expr) (b : Block) (cs : Cases) → cases_size (case_before p g b cs) ≡ guard_size g + block_size b + cases_size cs + 1
one_case p None b cs = omega arith
one_case p (Some e) b cs = omega arith

case_at : (cs : List Case) (k : ℕ) (c : Case) → k < length cs → guard_size (get_or cs k c).guard + block_size (get_or cs k c).body < cases_size (cases_of cs)
case_at [] k c h = omega arith
case_at (d ∷ cs) zero c h = omega (arith, one_case d.pattern d.guard d.body (cases_of cs))
case_at (d ∷ cs) (suc k) c h = omega (arith, one_case d.pattern d.guard d.body (cases_of cs), case_at cs k c (omega arith))

-- less than that of a case before others
abbrev pub case_size : Case → ℕ
case_size c = guard_size c.guard + block_size c.body

pub case_below : (cs : List Case) (k : ℕ) (c : Case) → k < length cs → case_size (get_or cs k c) < cases_size (cases_of cs)
case_below cs k c h = case_at cs k c h

pub guard_at : (cs : List Case) (k : ℕ) (c : Case) → k < length cs → guard_size (get_or cs k c).guard < cases_size (cases_of cs)
guard_at cs k c h = omega (arith, case_at cs k c h)

pub body_at : (cs : List Case) (k : ℕ) (c : Case) → k < length cs → block_size (get_or cs k c).body < cases_size (cases_of cs)
body_at cs k c h = omega (arith, case_at cs k c h)

-- less than that of an entry before others
abbrev pub entry_size : Entry → ℕ
entry_size (entry.Use u) = 0
entry_size (entry.Signature s) = 0
entry_size (entry.Binding d) = block_size d.body

binding_size : (f : BindingFront) (c b : Block) → block_size (binding_before f c b) ≡ block_size c + block_size b + 1
binding_size (binding_front.Prefix h ps) c b = omega arith
binding_size (binding_front.Infix p w q) c b = omega arith

pub entry_at : (xs : List Entry) (b : Block) (k : ℕ) (x : Entry) → k < length xs → entry_size (get_or xs k x) < block_size (entries_before xs b)
entry_at [] b k x h = omega arith
entry_at (entry.Use u ∷ xs) b zero x h = omega arith
entry_at (entry.Signature s ∷ xs) b zero x h = omega arith
entry_at (entry.Binding d ∷ xs) b zero x h = omega (arith, binding_size d.front d.body (entries_before xs b))
entry_at (entry.Use u ∷ xs) b (suc k) x h = omega (arith, entry_at xs b k x (omega arith))
entry_at (entry.Signature s ∷ xs) b (suc k) x h = omega (arith, entry_at xs b k x (omega arith))
entry_at (entry.Binding d ∷ xs) b (suc k) x h = omega (arith, binding_size d.front d.body (entries_before xs b), entry_at xs b k x (omega arith))

pub result_below : (xs : List Entry) (b : Block) → block_size b < block_size (entries_before xs b) + 1
result_below [] b = omega arith
result_below (entry.Use u ∷ xs) b = omega (arith, result_below xs b)
result_below (entry.Signature s ∷ xs) b = omega (arith, result_below xs b)
result_below (entry.Binding d ∷ xs) b = omega (arith, binding_size d.front d.body (entries_before xs b), result_below xs b)

pub ruleset expr_parts = (step_at, expr_at, guard_at, body_at, case_below, entry_at, result_below)
