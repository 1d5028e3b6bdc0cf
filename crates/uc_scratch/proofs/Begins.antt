-- What an expression begins with, and where one ends that goes over names and operators alone.
use Rattle.std.proofs.Common.{◌≡◌, ℕ, ◌≤◌, Bool, true, false, List, [], ◌∷◌, refl, arith}
use Rattle.std.specs.Prelude.{nat_le}
use Rattle.uc_base.specs.declared.place.Place.{Place}
use Rattle.uc_scratch.specs.declared.written.Written.{Written}
use Rattle.uc_scratch.specs.declared.written.Param.{Param}
use Rattle.uc_scratch.specs.declared.written.Head.{Head}
use Rattle.uc_scratch.specs.declared.terminal.Terminal.{Terminal}
use Rattle.uc_scratch.specs.declared.terminal.Terminal.TheVariants.{Wildcard, Left, Right, RightSquare, Equals, Arrow, Colon, AndAnd, OrOr, Use, Closes}
use Rattle.uc_scratch.specs.Exprs.{Expr, Atom, Exprs, Block, and, or}
use Rattle.uc_scratch.specs.Terminals.{IsPath, small_path, capital_path, dotted_path, IsOperator, cons_operator, snoc_operator, greater_operator, other_operator, IsParam, small_param, capital_param, any_param}
use Rattle.uc_scratch.specs.ExprGrammar.{ReadsParams, no_param, more_params, ReadsHead, path_head, bracketed_head, operator_head, ReadsExpr, lambda_expr, or_expr, ReadsOr, last_and, more_ands, ReadsAnd, last_infix, more_infixes, ReadsInfix, last_operand, more_operands, ReadsOperand, atoms_operand, atoms_form_operand, form_operand, ReadsAtoms, last_atom, more_atoms, ReadsForm, if_form, match_form, cases_form, let_form, ReadsAtom, path_atom, bracketed_atom, literal_atom, reference_atom, unit_atom, group_atom, annotated_atom, tuple_atom, empty_list_atom, list_atom, ReadsExprs, last_expr, more_exprs, ReadsBlockItems, result_item, use_item, signature_item, prefix_item, infix_item}
use Rattle.uc_scratch.specs.Follows.{goes_on, reach}
use Rattle.uc_scratch.proofs.Classes.{different, path_reach, operator_reach, no_path_operator, no_param_operator}

-- whether a token can begin an expression: an atom, a form, or a parameter
abbrev pub begins_expr : List Terminal → Bool
begins_expr [] = false
begins_expr (Wildcard p ∷ ts) = true
begins_expr (t ∷ ts) = nat_le (goes_on t) 1

pub atom_reach : {ts us : List Terminal} {a : Atom} → ReadsAtom ts a us → reach ts ≡ 0
atom_reach (path_atom h) = path_reach h
atom_reach (bracketed_atom h) = refl
atom_reach literal_atom = refl
atom_reach reference_atom = refl
atom_reach unit_atom = refl
atom_reach (group_atom h) = refl
atom_reach (annotated_atom h i) = refl
atom_reach (tuple_atom h i) = refl
atom_reach empty_list_atom = refl
atom_reach (list_atom h) = refl

pub atoms_reach : {ts us : List Terminal} {e f : Expr} → ReadsAtoms ts e us f → reach ts ≡ 0
atoms_reach (last_atom h) = atom_reach h
atoms_reach (more_atoms h i) = atom_reach h

pub form_reach : {ts us : List Terminal} {e f : Expr} → ReadsForm ts e us f → reach ts ≡ 1
form_reach (if_form h i j) = refl
form_reach (match_form h i) = refl
form_reach (cases_form h) = refl
form_reach (let_form h) = refl

begins_by_reach : (ts : List Terminal) (n : ℕ) → reach ts ≡ n → nat_le n 1 ≡ true → begins_expr ts ≡ true
begins_by_reach [] n e p = let q : nat_le 6 1 ≡ true = cc in cc
begins_by_reach (Wildcard w ∷ ts) n e p = refl
begins_by_reach (_ ∷ ts) n e p = cc

operand_begins : {ts us : List Terminal} {e f : Expr} → ReadsOperand ts e us f → begins_expr ts ≡ true
operand_begins (atoms_operand h) = begins_by_reach _ 0 (atoms_reach h) refl
operand_begins (atoms_form_operand h i) = begins_by_reach _ 0 (atoms_reach h) refl
operand_begins (form_operand h) = begins_by_reach _ 1 (form_reach h) refl

infix_begins : {ts us : List Terminal} {e f : Expr} → ReadsInfix ts e us f → begins_expr ts ≡ true
infix_begins (last_operand h) = operand_begins h
infix_begins (more_operands h i j) = operand_begins h

and_begins : {ts us : List Terminal} {e f : Expr} → ReadsAnd ts e us f → begins_expr ts ≡ true
and_begins (last_infix h) = infix_begins h
and_begins (more_infixes h i) = infix_begins h

or_begins : {ts us : List Terminal} {e f : Expr} → ReadsOr ts e us f → begins_expr ts ≡ true
or_begins (last_and h) = and_begins h
or_begins (more_ands h i) = and_begins h

params_begin : {ts us : List Terminal} {p : Param} {ps : List Param} → ReadsParams ts (p ∷ ps) us → begins_expr ts ≡ true
params_begin (more_params small_param h) = refl
params_begin (more_params capital_param h) = refl
params_begin (more_params any_param h) = refl

pub expr_begins : {ts us : List Terminal} {e f : Expr} → ReadsExpr ts e us f → begins_expr ts ≡ true
expr_begins (lambda_expr h i) = params_begin h
expr_begins (or_expr h) = or_begins h

pub exprs_begin : {t : Terminal} {ts us : List Terminal} {es : Exprs} → ReadsExprs t ts es us → begins_expr ts ≡ true
exprs_begin (last_expr h) = expr_begins h
exprs_begin (more_exprs h i) = expr_begins h

operator_no_expr : {t : Terminal} {w : Written} (ts : List Terminal) → IsOperator t w → begins_expr (t ∷ ts) ≡ false
operator_no_expr ts cons_operator = refl
operator_no_expr ts snoc_operator = refl
operator_no_expr ts greater_operator = refl
operator_no_expr ts other_operator = refl

pub no_expr_at_operator : {t : Terminal} {w : Written} {ts us : List Terminal} {e f : Expr} → IsOperator t w → ReadsExpr (t ∷ ts) e us f → ⊥
no_expr_at_operator h k = different _ (expr_begins k) (operator_no_expr _ h)

pub no_expr_at_right : {ts us : List Terminal} {e f : Expr} → ReadsExpr (Right ∷ ts) e us f → ⊥
no_expr_at_right k = let f = expr_begins k in cc

pub no_exprs_at_square : {t : Terminal} {ts us : List Terminal} {es : Exprs} → ReadsExprs t (RightSquare ∷ ts) es us → ⊥
no_exprs_at_square k = let f = exprs_begin k in cc

pub no_expr_at_use : {p : Place} {ts us : List Terminal} {e f : Expr} → ReadsExpr (Use p ∷ ts) e us f → ⊥
no_expr_at_use k = let f = expr_begins k in cc

-- `->`, `=` and `:`
pub data IsStop : Terminal → Type 0 where
  arrow_stop : IsStop Arrow
  equals_stop : IsStop Equals
  colon_stop : IsStop Colon

-- names, `_` and operators up to a token with these behind it
pub data Stuck (x : Terminal) (end : List Terminal) : List Terminal → Type 0 where
  at_stop : Stuck x end (x ∷ end)
  at_path : {t : Terminal} {w : Written} {ts : List Terminal} → IsPath t w → Stuck x end ts → Stuck x end (t ∷ ts)
  at_any : {p : Place} {ts : List Terminal} → Stuck x end ts → Stuck x end (Wildcard p ∷ ts)
  at_bracketed : {p : Place} {t : Terminal} {w : Written} {ts : List Terminal}
      → IsOperator t w → Stuck x end ts → Stuck x end (Left p ∷ t ∷ Right ∷ ts)
  at_operator : {t : Terminal} {w : Written} {ts : List Terminal} → IsOperator t w → Stuck x end ts → Stuck x end (t ∷ ts)

pub param_stuck : {x t : Terminal} {p : Param} {end ts : List Terminal} → IsParam t p → Stuck x end ts → Stuck x end (t ∷ ts)
param_stuck small_param s = at_path small_path s
param_stuck capital_param s = at_path capital_path s
param_stuck any_param s = at_any s

pub params_stuck : {x : Terminal} {ts us : List Terminal} {ps : List Param} → ReadsParams ts ps (x ∷ us) → Stuck x us ts
params_stuck no_param = at_stop
params_stuck (more_params i h) = param_stuck i (params_stuck h)

pub head_stuck : {x : Terminal} {end ts us : List Terminal} {h : Head} → ReadsHead ts h us → Stuck x end us → Stuck x end ts
head_stuck (path_head i) s = at_path i s
head_stuck (bracketed_head i) s = at_bracketed i s
head_stuck (operator_head i) s = at_operator i s

stop_no_path : {x : Terminal} {w : Written} → IsStop x → IsPath x w → ⊥
stop_no_path arrow_stop h = elim h [ ]
stop_no_path equals_stop h = elim h [ ]
stop_no_path colon_stop h = elim h [ ]

stop_no_operator : {x : Terminal} {w : Written} → IsStop x → IsOperator x w → ⊥
stop_no_operator arrow_stop h = elim h [ ]
stop_no_operator equals_stop h = elim h [ ]
stop_no_operator colon_stop h = elim h [ ]

-- where the next token of such tokens can go on
stuck_reach : {x : Terminal} {end ts : List Terminal} → IsStop x → Stuck x end ts → nat_le 3 (reach ts) ≡ true → nat_le 5 (reach ts) ≡ true
stuck_reach arrow_stop at_stop p = refl
stuck_reach equals_stop at_stop p = refl
stuck_reach colon_stop at_stop p = refl
stuck_reach i (at_path small_path s) p = cc
stuck_reach i (at_path capital_path s) p = cc
stuck_reach i (at_path dotted_path s) p = cc
stuck_reach i (at_any s) p = refl
stuck_reach i (at_bracketed h s) p = cc
stuck_reach i (at_operator cons_operator s) p = cc
stuck_reach i (at_operator snoc_operator s) p = cc
stuck_reach i (at_operator greater_operator s) p = cc
stuck_reach i (at_operator other_operator s) p = cc

stuck_behind_path : {x t : Terminal} {w : Written} {end ts : List Terminal} → IsStop x → IsPath t w → Stuck x end (t ∷ ts) → Stuck x end ts
stuck_behind_path i h at_stop = absurd (stop_no_path i h)
stuck_behind_path i h (at_path k s) = s
stuck_behind_path i h (at_any s) = elim h [ ]
stuck_behind_path i h (at_bracketed k s) = elim h [ ]
stuck_behind_path i h (at_operator k s) = s

stuck_behind_operator : {x t : Terminal} {w : Written} {end ts : List Terminal} → IsStop x → IsOperator t w → Stuck x end (t ∷ ts) → Stuck x end ts
stuck_behind_operator i h at_stop = absurd (stop_no_operator i h)
stuck_behind_operator i h (at_path k s) = s
stuck_behind_operator i h (at_any s) = elim h [ ]
stuck_behind_operator i h (at_bracketed k s) = elim h [ ]
stuck_behind_operator i h (at_operator k s) = s

-- a bracket in such tokens stands round an operator
data Bracketed (x : Terminal) (end : List Terminal) : List Terminal → Type 0 where
  round_operator : {t : Terminal} {w : Written} {ts : List Terminal} → IsOperator t w → Stuck x end ts → Bracketed x end (t ∷ Right ∷ ts)

stuck_bracketed : {x : Terminal} {p : Place} {end ts : List Terminal} → IsStop x → Stuck x end (Left p ∷ ts) → Bracketed x end ts
stuck_bracketed i at_stop = elim i [ ]
stuck_bracketed i (at_path k s) = elim k [ ]
stuck_bracketed i (at_bracketed k s) = round_operator k s
stuck_bracketed i (at_operator k s) = elim k [ ]

bracketed_rest : {x t : Terminal} {w : Written} {end ts : List Terminal} → IsOperator t w → Bracketed x end (t ∷ Right ∷ ts) → Stuck x end ts
bracketed_rest h (round_operator k s) = s

no_unit : {x : Terminal} {end ts : List Terminal} → Bracketed x end (Right ∷ ts) → ⊥
no_unit (round_operator k s) = elim k [ ]

no_group : {x : Terminal} {end ts us : List Terminal} {e f : Expr} → Bracketed x end ts → ReadsExpr ts e us f → ⊥
no_group (round_operator k s) h = no_expr_at_operator k h

atom_stuck : {x : Terminal} {end ts us : List Terminal} {a : Atom} → IsStop x → Stuck x end ts → ReadsAtom ts a us → Stuck x end us
atom_stuck i s (path_atom h) = stuck_behind_path i h s
atom_stuck i s (bracketed_atom h) = bracketed_rest h (stuck_bracketed i s)
atom_stuck i s unit_atom = absurd (no_unit (stuck_bracketed i s))
atom_stuck i s (group_atom h) = absurd (no_group (stuck_bracketed i s) h)
atom_stuck i s (annotated_atom h k) = absurd (no_group (stuck_bracketed i s) h)
atom_stuck i s (tuple_atom h k) = absurd (no_group (stuck_bracketed i s) h)
atom_stuck i at_stop literal_atom = elim i [ ]
atom_stuck i (at_path k s) literal_atom = elim k [ ]
atom_stuck i (at_operator k s) literal_atom = elim k [ ]
atom_stuck i at_stop reference_atom = elim i [ ]
atom_stuck i (at_path k s) reference_atom = elim k [ ]
atom_stuck i (at_operator k s) reference_atom = elim k [ ]
atom_stuck i at_stop empty_list_atom = elim i [ ]
atom_stuck i (at_path k s) empty_list_atom = elim k [ ]
atom_stuck i (at_operator k s) empty_list_atom = elim k [ ]
atom_stuck i at_stop (list_atom h) = elim i [ ]
atom_stuck i (at_path k s) (list_atom h) = elim k [ ]
atom_stuck i (at_operator k s) (list_atom h) = elim k [ ]

atoms_stuck : {x : Terminal} {end ts us : List Terminal} {e f : Expr} → IsStop x → Stuck x end ts → ReadsAtoms ts e us f → Stuck x end us
atoms_stuck i s (last_atom h) = atom_stuck i s h
atoms_stuck i s (more_atoms h k) = atoms_stuck i (atom_stuck i s h) k

no_form : {x : Terminal} {end ts us : List Terminal} {e f : Expr} → IsStop x → Stuck x end ts → ReadsForm ts e us f → ⊥
no_form i s h = no_reach_one i s (form_reach h)
  where
    no_reach_one : {x : Terminal} {end ts : List Terminal} → IsStop x → Stuck x end ts → reach ts ≡ 1 → ⊥
    no_reach_one arrow_stop at_stop p = absurd (omega arith)
    no_reach_one equals_stop at_stop p = absurd (omega arith)
    no_reach_one colon_stop at_stop p = absurd (omega arith)
    no_reach_one i (at_path k s) p = let e = path_reach k in absurd (omega arith)
    no_reach_one i (at_any s) p = absurd (omega arith)
    no_reach_one i (at_bracketed k s) p = absurd (omega arith)
    no_reach_one i (at_operator k s) p = let e = operator_reach k in absurd (omega arith)

operand_stuck : {x : Terminal} {end ts us : List Terminal} {e f : Expr} → IsStop x → Stuck x end ts → ReadsOperand ts e us f → Stuck x end us
operand_stuck i s (atoms_operand h) = atoms_stuck i s h
operand_stuck i s (atoms_form_operand h k) = absurd (no_form i (atoms_stuck i s h) k)
operand_stuck i s (form_operand h) = absurd (no_form i s h)

infix_stuck : {x : Terminal} {end ts us : List Terminal} {e f : Expr} → IsStop x → Stuck x end ts → ReadsInfix ts e us f → Stuck x end us
infix_stuck i s (last_operand h) = operand_stuck i s h
infix_stuck i s (more_operands h o k) = infix_stuck i (stuck_behind_operator i o (operand_stuck i s h)) k

and_stuck : {x : Terminal} {end ts us : List Terminal} {e f : Expr} → IsStop x → Stuck x end ts → ReadsAnd ts e us f → Stuck x end us
and_stuck i s (last_infix h) = infix_stuck i s h
and_stuck i s (more_infixes h k) = let e = stuck_reach i (infix_stuck i s h) refl in cc

-- an expression that goes over such tokens ends among them
pub or_stuck : {x : Terminal} {end ts us : List Terminal} {e f : Expr} → IsStop x → Stuck x end ts → ReadsOr ts e us f → Stuck x end us
or_stuck i s (last_and h) = and_stuck i s h
or_stuck i s (more_ands h k) = let e = stuck_reach i (and_stuck i s h) refl in cc

-- a stop of a binding or a signature, which is no arrow
pub data IsBinder : Terminal → Type 0 where
  equals_binder : IsBinder Equals
  colon_binder : IsBinder Colon

binder_stop : {x : Terminal} → IsBinder x → IsStop x
binder_stop equals_binder = equals_stop
binder_stop colon_binder = colon_stop

params_stuck_rest : {x : Terminal} {end ts us : List Terminal} {ps : List Param} → IsBinder x → Stuck x end ts → ReadsParams ts ps us → Stuck x end us
params_stuck_rest i s no_param = s
params_stuck_rest i s (more_params small_param h) = params_stuck_rest i (stuck_behind_path (binder_stop i) small_path s) h
params_stuck_rest i s (more_params capital_param h) = params_stuck_rest i (stuck_behind_path (binder_stop i) capital_path s) h
params_stuck_rest i s (more_params any_param h) = params_stuck_rest i (behind_any i s) h
  where
    behind_any : {x : Terminal} {p : Place} {end ts : List Terminal} → IsBinder x → Stuck x end (Wildcard p ∷ ts) → Stuck x end ts
    behind_any i at_stop = elim i [ ]
    behind_any i (at_path k s) = elim k [ ]
    behind_any i (at_any s) = s
    behind_any i (at_operator k s) = elim k [ ]

no_arrow : {x : Terminal} {end ts : List Terminal} → IsBinder x → Stuck x end (Arrow ∷ ts) → ⊥
no_arrow i at_stop = elim i [ ]
no_arrow i (at_path k s) = elim k [ ]
no_arrow i (at_operator k s) = elim k [ ]

no_closes : {x : Terminal} {end ts : List Terminal} → IsBinder x → Stuck x end (Closes ∷ ts) → ⊥
no_closes i at_stop = elim i [ ]
no_closes i (at_path k s) = elim k [ ]
no_closes i (at_operator k s) = elim k [ ]

-- where a signature or a binding begins, no expression goes up to the end of a block
pub no_result : {x : Terminal} {end ts us : List Terminal} {e f : Expr} → IsBinder x → Stuck x end ts → ReadsExpr ts e (Closes ∷ us) f → ⊥
no_result i s (lambda_expr h k) = no_arrow i (params_stuck_rest i s h)
no_result i s (or_expr h) = no_closes i (or_stuck (binder_stop i) s h)

-- where the body of a lambda begins, no expression but a lambda ends outside
pub no_or_at_lambda : {ts us vs : List Terminal} {ps : List Param} {e f : Expr} → ReadsParams ts ps (Arrow ∷ us) → ReadsOr ts e vs f → 6 ≤ reach vs → ⊥
no_or_at_lambda h k p = too_near (or_stuck arrow_stop (params_stuck h) k) p
  where
    too_near : {end ts : List Terminal} → Stuck Arrow end ts → 6 ≤ reach ts → ⊥
    too_near at_stop p = absurd (omega arith)
    too_near (at_path k s) p = let e = path_reach k in absurd (omega arith)
    too_near (at_any s) p = absurd (omega arith)
    too_near (at_bracketed k s) p = absurd (omega arith)
    too_near (at_operator k s) p = let e = operator_reach k in absurd (omega arith)

-- an expression that ends at an arrow over the parameters of a lambda ends at that arrow
pub at_same_arrow : {ts us vs : List Terminal} {ps : List Param} {e f : Expr} → ReadsParams ts ps (Arrow ∷ us) → ReadsOr ts e (Arrow ∷ vs) f → vs ≡ us
at_same_arrow h k = arrow_end (or_stuck arrow_stop (params_stuck h) k)
  where
    arrow_end : {end ts : List Terminal} → Stuck Arrow end (Arrow ∷ ts) → ts ≡ end
    arrow_end at_stop = refl
    arrow_end (at_path k s) = elim k [ ]
    arrow_end (at_operator k s) = elim k [ ]
