-- An expression and a block are read in one way, up to a token that can't go on with them.
use Rattle.std.proofs.Common.{◌≡◌, ℕ, ◌+◌, ◌≤◌, Bool, true, false, List, [], ◌∷◌, refl, subst, sym, ap, ◌∙◌, arith}
use Rattle.uc_base.specs.declared.place.Place.{Place}
use Rattle.uc_scratch.specs.declared.written.Written.{Written}
use Rattle.uc_scratch.specs.declared.written.Param.{Param}
use Rattle.uc_scratch.specs.declared.written.Head.{Head}
use Rattle.uc_scratch.specs.declared.terminal.Terminal.{Terminal}
use Rattle.uc_scratch.specs.declared.terminal.Terminal.TheVariants.{Right, RightSquare, Comma, Equals, Arrow, Colon, Bar, AndAnd, OrOr, Then, Else, With, Opens, Closes, Item}
use Rattle.uc_scratch.specs.TypeExprs.{TypeExpr}
use Rattle.uc_scratch.specs.Patterns.{Pattern}
use Rattle.uc_scratch.specs.Exprs.{Expr, done, lambda, atom, operator, and, or, opens_if, branches, opens_match, with_cases, cases, block, Atom, path, bracketed, literal, reference, unit, group, annotated, tuple, list, Exprs, none, more, Cases, no_case, case, guarded, Block, result, using, signature, prefix, infix_operator}
use Rattle.uc_scratch.specs.Terminals.{IsPath, small_path, capital_path, dotted_path, IsOperator, IsParam, small_param, capital_param, any_param}
use Rattle.uc_scratch.specs.TypeGrammar.{ReadsType}
use Rattle.uc_scratch.specs.PatternGrammar.{ReadsPattern}
use Rattle.uc_scratch.specs.ExprGrammar.{ReadsParams, no_param, more_params, ReadsUsed, ReadsHead, path_head, bracketed_head, operator_head, ReadsBound, path_bound, bracketed_bound, ReadsExpr, lambda_expr, or_expr, ReadsOr, last_and, more_ands, ReadsAnd, last_infix, more_infixes, ReadsInfix, last_operand, more_operands, ReadsOperand, atoms_operand, atoms_form_operand, form_operand, ReadsAtoms, last_atom, more_atoms, ReadsForm, if_form, match_form, cases_form, let_form, ReadsAtom, path_atom, bracketed_atom, literal_atom, reference_atom, unit_atom, group_atom, annotated_atom, tuple_atom, empty_list_atom, list_atom, ReadsExprs, last_expr, more_exprs, ReadsCases, cases_block, ReadsCaseItems, no_case_item, case_item, guarded_item, ReadsBlock, block_block, ReadsBlockItems, result_item, use_item, signature_item, prefix_item, infix_item}
use Rattle.uc_scratch.specs.Follows.{ends_type, goes_on, reach}
use Rattle.uc_scratch.proofs.TypeReadings.{tail_same, type_from, one_type}
use Rattle.uc_scratch.specs.Marks.{IsRight, round, square}
use Rattle.uc_scratch.proofs.PatternReadings.{one_pattern}
use Rattle.uc_scratch.proofs.Classes.{one_path, one_operator, one_param, operators_meet, path_reach, operator_reach, no_path_operator, no_param_operator, one_params, one_used, one_head, bound_head}
use Rattle.uc_scratch.proofs.Begins.{atom_reach, atoms_reach, form_reach, no_expr_at_operator, no_expr_at_right, no_exprs_at_square, no_expr_at_use, at_path, param_stuck, params_stuck, head_stuck, at_operator, at_stop, equals_binder, colon_binder, no_result, no_or_at_lambda, at_same_arrow}

-- the same readings behind the same tokens

pub expr_from : (us vs : List Terminal) (e : Expr) (ws : List Terminal) (f : Expr) → us ≡ vs → ReadsExpr vs e ws f → ReadsExpr us e ws f
expr_from us vs e ws f p h = let P : List Terminal → Type 0 = λ z. ReadsExpr z e ws f in subst P (sym p) h

pub or_from : (us vs : List Terminal) (e : Expr) (ws : List Terminal) (f : Expr) → us ≡ vs → ReadsOr vs e ws f → ReadsOr us e ws f
or_from us vs e ws f p h = let P : List Terminal → Type 0 = λ z. ReadsOr z e ws f in subst P (sym p) h

pub and_from : (us vs : List Terminal) (e : Expr) (ws : List Terminal) (f : Expr) → us ≡ vs → ReadsAnd vs e ws f → ReadsAnd us e ws f
and_from us vs e ws f p h = let P : List Terminal → Type 0 = λ z. ReadsAnd z e ws f in subst P (sym p) h

pub infix_from : (us vs : List Terminal) (e : Expr) (ws : List Terminal) (f : Expr) → us ≡ vs → ReadsInfix vs e ws f → ReadsInfix us e ws f
infix_from us vs e ws f p h = let P : List Terminal → Type 0 = λ z. ReadsInfix z e ws f in subst P (sym p) h

pub atoms_from : (us vs : List Terminal) (e : Expr) (ws : List Terminal) (f : Expr) → us ≡ vs → ReadsAtoms vs e ws f → ReadsAtoms us e ws f
atoms_from us vs e ws f p h = let P : List Terminal → Type 0 = λ z. ReadsAtoms z e ws f in subst P (sym p) h

pub form_from : (us vs : List Terminal) (e : Expr) (ws : List Terminal) (f : Expr) → us ≡ vs → ReadsForm vs e ws f → ReadsForm us e ws f
form_from us vs e ws f p h = let P : List Terminal → Type 0 = λ z. ReadsForm z e ws f in subst P (sym p) h

pub exprs_from : (t : Terminal) (us vs : List Terminal) (es : Exprs) (ws : List Terminal) → us ≡ vs → ReadsExprs t vs es ws → ReadsExprs t us es ws
exprs_from t us vs es ws p h = let P : List Terminal → Type 0 = λ z. ReadsExprs t z es ws in subst P (sym p) h

pub cases_from : (us vs : List Terminal) (cs : Cases) (ws : List Terminal) → us ≡ vs → ReadsCases vs cs ws → ReadsCases us cs ws
cases_from us vs cs ws p h = let P : List Terminal → Type 0 = λ z. ReadsCases z cs ws in subst P (sym p) h

pub case_items_from : (us vs : List Terminal) (cs : Cases) (ws : List Terminal) → us ≡ vs → ReadsCaseItems vs cs ws → ReadsCaseItems us cs ws
case_items_from us vs cs ws p h = let P : List Terminal → Type 0 = λ z. ReadsCaseItems z cs ws in subst P (sym p) h

pub block_from : (us vs : List Terminal) (b : Block) (ws : List Terminal) → us ≡ vs → ReadsBlock vs b ws → ReadsBlock us b ws
block_from us vs b ws p h = let P : List Terminal → Type 0 = λ z. ReadsBlock z b ws in subst P (sym p) h

pub block_items_from : (us vs : List Terminal) (b : Block) (ws : List Terminal) → us ≡ vs → ReadsBlockItems vs b ws → ReadsBlockItems us b ws
block_items_from us vs b ws p h = let P : List Terminal → Type 0 = λ z. ReadsBlockItems z b ws in subst P (sym p) h

pub params_from : (us vs : List Terminal) (ps : List Param) (ws : List Terminal) → us ≡ vs → ReadsParams vs ps ws → ReadsParams us ps ws
params_from us vs ps ws p h = let P : List Terminal → Type 0 = λ z. ReadsParams z ps ws in subst P (sym p) h

head_same : (t u : Terminal) (ts us : List Terminal) → t ∷ ts ≡ u ∷ us → t ≡ u
head_same t u ts us e = cc

-- what stands behind the items of a block ends a type, and a list of names
pub items_end_type : {ts us : List Terminal} {b : Block} → ReadsBlockItems ts b us → ends_type ts ≡ true
items_end_type (result_item h) = refl
items_end_type (use_item h i j) = refl
items_end_type (signature_item h i j) = refl
items_end_type (prefix_item h i j k l) = refl
items_end_type (infix_item h i j k l m) = refl

items_reach : {ts us : List Terminal} {b : Block} → ReadsBlockItems ts b us → 6 ≤ reach ts
items_reach (result_item h) = omega arith
items_reach (use_item h i j) = omega arith
items_reach (signature_item h i j) = omega arith
items_reach (prefix_item h i j k l) = omega arith
items_reach (infix_item h i j k l m) = omega arith

no_case_at_arrow : {ts us : List Terminal} {cs : Cases} → ReadsCaseItems (Arrow ∷ ts) cs us → ⊥
no_case_at_arrow h = elim h [ ]

-- Two readings that begin at the same tokens end at the same tokens, and with the same steps behind them are the same.
abbrev pub IsSame : List Terminal → List Terminal → Expr → Expr → Expr → Expr → Type 0
IsSame us vs r s e f = (us ≡ vs) × (r ≡ s → e ≡ f)

same_atom : (a b : Atom) (e f : Expr) → a ≡ b → e ≡ f → atom a e ≡ atom b f
same_atom a b e f p q = cc

same_operator : (w v : Written) (e f : Expr) → w ≡ v → e ≡ f → operator w e ≡ operator v f
same_operator w v e f p q = cc

same_lambda : (ps qs : List Param) (b c : Block) (e f : Expr) → ps ≡ qs → b ≡ c → e ≡ f → lambda ps b e ≡ lambda qs c f
same_lambda ps qs b c e f p q r = cc

same_branches : (b c d g : Block) (e f : Expr) → b ≡ d → c ≡ g → e ≡ f → branches b c e ≡ branches d g f
same_branches b c d g e f p q r = cc

same_opens_if : (p : Place) (e f : Expr) → e ≡ f → opens_if p e ≡ opens_if p f
same_opens_if p e f q = cc

same_opens_match : (p : Place) (e f : Expr) → e ≡ f → opens_match p e ≡ opens_match p f
same_opens_match p e f q = cc

same_with : (cs ds : Cases) (e f : Expr) → cs ≡ ds → e ≡ f → with_cases cs e ≡ with_cases ds f
same_with cs ds e f p q = cc

same_cases : (p : Place) (cs ds : Cases) (e f : Expr) → cs ≡ ds → e ≡ f → cases p cs e ≡ cases p ds f
same_cases p cs ds e f q r = cc

same_block : (p : Place) (b c : Block) (e f : Expr) → b ≡ c → e ≡ f → block p b e ≡ block p c f
same_block p b c e f q r = cc

same_bracketed : (p : Place) (w v : Written) → w ≡ v → bracketed p w ≡ bracketed p v
same_bracketed p w v e = cc

same_group : (p : Place) (e f : Expr) → e ≡ f → group p e ≡ group p f
same_group p e f q = cc

same_annotated : (p : Place) (e f : Expr) (t u : TypeExpr) → e ≡ f → t ≡ u → annotated p e t ≡ annotated p f u
same_annotated p e f t u q r = cc

same_tuple : (p : Place) (e f : Expr) (es fs : Exprs) → e ≡ f → es ≡ fs → tuple p (more e es) ≡ tuple p (more f fs)
same_tuple p e f es fs q r = cc

same_list : (p : Place) (es fs : Exprs) → es ≡ fs → list p es ≡ list p fs
same_list p es fs q = cc

same_more : (e f : Expr) (es fs : Exprs) → e ≡ f → es ≡ fs → more e es ≡ more f fs
same_more e f es fs q r = cc

same_case : (x y : Pattern) (b c : Block) (cs ds : Cases) → x ≡ y → b ≡ c → cs ≡ ds → case x b cs ≡ case y c ds
same_case x y b c cs ds p q r = cc

same_guarded : (x y : Pattern) (g h : Expr) (b c : Block) (cs ds : Cases) → x ≡ y → g ≡ h → b ≡ c → cs ≡ ds → guarded x g b cs ≡ guarded y h c ds
same_guarded x y g h b c cs ds p q r s = cc

same_using : (p : Place) (w v : Written) (ws vs : List Written) (b c : Block) → w ≡ v → ws ≡ vs → b ≡ c → using p w ws b ≡ using p v vs c
same_using p w v ws vs b c q r s = cc

same_signature : (h k : Head) (t u : TypeExpr) (b c : Block) → h ≡ k → t ≡ u → b ≡ c → signature h t b ≡ signature k u c
same_signature h k t u b c p q r = cc

same_prefix : (h k : Head) (ps qs : List Param) (b c d e : Block) → h ≡ k → ps ≡ qs → b ≡ d → c ≡ e → prefix h ps b c ≡ prefix k qs d e
same_prefix h k ps qs b c d e p q r s = cc

same_infix : (p q r s : Param) (w v : Written) (b c d e : Block) → p ≡ r → w ≡ v → q ≡ s → b ≡ d → c ≡ e → infix_operator p w q b c ≡ infix_operator r v s d e
same_infix p q r s w v b c d e i j k l m = cc

pub right_reach : {t : Terminal} → IsRight t → 6 ≤ goes_on t
right_reach round = omega arith
right_reach square = omega arith

pub right_no_comma : {t : Terminal} (ts us : List Terminal) → IsRight t → t ∷ ts ≡ Comma ∷ us → ⊥
right_no_comma ts us round e = cc
right_no_comma ts us square e = cc

pub right_no_colon : (ts us : List Terminal) → Right ∷ ts ≡ Colon ∷ us → ⊥
right_no_colon ts us e = cc

pub comma_no_colon : (ts us : List Terminal) → Comma ∷ ts ≡ Colon ∷ us → ⊥
comma_no_colon ts us e = cc

arrow_no_bar : (ts us : List Terminal) → Arrow ∷ ts ≡ Bar ∷ us → ⊥
arrow_no_bar ts us e = cc

-- a token that goes on with less doesn't stand where one must go on with more
too_near : (us vs : List Terminal) (n m : ℕ) → us ≡ vs → reach vs ≡ n → m ≤ reach us → n + 1 ≤ m → ⊥
too_near us vs n m e f p q = let g : reach us ≡ reach vs = ap reach e in absurd (omega arith)

pub no_params_at_colon : {ts us : List Terminal} {ps : List Param} → ReadsParams (Colon ∷ ts) ps (Equals ∷ us) → ⊥
no_params_at_colon (more_params h i) = elim h [ ]

-- a binding of an operator between parameters doesn't begin with a head and `:`, nor with a head and parameters
pub no_infix_at_colon : {t u : Terminal} {ts us : List Terminal} {h : Head} {p : Param} {w : Written}
    → ReadsHead (t ∷ u ∷ ts) h (Colon ∷ us) → IsParam t p → IsOperator u w → ⊥
no_infix_at_colon (path_head i) j k = elim k [ ]
no_infix_at_colon (operator_head i) j k = no_param_operator j i
no_infix_at_colon (bracketed_head i) j k = elim j [ ]

no_params_at_operator : {t : Terminal} {ts us : List Terminal} {ps : List Param} {w : Written} → ReadsParams (t ∷ ts) ps (Equals ∷ us) → IsOperator t w → ⊥
no_params_at_operator no_param k = elim k [ ]
no_params_at_operator (more_params i h) k = no_param_operator i k

pub no_prefix_at_operator : {t u : Terminal} {ts us vs : List Terminal} {h : Head} {ps : List Param} {p : Param} {w : Written}
    → ReadsBound (t ∷ u ∷ ts) h us → ReadsParams us ps (Equals ∷ vs) → IsParam t p → IsOperator u w → ⊥
no_prefix_at_operator (path_bound i) h j k = no_params_at_operator h k
no_prefix_at_operator (bracketed_bound i) h j k = elim j [ ]

mutual
  pub one_expr : {ts : List Terminal} (us vs : List Terminal) (e f r s : Expr) → 6 ≤ reach us → 6 ≤ reach vs
      → ReadsExpr ts e us r → ReadsExpr ts f vs s → IsSame us vs r s e f
  one_expr us vs e f r s p q (lambda_expr h i) (lambda_expr k l) =
      let x = one_params _ _ _ _ refl refl h k in
      let y = one_block _ _ _ _ i (block_from _ _ _ _ (tail_same _ _ _ _ x.1) l) in
      (y.1, λ z. same_lambda _ _ _ _ _ _ x.0 y.0 z)
  one_expr us vs e f r s p q (lambda_expr h i) (or_expr k) = absurd (no_or_at_lambda h k q)
  one_expr us vs e f r s p q (or_expr h) (lambda_expr k l) = absurd (no_or_at_lambda k h p)
  one_expr us vs e f r s p q (or_expr h) (or_expr k) = one_or _ _ _ _ _ _ (omega arith) (omega arith) h k

  pub one_or : {ts : List Terminal} (us vs : List Terminal) (e f r s : Expr) → 5 ≤ reach us → 5 ≤ reach vs
      → ReadsOr ts e us r → ReadsOr ts f vs s → IsSame us vs r s e f
  one_or us vs e f r s p q (last_and h) (last_and k) = one_and _ _ _ _ _ _ (omega arith) (omega arith) h k
  one_or us vs e f r s p q (last_and h) (more_ands k l) =
      let x = one_and _ _ _ _ _ _ (omega arith) (omega arith) h k in absurd (too_near _ _ 4 5 x.0 refl p (omega arith))
  one_or us vs e f r s p q (more_ands h i) (last_and k) =
      let x = one_and _ _ _ _ _ _ (omega arith) (omega arith) h k in absurd (too_near _ _ 4 5 (sym x.0) refl q (omega arith))
  one_or us vs e f r s p q (more_ands h i) (more_ands k l) =
      let x = one_and _ _ _ _ _ _ (omega arith) (omega arith) h k in
      let y = one_or _ _ _ _ _ _ p q i (or_from _ _ _ _ _ (tail_same _ _ _ _ x.0) l) in
      (y.0, λ z. x.1 (ap or (y.1 z)))

  pub one_and : {ts : List Terminal} (us vs : List Terminal) (e f r s : Expr) → 4 ≤ reach us → 4 ≤ reach vs
      → ReadsAnd ts e us r → ReadsAnd ts f vs s → IsSame us vs r s e f
  one_and us vs e f r s p q (last_infix h) (last_infix k) = one_infix _ _ _ _ _ _ (omega arith) (omega arith) h k
  one_and us vs e f r s p q (last_infix h) (more_infixes k l) =
      let x = one_infix _ _ _ _ _ _ (omega arith) (omega arith) h k in absurd (too_near _ _ 3 4 x.0 refl p (omega arith))
  one_and us vs e f r s p q (more_infixes h i) (last_infix k) =
      let x = one_infix _ _ _ _ _ _ (omega arith) (omega arith) h k in absurd (too_near _ _ 3 4 (sym x.0) refl q (omega arith))
  one_and us vs e f r s p q (more_infixes h i) (more_infixes k l) =
      let x = one_infix _ _ _ _ _ _ (omega arith) (omega arith) h k in
      let y = one_and _ _ _ _ _ _ p q i (and_from _ _ _ _ _ (tail_same _ _ _ _ x.0) l) in
      (y.0, λ z. x.1 (ap and (y.1 z)))

  pub one_infix : {ts : List Terminal} (us vs : List Terminal) (e f r s : Expr) → 3 ≤ reach us → 3 ≤ reach vs
      → ReadsInfix ts e us r → ReadsInfix ts f vs s → IsSame us vs r s e f
  one_infix us vs e f r s p q (last_operand h) (last_operand k) = one_operand _ _ _ _ _ _ (omega arith) (omega arith) h k
  one_infix us vs e f r s p q (last_operand h) (more_operands k o l) =
      let n = operator_reach o in
      let x = one_operand _ _ _ _ _ _ (omega arith) (omega (arith, n)) h k in absurd (too_near _ _ 2 3 x.0 n p (omega arith))
  one_infix us vs e f r s p q (more_operands h o i) (last_operand k) =
      let n = operator_reach o in
      let x = one_operand _ _ _ _ _ _ (omega (arith, n)) (omega arith) h k in absurd (too_near _ _ 2 3 (sym x.0) n q (omega arith))
  one_infix us vs e f r s p q (more_operands h o i) (more_operands k n l) =
      let x = one_operand _ _ _ _ _ _ (omega (arith, operator_reach o)) (omega (arith, operator_reach n)) h k in
      let y = one_infix _ _ _ _ _ _ p q i (infix_from _ _ _ _ _ (tail_same _ _ _ _ x.0) l) in
      (y.0, λ z. x.1 (same_operator _ _ _ _ (operators_meet _ _ _ _ (head_same _ _ _ _ x.0) o n) (y.1 z)))

  pub one_operand : {ts : List Terminal} (us vs : List Terminal) (e f r s : Expr) → 2 ≤ reach us → 2 ≤ reach vs
      → ReadsOperand ts e us r → ReadsOperand ts f vs s → IsSame us vs r s e f
  one_operand us vs e f r s p q (atoms_operand h) (atoms_operand k) = one_atoms _ _ _ _ _ _ (omega arith) (omega arith) h k
  one_operand us vs e f r s p q (atoms_operand h) (atoms_form_operand k l) =
      let n = form_reach l in
      let x = one_atoms _ _ _ _ _ _ (omega arith) (omega (arith, n)) h k in absurd (too_near _ _ 1 2 x.0 n p (omega arith))
  one_operand us vs e f r s p q (atoms_operand h) (form_operand k) = absurd (omega (arith, atoms_reach h, form_reach k))
  one_operand us vs e f r s p q (atoms_form_operand h i) (atoms_operand k) =
      let n = form_reach i in
      let x = one_atoms _ _ _ _ _ _ (omega (arith, n)) (omega arith) h k in absurd (too_near _ _ 1 2 (sym x.0) n q (omega arith))
  one_operand us vs e f r s p q (atoms_form_operand h i) (atoms_form_operand k l) =
      let x = one_atoms _ _ _ _ _ _ (omega (arith, form_reach i)) (omega (arith, form_reach l)) h k in
      let y = one_form _ _ _ _ _ _ i (form_from _ _ _ _ _ x.0 l) in
      (y.0, λ z. x.1 (y.1 z))
  one_operand us vs e f r s p q (atoms_form_operand h i) (form_operand k) = absurd (omega (arith, atoms_reach h, form_reach k))
  one_operand us vs e f r s p q (form_operand h) (atoms_operand k) = absurd (omega (arith, form_reach h, atoms_reach k))
  one_operand us vs e f r s p q (form_operand h) (atoms_form_operand k l) = absurd (omega (arith, form_reach h, atoms_reach k))
  one_operand us vs e f r s p q (form_operand h) (form_operand k) = one_form _ _ _ _ _ _ h k

  pub one_atoms : {ts : List Terminal} (us vs : List Terminal) (e f r s : Expr) → 1 ≤ reach us → 1 ≤ reach vs
      → ReadsAtoms ts e us r → ReadsAtoms ts f vs s → IsSame us vs r s e f
  one_atoms us vs e f r s p q (last_atom h) (last_atom k) =
      let x = one_atom _ _ _ _ h k in (x.1, λ z. same_atom _ _ _ _ x.0 z)
  one_atoms us vs e f r s p q (last_atom h) (more_atoms k l) =
      let x = one_atom _ _ _ _ h k in absurd (too_near _ _ 0 1 x.1 (atoms_reach l) p (omega arith))
  one_atoms us vs e f r s p q (more_atoms h i) (last_atom k) =
      let x = one_atom _ _ _ _ h k in absurd (too_near _ _ 0 1 (sym x.1) (atoms_reach i) q (omega arith))
  one_atoms us vs e f r s p q (more_atoms h i) (more_atoms k l) =
      let x = one_atom _ _ _ _ h k in
      let y = one_atoms _ _ _ _ _ _ p q i (atoms_from _ _ _ _ _ x.1 l) in
      (y.0, λ z. same_atom _ _ _ _ x.0 (y.1 z))

  pub one_form : {ts : List Terminal} (us vs : List Terminal) (e f r s : Expr) → ReadsForm ts e us r → ReadsForm ts f vs s → IsSame us vs r s e f
  one_form us vs e f r s (if_form h i j) (if_form k l m) =
      let x = one_expr _ _ _ _ _ _ (omega arith) (omega arith) h k in
      let y = one_block _ _ _ _ i (block_from _ _ _ _ (tail_same _ _ _ _ x.0) l) in
      let z = one_block _ _ _ _ j (block_from _ _ _ _ (tail_same _ _ _ _ y.1) m) in
      (z.1, λ w. same_opens_if _ _ _ (x.1 (same_branches _ _ _ _ _ _ y.0 z.0 w)))
  one_form us vs e f r s (match_form h i) (match_form k l) =
      let x = one_expr _ _ _ _ _ _ (omega arith) (omega arith) h k in
      let y = one_cases _ _ _ _ i (cases_from _ _ _ _ (tail_same _ _ _ _ x.0) l) in
      (y.1, λ w. same_opens_match _ _ _ (x.1 (same_with _ _ _ _ y.0 w)))
  one_form us vs e f r s (cases_form h) (cases_form k) = let x = one_cases _ _ _ _ h k in (x.1, λ w. same_cases _ _ _ _ _ x.0 w)
  one_form us vs e f r s (let_form h) (let_form k) = let x = one_block _ _ _ _ h k in (x.1, λ w. same_block _ _ _ _ _ x.0 w)

  pub one_atom : {ts : List Terminal} (us vs : List Terminal) (a b : Atom) → ReadsAtom ts a us → ReadsAtom ts b vs → (a ≡ b) × (us ≡ vs)
  one_atom us vs a b (path_atom small_path) (path_atom small_path) = (refl, refl)
  one_atom us vs a b (path_atom capital_path) (path_atom capital_path) = (refl, refl)
  one_atom us vs a b (path_atom dotted_path) (path_atom dotted_path) = (refl, refl)
  one_atom us vs a b literal_atom literal_atom = (refl, refl)
  one_atom us vs a b literal_atom (path_atom k) = elim k [ ]
  one_atom us vs a b reference_atom reference_atom = (refl, refl)
  one_atom us vs a b reference_atom (path_atom k) = elim k [ ]
  one_atom us vs a b (bracketed_atom h) (path_atom k) = elim k [ ]
  one_atom us vs a b (bracketed_atom h) (bracketed_atom k) = (same_bracketed _ _ _ (one_operator h k), refl)
  one_atom us vs a b (bracketed_atom h) unit_atom = elim h [ ]
  one_atom us vs a b (bracketed_atom h) (group_atom k) = absurd (no_expr_at_operator h k)
  one_atom us vs a b (bracketed_atom h) (annotated_atom k l) = absurd (no_expr_at_operator h k)
  one_atom us vs a b (bracketed_atom h) (tuple_atom k l) = absurd (no_expr_at_operator h k)
  one_atom us vs a b unit_atom (path_atom k) = elim k [ ]
  one_atom us vs a b unit_atom (bracketed_atom k) = elim k [ ]
  one_atom us vs a b unit_atom unit_atom = (refl, refl)
  one_atom us vs a b unit_atom (group_atom k) = absurd (no_expr_at_right k)
  one_atom us vs a b unit_atom (annotated_atom k l) = absurd (no_expr_at_right k)
  one_atom us vs a b unit_atom (tuple_atom k l) = absurd (no_expr_at_right k)
  one_atom us vs a b (group_atom h) (path_atom k) = elim k [ ]
  one_atom us vs a b (group_atom h) (bracketed_atom k) = absurd (no_expr_at_operator k h)
  one_atom us vs a b (group_atom h) unit_atom = absurd (no_expr_at_right h)
  one_atom us vs a b (group_atom h) (group_atom k) =
      let x = one_expr _ _ _ _ _ _ (omega arith) (omega arith) h k in (same_group _ _ _ (x.1 refl), tail_same _ _ _ _ x.0)
  one_atom us vs a b (group_atom h) (annotated_atom k l) =
      let x = one_expr _ _ _ _ _ _ (omega arith) (omega arith) h k in absurd (right_no_colon _ _ x.0)
  one_atom us vs a b (group_atom h) (tuple_atom k l) =
      let x = one_expr _ _ _ _ _ _ (omega arith) (omega arith) h k in absurd (right_no_comma _ _ round x.0)
  one_atom us vs a b (annotated_atom h i) (path_atom k) = elim k [ ]
  one_atom us vs a b (annotated_atom h i) (bracketed_atom k) = absurd (no_expr_at_operator k h)
  one_atom us vs a b (annotated_atom h i) unit_atom = absurd (no_expr_at_right h)
  one_atom us vs a b (annotated_atom h i) (group_atom k) =
      let x = one_expr _ _ _ _ _ _ (omega arith) (omega arith) h k in absurd (right_no_colon _ _ (sym x.0))
  one_atom us vs a b (annotated_atom h i) (annotated_atom k l) =
      let x = one_expr _ _ _ _ _ _ (omega arith) (omega arith) h k in
      let y = one_type _ _ _ _ refl refl i (type_from _ _ _ _ (tail_same _ _ _ _ x.0) l) in
      (same_annotated _ _ _ _ _ (x.1 refl) y.0, tail_same _ _ _ _ y.1)
  one_atom us vs a b (annotated_atom h i) (tuple_atom k l) =
      let x = one_expr _ _ _ _ _ _ (omega arith) (omega arith) h k in absurd (comma_no_colon _ _ (sym x.0))
  one_atom us vs a b (tuple_atom h i) (path_atom k) = elim k [ ]
  one_atom us vs a b (tuple_atom h i) (bracketed_atom k) = absurd (no_expr_at_operator k h)
  one_atom us vs a b (tuple_atom h i) unit_atom = absurd (no_expr_at_right h)
  one_atom us vs a b (tuple_atom h i) (group_atom k) =
      let x = one_expr _ _ _ _ _ _ (omega arith) (omega arith) h k in absurd (right_no_comma _ _ round (sym x.0))
  one_atom us vs a b (tuple_atom h i) (annotated_atom k l) =
      let x = one_expr _ _ _ _ _ _ (omega arith) (omega arith) h k in absurd (comma_no_colon _ _ x.0)
  one_atom us vs a b (tuple_atom h i) (tuple_atom k l) =
      let x = one_expr _ _ _ _ _ _ (omega arith) (omega arith) h k in
      let y = one_exprs round _ _ _ _ i (exprs_from _ _ _ _ _ (tail_same _ _ _ _ x.0) l) in
      (same_tuple _ _ _ _ _ (x.1 refl) y.0, y.1)
  one_atom us vs a b empty_list_atom (path_atom k) = elim k [ ]
  one_atom us vs a b empty_list_atom empty_list_atom = (refl, refl)
  one_atom us vs a b empty_list_atom (list_atom k) = absurd (no_exprs_at_square k)
  one_atom us vs a b (list_atom h) (path_atom k) = elim k [ ]
  one_atom us vs a b (list_atom h) empty_list_atom = absurd (no_exprs_at_square h)
  one_atom us vs a b (list_atom h) (list_atom k) = let x = one_exprs square _ _ _ _ h k in (same_list _ _ _ x.0, x.1)
  one_atom us vs a b (path_atom h) literal_atom = elim h [ ]
  one_atom us vs a b (path_atom h) reference_atom = elim h [ ]
  one_atom us vs a b (path_atom h) (bracketed_atom k) = elim h [ ]
  one_atom us vs a b (path_atom h) unit_atom = elim h [ ]
  one_atom us vs a b (path_atom h) (group_atom k) = elim h [ ]
  one_atom us vs a b (path_atom h) (annotated_atom k l) = elim h [ ]
  one_atom us vs a b (path_atom h) (tuple_atom k l) = elim h [ ]
  one_atom us vs a b (path_atom h) empty_list_atom = elim h [ ]
  one_atom us vs a b (path_atom h) (list_atom k) = elim h [ ]

  pub one_exprs : {t : Terminal} {ts : List Terminal} → IsRight t → (us vs : List Terminal) (a b : Exprs) → ReadsExprs t ts a us → ReadsExprs t ts b vs → (a ≡ b) × (us ≡ vs)
  one_exprs i us vs a b (last_expr h) (last_expr k) =
      let x = one_expr _ _ _ _ _ _ (right_reach i) (right_reach i) h k in (same_more _ _ _ _ (x.1 refl) refl, tail_same _ _ _ _ x.0)
  one_exprs i us vs a b (last_expr h) (more_exprs k l) =
      let x = one_expr _ _ _ _ _ _ (right_reach i) (omega arith) h k in absurd (right_no_comma _ _ i x.0)
  one_exprs i us vs a b (more_exprs h j) (last_expr k) =
      let x = one_expr _ _ _ _ _ _ (omega arith) (right_reach i) h k in absurd (right_no_comma _ _ i (sym x.0))
  one_exprs i us vs a b (more_exprs h j) (more_exprs k l) =
      let x = one_expr _ _ _ _ _ _ (omega arith) (omega arith) h k in
      let y = one_exprs i _ _ _ _ j (exprs_from _ _ _ _ _ (tail_same _ _ _ _ x.0) l) in
      (same_more _ _ _ _ (x.1 refl) y.0, y.1)

  pub one_cases : {ts : List Terminal} (us vs : List Terminal) (a b : Cases) → ReadsCases ts a us → ReadsCases ts b vs → (a ≡ b) × (us ≡ vs)
  one_cases us vs a b (cases_block h i) (cases_block k l) = one_case_items _ _ _ _ h k

  pub one_case_items : {ts : List Terminal} (us vs : List Terminal) (a b : Cases) → ReadsCaseItems ts a us → ReadsCaseItems ts b vs → (a ≡ b) × (us ≡ vs)
  one_case_items us vs a b no_case_item no_case_item = (refl, refl)
  one_case_items us vs a b (case_item h i j) (case_item k l m) =
      let x = one_pattern _ _ _ _ refl refl h k in
      let y = one_block _ _ _ _ i (block_from _ _ _ _ (tail_same _ _ _ _ x.1) l) in
      let z = one_case_items _ _ _ _ j (case_items_from _ _ _ _ y.1 m) in
      (same_case _ _ _ _ _ _ x.0 y.0 z.0, z.1)
  one_case_items us vs a b (case_item h i j) (guarded_item k l m n) =
      let x = one_pattern _ _ _ _ refl refl h k in absurd (arrow_no_bar _ _ x.1)
  one_case_items us vs a b (guarded_item h i j o) (case_item k l m) =
      let x = one_pattern _ _ _ _ refl refl h k in absurd (arrow_no_bar _ _ (sym x.1))
  one_case_items us vs a b (guarded_item h (or_expr i) j o) (guarded_item k (or_expr l) m n) =
      let x = one_pattern _ _ _ _ refl refl h k in
      let y = one_or _ _ _ _ _ _ (omega arith) (omega arith) i (or_from _ _ _ _ _ (tail_same _ _ _ _ x.1) l) in
      let z = one_block _ _ _ _ j (block_from _ _ _ _ (tail_same _ _ _ _ y.0) m) in
      let w = one_case_items _ _ _ _ o (case_items_from _ _ _ _ z.1 n) in
      (same_guarded _ _ _ _ _ _ _ _ x.0 (y.1 refl) z.0 w.0, w.1)
  one_case_items us vs a b (guarded_item h (lambda_expr i j) p o) (guarded_item k (lambda_expr l m) q n) =
      let x = one_pattern _ _ _ _ refl refl h k in
      let y = one_params _ _ _ _ refl refl i (params_from _ _ _ _ (tail_same _ _ _ _ x.1) l) in
      let z = one_block _ _ _ _ j (block_from _ _ _ _ (tail_same _ _ _ _ y.1) m) in
      let u = one_block _ _ _ _ p (block_from _ _ _ _ (tail_same _ _ _ _ z.1) q) in
      let w = one_case_items _ _ _ _ o (case_items_from _ _ _ _ u.1 n) in
      (same_guarded _ _ _ _ _ _ _ _ x.0 (same_lambda _ _ _ _ _ _ y.0 z.0 refl) u.0 w.0, w.1)
  one_case_items us vs a b (guarded_item h (lambda_expr i j) p o) (guarded_item k (or_expr l) m n) =
      let x = one_pattern _ _ _ _ refl refl h k in
      let y = at_same_arrow i (or_from _ _ _ _ _ (tail_same _ _ _ _ x.1) l) in
      let z = one_block _ _ _ _ j (block_from _ _ _ _ (sym y) m) in
      absurd (no_case_at_arrow (case_items_from _ _ _ _ z.1 n))
  one_case_items us vs a b (guarded_item h (or_expr i) p o) (guarded_item k (lambda_expr l m) q n) =
      let x = one_pattern _ _ _ _ refl refl h k in
      let y = at_same_arrow (params_from _ _ _ _ (tail_same _ _ _ _ x.1) l) i in
      let z = one_block _ _ _ _ p (block_from _ _ _ _ y m) in
      absurd (no_case_at_arrow (case_items_from _ _ _ _ (sym z.1) o))

  pub one_block : {ts : List Terminal} (us vs : List Terminal) (a b : Block) → ReadsBlock ts a us → ReadsBlock ts b vs → (a ≡ b) × (us ≡ vs)
  one_block us vs a b (block_block h) (block_block k) = one_block_items _ _ _ _ h k

  pub one_block_items : {ts : List Terminal} (us vs : List Terminal) (a b : Block) → ReadsBlockItems ts a us → ReadsBlockItems ts b vs → (a ≡ b) × (us ≡ vs)
  one_block_items us vs a b (result_item h) (result_item k) =
      let x = one_expr _ _ _ _ _ _ (omega arith) (omega arith) h k in (ap result (x.1 refl), tail_same _ _ _ _ x.0)
  one_block_items us vs a b (result_item h) (use_item k l m) = absurd (no_expr_at_use h)
  one_block_items us vs a b (result_item h) (signature_item k l m) = absurd (no_result colon_binder (head_stuck k at_stop) h)
  one_block_items us vs a b (result_item h) (prefix_item k l m n o) = absurd (no_result equals_binder (head_stuck (bound_head k) (params_stuck m)) h)
  one_block_items us vs a b (result_item h) (infix_item k l m n o p) =
      absurd (no_result equals_binder (param_stuck k (at_operator l (param_stuck n at_stop))) h)
  one_block_items us vs a b (use_item h i j) (result_item k) = absurd (no_expr_at_use k)
  one_block_items us vs a b (use_item h i j) (use_item k l m) =
      let x = one_used _ _ _ _ (items_reach j) (items_reach m) i l in
      let y = one_block_items _ _ _ _ j (block_items_from _ _ _ _ x.1 m) in
      (same_using _ _ _ _ _ _ _ (one_path h k) x.0 y.0, y.1)
  one_block_items us vs a b (use_item h i j) (signature_item (path_head k) l m) = elim k [ ]
  one_block_items us vs a b (use_item h i j) (signature_item (operator_head k) l m) = elim k [ ]
  one_block_items us vs a b (use_item h i j) (prefix_item (path_bound k) l m n o) = elim k [ ]
  one_block_items us vs a b (use_item h i j) (infix_item k l m n o p) = elim k [ ]
  one_block_items us vs a b (signature_item h i j) (result_item k) = absurd (no_result colon_binder (head_stuck h at_stop) k)
  one_block_items us vs a b (signature_item (path_head h) i j) (use_item k l m) = elim h [ ]
  one_block_items us vs a b (signature_item (operator_head h) i j) (use_item k l m) = elim h [ ]
  one_block_items us vs a b (signature_item h i j) (signature_item k l m) =
      let x = one_head _ _ _ _ h k in
      let y = one_type _ _ _ _ (items_end_type j) (items_end_type m) i (type_from _ _ _ _ (tail_same _ _ _ _ x.1) l) in
      let z = one_block_items _ _ _ _ j (block_items_from _ _ _ _ y.1 m) in
      (same_signature _ _ _ _ _ _ x.0 y.0 z.0, z.1)
  one_block_items us vs a b (signature_item h i j) (prefix_item k l m n o) =
      let x = one_head _ _ _ _ h (bound_head k) in absurd (no_params_at_colon (params_from _ _ _ _ x.1 m))
  one_block_items us vs a b (signature_item h i j) (infix_item k l m n o p) = absurd (no_infix_at_colon h k l)
  one_block_items us vs a b (prefix_item h i j k l) (result_item m) = absurd (no_result equals_binder (head_stuck (bound_head h) (params_stuck j)) m)
  one_block_items us vs a b (prefix_item (path_bound h) i j k l) (use_item m n o) = elim h [ ]
  one_block_items us vs a b (prefix_item h i j k l) (signature_item m n o) =
      let x = one_head _ _ _ _ m (bound_head h) in absurd (no_params_at_colon (params_from _ _ _ _ x.1 j))
  one_block_items us vs a b (prefix_item h i j k l) (prefix_item m n o p q) =
      let x = one_head _ _ _ _ (bound_head h) (bound_head m) in
      let y = one_params _ _ _ _ refl refl j (params_from _ _ _ _ x.1 o) in
      let z = one_block _ _ _ _ k (block_from _ _ _ _ (tail_same _ _ _ _ y.1) p) in
      let w = one_block_items _ _ _ _ l (block_items_from _ _ _ _ z.1 q) in
      (same_prefix _ _ _ _ _ _ _ _ x.0 y.0 z.0 w.0, w.1)
  one_block_items us vs a b (prefix_item h i j k l) (infix_item m n o p q r) = absurd (no_prefix_at_operator h j m n)
  one_block_items us vs a b (infix_item h i j k l m) (result_item n) =
      absurd (no_result equals_binder (param_stuck h (at_operator i (param_stuck k at_stop))) n)
  one_block_items us vs a b (infix_item h i j k l m) (use_item n o p) = elim h [ ]
  one_block_items us vs a b (infix_item h i j k l m) (signature_item n o p) = absurd (no_infix_at_colon n h i)
  one_block_items us vs a b (infix_item h i j k l m) (prefix_item n o p q r) = absurd (no_prefix_at_operator n p h i)
  one_block_items us vs a b (infix_item h i j k l m) (infix_item n o p q r s) =
      let x = one_block _ _ _ _ l r in
      let y = one_block_items _ _ _ _ m (block_items_from _ _ _ _ x.1 s) in
      (same_infix _ _ _ _ _ _ _ _ _ _ (one_param h n) (one_operator i o) (one_param k q) x.0 y.0, y.1)
