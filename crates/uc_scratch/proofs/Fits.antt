-- What is read has its brackets and blocks closed: as many levels may be opened behind it as before it.
use Rattle.std.proofs.Common.{◌≡◌, ℕ, zero, suc, ◌-◌, ◌<◌, Bool, true, false, List, [], ◌∷◌, refl, sym, ap, ◌∙◌, arith}
use Rattle.uc_base.specs.declared.place.Place.{Place}
use Rattle.uc_scratch.specs.declared.written.Written.{Written}
use Rattle.uc_scratch.specs.declared.written.Con.{Con}
use Rattle.uc_scratch.specs.declared.written.Param.{Param}
use Rattle.uc_scratch.specs.declared.written.Head.{Head}
use Rattle.uc_scratch.specs.declared.terminal.Terminal.{Terminal}
use Rattle.uc_scratch.specs.declared.terminal.Terminal.TheVariants.{Left, Right, Equals}
use Rattle.uc_scratch.specs.TypeExprs as type
use Rattle.uc_scratch.specs.Patterns as pattern
use Rattle.uc_scratch.specs.Exprs.{Expr, Atom, Exprs, Cases, Block}
use Rattle.uc_scratch.specs.Terminals.{IsWord, small_word, capital_word, IsPath, small_path, capital_path, dotted_path, IsOperator, cons_operator, snoc_operator, greater_operator, other_operator, IsCon, capital_con, dotted_con, reference_con, IsParam, small_param, capital_param, any_param}
use Rattle.uc_scratch.specs.TypeGrammar.{ReadsVariables, no_variable, more_variables, ReadsType, forall_type, arrow_type, operand_type, ReadsTypeOperand, applied_type, atom_type, ReadsTypeAtoms, no_type_atom, more_type_atoms, ReadsTypeAtom, variable_type, constant_type, unit_type, group_type, tuple_type, list_type, ReadsTypes, last_type, more_types}
use Rattle.uc_scratch.specs.PatternGrammar.{ReadsPattern, cons_pattern, snoc_pattern, ReadsSnocs, no_snoc, more_snocs, ReadsPatternOperand, applied_pattern, atom_pattern, ReadsPatternAtoms, no_pattern_atom, more_pattern_atoms, ReadsPatternAtom, any_pattern, variable_pattern, named_pattern, literal_pattern, constant_pattern, unit_pattern, group_pattern, tuple_pattern, empty_list_pattern, list_pattern, ReadsPatterns, last_pattern, more_patterns}
use Rattle.uc_scratch.specs.ExprGrammar.{ReadsParams, no_param, more_params, ReadsUsed, no_used, used_word, used_operator, ReadsHead, path_head, bracketed_head, operator_head, ReadsBound, path_bound, bracketed_bound, ReadsExpr, lambda_expr, or_expr, ReadsOr, last_and, more_ands, ReadsAnd, last_infix, more_infixes, ReadsInfix, last_operand, more_operands, ReadsOperand, atoms_operand, atoms_form_operand, form_operand, ReadsAtoms, last_atom, more_atoms, ReadsForm, if_form, match_form, cases_form, let_form, ReadsAtom, path_atom, bracketed_atom, literal_atom, reference_atom, unit_atom, group_atom, annotated_atom, tuple_atom, empty_list_atom, list_atom, ReadsExprs, last_expr, more_exprs, ReadsCases, cases_block, ReadsCaseItems, no_case_item, case_item, guarded_item, ReadsBlock, block_block, ReadsBlockItems, result_item, use_item, signature_item, prefix_item, infix_item}
use Rattle.uc_scratch.specs.Nesting.{fits}
use Rattle.uc_scratch.specs.Marks.{IsRight, round, square}

pub fits_con : (n : ℕ) {t : Terminal} (ts : List Terminal) {c : Con} → IsCon t c → fits n (t ∷ ts) ≡ true → fits n ts ≡ true
fits_con n ts capital_con f = f
fits_con n ts dotted_con f = f
fits_con n ts reference_con f = f

pub fits_word : (n : ℕ) {t : Terminal} (ts : List Terminal) {w : Written} → IsWord t w → fits n (t ∷ ts) ≡ true → fits n ts ≡ true
fits_word n ts small_word f = f
fits_word n ts capital_word f = f

pub fits_path : (n : ℕ) {t : Terminal} (ts : List Terminal) {w : Written} → IsPath t w → fits n (t ∷ ts) ≡ true → fits n ts ≡ true
fits_path n ts small_path f = f
fits_path n ts capital_path f = f
fits_path n ts dotted_path f = f

pub fits_operator : (n : ℕ) {t : Terminal} (ts : List Terminal) {w : Written} → IsOperator t w → fits n (t ∷ ts) ≡ true → fits n ts ≡ true
fits_operator n ts cons_operator f = f
fits_operator n ts snoc_operator f = f
fits_operator n ts greater_operator f = f
fits_operator n ts other_operator f = f

pub fits_param : (n : ℕ) {t : Terminal} (ts : List Terminal) {p : Param} → IsParam t p → fits n (t ∷ ts) ≡ true → fits n ts ≡ true
fits_param n ts small_param f = f
fits_param n ts capital_param f = f
fits_param n ts any_param f = f

fits_right : (n : ℕ) {t : Terminal} (ts : List Terminal) → IsRight t → fits n (t ∷ ts) ≡ true → fits (suc n) ts ≡ true
fits_right n ts round f = f
fits_right n ts square f = f

-- an operator in brackets
fits_bracketed : (n : ℕ) {t : Terminal} (ts : List Terminal) {w : Written} (p : Place) → IsOperator t w → fits n (Left p ∷ t ∷ Right ∷ ts) ≡ true → fits n ts ≡ true
fits_bracketed zero ts p h f = cc
fits_bracketed (suc n) ts p cons_operator f = f
fits_bracketed (suc n) ts p snoc_operator f = f
fits_bracketed (suc n) ts p greater_operator f = f
fits_bracketed (suc n) ts p other_operator f = f

pub fits_variables : (n : ℕ) {ts us : List Terminal} {ws : List Written} → ReadsVariables ts ws us → fits n ts ≡ true → fits n us ≡ true
fits_variables n no_variable f = f
fits_variables n (more_variables h) f = fits_variables n h f

mutual
  pub fits_type : (n : ℕ) {ts us : List Terminal} {t : type.TypeExpr} → ReadsType ts t us → fits n ts ≡ true → fits n us ≡ true
  fits_type n (forall_type h i) f = fits_type n i (fits_variables n h f)
  fits_type n (arrow_type h i) f = fits_type n i (fits_type_operand n h f)
  fits_type n (operand_type h) f = fits_type_operand n h f

  pub fits_type_operand : (n : ℕ) {ts us : List Terminal} {a : type.TypeOperand} → ReadsTypeOperand ts a us → fits n ts ≡ true → fits n us ≡ true
  fits_type_operand n (applied_type {ts = ts} h i) f = fits_type_atoms n i (fits_con n ts h f)
  fits_type_operand n (atom_type h) f = fits_type_atom n h f

  pub fits_type_atoms : (n : ℕ) {ts us : List Terminal} {a : type.TypeAtoms} → ReadsTypeAtoms ts a us → fits n ts ≡ true → fits n us ≡ true
  fits_type_atoms n no_type_atom f = f
  fits_type_atoms n (more_type_atoms h i) f = fits_type_atoms n i (fits_type_atom n h f)

  pub fits_type_atom : (n : ℕ) {ts us : List Terminal} {a : type.TypeAtom} → ReadsTypeAtom ts a us → fits n ts ≡ true → fits n us ≡ true
  fits_type_atom n variable_type f = f
  fits_type_atom n (constant_type {ts = ts} h) f = fits_con n ts h f
  fits_type_atom zero unit_type f = cc
  fits_type_atom (suc n) unit_type f = f
  fits_type_atom zero (group_type h) f = cc
  fits_type_atom (suc n) (group_type h) f = fits_type n h f
  fits_type_atom zero (tuple_type h i) f = cc
  fits_type_atom (suc n) (tuple_type h i) f = fits_types n i (fits_type n h f)
  fits_type_atom zero (list_type h) f = cc
  fits_type_atom (suc n) (list_type h) f = fits_type n h f

  -- the bracket behind them is closed too
  pub fits_types : (n : ℕ) {ts us : List Terminal} {a : type.TypeExprs} → ReadsTypes ts a us → fits n ts ≡ true → fits (suc n) us ≡ true
  fits_types n (last_type h) f = fits_type n h f
  fits_types n (more_types h i) f = fits_types n i (fits_type n h f)

mutual
  pub fits_pattern : (n : ℕ) {ts us : List Terminal} {x : pattern.Pattern} → ReadsPattern ts x us → fits n ts ≡ true → fits n us ≡ true
  fits_pattern n (cons_pattern h i) f = fits_pattern n i (fits_pattern_operand n h f)
  fits_pattern n (snoc_pattern h i) f = fits_snocs n i (fits_pattern_operand n h f)

  pub fits_snocs : (n : ℕ) {ts us : List Terminal} {x : pattern.PatternOperands} → ReadsSnocs ts x us → fits n ts ≡ true → fits n us ≡ true
  fits_snocs n no_snoc f = f
  fits_snocs n (more_snocs h i) f = fits_snocs n i (fits_pattern_operand n h f)

  pub fits_pattern_operand : (n : ℕ) {ts us : List Terminal} {a : pattern.PatternOperand} → ReadsPatternOperand ts a us → fits n ts ≡ true → fits n us ≡ true
  fits_pattern_operand n (applied_pattern {ts = ts} h i) f = fits_pattern_atoms n i (fits_con n ts h f)
  fits_pattern_operand n (atom_pattern h) f = fits_pattern_atom n h f

  pub fits_pattern_atoms : (n : ℕ) {ts us : List Terminal} {a : pattern.PatternAtoms} → ReadsPatternAtoms ts a us → fits n ts ≡ true → fits n us ≡ true
  fits_pattern_atoms n no_pattern_atom f = f
  fits_pattern_atoms n (more_pattern_atoms h i) f = fits_pattern_atoms n i (fits_pattern_atom n h f)

  pub fits_pattern_atom : (n : ℕ) {ts us : List Terminal} {a : pattern.PatternAtom} → ReadsPatternAtom ts a us → fits n ts ≡ true → fits n us ≡ true
  fits_pattern_atom n any_pattern f = f
  fits_pattern_atom n variable_pattern f = f
  fits_pattern_atom n (named_pattern h) f = fits_pattern_atom n h f
  fits_pattern_atom n literal_pattern f = f
  fits_pattern_atom n (constant_pattern {ts = ts} h) f = fits_con n ts h f
  fits_pattern_atom zero unit_pattern f = cc
  fits_pattern_atom (suc n) unit_pattern f = f
  fits_pattern_atom zero (group_pattern h) f = cc
  fits_pattern_atom (suc n) (group_pattern h) f = fits_pattern n h f
  fits_pattern_atom zero (tuple_pattern h i) f = cc
  fits_pattern_atom (suc n) (tuple_pattern h i) f = fits_patterns n round i (fits_pattern n h f)
  fits_pattern_atom zero empty_list_pattern f = cc
  fits_pattern_atom (suc n) empty_list_pattern f = f
  fits_pattern_atom zero (list_pattern h) f = cc
  fits_pattern_atom (suc n) (list_pattern h) f = fits_patterns n square h f

  -- the bracket behind them is closed too
  pub fits_patterns : (n : ℕ) {t : Terminal} {ts us : List Terminal} {x : pattern.Patterns} → IsRight t → ReadsPatterns t ts x us → fits n ts ≡ true → fits (suc n) us ≡ true
  fits_patterns n r (last_pattern {us = us} h) f = fits_right n us r (fits_pattern n h f)
  fits_patterns n r (more_patterns h i) f = fits_patterns n r i (fits_pattern n h f)

pub fits_params : (n : ℕ) {ts us : List Terminal} {ps : List Param} → ReadsParams ts ps us → fits n ts ≡ true → fits n us ≡ true
fits_params n no_param f = f
fits_params n (more_params {ts = ts} h i) f = fits_params n i (fits_param n ts h f)

pub fits_used : (n : ℕ) {ts us : List Terminal} {ws : List Written} → ReadsUsed ts ws us → fits n ts ≡ true → fits n us ≡ true
fits_used n no_used f = f
fits_used n (used_word {ts = ts} h i) f = fits_used n i (fits_word n ts h f)
fits_used n (used_operator {ts = ts} h i) f = fits_used n i (fits_operator n ts h f)

pub fits_head : (n : ℕ) {ts us : List Terminal} {h : Head} → ReadsHead ts h us → fits n ts ≡ true → fits n us ≡ true
fits_head n (path_head {ts = ts} h) f = fits_path n ts h f
fits_head n (bracketed_head {p = p} {ts = ts} h) f = fits_bracketed n ts p h f
fits_head n (operator_head {ts = ts} h) f = fits_operator n ts h f

pub fits_bound : (n : ℕ) {ts us : List Terminal} {h : Head} → ReadsBound ts h us → fits n ts ≡ true → fits n us ≡ true
fits_bound n (path_bound {ts = ts} h) f = fits_path n ts h f
fits_bound n (bracketed_bound {p = p} {ts = ts} h) f = fits_bracketed n ts p h f

mutual
  pub fits_expr : (n : ℕ) {ts us : List Terminal} {e r : Expr} → ReadsExpr ts e us r → fits n ts ≡ true → fits n us ≡ true
  fits_expr n (lambda_expr h i) f = fits_block n i (fits_params n h f)
  fits_expr n (or_expr h) f = fits_or n h f

  pub fits_or : (n : ℕ) {ts us : List Terminal} {e r : Expr} → ReadsOr ts e us r → fits n ts ≡ true → fits n us ≡ true
  fits_or n (last_and h) f = fits_and n h f
  fits_or n (more_ands h i) f = fits_or n i (fits_and n h f)

  pub fits_and : (n : ℕ) {ts us : List Terminal} {e r : Expr} → ReadsAnd ts e us r → fits n ts ≡ true → fits n us ≡ true
  fits_and n (last_infix h) f = fits_infix n h f
  fits_and n (more_infixes h i) f = fits_and n i (fits_infix n h f)

  pub fits_infix : (n : ℕ) {ts us : List Terminal} {e r : Expr} → ReadsInfix ts e us r → fits n ts ≡ true → fits n us ≡ true
  fits_infix n (last_operand h) f = fits_operand n h f
  fits_infix n (more_operands {us = us} h o i) f = fits_infix n i (fits_operator n us o (fits_operand n h f))

  pub fits_operand : (n : ℕ) {ts us : List Terminal} {e r : Expr} → ReadsOperand ts e us r → fits n ts ≡ true → fits n us ≡ true
  fits_operand n (atoms_operand h) f = fits_atoms n h f
  fits_operand n (atoms_form_operand h i) f = fits_form n i (fits_atoms n h f)
  fits_operand n (form_operand h) f = fits_form n h f

  pub fits_atoms : (n : ℕ) {ts us : List Terminal} {e r : Expr} → ReadsAtoms ts e us r → fits n ts ≡ true → fits n us ≡ true
  fits_atoms n (last_atom h) f = fits_atom n h f
  fits_atoms n (more_atoms h i) f = fits_atoms n i (fits_atom n h f)

  pub fits_form : (n : ℕ) {ts us : List Terminal} {e r : Expr} → ReadsForm ts e us r → fits n ts ≡ true → fits n us ≡ true
  fits_form n (if_form h i j) f = fits_block n j (fits_block n i (fits_expr n h f))
  fits_form n (match_form h i) f = fits_cases n i (fits_expr n h f)
  fits_form n (cases_form h) f = fits_cases n h f
  fits_form n (let_form h) f = fits_block n h f

  pub fits_atom : (n : ℕ) {ts us : List Terminal} {a : Atom} → ReadsAtom ts a us → fits n ts ≡ true → fits n us ≡ true
  fits_atom n (path_atom {ts = ts} h) f = fits_path n ts h f
  fits_atom n (bracketed_atom {p = p} {ts = ts} h) f = fits_bracketed n ts p h f
  fits_atom n literal_atom f = f
  fits_atom n reference_atom f = f
  fits_atom zero unit_atom f = cc
  fits_atom (suc n) unit_atom f = f
  fits_atom zero (group_atom h) f = cc
  fits_atom (suc n) (group_atom h) f = fits_expr n h f
  fits_atom zero (annotated_atom h i) f = cc
  fits_atom (suc n) (annotated_atom h i) f = fits_type n i (fits_expr n h f)
  fits_atom zero (tuple_atom h i) f = cc
  fits_atom (suc n) (tuple_atom h i) f = fits_exprs n round i (fits_expr n h f)
  fits_atom zero empty_list_atom f = cc
  fits_atom (suc n) empty_list_atom f = f
  fits_atom zero (list_atom h) f = cc
  fits_atom (suc n) (list_atom h) f = fits_exprs n square h f

  -- the bracket behind them is closed too
  pub fits_exprs : (n : ℕ) {t : Terminal} {ts us : List Terminal} {es : Exprs} → IsRight t → ReadsExprs t ts es us → fits n ts ≡ true → fits (suc n) us ≡ true
  fits_exprs n r (last_expr {us = us} h) f = fits_right n us r (fits_expr n h f)
  fits_exprs n r (more_exprs h i) f = fits_exprs n r i (fits_expr n h f)

  pub fits_cases : (n : ℕ) {ts us : List Terminal} {cs : Cases} → ReadsCases ts cs us → fits n ts ≡ true → fits n us ≡ true
  fits_cases zero (cases_block h i) f = cc
  fits_cases (suc n) (cases_block h i) f = fits_case_items n h f

  -- the end of the block is among them
  pub fits_case_items : (n : ℕ) {ts us : List Terminal} {cs : Cases} → ReadsCaseItems ts cs us → fits n ts ≡ true → fits (suc n) us ≡ true
  fits_case_items n no_case_item f = f
  fits_case_items n (case_item h i j) f = fits_case_items n j (fits_block n i (fits_pattern n h f))
  fits_case_items n (guarded_item h i j k) f = fits_case_items n k (fits_block n j (fits_expr n i (fits_pattern n h f)))

  pub fits_block : (n : ℕ) {ts us : List Terminal} {b : Block} → ReadsBlock ts b us → fits n ts ≡ true → fits n us ≡ true
  fits_block zero (block_block h) f = cc
  fits_block (suc n) (block_block h) f = fits_block_items n h f

  -- the end of the block is among them
  pub fits_block_items : (n : ℕ) {ts us : List Terminal} {b : Block} → ReadsBlockItems ts b us → fits n ts ≡ true → fits (suc n) us ≡ true
  fits_block_items n (result_item h) f = fits_expr n h f
  fits_block_items n (use_item {ts = ts} h i j) f = fits_block_items n j (fits_used n i (fits_path n ts h f))
  fits_block_items n (signature_item h i j) f = fits_block_items n j (fits_type n i (fits_head n h f))
  fits_block_items n (prefix_item h i j k l) f = fits_block_items n l (fits_block n k (fits_params n j (fits_bound n h f)))
  fits_block_items n (infix_item {u = u} {v = v} {ts = ts} h i j k l m) f =
      fits_block_items n m (fits_block n l (fits_param n (Equals ∷ ts) k (fits_operator n (v ∷ Equals ∷ ts) i (fits_param n (u ∷ v ∷ Equals ∷ ts) h f))))

-- the same levels at the same tokens
pub fits_at : (n : ℕ) (ts us : List Terminal) → ts ≡ us → fits n ts ≡ true → fits n us ≡ true
fits_at n ts us e f = sym (ap (fits n) e) ∙ f
