-- What is read takes tokens: fewer stand behind it than before it.
use Rattle.std.proofs.Common.{ℕ, ◌<◌, ◌≤◌, List, [], ◌∷◌, length, arith}
use Rattle.uc_base.specs.declared.place.Place.{Place}
use Rattle.uc_scratch.specs.declared.written.Written.{Written}
use Rattle.uc_scratch.specs.declared.written.Con.{Con}
use Rattle.uc_scratch.specs.declared.written.Param.{Param}
use Rattle.uc_scratch.specs.declared.written.Head.{Head}
use Rattle.uc_scratch.specs.declared.terminal.Terminal.{Terminal}
use Rattle.uc_scratch.specs.declared.terminal.Terminal.TheVariants.{Left, Right, Equals}
use Rattle.uc_scratch.specs.TypeExprs as type
use Rattle.uc_scratch.specs.Patterns as pattern
use Rattle.uc_scratch.specs.Exprs.{Expr, Atom, Exprs, Cases, Block}
use Rattle.uc_scratch.specs.Terminals.{IsWord, small_word, capital_word, IsPath, small_path, capital_path, dotted_path, IsOperator, cons_operator, snoc_operator, greater_operator, other_operator, IsCon, capital_con, dotted_con, reference_con, IsParam, small_param, capital_param, any_param}
use Rattle.uc_scratch.specs.TypeGrammar.{ReadsVariables, no_variable, more_variables, ReadsType, forall_type, arrow_type, operand_type, ReadsTypeOperand, applied_type, atom_type, ReadsTypeAtoms, no_type_atom, more_type_atoms, ReadsTypeAtom, variable_type, constant_type, unit_type, group_type, tuple_type, list_type, ReadsTypes, last_type, more_types}
use Rattle.uc_scratch.specs.PatternGrammar.{ReadsPattern, cons_pattern, snoc_pattern, ReadsSnocs, no_snoc, more_snocs, ReadsPatternOperand, applied_pattern, atom_pattern, ReadsPatternAtoms, no_pattern_atom, more_pattern_atoms, ReadsPatternAtom, any_pattern, variable_pattern, named_pattern, literal_pattern, constant_pattern, unit_pattern, group_pattern, tuple_pattern, empty_list_pattern, list_pattern, ReadsPatterns, last_pattern, more_patterns}
use Rattle.uc_scratch.specs.ExprGrammar.{ReadsParams, no_param, more_params, ReadsUsed, no_used, used_word, used_operator, ReadsHead, path_head, bracketed_head, operator_head, ReadsBound, path_bound, bracketed_bound, ReadsExpr, lambda_expr, or_expr, ReadsOr, last_and, more_ands, ReadsAnd, last_infix, more_infixes, ReadsInfix, last_operand, more_operands, ReadsOperand, atoms_operand, atoms_form_operand, form_operand, ReadsAtoms, last_atom, more_atoms, ReadsForm, if_form, match_form, cases_form, let_form, ReadsAtom, path_atom, bracketed_atom, literal_atom, reference_atom, unit_atom, group_atom, annotated_atom, tuple_atom, empty_list_atom, list_atom, ReadsExprs, last_expr, more_exprs, ReadsCases, cases_block, ReadsCaseItems, no_case_item, case_item, guarded_item, ReadsBlock, block_block, ReadsBlockItems, result_item, use_item, signature_item, prefix_item, infix_item}

pub variables_length : {ts us : List Terminal} {ws : List Written} → ReadsVariables ts ws us → length us ≤ length ts
variables_length no_variable = omega arith
variables_length (more_variables h) = omega (arith, variables_length h)

mutual
  pub type_length : {ts us : List Terminal} {t : type.TypeExpr} → ReadsType ts t us → length us < length ts
  type_length (forall_type h i) = omega (arith, variables_length h, type_length i)
  type_length (arrow_type h i) = omega (arith, type_operand_length h, type_length i)
  type_length (operand_type h) = omega (arith, type_operand_length h)

  pub type_operand_length : {ts us : List Terminal} {a : type.TypeOperand} → ReadsTypeOperand ts a us → length us < length ts
  type_operand_length (applied_type h i) = omega (arith, type_atoms_length i)
  type_operand_length (atom_type h) = omega (arith, type_atom_length h)

  pub type_atoms_length : {ts us : List Terminal} {a : type.TypeAtoms} → ReadsTypeAtoms ts a us → length us ≤ length ts
  type_atoms_length no_type_atom = omega arith
  type_atoms_length (more_type_atoms h i) = omega (arith, type_atom_length h, type_atoms_length i)

  pub type_atom_length : {ts us : List Terminal} {a : type.TypeAtom} → ReadsTypeAtom ts a us → length us < length ts
  type_atom_length variable_type = omega arith
  type_atom_length (constant_type h) = omega arith
  type_atom_length unit_type = omega arith
  type_atom_length (group_type h) = omega (arith, type_length h)
  type_atom_length (tuple_type h i) = omega (arith, type_length h, types_length i)
  type_atom_length (list_type h) = omega (arith, type_length h)

  pub types_length : {ts us : List Terminal} {a : type.TypeExprs} → ReadsTypes ts a us → length us < length ts
  types_length (last_type h) = omega (arith, type_length h)
  types_length (more_types h i) = omega (arith, type_length h, types_length i)

mutual
  pub pattern_length : {ts us : List Terminal} {x : pattern.Pattern} → ReadsPattern ts x us → length us < length ts
  pattern_length (cons_pattern h i) = omega (arith, pattern_operand_length h, pattern_length i)
  pattern_length (snoc_pattern h i) = omega (arith, pattern_operand_length h, snocs_length i)

  pub snocs_length : {ts us : List Terminal} {x : pattern.PatternOperands} → ReadsSnocs ts x us → length us ≤ length ts
  snocs_length no_snoc = omega arith
  snocs_length (more_snocs h i) = omega (arith, pattern_operand_length h, snocs_length i)

  pub pattern_operand_length : {ts us : List Terminal} {a : pattern.PatternOperand} → ReadsPatternOperand ts a us → length us < length ts
  pattern_operand_length (applied_pattern h i) = omega (arith, pattern_atoms_length i)
  pattern_operand_length (atom_pattern h) = omega (arith, pattern_atom_length h)

  pub pattern_atoms_length : {ts us : List Terminal} {a : pattern.PatternAtoms} → ReadsPatternAtoms ts a us → length us ≤ length ts
  pattern_atoms_length no_pattern_atom = omega arith
  pattern_atoms_length (more_pattern_atoms h i) = omega (arith, pattern_atom_length h, pattern_atoms_length i)

  pub pattern_atom_length : {ts us : List Terminal} {a : pattern.PatternAtom} → ReadsPatternAtom ts a us → length us < length ts
  pattern_atom_length any_pattern = omega arith
  pattern_atom_length variable_pattern = omega arith
  pattern_atom_length (named_pattern h) = omega (arith, pattern_atom_length h)
  pattern_atom_length literal_pattern = omega arith
  pattern_atom_length (constant_pattern h) = omega arith
  pattern_atom_length unit_pattern = omega arith
  pattern_atom_length (group_pattern h) = omega (arith, pattern_length h)
  pattern_atom_length (tuple_pattern h i) = omega (arith, pattern_length h, patterns_length i)
  pattern_atom_length empty_list_pattern = omega arith
  pattern_atom_length (list_pattern h) = omega (arith, patterns_length h)

  pub patterns_length : {ts us : List Terminal} {t : Terminal} {x : pattern.Patterns} → ReadsPatterns t ts x us → length us < length ts
  patterns_length (last_pattern h) = omega (arith, pattern_length h)
  patterns_length (more_patterns h i) = omega (arith, pattern_length h, patterns_length i)

pub params_length : {ts us : List Terminal} {ps : List Param} → ReadsParams ts ps us → length us ≤ length ts
params_length no_param = omega arith
params_length (more_params h i) = omega (arith, params_length i)

pub used_length : {ts us : List Terminal} {ws : List Written} → ReadsUsed ts ws us → length us ≤ length ts
used_length no_used = omega arith
used_length (used_word h i) = omega (arith, used_length i)
used_length (used_operator h i) = omega (arith, used_length i)

pub head_length : {ts us : List Terminal} {h : Head} → ReadsHead ts h us → length us < length ts
head_length (path_head h) = omega arith
head_length (bracketed_head h) = omega arith
head_length (operator_head h) = omega arith

pub bound_length : {ts us : List Terminal} {h : Head} → ReadsBound ts h us → length us < length ts
bound_length (path_bound h) = omega arith
bound_length (bracketed_bound h) = omega arith

mutual
  pub expr_length : {ts us : List Terminal} {e r : Expr} → ReadsExpr ts e us r → length us < length ts
  expr_length (lambda_expr h i) = omega (arith, params_length h, block_length i)
  expr_length (or_expr h) = omega (arith, or_length h)

  pub or_length : {ts us : List Terminal} {e r : Expr} → ReadsOr ts e us r → length us < length ts
  or_length (last_and h) = omega (arith, and_length h)
  or_length (more_ands h i) = omega (arith, and_length h, or_length i)

  pub and_length : {ts us : List Terminal} {e r : Expr} → ReadsAnd ts e us r → length us < length ts
  and_length (last_infix h) = omega (arith, infix_length h)
  and_length (more_infixes h i) = omega (arith, infix_length h, and_length i)

  pub infix_length : {ts us : List Terminal} {e r : Expr} → ReadsInfix ts e us r → length us < length ts
  infix_length (last_operand h) = omega (arith, operand_length h)
  infix_length (more_operands h o i) = omega (arith, operand_length h, infix_length i)

  pub operand_length : {ts us : List Terminal} {e r : Expr} → ReadsOperand ts e us r → length us < length ts
  operand_length (atoms_operand h) = omega (arith, atoms_length h)
  operand_length (atoms_form_operand h i) = omega (arith, atoms_length h, form_length i)
  operand_length (form_operand h) = omega (arith, form_length h)

  pub atoms_length : {ts us : List Terminal} {e r : Expr} → ReadsAtoms ts e us r → length us < length ts
  atoms_length (last_atom h) = omega (arith, atom_length h)
  atoms_length (more_atoms h i) = omega (arith, atom_length h, atoms_length i)

  pub form_length : {ts us : List Terminal} {e r : Expr} → ReadsForm ts e us r → length us < length ts
  form_length (if_form h i j) = omega (arith, expr_length h, block_length i, block_length j)
  form_length (match_form h i) = omega (arith, expr_length h, cases_length i)
  form_length (cases_form h) = omega (arith, cases_length h)
  form_length (let_form h) = omega (arith, block_length h)

  pub atom_length : {ts us : List Terminal} {a : Atom} → ReadsAtom ts a us → length us < length ts
  atom_length (path_atom h) = omega arith
  atom_length (bracketed_atom h) = omega arith
  atom_length literal_atom = omega arith
  atom_length reference_atom = omega arith
  atom_length unit_atom = omega arith
  atom_length (group_atom h) = omega (arith, expr_length h)
  atom_length (annotated_atom h i) = omega (arith, expr_length h, type_length i)
  atom_length (tuple_atom h i) = omega (arith, expr_length h, exprs_length i)
  atom_length empty_list_atom = omega arith
  atom_length (list_atom h) = omega (arith, exprs_length h)

  pub exprs_length : {ts us : List Terminal} {t : Terminal} {es : Exprs} → ReadsExprs t ts es us → length us < length ts
  exprs_length (last_expr h) = omega (arith, expr_length h)
  exprs_length (more_exprs h i) = omega (arith, expr_length h, exprs_length i)

  pub cases_length : {ts us : List Terminal} {cs : Cases} → ReadsCases ts cs us → length us < length ts
  cases_length (cases_block h i) = omega (arith, case_items_length h)

  pub case_items_length : {ts us : List Terminal} {cs : Cases} → ReadsCaseItems ts cs us → length us < length ts
  case_items_length no_case_item = omega arith
  case_items_length (case_item h i j) = omega (arith, pattern_length h, block_length i, case_items_length j)
  case_items_length (guarded_item h i j k) = omega (arith, pattern_length h, expr_length i, block_length j, case_items_length k)

  pub block_length : {ts us : List Terminal} {b : Block} → ReadsBlock ts b us → length us < length ts
  block_length (block_block h) = omega (arith, block_items_length h)

  pub block_items_length : {ts us : List Terminal} {b : Block} → ReadsBlockItems ts b us → length us < length ts
  block_items_length (result_item h) = omega (arith, expr_length h)
  block_items_length (use_item h i j) = omega (arith, used_length i, block_items_length j)
  block_items_length (signature_item h i j) = omega (arith, head_length h, type_length i, block_items_length j)
  block_items_length (prefix_item h i j k l) = omega (arith, bound_length h, params_length j, block_length k, block_items_length l)
  block_items_length (infix_item h i j k l m) = omega (arith, block_length l, block_items_length m)
