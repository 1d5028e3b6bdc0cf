-- What is read has its brackets and blocks closed.
use Rattle.std.proofs.Common.{◌≡◌, List, [], ◌∷◌, refl}
use Rattle.uc_base.specs.declared.place.Place.{Place}
use Rattle.uc_scratch.specs.declared.written.Written.{Written}
use Rattle.uc_scratch.specs.declared.written.Con.{Con}
use Rattle.uc_scratch.specs.declared.written.Param.{Param}
use Rattle.uc_scratch.specs.declared.written.Head.{Head}
use Rattle.uc_scratch.specs.declared.terminal.Terminal.{Terminal}
use Rattle.uc_scratch.specs.declared.terminal.Terminal.TheVariants.{Left, LeftSquare, Right, RightSquare, Opens, Closes}
use Rattle.uc_scratch.specs.TypeExprs as type
use Rattle.uc_scratch.specs.Patterns as pattern
use Rattle.uc_scratch.specs.Exprs.{Expr, Atom, Exprs, Cases, Block}
use Rattle.uc_scratch.specs.Terminals.{IsWord, small_word, capital_word, IsPath, small_path, capital_path, dotted_path, IsOperator, cons_operator, snoc_operator, greater_operator, other_operator, IsCon, capital_con, dotted_con, reference_con, IsParam, small_param, capital_param, any_param}
use Rattle.uc_scratch.specs.TypeGrammar.{ReadsVariables, no_variable, more_variables, ReadsType, forall_type, arrow_type, operand_type, ReadsTypeOperand, applied_type, atom_type, ReadsTypeAtoms, no_type_atom, more_type_atoms, ReadsTypeAtom, variable_type, constant_type, unit_type, group_type, tuple_type, list_type, ReadsTypes, last_type, more_types}
use Rattle.uc_scratch.specs.PatternGrammar.{ReadsPattern, cons_pattern, snoc_pattern, ReadsSnocs, no_snoc, more_snocs, ReadsPatternOperand, applied_pattern, atom_pattern, ReadsPatternAtoms, no_pattern_atom, more_pattern_atoms, ReadsPatternAtom, any_pattern, variable_pattern, named_pattern, literal_pattern, constant_pattern, unit_pattern, group_pattern, tuple_pattern, empty_list_pattern, list_pattern, ReadsPatterns, last_pattern, more_patterns}
use Rattle.uc_scratch.specs.ExprGrammar.{ReadsParams, no_param, more_params, ReadsUsed, no_used, used_word, used_operator, ReadsHead, path_head, bracketed_head, operator_head, ReadsBound, path_bound, bracketed_bound, ReadsExpr, lambda_expr, or_expr, ReadsOr, last_and, more_ands, ReadsAnd, last_infix, more_infixes, ReadsInfix, last_operand, more_operands, ReadsOperand, atoms_operand, atoms_form_operand, form_operand, ReadsAtoms, last_atom, more_atoms, ReadsForm, if_form, match_form, cases_form, let_form, ReadsAtom, path_atom, bracketed_atom, literal_atom, reference_atom, unit_atom, group_atom, annotated_atom, tuple_atom, empty_list_atom, list_atom, ReadsExprs, last_expr, more_exprs, ReadsCases, cases_block, ReadsCaseItems, no_case_item, case_item, guarded_item, ReadsBlock, block_block, ReadsBlockItems, result_item, use_item, signature_item, prefix_item, infix_item}
use Rattle.uc_scratch.specs.declared.nesting.Nests.TheVariants.{OpensBracket, ClosesBracket, Neither}
use Rattle.uc_scratch.specs.Nesting.{nests_of}
use Rattle.uc_scratch.specs.declared.file.DeclarationSort.{DeclarationSort}
use Rattle.uc_scratch.specs.Files.{Constructor, Item}
use Rattle.uc_scratch.specs.ItemGrammar.{ReadsSort, plain_sort, structural_sort, unique_sort, tagged_sort, ReadsConstructor, constructor_fields, ReadsConstructors, last_constructor, more_constructors, ReadsItem, use_file_item, declaration_file_item, signature_file_item, prefix_file_item, infix_file_item, watch_file_item}

-- from tokens up to others, each bracket and block that is opened is closed
pub data Closed : List Terminal → List Terminal → Type 0 where
  closed_end : {ts : List Terminal} → Closed ts ts
  closed_past : {t : Terminal} {ts us : List Terminal} → nests_of t ≡ Neither → Closed ts us → Closed (t ∷ ts) us
  closed_around : {t u : Terminal} {ts us vs : List Terminal} → nests_of t ≡ OpensBracket → nests_of u ≡ ClosesBracket
      → Closed ts (u ∷ us) → Closed us vs → Closed (t ∷ ts) vs
  closed_inside : {ts us vs : List Terminal} → Closed ts (Closes ∷ us) → Closed us vs → Closed (Opens ∷ ts) vs

pub join : {ts us vs : List Terminal} → Closed ts us → Closed us vs → Closed ts vs
join closed_end j = j
join (closed_past e i) j = closed_past e (join i j)
join (closed_around e f i k) j = closed_around e f i (join k j)
join (closed_inside i k) j = closed_inside i (join k j)

-- round brackets, square ones, and a block, with nothing behind them
in_round : (p : Place) {ts us : List Terminal} → Closed ts (Right ∷ us) → Closed (Left p ∷ ts) us
in_round p i = closed_around refl refl i closed_end

in_square : (p : Place) {ts us : List Terminal} → Closed ts (RightSquare ∷ us) → Closed (LeftSquare p ∷ ts) us
in_square p i = closed_around refl refl i closed_end

in_block : {ts us : List Terminal} → Closed ts (Closes ∷ us) → Closed (Opens ∷ ts) us
in_block i = closed_inside i closed_end

con_nests : {t : Terminal} {c : Con} → IsCon t c → nests_of t ≡ Neither
con_nests capital_con = refl
con_nests dotted_con = refl
con_nests reference_con = refl

word_nests : {t : Terminal} {w : Written} → IsWord t w → nests_of t ≡ Neither
word_nests small_word = refl
word_nests capital_word = refl

path_nests : {t : Terminal} {w : Written} → IsPath t w → nests_of t ≡ Neither
path_nests small_path = refl
path_nests capital_path = refl
path_nests dotted_path = refl

operator_nests : {t : Terminal} {w : Written} → IsOperator t w → nests_of t ≡ Neither
operator_nests cons_operator = refl
operator_nests snoc_operator = refl
operator_nests greater_operator = refl
operator_nests other_operator = refl

param_nests : {t : Terminal} {p : Param} → IsParam t p → nests_of t ≡ Neither
param_nests small_param = refl
param_nests capital_param = refl
param_nests any_param = refl

pub closed_con : {t : Terminal} {ts : List Terminal} {c : Con} → IsCon t c → Closed (t ∷ ts) ts
closed_con h = closed_past (con_nests h) closed_end

pub closed_word : {t : Terminal} {ts : List Terminal} {w : Written} → IsWord t w → Closed (t ∷ ts) ts
closed_word h = closed_past (word_nests h) closed_end

pub closed_path : {t : Terminal} {ts : List Terminal} {w : Written} → IsPath t w → Closed (t ∷ ts) ts
closed_path h = closed_past (path_nests h) closed_end

pub closed_operator : {t : Terminal} {ts : List Terminal} {w : Written} → IsOperator t w → Closed (t ∷ ts) ts
closed_operator h = closed_past (operator_nests h) closed_end

pub closed_param : {t : Terminal} {ts : List Terminal} {p : Param} → IsParam t p → Closed (t ∷ ts) ts
closed_param h = closed_past (param_nests h) closed_end

-- an operator in brackets
pub closed_bracketed : (p : Place) {t : Terminal} {ts : List Terminal} {w : Written} → IsOperator t w → Closed (Left p ∷ t ∷ Right ∷ ts) ts
closed_bracketed p h = in_round p (closed_operator h)

pub closed_variables : {ts us : List Terminal} {ws : List Written} → ReadsVariables ts ws us → Closed ts us
closed_variables no_variable = closed_end
closed_variables (more_variables h) = closed_past refl (closed_variables h)

mutual
  pub closed_type : {ts us : List Terminal} {t : type.TypeExpr} → ReadsType ts t us → Closed ts us
  closed_type (forall_type h i) = closed_past refl (join (closed_variables h) (closed_past refl (closed_type i)))
  closed_type (arrow_type h i) = join (closed_type_operand h) (closed_past refl (closed_type i))
  closed_type (operand_type h) = closed_type_operand h

  pub closed_type_operand : {ts us : List Terminal} {a : type.TypeOperand} → ReadsTypeOperand ts a us → Closed ts us
  closed_type_operand (applied_type h i) = join (closed_con h) (closed_type_atoms i)
  closed_type_operand (atom_type h) = closed_type_atom h

  pub closed_type_atoms : {ts us : List Terminal} {a : type.TypeAtoms} → ReadsTypeAtoms ts a us → Closed ts us
  closed_type_atoms no_type_atom = closed_end
  closed_type_atoms (more_type_atoms h i) = join (closed_type_atom h) (closed_type_atoms i)

  pub closed_type_atom : {ts us : List Terminal} {a : type.TypeAtom} → ReadsTypeAtom ts a us → Closed ts us
  closed_type_atom variable_type = closed_past refl closed_end
  closed_type_atom (constant_type h) = closed_con h
  closed_type_atom unit_type = in_round _ closed_end
  closed_type_atom (group_type h) = in_round _ (closed_type h)
  closed_type_atom (tuple_type h i) = in_round _ (join (closed_type h) (closed_past refl (closed_types i)))
  closed_type_atom (list_type h) = in_square _ (closed_type h)

  pub closed_types : {ts us : List Terminal} {a : type.TypeExprs} → ReadsTypes ts a us → Closed ts (Right ∷ us)
  closed_types (last_type h) = closed_type h
  closed_types (more_types h i) = join (closed_type h) (closed_past refl (closed_types i))

mutual
  pub closed_pattern : {ts us : List Terminal} {x : pattern.Pattern} → ReadsPattern ts x us → Closed ts us
  closed_pattern (cons_pattern h i) = join (closed_pattern_operand h) (closed_past refl (closed_pattern i))
  closed_pattern (snoc_pattern h i) = join (closed_pattern_operand h) (closed_snocs i)

  pub closed_snocs : {ts us : List Terminal} {x : pattern.PatternOperands} → ReadsSnocs ts x us → Closed ts us
  closed_snocs no_snoc = closed_end
  closed_snocs (more_snocs h i) = closed_past refl (join (closed_pattern_operand h) (closed_snocs i))

  pub closed_pattern_operand : {ts us : List Terminal} {a : pattern.PatternOperand} → ReadsPatternOperand ts a us → Closed ts us
  closed_pattern_operand (applied_pattern h i) = join (closed_con h) (closed_pattern_atoms i)
  closed_pattern_operand (atom_pattern h) = closed_pattern_atom h

  pub closed_pattern_atoms : {ts us : List Terminal} {a : pattern.PatternAtoms} → ReadsPatternAtoms ts a us → Closed ts us
  closed_pattern_atoms no_pattern_atom = closed_end
  closed_pattern_atoms (more_pattern_atoms h i) = join (closed_pattern_atom h) (closed_pattern_atoms i)

  pub closed_pattern_atom : {ts us : List Terminal} {a : pattern.PatternAtom} → ReadsPatternAtom ts a us → Closed ts us
  closed_pattern_atom any_pattern = closed_past refl closed_end
  closed_pattern_atom variable_pattern = closed_past refl closed_end
  closed_pattern_atom (named_pattern h) = closed_past refl (closed_past refl (closed_pattern_atom h))
  closed_pattern_atom literal_pattern = closed_past refl closed_end
  closed_pattern_atom (constant_pattern h) = closed_con h
  closed_pattern_atom unit_pattern = in_round _ closed_end
  closed_pattern_atom (group_pattern h) = in_round _ (closed_pattern h)
  closed_pattern_atom (tuple_pattern h i) = in_round _ (join (closed_pattern h) (closed_past refl (closed_patterns i)))
  closed_pattern_atom empty_list_pattern = in_square _ closed_end
  closed_pattern_atom (list_pattern h) = in_square _ (closed_patterns h)

  pub closed_patterns : {t : Terminal} {ts us : List Terminal} {x : pattern.Patterns} → ReadsPatterns t ts x us → Closed ts (t ∷ us)
  closed_patterns (last_pattern h) = closed_pattern h
  closed_patterns (more_patterns h i) = join (closed_pattern h) (closed_past refl (closed_patterns i))

pub closed_params : {ts us : List Terminal} {ps : List Param} → ReadsParams ts ps us → Closed ts us
closed_params no_param = closed_end
closed_params (more_params h i) = join (closed_param h) (closed_params i)

pub closed_used : {ts us : List Terminal} {ws : List Written} → ReadsUsed ts ws us → Closed ts us
closed_used no_used = closed_end
closed_used (used_word h i) = join (closed_word h) (closed_used i)
closed_used (used_operator h i) = join (closed_operator h) (closed_used i)

pub closed_head : {ts us : List Terminal} {h : Head} → ReadsHead ts h us → Closed ts us
closed_head (path_head h) = closed_path h
closed_head (bracketed_head h) = closed_bracketed _ h
closed_head (operator_head h) = closed_operator h

pub closed_bound : {ts us : List Terminal} {h : Head} → ReadsBound ts h us → Closed ts us
closed_bound (path_bound h) = closed_path h
closed_bound (bracketed_bound h) = closed_bracketed _ h

mutual
  pub closed_expr : {ts us : List Terminal} {e r : Expr} → ReadsExpr ts e us r → Closed ts us
  closed_expr (lambda_expr h i) = join (closed_params h) (closed_past refl (closed_block i))
  closed_expr (or_expr h) = closed_or h

  pub closed_or : {ts us : List Terminal} {e r : Expr} → ReadsOr ts e us r → Closed ts us
  closed_or (last_and h) = closed_and h
  closed_or (more_ands h i) = join (closed_and h) (closed_past refl (closed_or i))

  pub closed_and : {ts us : List Terminal} {e r : Expr} → ReadsAnd ts e us r → Closed ts us
  closed_and (last_infix h) = closed_infix h
  closed_and (more_infixes h i) = join (closed_infix h) (closed_past refl (closed_and i))

  pub closed_infix : {ts us : List Terminal} {e r : Expr} → ReadsInfix ts e us r → Closed ts us
  closed_infix (last_operand h) = closed_operand h
  closed_infix (more_operands h o i) = join (closed_operand h) (join (closed_operator o) (closed_infix i))

  pub closed_operand : {ts us : List Terminal} {e r : Expr} → ReadsOperand ts e us r → Closed ts us
  closed_operand (atoms_operand h) = closed_atoms h
  closed_operand (atoms_form_operand h i) = join (closed_atoms h) (closed_form i)
  closed_operand (form_operand h) = closed_form h

  pub closed_atoms : {ts us : List Terminal} {e r : Expr} → ReadsAtoms ts e us r → Closed ts us
  closed_atoms (last_atom h) = closed_atom h
  closed_atoms (more_atoms h i) = join (closed_atom h) (closed_atoms i)

  pub closed_form : {ts us : List Terminal} {e r : Expr} → ReadsForm ts e us r → Closed ts us
  closed_form (if_form h i j) = closed_past refl (join (closed_expr h) (closed_past refl (join (closed_block i) (closed_past refl (closed_block j)))))
  closed_form (match_form h i) = closed_past refl (join (closed_expr h) (closed_past refl (closed_cases i)))
  closed_form (cases_form h) = closed_past refl (closed_cases h)
  closed_form (let_form h) = closed_past refl (closed_block h)

  pub closed_atom : {ts us : List Terminal} {a : Atom} → ReadsAtom ts a us → Closed ts us
  closed_atom (path_atom h) = closed_path h
  closed_atom (bracketed_atom h) = closed_bracketed _ h
  closed_atom literal_atom = closed_past refl closed_end
  closed_atom reference_atom = closed_past refl closed_end
  closed_atom unit_atom = in_round _ closed_end
  closed_atom (group_atom h) = in_round _ (closed_expr h)
  closed_atom (annotated_atom h i) = in_round _ (join (closed_expr h) (closed_past refl (closed_type i)))
  closed_atom (tuple_atom h i) = in_round _ (join (closed_expr h) (closed_past refl (closed_exprs i)))
  closed_atom empty_list_atom = in_square _ closed_end
  closed_atom (list_atom h) = in_square _ (closed_exprs h)

  pub closed_exprs : {t : Terminal} {ts us : List Terminal} {es : Exprs} → ReadsExprs t ts es us → Closed ts (t ∷ us)
  closed_exprs (last_expr h) = closed_expr h
  closed_exprs (more_exprs h i) = join (closed_expr h) (closed_past refl (closed_exprs i))

  pub closed_cases : {ts us : List Terminal} {cs : Cases} → ReadsCases ts cs us → Closed ts us
  closed_cases (cases_block h i) = in_block (closed_case_items h)

  pub closed_case_items : {ts us : List Terminal} {cs : Cases} → ReadsCaseItems ts cs us → Closed ts (Closes ∷ us)
  closed_case_items no_case_item = closed_end
  closed_case_items (case_item h i j) = closed_past refl (join (closed_pattern h) (closed_past refl (join (closed_block i) (closed_case_items j))))
  closed_case_items (guarded_item h i j k) =
      closed_past refl (join (closed_pattern h) (closed_past refl (join (closed_expr i) (closed_past refl (join (closed_block j) (closed_case_items k))))))

  pub closed_block : {ts us : List Terminal} {b : Block} → ReadsBlock ts b us → Closed ts us
  closed_block (block_block h) = in_block (closed_block_items h)

  pub closed_block_items : {ts us : List Terminal} {b : Block} → ReadsBlockItems ts b us → Closed ts (Closes ∷ us)
  closed_block_items (result_item h) = closed_past refl (closed_expr h)
  closed_block_items (use_item h i j) = closed_past refl (closed_past refl (join (closed_path h) (join (closed_used i) (closed_block_items j))))
  closed_block_items (signature_item h i j) = closed_past refl (join (closed_head h) (closed_past refl (join (closed_type i) (closed_block_items j))))
  closed_block_items (prefix_item h i j k l) =
      closed_past refl (join (closed_bound h) (join (closed_params j) (closed_past refl (join (closed_block k) (closed_block_items l)))))
  closed_block_items (infix_item h i j k l m) =
      closed_past refl (join (closed_param h) (join (closed_operator i) (join (closed_param k) (closed_past refl (join (closed_block l) (closed_block_items m))))))

closed_sort : {ts us : List Terminal} {s : DeclarationSort} → ReadsSort ts s us → Closed ts us
closed_sort plain_sort = closed_past refl closed_end
closed_sort structural_sort = closed_past refl (closed_past refl closed_end)
closed_sort unique_sort = closed_past refl (closed_past refl closed_end)
closed_sort (tagged_sort h) = closed_past refl (join (in_square _ (closed_path h)) (closed_past refl closed_end))

closed_constructor : {ts us : List Terminal} {c : Constructor} → ReadsConstructor ts c us → Closed ts us
closed_constructor (constructor_fields h i) = join (closed_word h) (closed_type_atoms i)

closed_constructors : {ts : List Terminal} {cs : List Constructor} → ReadsConstructors ts cs → Closed ts []
closed_constructors (last_constructor h) = closed_constructor h
closed_constructors (more_constructors h i) = join (closed_constructor h) (closed_past refl (closed_constructors i))

pub closed_item : {ts : List Terminal} {i : Item} → ReadsItem ts i → Closed ts []
closed_item (use_file_item h i) = closed_past refl (closed_past refl (join (closed_path h) (closed_used i)))
closed_item (declaration_file_item h i j k l m) =
    closed_past refl (join (closed_sort h) (join (closed_path i) (join (closed_variables k) (closed_past refl (closed_constructors l)))))
closed_item (signature_file_item h i) = closed_past refl (join (closed_head h) (closed_past refl (closed_type i)))
closed_item (prefix_file_item h i j) = closed_past refl (join (closed_bound h) (join (closed_params i) (closed_past refl (closed_block j))))
closed_item (infix_file_item h i j k) =
    closed_past refl (join (closed_param h) (join (closed_operator i) (join (closed_param j) (closed_past refl (closed_block k)))))
closed_item (watch_file_item h) = closed_past refl (closed_past refl (closed_expr h))
