-- The grammar of expressions and blocks. Each relation says: the first tokens are read so, and the last ones stand
-- behind them. The steps of an expression are read in the same way: the first steps are those that are read, and the
-- last ones stand behind them.
use Rattle.std.specs.Prelude.{◌≡◌, Bool, true, false, List, [], ◌∷◌}
use Rattle.uc_base.specs.declared.place.Place.{Place}
use Rattle.uc_scratch.specs.declared.written.Written.{Written}
use Rattle.uc_scratch.specs.declared.written.Literal as written
use Rattle.uc_scratch.specs.declared.written.Reference as reference_type
use Rattle.uc_scratch.specs.declared.written.Param.{Param}
use Rattle.uc_scratch.specs.declared.written.Head.{Head}
use Rattle.uc_scratch.specs.declared.written.Head.TheVariants as head
use Rattle.uc_scratch.specs.declared.terminal.Terminal.{Terminal}
use Rattle.uc_scratch.specs.declared.terminal.Terminal.TheVariants.{Literal, Reference, Left, Right, LeftSquare, RightSquare, Comma, Equals, Arrow, Colon, Bar, AndAnd, OrOr, If, Then, Else, Match, With, Cases as CasesWord, Let, Use, Opens, Closes, Item}
use Rattle.uc_scratch.specs.TypeExprs.{TypeExpr}
use Rattle.uc_scratch.specs.Patterns.{Pattern}
use Rattle.uc_scratch.specs.Exprs.{Expr, done, lambda, atom, operator, and, or, opens_if, branches, opens_match, with_cases, cases, block, Atom, path, bracketed, literal, reference, unit, group, annotated, tuple, list, Exprs, none, more, Cases, no_case, case, guarded, Block, result, using, signature, prefix, infix_operator}
use Rattle.uc_scratch.specs.Terminals.{is_single, IsWord, IsPath, IsOperator, IsParam}
use Rattle.uc_scratch.specs.TypeGrammar.{ReadsType}
use Rattle.uc_scratch.specs.PatternGrammar.{ReadsPattern}

-- param*
pub data ReadsParams : List Terminal → List Param → List Terminal → Type 0 where
  no_param : {ts : List Terminal} → ReadsParams ts [] ts
  more_params : {t : Terminal} {p : Param} {ps : List Param} {ts us : List Terminal}
      → IsParam t p → ReadsParams ts ps us → ReadsParams (t ∷ ts) (p ∷ ps) us

-- (word | op)*
pub data ReadsUsed : List Terminal → List Written → List Terminal → Type 0 where
  no_used : {ts : List Terminal} → ReadsUsed ts [] ts
  used_word : {t : Terminal} {w : Written} {ws : List Written} {ts us : List Terminal}
      → IsWord t w → ReadsUsed ts ws us → ReadsUsed (t ∷ ts) (w ∷ ws) us
  used_operator : {t : Terminal} {w : Written} {ws : List Written} {ts us : List Terminal}
      → IsOperator t w → ReadsUsed ts ws us → ReadsUsed (t ∷ ts) (w ∷ ws) us

-- head = path | '(' op ')' | op
pub data ReadsHead : List Terminal → Head → List Terminal → Type 0 where
  path_head : {t : Terminal} {w : Written} {ts : List Terminal} → IsPath t w → ReadsHead (t ∷ ts) (head.Path w) ts
  bracketed_head : {p : Place} {t : Terminal} {w : Written} {ts : List Terminal}
      → IsOperator t w → ReadsHead (Left p ∷ t ∷ Right ∷ ts) (head.Bracketed p w) ts
  operator_head : {t : Terminal} {w : Written} {ts : List Terminal} → IsOperator t w → ReadsHead (t ∷ ts) (head.Operator w) ts

-- the head of a binding, which is no bare operator
pub data ReadsBound : List Terminal → Head → List Terminal → Type 0 where
  path_bound : {t : Terminal} {w : Written} {ts : List Terminal} → IsPath t w → ReadsBound (t ∷ ts) (head.Path w) ts
  bracketed_bound : {p : Place} {t : Terminal} {w : Written} {ts : List Terminal}
      → IsOperator t w → ReadsBound (Left p ∷ t ∷ Right ∷ ts) (head.Bracketed p w) ts

-- the name of a head
abbrev pub head_name : Head → Written
head_name (head.Path w) = w
head_name (head.Bracketed p w) = w
head_name (head.Operator w) = w

-- whether there is a case
abbrev pub has_case : Cases → Bool
has_case no_case = false
has_case (case x b cs) = true
has_case (guarded x g b cs) = true

mutual
  -- expr = param+ '->' block | or
  pub data ReadsExpr : List Terminal → Expr → List Terminal → Expr → Type 0 where
    lambda_expr : {p : Param} {ps : List Param} {b : Block} {ts us vs : List Terminal} {rest : Expr}
        → ReadsParams ts (p ∷ ps) (Arrow ∷ us) → ReadsBlock us b vs → ReadsExpr ts (lambda (p ∷ ps) b rest) vs rest
    or_expr : {ts us : List Terminal} {e rest : Expr} → ReadsOr ts e us rest → ReadsExpr ts e us rest

  -- or = and ('||' and)*
  pub data ReadsOr : List Terminal → Expr → List Terminal → Expr → Type 0 where
    last_and : {ts us : List Terminal} {e rest : Expr} → ReadsAnd ts e us rest → ReadsOr ts e us rest
    more_ands : {ts us vs : List Terminal} {e f rest : Expr}
        → ReadsAnd ts e (OrOr ∷ us) (or f) → ReadsOr us f vs rest → ReadsOr ts e vs rest

  -- and = infix ('&&' infix)*
  pub data ReadsAnd : List Terminal → Expr → List Terminal → Expr → Type 0 where
    last_infix : {ts us : List Terminal} {e rest : Expr} → ReadsInfix ts e us rest → ReadsAnd ts e us rest
    more_infixes : {ts us vs : List Terminal} {e f rest : Expr}
        → ReadsInfix ts e (AndAnd ∷ us) (and f) → ReadsAnd us f vs rest → ReadsAnd ts e vs rest

  -- infix = operand (op operand)*
  pub data ReadsInfix : List Terminal → Expr → List Terminal → Expr → Type 0 where
    last_operand : {ts us : List Terminal} {e rest : Expr} → ReadsOperand ts e us rest → ReadsInfix ts e us rest
    more_operands : {t : Terminal} {w : Written} {ts us vs : List Terminal} {e f rest : Expr}
        → ReadsOperand ts e (t ∷ us) (operator w f) → IsOperator t w → ReadsInfix us f vs rest → ReadsInfix ts e vs rest

  -- operand = atom+ [form] | form
  pub data ReadsOperand : List Terminal → Expr → List Terminal → Expr → Type 0 where
    atoms_operand : {ts us : List Terminal} {e rest : Expr} → ReadsAtoms ts e us rest → ReadsOperand ts e us rest
    atoms_form_operand : {ts us vs : List Terminal} {e f rest : Expr}
        → ReadsAtoms ts e us f → ReadsForm us f vs rest → ReadsOperand ts e vs rest
    form_operand : {ts us : List Terminal} {e rest : Expr} → ReadsForm ts e us rest → ReadsOperand ts e us rest

  -- atom+
  pub data ReadsAtoms : List Terminal → Expr → List Terminal → Expr → Type 0 where
    last_atom : {a : Atom} {ts us : List Terminal} {rest : Expr} → ReadsAtom ts a us → ReadsAtoms ts (atom a rest) us rest
    more_atoms : {a : Atom} {ts us vs : List Terminal} {e rest : Expr}
        → ReadsAtom ts a us → ReadsAtoms us e vs rest → ReadsAtoms ts (atom a e) vs rest

  -- form = 'if' expr 'then' block 'else' block | 'match' expr 'with' cases | 'cases' cases | 'let' block
  pub data ReadsForm : List Terminal → Expr → List Terminal → Expr → Type 0 where
    if_form : {p : Place} {b c : Block} {ts us vs ws : List Terminal} {e rest : Expr}
        → ReadsExpr ts e (Then ∷ us) (branches b c rest) → ReadsBlock us b (Else ∷ vs) → ReadsBlock vs c ws
        → ReadsForm (If p ∷ ts) (opens_if p e) ws rest
    match_form : {p : Place} {cs : Cases} {ts us vs : List Terminal} {e rest : Expr}
        → ReadsExpr ts e (With ∷ us) (with_cases cs rest) → ReadsCases us cs vs
        → ReadsForm (Match p ∷ ts) (opens_match p e) vs rest
    cases_form : {p : Place} {cs : Cases} {ts us : List Terminal} {rest : Expr}
        → ReadsCases ts cs us → ReadsForm (CasesWord p ∷ ts) (cases p cs rest) us rest
    let_form : {p : Place} {b : Block} {ts us : List Terminal} {rest : Expr}
        → ReadsBlock ts b us → ReadsForm (Let p ∷ ts) (block p b rest) us rest

  -- atom = path | '(' op ')' | literal | hash | '(' ')' | '(' expr ')' | '(' expr ':' type ')' | '(' expr (',' expr)+ ')'
  --      | '[' [expr (',' expr)*] ']'
  pub data ReadsAtom : List Terminal → Atom → List Terminal → Type 0 where
    path_atom : {t : Terminal} {w : Written} {ts : List Terminal} → IsPath t w → ReadsAtom (t ∷ ts) (path w) ts
    bracketed_atom : {p : Place} {t : Terminal} {w : Written} {ts : List Terminal}
        → IsOperator t w → ReadsAtom (Left p ∷ t ∷ Right ∷ ts) (bracketed p w) ts
    literal_atom : {l : written.Literal} {ts : List Terminal} → ReadsAtom (Literal l ∷ ts) (literal l) ts
    reference_atom : {r : reference_type.Reference} {ts : List Terminal} → ReadsAtom (Reference r ∷ ts) (reference r) ts
    unit_atom : {p : Place} {ts : List Terminal} → ReadsAtom (Left p ∷ Right ∷ ts) (unit p) ts
    group_atom : {p : Place} {e : Expr} {ts us : List Terminal}
        → ReadsExpr ts e (Right ∷ us) done → ReadsAtom (Left p ∷ ts) (group p e) us
    annotated_atom : {p : Place} {e : Expr} {t : TypeExpr} {ts us vs : List Terminal}
        → ReadsExpr ts e (Colon ∷ us) done → ReadsType us t (Right ∷ vs) → ReadsAtom (Left p ∷ ts) (annotated p e t) vs
    tuple_atom : {p : Place} {e : Expr} {es : Exprs} {ts us vs : List Terminal}
        → ReadsExpr ts e (Comma ∷ us) done → ReadsExprs Right us es vs → ReadsAtom (Left p ∷ ts) (tuple p (more e es)) vs
    empty_list_atom : {p : Place} {ts : List Terminal} → ReadsAtom (LeftSquare p ∷ RightSquare ∷ ts) (list p none) ts
    list_atom : {p : Place} {es : Exprs} {ts us : List Terminal}
        → ReadsExprs RightSquare ts es us → ReadsAtom (LeftSquare p ∷ ts) (list p es) us

  -- expr (',' expr)* and a closing bracket of this shape
  pub data ReadsExprs : Terminal → List Terminal → Exprs → List Terminal → Type 0 where
    last_expr : {t : Terminal} {e : Expr} {ts us : List Terminal}
        → ReadsExpr ts e (t ∷ us) done → ReadsExprs t ts (more e none) us
    more_exprs : {t : Terminal} {e : Expr} {es : Exprs} {ts us vs : List Terminal}
        → ReadsExpr ts e (Comma ∷ us) done → ReadsExprs t us es vs → ReadsExprs t ts (more e es) vs

  -- cases = a block of (pattern ['|' expr] '->' block)+
  pub data ReadsCases : List Terminal → Cases → List Terminal → Type 0 where
    cases_block : {cs : Cases} {ts us : List Terminal} → ReadsCaseItems ts cs us → has_case cs ≡ true → ReadsCases (Opens ∷ ts) cs us

  -- cases, each an item, and the end of their block
  pub data ReadsCaseItems : List Terminal → Cases → List Terminal → Type 0 where
    no_case_item : {ts : List Terminal} → ReadsCaseItems (Closes ∷ ts) no_case ts
    case_item : {p : Place} {x : Pattern} {b : Block} {cs : Cases} {ts us vs ws : List Terminal}
        → ReadsPattern ts x (Arrow ∷ us) → ReadsBlock us b vs → ReadsCaseItems vs cs ws
        → ReadsCaseItems (Item p ∷ ts) (case x b cs) ws
    guarded_item : {p : Place} {x : Pattern} {g : Expr} {b : Block} {cs : Cases} {ts us vs ws xs : List Terminal}
        → ReadsPattern ts x (Bar ∷ us) → ReadsExpr us g (Arrow ∷ vs) done → ReadsBlock vs b ws → ReadsCaseItems ws cs xs
        → ReadsCaseItems (Item p ∷ ts) (guarded x g b cs) xs

  -- block = a block of (use | signature | binding)* and one expr
  pub data ReadsBlock : List Terminal → Block → List Terminal → Type 0 where
    block_block : {b : Block} {ts us : List Terminal} → ReadsBlockItems ts b us → ReadsBlock (Opens ∷ ts) b us

  -- the items of a block, and its end. The names that its bindings bind are single segments.
  pub data ReadsBlockItems : List Terminal → Block → List Terminal → Type 0 where
    result_item : {p : Place} {e : Expr} {ts us : List Terminal}
        → ReadsExpr ts e (Closes ∷ us) done → ReadsBlockItems (Item p ∷ ts) (result e) us
    use_item : {p q : Place} {t : Terminal} {w : Written} {ws : List Written} {b : Block} {ts us vs : List Terminal}
        → IsPath t w → ReadsUsed ts ws us → ReadsBlockItems us b vs
        → ReadsBlockItems (Item p ∷ Use q ∷ t ∷ ts) (using q w ws b) vs
    signature_item : {p : Place} {h : Head} {t : TypeExpr} {b : Block} {ts us vs ws : List Terminal}
        → ReadsHead ts h (Colon ∷ us) → ReadsType us t vs → ReadsBlockItems vs b ws
        → ReadsBlockItems (Item p ∷ ts) (signature h t b) ws
    prefix_item : {p : Place} {h : Head} {ps : List Param} {c b : Block} {ts us vs ws xs : List Terminal}
        → ReadsBound ts h us → is_single (head_name h).text ≡ true → ReadsParams us ps (Equals ∷ vs) → ReadsBlock vs c ws
        → ReadsBlockItems ws b xs → ReadsBlockItems (Item p ∷ ts) (prefix h ps c b) xs
    infix_item : {p : Place} {t u v : Terminal} {x y : Param} {w : Written} {c b : Block} {ts us vs : List Terminal}
        → IsParam t x → IsOperator u w → is_single w.text ≡ true → IsParam v y → ReadsBlock ts c us → ReadsBlockItems us b vs
        → ReadsBlockItems (Item p ∷ t ∷ u ∷ v ∷ Equals ∷ ts) (infix_operator x w y c b) vs
