-- The first name that stands twice where it may stand once, and the first signature that isn't followed by its binding, in
-- the order of the text.
use Rattle.std.specs.Prelude.{ℕ, Bool, false, List, [], ◌∷◌, ◌++◌, Option, Some, None, bytes_eq, if◌then◌else◌}
use Rattle.std.specs.Option.{option_or}
use Rattle.uc_base.specs.declared.place.Place.{Place}
use Rattle.uc_base.specs.declared.fault.Fault.{Fault}
use Rattle.uc_base.specs.declared.fault.Fault.TheVariants.{DuplicateName, LoneSignature}
use Rattle.uc_base.specs.Name.{is_one_of}
use Rattle.uc_scratch.specs.declared.written.Written.{Written}
use Rattle.uc_scratch.specs.declared.written.Param.{Param}
use Rattle.uc_scratch.specs.declared.written.Param.TheVariants as param
use Rattle.uc_scratch.specs.declared.written.Head.{Head}
use Rattle.uc_scratch.specs.declared.written.Head.TheVariants as head
use Rattle.uc_scratch.specs.declared.block.Case.{Case}
use Rattle.uc_scratch.specs.declared.block.BindingFront.{BindingFront}
use Rattle.uc_scratch.specs.declared.block.BindingFront.TheVariants as front
use Rattle.uc_scratch.specs.Patterns as p
use Rattle.uc_scratch.specs.Exprs.{Expr, done, lambda, atom, operator, and, or, opens_if, branches, opens_match, with_cases, cases, block, Atom, path, bracketed, literal, reference, unit, group, annotated, tuple, list, Exprs, none, more, Cases, no_case, case, guarded, Block, result, using, signature, prefix, infix_operator}
use Rattle.uc_scratch.specs.Files as f
use Rattle.uc_scratch.specs.ExprGrammar.{head_name}

-- a name that stands among those before it
abbrev pub repeated : List (List ℕ) → Written → Option Fault
repeated before w = if is_one_of before w.text then Some (DuplicateName w.place) else None

-- the first of some names that stands among those before it
abbrev pub repeated_among : List (List ℕ) → List Written → Option Fault
repeated_among before [] = None
repeated_among before (w ∷ ws) = option_or (repeated before w) (repeated_among (w.text ∷ before) ws)

-- the names of parameters
abbrev pub param_names : List Param → List Written
param_names [] = []
param_names (param.Name w ∷ ps) = w ∷ param_names ps
param_names (param.Any q ∷ ps) = param_names ps

abbrev mutual
  -- the names that a pattern binds, in the order of the text
  pub pattern_names : p.Pattern → List Written
  pattern_names (p.cons a x) = pattern_operand_names a ++ pattern_names x
  pattern_names (p.snocs a bs) = pattern_operand_names a ++ pattern_operands_names bs

  pub pattern_operands_names : p.PatternOperands → List Written
  pattern_operands_names p.no_operand = []
  pattern_operands_names (p.more_operands a bs) = pattern_operand_names a ++ pattern_operands_names bs

  pub pattern_operand_names : p.PatternOperand → List Written
  pattern_operand_names (p.applied c bs) = pattern_atoms_names bs
  pattern_operand_names (p.atom a) = pattern_atom_names a

  pub pattern_atom_names : p.PatternAtom → List Written
  pattern_atom_names (p.any q) = []
  pattern_atom_names (p.variable w) = w ∷ []
  pattern_atom_names (p.named w a) = w ∷ pattern_atom_names a
  pattern_atom_names (p.literal l) = []
  pattern_atom_names (p.constant c) = []
  pattern_atom_names (p.unit q) = []
  pattern_atom_names (p.group q x) = pattern_names x
  pattern_atom_names (p.tuple q xs) = patterns_names xs
  pattern_atom_names (p.list q xs) = patterns_names xs

  pub patterns_names : p.Patterns → List Written
  patterns_names p.none = []
  patterns_names (p.more x xs) = pattern_names x ++ patterns_names xs

  pub pattern_atoms_names : p.PatternAtoms → List Written
  pattern_atoms_names p.no_atom = []
  pattern_atoms_names (p.more_atoms a bs) = pattern_atom_names a ++ pattern_atoms_names bs

-- where a signature begins: at its name, or at the bracket round it
abbrev pub head_place : Head → Place
head_place (head.Path w) = w.place
head_place (head.Bracketed q w) = q
head_place (head.Operator w) = w.place

-- a signature that isn't followed by its binding
abbrev pub lone : Head → Bool → Option Fault
lone h followed = if followed then None else Some (LoneSignature (head_place h))

-- whether a block begins with a binding of a name
abbrev pub begins_with_binding : Written → Block → Bool
begins_with_binding w (result e) = false
begins_with_binding w (using q v vs b) = false
begins_with_binding w (signature h t b) = false
begins_with_binding w (prefix h ps c b) = bytes_eq w.text (head_name h).text
begins_with_binding w (infix_operator x v y c b) = bytes_eq w.text v.text

abbrev mutual
  pub expr_fault : Expr → Option Fault
  expr_fault done = None
  expr_fault (lambda ps b e) = option_or (repeated_among [] (param_names ps)) (option_or (block_fault [] b) (expr_fault e))
  expr_fault (atom a e) = option_or (atom_fault a) (expr_fault e)
  expr_fault (operator w e) = expr_fault e
  expr_fault (and e) = expr_fault e
  expr_fault (or e) = expr_fault e
  expr_fault (opens_if q e) = expr_fault e
  expr_fault (branches b c e) = option_or (block_fault [] b) (option_or (block_fault [] c) (expr_fault e))
  expr_fault (opens_match q e) = expr_fault e
  expr_fault (with_cases cs e) = option_or (cases_fault cs) (expr_fault e)
  expr_fault (cases q cs e) = option_or (cases_fault cs) (expr_fault e)
  expr_fault (block q b e) = option_or (block_fault [] b) (expr_fault e)

  pub atom_fault : Atom → Option Fault
  atom_fault (path w) = None
  atom_fault (bracketed q w) = None
  atom_fault (literal l) = None
  atom_fault (reference r) = None
  atom_fault (unit q) = None
  atom_fault (group q e) = expr_fault e
  atom_fault (annotated q e t) = expr_fault e
  atom_fault (tuple q es) = exprs_fault es
  atom_fault (list q es) = exprs_fault es

  pub exprs_fault : Exprs → Option Fault
  exprs_fault none = None
  exprs_fault (more e es) = option_or (expr_fault e) (exprs_fault es)

  -- a pattern binds each name once
  pub cases_fault : Cases → Option Fault
  cases_fault no_case = None
  cases_fault (case x b cs) = option_or (repeated_among [] (pattern_names x)) (option_or (block_fault [] b) (cases_fault cs))
  cases_fault (guarded x g b cs) =
      option_or (repeated_among [] (pattern_names x)) (option_or (expr_fault g) (option_or (block_fault [] b) (cases_fault cs)))

  -- a block behind bindings of these names
  pub block_fault : List (List ℕ) → Block → Option Fault
  block_fault before (result e) = expr_fault e
  block_fault before (using q w ws b) = block_fault before b
  block_fault before (signature h t b) = option_or (lone h (begins_with_binding (head_name h) b)) (block_fault before b)
  block_fault before (prefix h ps c b) =
      option_or (repeated before (head_name h)) (option_or (repeated_among [] (param_names ps))
      (option_or (block_fault [] c) (block_fault ((head_name h).text ∷ before) b)))
  block_fault before (infix_operator x w y c b) =
      option_or (repeated before w) (option_or (repeated_among [] (param_names (x ∷ y ∷ [])))
      (option_or (block_fault [] c) (block_fault (w.text ∷ before) b)))

-- the first fault of a guard or none, and of a case
abbrev pub guard_fault : Option Expr → Option Fault
guard_fault None = None
guard_fault (Some e) = expr_fault e

abbrev pub case_fault : Case → Option Fault
case_fault c = option_or (repeated_among [] (pattern_names c.pattern)) (option_or (guard_fault c.guard) (block_fault [] c.body))

-- the name of a binding, and its parameters
abbrev pub front_name : BindingFront → Written
front_name (front.Prefix h ps) = head_name h
front_name (front.Infix x w y) = w

abbrev pub front_params : BindingFront → List Param
front_params (front.Prefix h ps) = ps.items
front_params (front.Infix x w y) = x ∷ y ∷ []

-- the first fault of a binding behind bindings of these names
abbrev pub binding_fault : List (List ℕ) → BindingFront → Block → Option Fault
binding_fault before f b = option_or (repeated before (front_name f)) (option_or (repeated_among [] (param_names (front_params f))) (block_fault [] b))

-- the name of a constructor: that of its type, a dot and its own
abbrev pub constructor_name : Written → f.Constructor → List ℕ
constructor_name w c = w.text ++ 46 ∷ c.name.text

-- the names of constructors, before those of other terms
abbrev pub constructors_before : Written → List f.Constructor → List (List ℕ) → List (List ℕ)
constructors_before w [] before = before
constructors_before w (c ∷ cs) before = constructors_before w cs (constructor_name w c ∷ before)

-- the first constructor whose name is that of a term before it
abbrev pub constructors_fault : List (List ℕ) → Written → List f.Constructor → Option Fault
constructors_fault before w [] = None
constructors_fault before w (c ∷ cs) =
    option_or (if is_one_of before (constructor_name w c) then Some (DuplicateName c.name.place) else None)
    (constructors_fault (constructor_name w c ∷ before) w cs)

-- whether items begin with a binding of a name
abbrev pub begin_with_binding : Written → List f.Item → Bool
begin_with_binding w [] = false
begin_with_binding w (f.using q v vs ∷ is) = false
begin_with_binding w (f.declaration s v vs cs ∷ is) = false
begin_with_binding w (f.signature h t ∷ is) = false
begin_with_binding w (f.prefix h ps b ∷ is) = bytes_eq w.text (head_name h).text
begin_with_binding w (f.infix_operator x v y b ∷ is) = bytes_eq w.text v.text
begin_with_binding w (f.watch q e ∷ is) = false

-- the first fault of items behind terms and declared types of these names
abbrev pub items_fault : List (List ℕ) → List (List ℕ) → List f.Item → Option Fault
items_fault terms kinds [] = None
items_fault terms kinds (f.using q w ws ∷ is) = items_fault terms kinds is
items_fault terms kinds (f.declaration s w ws cs ∷ is) =
    option_or (repeated kinds w) (option_or (repeated_among [] ws)
    (option_or (constructors_fault terms w cs) (items_fault (constructors_before w cs terms) (w.text ∷ kinds) is)))
items_fault terms kinds (f.signature h t ∷ is) = option_or (lone h (begin_with_binding (head_name h) is)) (items_fault terms kinds is)
items_fault terms kinds (f.prefix h ps b ∷ is) =
    option_or (repeated terms (head_name h)) (option_or (repeated_among [] (param_names ps))
    (option_or (block_fault [] b) (items_fault ((head_name h).text ∷ terms) kinds is)))
items_fault terms kinds (f.infix_operator x w y b ∷ is) =
    option_or (repeated terms w) (option_or (repeated_among [] (param_names (x ∷ y ∷ [])))
    (option_or (block_fault [] b) (items_fault (w.text ∷ terms) kinds is)))
items_fault terms kinds (f.watch q e ∷ is) = option_or (expr_fault e) (items_fault terms kinds is)

-- the first fault of the names of a file
abbrev pub name_fault : List f.Item → Option Fault
name_fault is = items_fault [] [] is
