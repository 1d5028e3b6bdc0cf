-- The names that a file writes and that may be looked up among those of a head: their texts, in the order in which they are written.
use Rattle.std.specs.Prelude.{ℕ, List, [], ◌∷◌, ◌++◌}
use Rattle.uc_scratch.specs.declared.written.Con.{Con}
use Rattle.uc_scratch.specs.declared.written.Con.TheVariants as con
use Rattle.uc_scratch.specs.TypeExprs as type
use Rattle.uc_scratch.specs.TypeExprs.{TypeExpr, TypeExprs, TypeOperand, TypeAtom, TypeAtoms}
use Rattle.uc_scratch.specs.Patterns as pattern
use Rattle.uc_scratch.specs.Patterns.{Pattern, Patterns, PatternOperand, PatternOperands, PatternAtom, PatternAtoms}
use Rattle.uc_scratch.specs.Exprs as expr
use Rattle.uc_scratch.specs.Exprs.{Expr, Exprs, Atom, Cases, Block}
use Rattle.uc_scratch.specs.Files.{Constructor, Item, using, declaration, signature, prefix, infix_operator, watch}

-- the name of a declared type or of a constructor, unless it is a hash or a builtin
abbrev pub con_words : Con → List (List ℕ)
con_words (con.Path w) = w.text ∷ []
con_words (con.Reference r) = []

abbrev mutual
  -- those of a type: the names of declared types
  pub type_words : TypeExpr → List (List ℕ)
  type_words (type.quantified p ws t) = type_words t
  type_words (type.arrow a t) = type_operand_words a ++ type_words t
  type_words (type.operand a) = type_operand_words a

  pub type_operand_words : TypeOperand → List (List ℕ)
  type_operand_words (type.applied c bs) = con_words c ++ type_atoms_words bs
  type_operand_words (type.atom a) = type_atom_words a

  pub type_atom_words : TypeAtom → List (List ℕ)
  type_atom_words (type.variable w) = []
  type_atom_words (type.constant c) = con_words c
  type_atom_words (type.unit p) = []
  type_atom_words (type.group p t) = type_words t
  type_atom_words (type.tuple p ts) = types_words ts
  type_atom_words (type.list p t) = type_words t

  pub types_words : TypeExprs → List (List ℕ)
  types_words type.none = []
  types_words (type.more t ts) = type_words t ++ types_words ts

  pub type_atoms_words : TypeAtoms → List (List ℕ)
  type_atoms_words type.no_atom = []
  type_atoms_words (type.more_atoms a bs) = type_atom_words a ++ type_atoms_words bs

abbrev mutual
  -- those of a pattern: the names of constructors
  pub pattern_words : Pattern → List (List ℕ)
  pattern_words (pattern.cons a p) = pattern_operand_words a ++ pattern_words p
  pattern_words (pattern.snocs a bs) = pattern_operand_words a ++ pattern_operands_words bs

  pub pattern_operand_words : PatternOperand → List (List ℕ)
  pattern_operand_words (pattern.applied c bs) = con_words c ++ pattern_atoms_words bs
  pattern_operand_words (pattern.atom a) = pattern_atom_words a

  pub pattern_atom_words : PatternAtom → List (List ℕ)
  pattern_atom_words (pattern.any p) = []
  pattern_atom_words (pattern.variable w) = []
  pattern_atom_words (pattern.named w a) = pattern_atom_words a
  pattern_atom_words (pattern.literal l) = []
  pattern_atom_words (pattern.constant c) = con_words c
  pattern_atom_words (pattern.unit p) = []
  pattern_atom_words (pattern.group p t) = pattern_words t
  pattern_atom_words (pattern.tuple p ts) = patterns_words ts
  pattern_atom_words (pattern.list p ts) = patterns_words ts

  pub patterns_words : Patterns → List (List ℕ)
  patterns_words pattern.none = []
  patterns_words (pattern.more p ps) = pattern_words p ++ patterns_words ps

  pub pattern_operands_words : PatternOperands → List (List ℕ)
  pattern_operands_words pattern.no_operand = []
  pattern_operands_words (pattern.more_operands a bs) = pattern_operand_words a ++ pattern_operands_words bs

  pub pattern_atoms_words : PatternAtoms → List (List ℕ)
  pattern_atoms_words pattern.no_atom = []
  pattern_atoms_words (pattern.more_atoms a bs) = pattern_atom_words a ++ pattern_atoms_words bs

abbrev mutual
  -- those of an expression: paths and operators, which may be local, and those of its types and patterns
  pub expr_words : Expr → List (List ℕ)
  expr_words expr.done = []
  expr_words (expr.lambda ps b e) = block_words b ++ expr_words e
  expr_words (expr.atom a e) = atom_words a ++ expr_words e
  expr_words (expr.operator w e) = w.text ∷ expr_words e
  expr_words (expr.and e) = expr_words e
  expr_words (expr.or e) = expr_words e
  expr_words (expr.opens_if p e) = expr_words e
  expr_words (expr.branches b c e) = block_words b ++ block_words c ++ expr_words e
  expr_words (expr.opens_match p e) = expr_words e
  expr_words (expr.with_cases cs e) = cases_words cs ++ expr_words e
  expr_words (expr.cases p cs e) = cases_words cs ++ expr_words e
  expr_words (expr.block p b e) = block_words b ++ expr_words e

  pub atom_words : Atom → List (List ℕ)
  atom_words (expr.path w) = w.text ∷ []
  atom_words (expr.bracketed p w) = w.text ∷ []
  atom_words (expr.literal l) = []
  atom_words (expr.reference r) = []
  atom_words (expr.unit p) = []
  atom_words (expr.group p e) = expr_words e
  atom_words (expr.annotated p e t) = expr_words e ++ type_words t
  atom_words (expr.tuple p es) = exprs_words es
  atom_words (expr.list p es) = exprs_words es

  pub exprs_words : Exprs → List (List ℕ)
  exprs_words expr.none = []
  exprs_words (expr.more e es) = expr_words e ++ exprs_words es

  pub cases_words : Cases → List (List ℕ)
  cases_words expr.no_case = []
  cases_words (expr.case x b cs) = pattern_words x ++ block_words b ++ cases_words cs
  cases_words (expr.guarded x g b cs) = pattern_words x ++ expr_words g ++ block_words b ++ cases_words cs

  pub block_words : Block → List (List ℕ)
  block_words (expr.result e) = expr_words e
  block_words (expr.using p w ws b) = block_words b
  block_words (expr.signature h t b) = type_words t ++ block_words b
  block_words (expr.prefix h ps c b) = block_words c ++ block_words b
  block_words (expr.infix_operator x w y c b) = block_words c ++ block_words b

-- those of the fields of constructors
abbrev pub constructors_words : List Constructor → List (List ℕ)
constructors_words [] = []
constructors_words (c ∷ cs) = type_atoms_words c.fields ++ constructors_words cs

-- those of an item
abbrev pub item_words : Item → List (List ℕ)
item_words (using p w ws) = []
item_words (declaration s w ws cs) = constructors_words cs
item_words (signature h t) = type_words t
item_words (prefix h ps b) = block_words b
item_words (infix_operator x w y b) = block_words b
item_words (watch p e) = expr_words e

-- those of a file
abbrev pub file_words : List Item → List (List ℕ)
file_words [] = []
file_words (i ∷ is) = item_words i ++ file_words is
