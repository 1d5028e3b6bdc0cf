-- Written patterns as plain trees.
use Rattle.std.specs.Prelude.{ℕ, ◌+◌, List, [], ◌∷◌}
use Rattle.uc_base.specs.declared.place.Place.{Place}
use Rattle.uc_scratch.specs.declared.written.Written.{Written}
use Rattle.uc_scratch.specs.declared.written.Con.{Con}
use Rattle.uc_scratch.specs.declared.written.Literal.{Literal}

mutual
  -- a pattern: `+:` between an operand and a pattern, or operands with `:+` between
  pub data Pattern : Type 0 where
    cons : PatternOperand → Pattern → Pattern
    snocs : PatternOperand → PatternOperands → Pattern

  -- a constructor with arguments, or an atom alone
  pub data PatternOperand : Type 0 where
    applied : Con → PatternAtoms → PatternOperand
    atom : PatternAtom → PatternOperand

  -- `_`, a variable, a name with `@` before an atom, a literal, a constructor, the unit, a pattern in brackets, a tuple,
  -- or a list
  pub data PatternAtom : Type 0 where
    any : Place → PatternAtom
    variable : Written → PatternAtom
    named : Written → PatternAtom → PatternAtom
    literal : Literal → PatternAtom
    constant : Con → PatternAtom
    unit : Place → PatternAtom
    group : Place → Pattern → PatternAtom
    tuple : Place → Patterns → PatternAtom
    list : Place → Patterns → PatternAtom

  -- a list of patterns
  pub data Patterns : Type 0 where
    none : Patterns
    more : Pattern → Patterns → Patterns

  -- a list of operands
  pub data PatternOperands : Type 0 where
    no_operand : PatternOperands
    more_operands : PatternOperand → PatternOperands → PatternOperands

  -- a list of atoms
  pub data PatternAtoms : Type 0 where
    no_atom : PatternAtoms
    more_atoms : PatternAtom → PatternAtoms → PatternAtoms

-- the patterns of a list
abbrev pub patterns_of : List Pattern → Patterns
patterns_of [] = none
patterns_of (p ∷ ps) = more p (patterns_of ps)

abbrev mutual
  -- what falls in a walk over a pattern
  pub pattern_size : Pattern → ℕ
  pattern_size (cons a p) = operand_size a + pattern_size p + 1
  pattern_size (snocs a bs) = operand_size a + operands_size bs + 1

  pub operand_size : PatternOperand → ℕ
  operand_size (applied c bs) = atoms_size bs + 1
  operand_size (atom a) = atom_size a + 1

  pub atom_size : PatternAtom → ℕ
  atom_size (any p) = 1
  atom_size (variable w) = 1
  atom_size (named w a) = atom_size a + 1
  atom_size (literal l) = 1
  atom_size (constant c) = 1
  atom_size (unit p) = 1
  atom_size (group p t) = pattern_size t + 1
  atom_size (tuple p ts) = patterns_size ts + 1
  atom_size (list p ts) = patterns_size ts + 1

  pub patterns_size : Patterns → ℕ
  patterns_size none = 0
  patterns_size (more p ps) = pattern_size p + patterns_size ps + 1

  pub operands_size : PatternOperands → ℕ
  operands_size no_operand = 0
  operands_size (more_operands a bs) = operand_size a + operands_size bs + 1

  pub atoms_size : PatternAtoms → ℕ
  atoms_size no_atom = 0
  atoms_size (more_atoms a bs) = atom_size a + atoms_size bs + 1
