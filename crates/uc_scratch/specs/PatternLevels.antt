-- The levels of patterns.
use Rattle.std.specs.Prelude.{ℕ, ◌+◌, max}
use Rattle.uc_scratch.specs.Patterns.{Pattern, cons, snocs, PatternOperand, applied, atom, PatternAtom, any, variable, named, literal, constant, unit, group, tuple, list, Patterns, none, more, PatternOperands, no_operand, more_operands, PatternAtoms, no_atom, more_atoms}

abbrev mutual
  -- the levels of a pattern: each `+:` and each `:+` is one, and `:+` associates to the left
  pub pattern_levels : Pattern → ℕ
  pattern_levels (cons a p) = max (pattern_operand_levels a) (pattern_levels p) + 1
  pattern_levels (snocs a bs) = snocs_levels (pattern_operand_levels a) bs

  -- the levels of operands with `:+` between, where what stands before them has so many
  pub snocs_levels : ℕ → PatternOperands → ℕ
  snocs_levels n no_operand = n
  snocs_levels n (more_operands a bs) = snocs_levels (max n (pattern_operand_levels a) + 1) bs

  pub pattern_operand_levels : PatternOperand → ℕ
  pattern_operand_levels (applied c bs) = pattern_atoms_levels bs + 1
  pattern_operand_levels (atom a) = pattern_atom_levels a

  -- a bracket alone is no level
  pub pattern_atom_levels : PatternAtom → ℕ
  pattern_atom_levels (any p) = 1
  pattern_atom_levels (variable w) = 1
  pattern_atom_levels (named w a) = pattern_atom_levels a + 1
  pattern_atom_levels (literal l) = 1
  pattern_atom_levels (constant c) = 1
  pattern_atom_levels (unit p) = 1
  pattern_atom_levels (group p x) = pattern_levels x
  pattern_atom_levels (tuple p xs) = patterns_levels xs + 1
  pattern_atom_levels (list p xs) = patterns_levels xs + 1

  pub patterns_levels : Patterns → ℕ
  patterns_levels none = 0
  patterns_levels (more x xs) = max (pattern_levels x) (patterns_levels xs)

  pub pattern_atoms_levels : PatternAtoms → ℕ
  pattern_atoms_levels no_atom = 0
  pattern_atoms_levels (more_atoms a bs) = max (pattern_atom_levels a) (pattern_atoms_levels bs)
