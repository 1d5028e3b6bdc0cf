-- What atoms of a pattern make together.
use Rattle.uc_base.specs.declared.place.Place.{Place}
use Rattle.uc_scratch.specs.declared.written.Con.{Con}
use Rattle.uc_scratch.specs.declared.read_patterns.Bracket.{Bracket}
use Rattle.uc_scratch.specs.declared.read_patterns.Bracket.TheVariants.{Round, Square}
use Rattle.uc_scratch.specs.declared.terminal.Terminal.{Terminal}
use Rattle.uc_scratch.specs.declared.terminal.Terminal.TheVariants.{Right, RightSquare}
use Rattle.uc_scratch.specs.Patterns.{PatternOperand, applied, atom, PatternAtom, constant, group, tuple, Patterns, none, more, PatternAtoms, no_atom, more_atoms}

-- a constructor with these atoms behind it
abbrev pub operand_with : Con → PatternAtoms → PatternOperand
operand_with c no_atom = atom (constant c)
operand_with c (more_atoms a bs) = applied c (more_atoms a bs)

-- these patterns in round brackets
abbrev pub in_round : Place → Patterns → PatternAtom
in_round p (more x none) = group p x
in_round p xs = tuple p xs

-- the closing bracket
abbrev pub closing_terminal : Bracket → Terminal
closing_terminal Round = Right
closing_terminal Square = RightSquare
