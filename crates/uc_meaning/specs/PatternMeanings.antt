-- The meaning of written patterns.
use Rattle.std.specs.Prelude.{[], ◌∷◌, ◌++◌, Result, Ok}
use Rattle.uc_base.specs.declared.place.Place.{Place}
use Rattle.uc_base.specs.declared.fault.Fault.{Fault}
use Rattle.uc_tree.specs.Patterns as trees
use Rattle.uc_tree.specs.Patterns.{Pattern as Tree, Patterns as Trees}
use Rattle.uc_scratch.specs.Patterns.{Pattern, cons, snocs, PatternOperand, applied, atom, PatternAtom, any, variable, named, literal, constant, unit, group, tuple, list, Patterns, none, more, PatternOperands, no_operand, more_operands, PatternAtoms, no_atom, more_atoms}
use Rattle.uc_meaning.specs.declared.wanted.Wanted.TheVariants.{Constructor}
use Rattle.uc_meaning.specs.Results.{◌>>=◌}
use Rattle.uc_meaning.specs.Candidates.{Usings}
use Rattle.uc_meaning.specs.Meanings.{Known, con_meaning}
use Rattle.uc_meaning.specs.Literals.{literal_value}
use Rattle.uc_meaning.specs.Placed.{Placed}
use Rattle.uc_meaning.specs.TypeMeanings.{con_place}

-- where a pattern begins: at its first token, which may be a bracket round it
abbrev pub atom_start : PatternAtom → Place
atom_start (any p) = p
atom_start (variable w) = w.place
atom_start (named w a) = w.place
atom_start (literal l) = l.written.place
atom_start (constant c) = con_place c
atom_start (unit p) = p
atom_start (group p t) = p
atom_start (tuple p ts) = p
atom_start (list p ts) = p

abbrev pub operand_start : PatternOperand → Place
operand_start (applied c bs) = con_place c
operand_start (atom a) = atom_start a

-- `+:` and `:+` stand where their left side begins
abbrev pub cons_at : Place → Placed Tree → Placed Tree → Placed Tree
cons_at p x y = (trees.cons x.0 y.0, p ∷ x.1 ++ y.1)

abbrev pub snoc_at : Place → Placed Tree → Placed Tree → Placed Tree
snoc_at p x y = (trees.snoc x.0 y.0, p ∷ x.1 ++ y.1)

-- a pattern before others
abbrev pub pattern_before : Placed Tree → Placed Trees → Placed Trees
pattern_before p ps = (trees.more p.0 ps.0, p.1 ++ ps.1)

abbrev mutual
  -- the meaning of a pattern
  pub pattern_meaning : Known → Usings → Pattern → Result (Placed Tree) Fault
  pattern_meaning known usings (cons a p) =
      operand_meaning known usings a >>= λ x. pattern_meaning known usings p >>= λ y. Ok (cons_at (operand_start a) x y)
  pattern_meaning known usings (snocs a bs) = operand_meaning known usings a >>= λ x. snocs_meaning known usings (operand_start a) x bs

  -- `:+` associates to the left: where the first operand begins, what stands before the other operands, and they
  pub snocs_meaning : Known → Usings → Place → Placed Tree → PatternOperands → Result (Placed Tree) Fault
  snocs_meaning known usings p x no_operand = Ok x
  snocs_meaning known usings p x (more_operands b bs) =
      operand_meaning known usings b >>= λ y. snocs_meaning known usings p (snoc_at p x y) bs

  pub operand_meaning : Known → Usings → PatternOperand → Result (Placed Tree) Fault
  operand_meaning known usings (applied c bs) =
      con_meaning known Constructor usings c >>= λ x. atoms_meaning known usings bs >>= λ ps. Ok (trees.constructor x ps.0, con_place c ∷ ps.1)
  operand_meaning known usings (atom a) = atom_meaning known usings a

  -- a bracket alone is no node
  pub atom_meaning : Known → Usings → PatternAtom → Result (Placed Tree) Fault
  atom_meaning known usings (any p) = Ok (trees.any, p ∷ [])
  atom_meaning known usings (variable w) = Ok (trees.variable, w.place ∷ [])
  atom_meaning known usings (named w a) = atom_meaning known usings a >>= λ x. Ok (trees.alias x.0, w.place ∷ x.1)
  atom_meaning known usings (literal l) = Ok (trees.literal (literal_value l), l.written.place ∷ [])
  atom_meaning known usings (constant c) =
      con_meaning known Constructor usings c >>= λ x. Ok (trees.constructor x trees.none, con_place c ∷ [])
  atom_meaning known usings (unit p) = Ok (trees.unit, p ∷ [])
  atom_meaning known usings (group p t) = pattern_meaning known usings t
  atom_meaning known usings (tuple p ts) = patterns_meaning known usings ts >>= λ xs. Ok (trees.tuple xs.0, p ∷ xs.1)
  atom_meaning known usings (list p ts) = patterns_meaning known usings ts >>= λ xs. Ok (trees.list xs.0, p ∷ xs.1)

  pub patterns_meaning : Known → Usings → Patterns → Result (Placed Trees) Fault
  patterns_meaning known usings none = Ok (trees.none, [])
  patterns_meaning known usings (more p ps) =
      pattern_meaning known usings p >>= λ x. patterns_meaning known usings ps >>= λ xs. Ok (pattern_before x xs)

  pub atoms_meaning : Known → Usings → PatternAtoms → Result (Placed Trees) Fault
  atoms_meaning known usings no_atom = Ok (trees.none, [])
  atoms_meaning known usings (more_atoms a bs) =
      atom_meaning known usings a >>= λ x. atoms_meaning known usings bs >>= λ xs. Ok (pattern_before x xs)
