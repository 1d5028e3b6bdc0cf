-- The levels of types, and the variables that are quantified at the front of a signature. A node of a tree is one level.
use Rattle.std.specs.Prelude.{ℕ, Bool, ◌+◌, ◌||◌, max, List, [], ◌∷◌, ◌++◌, map, length, if◌then◌else◌}
use Rattle.std.specs.List.{list_any}
use Rattle.uc_base.specs.Name.{is_one_of}
use Rattle.uc_scratch.specs.declared.written.Written.{Written}
use Rattle.uc_scratch.specs.TypeExprs.{TypeExpr, quantified, arrow, operand, TypeOperand, applied, atom, TypeAtom, variable, constant, unit, group, tuple, list, TypeExprs, none, more, TypeAtoms, no_atom, more_atoms}

-- the texts of names
abbrev pub texts_of : List Written → List (List ℕ)
texts_of ws = map (λ w. w.text) ws

abbrev mutual
  -- the levels of a type: `forall` is one for each variable, an arrow one
  pub type_levels : TypeExpr → ℕ
  type_levels (quantified p ws t) = length ws + type_levels t
  type_levels (arrow a t) = max (type_operand_levels a) (type_levels t) + 1
  type_levels (operand a) = type_operand_levels a

  pub type_operand_levels : TypeOperand → ℕ
  type_operand_levels (applied c bs) = type_atoms_levels bs + 1
  type_operand_levels (atom a) = type_atom_levels a

  -- a bracket alone is no level
  pub type_atom_levels : TypeAtom → ℕ
  type_atom_levels (variable w) = 1
  type_atom_levels (constant c) = 1
  type_atom_levels (unit p) = 1
  type_atom_levels (group p t) = type_levels t
  type_atom_levels (tuple p ts) = types_levels ts + 1
  type_atom_levels (list p t) = type_levels t + 1

  pub types_levels : TypeExprs → ℕ
  types_levels none = 0
  types_levels (more t ts) = max (type_levels t) (types_levels ts)

  pub type_atoms_levels : TypeAtoms → ℕ
  type_atoms_levels no_atom = 0
  type_atoms_levels (more_atoms a bs) = max (type_atom_levels a) (type_atoms_levels bs)

abbrev mutual
  -- the variables of a type that are not bound, added to those found before in order of first occurrence
  pub type_free : List (List ℕ) → TypeExpr → List (List ℕ) → List (List ℕ)
  type_free bound (quantified p ws t) found = type_free (texts_of ws ++ bound) t found
  type_free bound (arrow a t) found = type_free bound t (type_operand_free bound a found)
  type_free bound (operand a) found = type_operand_free bound a found

  pub type_operand_free : List (List ℕ) → TypeOperand → List (List ℕ) → List (List ℕ)
  type_operand_free bound (applied c bs) found = type_atoms_free bound bs found
  type_operand_free bound (atom a) found = type_atom_free bound a found

  pub type_atom_free : List (List ℕ) → TypeAtom → List (List ℕ) → List (List ℕ)
  type_atom_free bound (variable w) found = if is_one_of bound w.text || is_one_of found w.text then found else found ++ w.text ∷ []
  type_atom_free bound (constant c) found = found
  type_atom_free bound (unit p) found = found
  type_atom_free bound (group p t) found = type_free bound t found
  type_atom_free bound (tuple p ts) found = types_free bound ts found
  type_atom_free bound (list p t) found = type_free bound t found

  pub types_free : List (List ℕ) → TypeExprs → List (List ℕ) → List (List ℕ)
  types_free bound none found = found
  types_free bound (more t ts) found = types_free bound ts (type_free bound t found)

  pub type_atoms_free : List (List ℕ) → TypeAtoms → List (List ℕ) → List (List ℕ)
  type_atoms_free bound no_atom found = found
  type_atoms_free bound (more_atoms a bs) found = type_atoms_free bound bs (type_atom_free bound a found)

abbrev mutual
  -- the variables of the quantifiers that stand at the front of a type, brackets round it left out
  pub type_front : TypeExpr → List (List ℕ)
  type_front (quantified p ws t) = texts_of ws ++ type_front t
  type_front (arrow a t) = []
  type_front (operand a) = type_operand_front a

  pub type_operand_front : TypeOperand → List (List ℕ)
  type_operand_front (applied c bs) = []
  type_operand_front (atom a) = type_atom_front a

  pub type_atom_front : TypeAtom → List (List ℕ)
  type_atom_front (group p t) = type_front t
  type_atom_front _ = []

-- what is bound inside quantifiers, of which the first is outermost, in a scope
abbrev pub quantified_in : List (List Written) → List (List ℕ) → List (List ℕ)
quantified_in [] scope = scope
quantified_in (ws ∷ wss) scope = quantified_in wss (texts_of ws ++ scope)

-- whether one of some quantifiers has a variable
abbrev pub some_quantifies : List (List Written) → List ℕ → Bool
some_quantifies wss text = list_any (λ ws. is_one_of (texts_of ws) text) wss

-- the variables that are quantified at the front of a signature or an annotation, where these are in scope
abbrev pub put_in_front : List (List ℕ) → TypeExpr → List (List ℕ)
put_in_front scope t = type_free scope t []

-- the levels of a signature or an annotation, with the quantifiers that are put in front
abbrev pub signature_levels : List (List ℕ) → TypeExpr → ℕ
signature_levels scope t = length (put_in_front scope t) + type_levels t

-- what is in scope in the body under a signature: the quantifiers at its front, those put there among them
abbrev pub scope_under : List (List ℕ) → TypeExpr → List (List ℕ)
scope_under scope t = put_in_front scope t ++ type_front t ++ scope
