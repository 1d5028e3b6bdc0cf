-- The meaning of written types. A type variable counts quantifiers outwards: in a list of variables in scope the innermost is the first.
use Rattle.std.specs.Prelude.{ℕ, zero, suc, List, [], ◌∷◌, ◌++◌, reverse, length, Option, Some, None, Result, Ok, Err, bytes_eq}
use Rattle.std.specs.List.{position_from}
use Rattle.uc_base.specs.declared.place.Place.{Place}
use Rattle.uc_base.specs.declared.fault.Fault.{Fault}
use Rattle.uc_base.specs.declared.reference.Ref.TheVariants.{Builtin}
use Rattle.uc_tree.specs.declared.target.Target.TheVariants.{Stored}
use Rattle.uc_tree.specs.Types.{Ty, Tys}
use Rattle.uc_tree.specs.Types as types
use Rattle.uc_scratch.specs.declared.written.Written.{Written}
use Rattle.uc_scratch.specs.declared.written.Con.{Con}
use Rattle.uc_scratch.specs.declared.written.Con.TheVariants as con
use Rattle.uc_scratch.specs.declared.written.Reference.TheVariants as reference
use Rattle.uc_scratch.specs.TypeExprs.{TypeExpr, quantified, arrow, operand, TypeOperand, applied, atom, TypeAtom, variable, constant, unit, group, tuple, list, TypeExprs, none, more, TypeAtoms, no_atom, more_atoms}
use Rattle.uc_scratch.specs.TypeLevels.{texts_of, put_in_front, type_front}
use Rattle.uc_meaning.specs.declared.wanted.Wanted.TheVariants.{Kind}
use Rattle.uc_meaning.specs.Results.{◌>>=◌}
use Rattle.uc_meaning.specs.Candidates.{Usings, unbound}
use Rattle.uc_meaning.specs.Meanings.{Known, con_meaning}
use Rattle.uc_meaning.specs.Placed.{Placed, first_place}

-- the place of a constructor's or a declared type's name
abbrev pub con_place : Con → Place
con_place (con.Path w) = w.place
con_place (con.Reference (reference.Hash w)) = w.place
con_place (con.Reference (reference.Builtin w)) = w.place

-- so many quantifiers at a place, over a type
abbrev pub quantified_at : Place → ℕ → Placed Ty → Placed Ty
quantified_at p zero t = t
quantified_at p (suc n) t = quantified_at p n (types.quantified t.0, p ∷ t.1)

-- where a type begins: at its first token, which may be a bracket round it
abbrev pub atom_start : TypeAtom → Place
atom_start (variable w) = w.place
atom_start (constant c) = con_place c
atom_start (unit p) = p
atom_start (group p t) = p
atom_start (tuple p ts) = p
atom_start (list p t) = p

abbrev pub operand_start : TypeOperand → Place
operand_start (applied c bs) = con_place c
operand_start (atom a) = atom_start a

-- an arrow, where its left side begins
abbrev pub arrow_at : Place → Placed Ty → Placed Ty → Placed Ty
arrow_at p a b = (types.arrow a.0 b.0, p ∷ a.1 ++ b.1)

-- a list type, at its bracket
abbrev pub list_at : Place → Placed Ty → Placed Ty
list_at p t = (types.applied (Stored (Builtin 5)) (types.more t.0 types.none), p ∷ t.1)

-- a variable of those in scope
abbrev pub variable_at : Written → Option ℕ → Result (Placed Ty) Fault
variable_at w None = Err (unbound w.place w.text)
variable_at w (Some n) = Ok (types.variable n, w.place ∷ [])

-- a type before others
abbrev pub ty_before : Placed Ty → Placed Tys → Placed Tys
ty_before t ts = (types.more t.0 ts.0, t.1 ++ ts.1)

abbrev mutual
  -- the meaning of a type where these variables are in scope
  pub type_meaning : Known → Usings → List (List ℕ) → TypeExpr → Result (Placed Ty) Fault
  type_meaning known usings scope (quantified p ws t) =
      type_meaning known usings (reverse (texts_of ws) ++ scope) t >>= λ x. Ok (quantified_at p (length ws) x)
  type_meaning known usings scope (arrow a t) =
      type_operand_meaning known usings scope a >>= λ x. type_meaning known usings scope t >>= λ y. Ok (arrow_at (operand_start a) x y)
  type_meaning known usings scope (operand a) = type_operand_meaning known usings scope a

  pub type_operand_meaning : Known → Usings → List (List ℕ) → TypeOperand → Result (Placed Ty) Fault
  type_operand_meaning known usings scope (applied c bs) =
      con_meaning known Kind usings c >>= λ x. type_atoms_meaning known usings scope bs >>= λ ts. Ok (types.applied x ts.0, con_place c ∷ ts.1)
  type_operand_meaning known usings scope (atom a) = type_atom_meaning known usings scope a

  -- a bracket alone is no node
  pub type_atom_meaning : Known → Usings → List (List ℕ) → TypeAtom → Result (Placed Ty) Fault
  type_atom_meaning known usings scope (variable w) = variable_at w (position_from (bytes_eq w.text) 0 scope)
  type_atom_meaning known usings scope (constant c) = con_meaning known Kind usings c >>= λ x. Ok (types.applied x types.none, con_place c ∷ [])
  type_atom_meaning known usings scope (unit p) = Ok (types.unit, p ∷ [])
  type_atom_meaning known usings scope (group p t) = type_meaning known usings scope t
  type_atom_meaning known usings scope (tuple p ts) = types_meaning known usings scope ts >>= λ xs. Ok (types.tuple xs.0, p ∷ xs.1)
  type_atom_meaning known usings scope (list p t) = type_meaning known usings scope t >>= λ x. Ok (list_at p x)

  pub types_meaning : Known → Usings → List (List ℕ) → TypeExprs → Result (Placed Tys) Fault
  types_meaning known usings scope none = Ok (types.none, [])
  types_meaning known usings scope (more t ts) =
      type_meaning known usings scope t >>= λ x. types_meaning known usings scope ts >>= λ xs. Ok (ty_before x xs)

  pub type_atoms_meaning : Known → Usings → List (List ℕ) → TypeAtoms → Result (Placed Tys) Fault
  type_atoms_meaning known usings scope no_atom = Ok (types.none, [])
  type_atoms_meaning known usings scope (more_atoms a bs) =
      type_atom_meaning known usings scope a >>= λ x. type_atoms_meaning known usings scope bs >>= λ xs. Ok (ty_before x xs)

-- the meaning of a signature or an annotation: its free variables are quantified at its front, in order of first occurrence
abbrev pub signature_meaning : Known → Usings → List (List ℕ) → TypeExpr → Result (Placed Ty) Fault
signature_meaning known usings scope t =
    let front = put_in_front scope t in
    type_meaning known usings (reverse front ++ scope) t >>= λ x. Ok (quantified_at (first_place x.1) (length front) x)

-- the quantifiers at the front of a signature, which are in scope in the body under it: those put there first
abbrev pub front_of_signature : List (List ℕ) → TypeExpr → List (List ℕ)
front_of_signature scope t = put_in_front scope t ++ type_front t
