-- Each type that is meant has as many places as nodes.
use Rattle.std.proofs.Common.{◌≡◌, ℕ, zero, suc, List, ◌∷◌, ◌++◌, length, refl, ap, Option, Some, None, arith, length-append}
use Rattle.std.specs.Prelude.{reverse, bytes_eq}
use Rattle.std.specs.List.{position_from}
use Rattle.uc_base.specs.declared.place.Place.{Place}
use Rattle.uc_tree.specs.Types.{Ty, Tys}
use Rattle.uc_tree.specs.Types as types
use Rattle.uc_tree.specs.Nodes.{ty_nodes, tys_nodes}
use Rattle.uc_scratch.specs.declared.written.Written.{Written}
use Rattle.uc_scratch.specs.TypeExprs as written_types
use Rattle.uc_scratch.specs.TypeExprs.{TypeExpr, TypeOperand, TypeAtom, TypeExprs, TypeAtoms}
use Rattle.uc_scratch.specs.TypeLevels.{texts_of, put_in_front}
use Rattle.uc_meaning.specs.declared.wanted.Wanted.TheVariants as wanted
use Rattle.uc_meaning.specs.Candidates.{Usings}
use Rattle.uc_meaning.specs.Meanings.{Known, con_meaning}
use Rattle.uc_meaning.specs.Placed.{Placed, first_place}
use Rattle.uc_meaning.specs.TypeMeanings.{operand_start, arrow_at, quantified_at, variable_at, type_meaning, type_operand_meaning, type_atom_meaning, types_meaning, type_atoms_meaning, signature_meaning}
use Rattle.uc_resolve.proofs.Answered.{Answers, answer, fault, then_answers, any_answer}

abbrev pub IsTypePlaced : Placed Ty → Type 0
IsTypePlaced x = length x.1 ≡ length (ty_nodes x.0)

abbrev pub AreTypesPlaced : Placed Tys → Type 0
AreTypesPlaced x = length x.1 ≡ length (tys_nodes x.0)

quantified_placed : (p : Place) (n : ℕ) (x : Placed Ty) → IsTypePlaced x → IsTypePlaced (quantified_at p n x)
quantified_placed p zero x h = h
quantified_placed p (suc n) x h = quantified_placed p n (types.quantified x.0, p ∷ x.1) (ap suc h)

arrow_placed : (p : Place) (x y : Placed Ty) → IsTypePlaced x → IsTypePlaced y → IsTypePlaced (arrow_at p x y)
arrow_placed p x y h k = simp length-append (omega (arith, h, k))

type_before : (x : Placed Ty) (xs : Placed Tys) → IsTypePlaced x → AreTypesPlaced xs → length (x.1 ++ xs.1) ≡ length (tys_nodes (types.more x.0 xs.0))
type_before x xs h k = simp length-append (omega (arith, h, k))

list_type_placed : (x : Placed Ty) → IsTypePlaced x → length x.1 ≡ length (tys_nodes (types.more x.0 types.none))
list_type_placed x h = simp length-append (omega (arith, h))

variable_placed : (w : Written) (o : Option ℕ) → Answers IsTypePlaced (variable_at w o)
variable_placed w None = fault
variable_placed w (Some n) = answer refl

module _ (known : Known) (usings : Usings) where
  mutual
    pub type_placed : (scope : List (List ℕ)) (t : TypeExpr) → Answers IsTypePlaced (type_meaning known usings scope t)
    type_placed scope (written_types.quantified p ws t) =
        then_answers _ (type_placed (reverse (texts_of ws) ++ scope) t) (λ x h. answer (quantified_placed p (length ws) x h))
    type_placed scope (written_types.arrow a t) =
        then_answers _ (type_operand_placed scope a) (λ x h. then_answers _ (type_placed scope t) (λ y k. answer (arrow_placed (operand_start a) x y h k)))
    type_placed scope (written_types.operand a) = type_operand_placed scope a

    type_operand_placed : (scope : List (List ℕ)) (a : TypeOperand) → Answers IsTypePlaced (type_operand_meaning known usings scope a)
    type_operand_placed scope (written_types.applied c bs) =
        then_answers {P = λ _. Unit {0}} _ (any_answer (con_meaning known wanted.Kind usings c)) (λ x _. then_answers _ (type_atoms_placed scope bs) (λ ts h. answer (ap suc h)))
    type_operand_placed scope (written_types.atom a) = type_atom_placed scope a

    type_atom_placed : (scope : List (List ℕ)) (a : TypeAtom) → Answers IsTypePlaced (type_atom_meaning known usings scope a)
    type_atom_placed scope (written_types.variable w) = variable_placed w (position_from (bytes_eq w.text) 0 scope)
    type_atom_placed scope (written_types.constant c) = then_answers {P = λ _. Unit {0}} _ (any_answer (con_meaning known wanted.Kind usings c)) (λ x _. answer refl)
    type_atom_placed scope (written_types.unit p) = answer refl
    type_atom_placed scope (written_types.group p t) = type_placed scope t
    type_atom_placed scope (written_types.tuple p ts) = then_answers _ (types_placed scope ts) (λ xs h. answer (ap suc h))
    type_atom_placed scope (written_types.list p t) = then_answers _ (type_placed scope t) (λ x h. answer (ap suc (list_type_placed x h)))

    types_placed : (scope : List (List ℕ)) (ts : TypeExprs) → Answers AreTypesPlaced (types_meaning known usings scope ts)
    types_placed scope written_types.none = answer refl
    types_placed scope (written_types.more t ts) =
        then_answers _ (type_placed scope t) (λ x h. then_answers _ (types_placed scope ts) (λ xs k. answer (type_before x xs h k)))

    pub type_atoms_placed : (scope : List (List ℕ)) (bs : TypeAtoms) → Answers AreTypesPlaced (type_atoms_meaning known usings scope bs)
    type_atoms_placed scope written_types.no_atom = answer refl
    type_atoms_placed scope (written_types.more_atoms a bs) =
        then_answers _ (type_atom_placed scope a) (λ x h. then_answers _ (type_atoms_placed scope bs) (λ xs k. answer (type_before x xs h k)))

  pub signature_placed : (scope : List (List ℕ)) (t : TypeExpr) → Answers IsTypePlaced (signature_meaning known usings scope t)
  signature_placed scope t =
      let front = put_in_front scope t in
      then_answers _ (type_placed (reverse front ++ scope) t) (λ x h. answer (quantified_placed (first_place x.1) (length front) x h))
