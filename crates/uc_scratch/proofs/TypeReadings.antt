-- A type is read in one way, up to a token that can't go on with it.
use Rattle.std.proofs.Common.{◌≡◌, Bool, true, false, List, [], ◌∷◌, refl, subst, sym, ap, ◌∙◌}
use Rattle.uc_base.specs.declared.place.Place.{Place}
use Rattle.uc_scratch.specs.declared.written.Written.{Written}
use Rattle.uc_scratch.specs.declared.written.Con.{Con}
use Rattle.uc_scratch.specs.declared.terminal.Terminal.{Terminal}
use Rattle.uc_scratch.specs.declared.terminal.Terminal.TheVariants.{Small, Left, Right, LeftSquare, RightSquare, Comma, Dot, Arrow, Forall}
use Rattle.uc_scratch.specs.TypeExprs.{TypeExpr, quantified, arrow, operand, TypeOperand, applied, atom, TypeAtom, variable, constant, unit, group, tuple, list, TypeExprs, none, more, TypeAtoms, no_atom, more_atoms}
use Rattle.uc_scratch.specs.Terminals.{IsCon, capital_con, dotted_con, reference_con}
use Rattle.uc_scratch.specs.TypeGrammar.{ReadsVariables, no_variable, more_variables, ReadsType, forall_type, arrow_type, operand_type, ReadsTypeOperand, applied_type, atom_type, ReadsTypeAtoms, no_type_atom, more_type_atoms, ReadsTypeAtom, variable_type, constant_type, unit_type, group_type, tuple_type, list_type, ReadsTypes, last_type, more_types}
use Rattle.uc_scratch.specs.Follows.{ends_type_atoms, ends_type, ends_variables}

pub one_con : {t : Terminal} {c d : Con} → IsCon t c → IsCon t d → c ≡ d
one_con capital_con capital_con = refl
one_con dotted_con dotted_con = refl
one_con reference_con reference_con = refl

-- the same values behind the same tokens

pub variables_from : {us vs : List Terminal} {ws : List Written} {xs : List Terminal} → us ≡ vs → ReadsVariables vs ws xs → ReadsVariables us ws xs
variables_from {ws = ws} {xs = xs} e h = let P : List Terminal → Type 0 = λ x. ReadsVariables x ws xs in subst P (sym e) h

pub type_from : (us vs : List Terminal) (t : TypeExpr) (xs : List Terminal) → us ≡ vs → ReadsType vs t xs → ReadsType us t xs
type_from us vs t xs e h = let P : List Terminal → Type 0 = λ x. ReadsType x t xs in subst P (sym e) h

pub types_from : (us vs : List Terminal) (t : TypeExprs) (xs : List Terminal) → us ≡ vs → ReadsTypes vs t xs → ReadsTypes us t xs
types_from us vs t xs e h = let P : List Terminal → Type 0 = λ x. ReadsTypes x t xs in subst P (sym e) h

pub type_atoms_from : (us vs : List Terminal) (t : TypeAtoms) (xs : List Terminal) → us ≡ vs → ReadsTypeAtoms vs t xs → ReadsTypeAtoms us t xs
type_atoms_from us vs t xs e h = let P : List Terminal → Type 0 = λ x. ReadsTypeAtoms x t xs in subst P (sym e) h

pub tail_same : (t u : Terminal) (ts us : List Terminal) → t ∷ ts ≡ u ∷ us → ts ≡ us
tail_same t u ts us e = cc

-- variables

pub one_variables : {ts : List Terminal} (us vs : List Terminal) (xs ys : List Written) → ends_variables us ≡ true → ends_variables vs ≡ true
    → ReadsVariables ts xs us → ReadsVariables ts ys vs → (xs ≡ ys) × (us ≡ vs)
one_variables us vs xs ys p q no_variable no_variable = (refl, refl)
one_variables us vs xs ys p q no_variable (more_variables k) = cc
one_variables us vs xs ys p q (more_variables h) no_variable = cc
one_variables us vs xs ys p q (more_variables h) (more_variables k) = let x = one_variables _ _ _ _ p q h k in (same_variables _ _ _ x.0, x.1)
  where
    same_variables : (w : Written) (xs ys : List Written) → xs ≡ ys → w ∷ xs ≡ w ∷ ys
    same_variables w xs ys e = cc

-- what a type can't begin with

pub no_con_at_small : {w : Written} {c : Con} → IsCon (Small w) c → ⊥
no_con_at_small h = elim h [ ]

pub begins_atom : {ts us : List Terminal} {a : TypeAtom} → ReadsTypeAtom ts a us → ends_type_atoms ts ≡ false
begins_atom variable_type = refl
begins_atom (constant_type capital_con) = refl
begins_atom (constant_type dotted_con) = refl
begins_atom (constant_type reference_con) = refl
begins_atom unit_type = refl
begins_atom (group_type h) = refl
begins_atom (tuple_type h i) = refl
begins_atom (list_type h) = refl

pub begins_atoms : {ts us : List Terminal} {a : TypeAtom} {bs : TypeAtoms} → ReadsTypeAtoms ts (more_atoms a bs) us → ends_type_atoms ts ≡ false
begins_atoms (more_type_atoms h i) = begins_atom h

pub begins_operand : {ts us : List Terminal} {a : TypeOperand} → ReadsTypeOperand ts a us → ends_type_atoms ts ≡ false
begins_operand (applied_type capital_con i) = refl
begins_operand (applied_type dotted_con i) = refl
begins_operand (applied_type reference_con i) = refl
begins_operand (atom_type h) = begins_atom h

pub no_operand_at_forall : {ts us : List Terminal} {a : TypeOperand} {p : _} → ReadsTypeOperand (Forall p ∷ ts) a us → ⊥
no_operand_at_forall h = let e = begins_operand h in cc

-- a type doesn't begin with a closing bracket
pub no_type_at_right : {ts us : List Terminal} {t : TypeExpr} → ReadsType (Right ∷ ts) t us → ⊥
no_type_at_right (arrow_type h i) = let e = begins_operand h in cc
no_type_at_right (operand_type h) = let e = begins_operand h in cc

pub differ : (b : Bool) → b ≡ true → b ≡ false → ⊥
differ b p q = cc

pub ends_atoms : (ts : List Terminal) → ends_type ts ≡ true → ends_type_atoms ts ≡ true
ends_atoms [] p = refl
ends_atoms (Arrow ∷ ts) p = cc
ends_atoms (_ ∷ ts) p = p

-- an atom that begins with the name of a declared type is that name
pub at_con : {t : Terminal} {ts us : List Terminal} {c : Con} {a : TypeAtom} → IsCon t c → ReadsTypeAtom (t ∷ ts) a us → (constant c ≡ a) × (ts ≡ us)
at_con capital_con (constant_type capital_con) = (refl, refl)
at_con dotted_con (constant_type dotted_con) = (refl, refl)
at_con reference_con (constant_type reference_con) = (refl, refl)

same_quantified : (p : Place) (ws vs : List Written) (t u : TypeExpr) → ws ≡ vs → t ≡ u → quantified p ws t ≡ quantified p vs u
same_quantified p ws vs t u e f = cc

same_arrow : (a b : TypeOperand) (t u : TypeExpr) → a ≡ b → t ≡ u → arrow a t ≡ arrow b u
same_arrow a b t u e f = cc

same_applied : (c d : Con) (a b : TypeAtoms) → c ≡ d → a ≡ b → applied c a ≡ applied d b
same_applied c d a b e f = cc

same_more : (t u : TypeExpr) (ts us : TypeExprs) → t ≡ u → ts ≡ us → more t ts ≡ more u us
same_more t u ts us e f = cc

same_more_atoms : (a b : TypeAtom) (as1 bs : TypeAtoms) → a ≡ b → as1 ≡ bs → more_atoms a as1 ≡ more_atoms b bs
same_more_atoms a b as1 bs e f = cc

same_tuple : (p : Place) (t u : TypeExpr) (ts us : TypeExprs) → t ≡ u → ts ≡ us → tuple p (more t ts) ≡ tuple p (more u us)
same_tuple p t u ts us e f = cc

same_group : (p : Place) (t u : TypeExpr) → t ≡ u → group p t ≡ group p u
same_group p t u e = cc

same_list : (p : Place) (t u : TypeExpr) → t ≡ u → list p t ≡ list p u
same_list p t u e = cc

pub not_comma : (us vs : List Terminal) → Right ∷ us ≡ Comma ∷ vs → ⊥
not_comma us vs e = cc

mutual
  pub one_type : {ts : List Terminal} (us vs : List Terminal) (t u : TypeExpr) → ends_type us ≡ true → ends_type vs ≡ true
      → ReadsType ts t us → ReadsType ts u vs → (t ≡ u) × (us ≡ vs)
  one_type us vs t u p q (forall_type h i) (forall_type k l) =
      let x = one_variables _ _ _ _ refl refl h k in
      let y = one_type _ _ _ _ p q i (type_from _ _ _ _ (tail_same _ _ _ _ x.1) l) in
      (same_quantified _ _ _ _ _ x.0 y.0, y.1)
  one_type us vs t u p q (forall_type h i) (arrow_type k l) = absurd (no_operand_at_forall k)
  one_type us vs t u p q (forall_type h i) (operand_type k) = absurd (no_operand_at_forall k)
  one_type us vs t u p q (arrow_type h i) (forall_type k l) = absurd (no_operand_at_forall h)
  one_type us vs t u p q (operand_type h) (forall_type k l) = absurd (no_operand_at_forall h)
  one_type us vs t u p q (arrow_type h i) (arrow_type k l) =
      let x = one_type_operand _ _ _ _ refl refl h k in
      let y = one_type _ _ _ _ p q i (type_from _ _ _ _ (tail_same _ _ _ _ x.1) l) in
      (same_arrow _ _ _ _ x.0 y.0, y.1)
  one_type us vs t u p q (arrow_type h i) (operand_type k) =
      let x = one_type_operand _ _ _ _ refl (ends_atoms vs q) h k in absurd (differ (ends_type vs) q (ap ends_type (sym x.1)))
  one_type us vs t u p q (operand_type h) (arrow_type k l) =
      let x = one_type_operand _ _ _ _ (ends_atoms us p) refl h k in absurd (differ (ends_type us) p (ap ends_type x.1))
  one_type us vs t u p q (operand_type h) (operand_type k) =
      let x = one_type_operand _ _ _ _ (ends_atoms us p) (ends_atoms vs q) h k in (ap operand x.0, x.1)

  pub one_type_operand : {ts : List Terminal} (us vs : List Terminal) (a b : TypeOperand) → ends_type_atoms us ≡ true → ends_type_atoms vs ≡ true
      → ReadsTypeOperand ts a us → ReadsTypeOperand ts b vs → (a ≡ b) × (us ≡ vs)
  one_type_operand us vs a b p q (applied_type h i) (applied_type k l) =
      let x = one_type_atoms _ _ _ _ p q i l in (same_applied _ _ _ _ (one_con h k) x.0, x.1)
  one_type_operand us vs a b p q (applied_type h i) (atom_type k) =
      absurd (differ (ends_type_atoms vs) q (ap ends_type_atoms (sym ((at_con h k).1)) ∙ begins_atoms i))
  one_type_operand us vs a b p q (atom_type h) (applied_type k l) =
      absurd (differ (ends_type_atoms us) p (ap ends_type_atoms (sym ((at_con k h).1)) ∙ begins_atoms l))
  one_type_operand us vs a b p q (atom_type h) (atom_type k) = let x = one_type_atom _ _ _ _ h k in (ap atom x.0, x.1)

  pub one_type_atoms : {ts : List Terminal} (us vs : List Terminal) (a b : TypeAtoms) → ends_type_atoms us ≡ true → ends_type_atoms vs ≡ true
      → ReadsTypeAtoms ts a us → ReadsTypeAtoms ts b vs → (a ≡ b) × (us ≡ vs)
  one_type_atoms us vs a b p q no_type_atom no_type_atom = (refl, refl)
  one_type_atoms us vs a b p q no_type_atom (more_type_atoms k l) = absurd (differ (ends_type_atoms us) p (begins_atom k))
  one_type_atoms us vs a b p q (more_type_atoms h i) no_type_atom = absurd (differ (ends_type_atoms vs) q (begins_atom h))
  one_type_atoms us vs a b p q (more_type_atoms h i) (more_type_atoms k l) =
      let x = one_type_atom _ _ _ _ h k in
      let y = one_type_atoms _ _ _ _ p q i (type_atoms_from _ _ _ _ x.1 l) in
      (same_more_atoms _ _ _ _ x.0 y.0, y.1)

  pub one_type_atom : {ts : List Terminal} (us vs : List Terminal) (a b : TypeAtom) → ReadsTypeAtom ts a us → ReadsTypeAtom ts b vs → (a ≡ b) × (us ≡ vs)
  one_type_atom us vs a b (constant_type h) k = at_con h k
  one_type_atom us vs a b h (constant_type k) = let x = at_con k h in (sym x.0, sym x.1)
  one_type_atom us vs a b variable_type variable_type = (refl, refl)
  one_type_atom us vs a b unit_type unit_type = (refl, refl)
  one_type_atom us vs a b unit_type (group_type k) = absurd (no_type_at_right k)
  one_type_atom us vs a b unit_type (tuple_type k l) = absurd (no_type_at_right k)
  one_type_atom us vs a b (group_type h) unit_type = absurd (no_type_at_right h)
  one_type_atom us vs a b (tuple_type h i) unit_type = absurd (no_type_at_right h)
  one_type_atom us vs a b (group_type h) (group_type k) =
      let x = one_type _ _ _ _ refl refl h k in (same_group _ _ _ x.0, tail_same _ _ _ _ x.1)
  one_type_atom us vs a b (group_type h) (tuple_type k l) = let x = one_type _ _ _ _ refl refl h k in absurd (not_comma _ _ x.1)
  one_type_atom us vs a b (tuple_type h i) (group_type k) = let x = one_type _ _ _ _ refl refl h k in absurd (not_comma _ _ (sym x.1))
  one_type_atom us vs a b (tuple_type h i) (tuple_type k l) =
      let x = one_type _ _ _ _ refl refl h k in
      let y = one_types _ _ _ _ i (types_from _ _ _ _ (tail_same _ _ _ _ x.1) l) in
      (same_tuple _ _ _ _ _ x.0 y.0, y.1)
  one_type_atom us vs a b (list_type h) (list_type k) =
      let x = one_type _ _ _ _ refl refl h k in (same_list _ _ _ x.0, tail_same _ _ _ _ x.1)

  pub one_types : {ts : List Terminal} (us vs : List Terminal) (a b : TypeExprs) → ReadsTypes ts a us → ReadsTypes ts b vs → (a ≡ b) × (us ≡ vs)
  one_types us vs a b (last_type h) (last_type k) =
      let x = one_type _ _ _ _ refl refl h k in (ap (λ z. more z none) x.0, tail_same _ _ _ _ x.1)
  one_types us vs a b (last_type h) (more_types k l) = let x = one_type _ _ _ _ refl refl h k in absurd (not_comma _ _ x.1)
  one_types us vs a b (more_types h i) (last_type k) = let x = one_type _ _ _ _ refl refl h k in absurd (not_comma _ _ (sym x.1))
  one_types us vs a b (more_types h i) (more_types k l) =
      let x = one_type _ _ _ _ refl refl h k in
      let y = one_types _ _ _ _ i (types_from _ _ _ _ (tail_same _ _ _ _ x.1) l) in
      (same_more _ _ _ _ x.0 y.0, y.1)
