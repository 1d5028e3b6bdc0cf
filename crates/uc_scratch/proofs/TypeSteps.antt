-- What each step of the readers of types leaves to read.
use Rattle.std.proofs.Common.{◌≡◌, ◌≢◌, ℕ, ◌<◌, Bool, true, false, not, ◌⊎◌, inl, inr, List, [], ◌∷◌, ◌++◌, length, refl, subst, sym, ap, ◌∙◌, append_assoc, arith}
use Rattle.std.proofs.lemmas.List.{append-nil}
use Rattle.uc_base.specs.declared.place.Place.{Place}
use Rattle.uc_scratch.specs.declared.written.Written.{Written}
use Rattle.uc_scratch.specs.declared.written.Reference as reference
use Rattle.uc_scratch.specs.declared.written.Con.{Con}
use Rattle.uc_scratch.specs.declared.written.Con.TheVariants as con
use Rattle.uc_scratch.specs.declared.terminal.Terminal.{Terminal}
use Rattle.uc_scratch.specs.declared.terminal.Terminal.TheVariants.{Small, Capital, Dotted, Reference, Left, Right, LeftSquare, RightSquare, Comma, Dot, Arrow, Forall}
use Rattle.uc_scratch.specs.declared.type_expr.TypeFront.{TypeFront}
use Rattle.uc_scratch.specs.declared.type_expr.TypeAtom as seen_atom
use Rattle.uc_scratch.specs.declared.type_expr.TypeAtom.TheVariants as atom_of
use Rattle.uc_scratch.specs.declared.atom_front.AtomFront.{AtomFront}
use Rattle.uc_scratch.specs.declared.atom_front.AtomFront.TheVariants as fronts
use Rattle.uc_scratch.specs.TypeExprs.{TypeExpr, quantified, arrow, operand, TypeOperand, applied, TypeAtom, variable, constant, unit, tuple, list, TypeExprs, none, more, types_of, TypeAtoms, no_atom, more_atoms}
use Rattle.uc_scratch.specs.TypeViews.{type_atom, type_atoms, fronted, fronts_before}
use Rattle.uc_scratch.specs.Terminals.{capital_con, dotted_con, reference_con}
use Rattle.uc_scratch.specs.TypeGrammar.{ReadsVariables, no_variable, more_variables, ReadsType, forall_type, arrow_type, operand_type, ReadsTypeOperand, applied_type, atom_type, ReadsTypeAtoms, no_type_atom, more_type_atoms, ReadsTypeAtom, variable_type, constant_type, unit_type, group_type, tuple_type, list_type, ReadsTypes, last_type, more_types}
use Rattle.uc_scratch.specs.AtomFronts.{IsAtomFront}
use Rattle.uc_scratch.specs.TypeBrackets.{operand_with, in_round}
use Rattle.uc_scratch.specs.Follows.{begins_type_atom, begins_pattern_atom, ends_variables, ends_type_atoms, ends_type}
use Rattle.uc_scratch.specs.Nesting.{fits}
use Rattle.uc_scratch.proofs.Fits.{fits_variables, fits_type, fits_type_operand}
use Rattle.uc_scratch.proofs.Lengths.{variables_length, type_length, type_operand_length}
use Rattle.uc_scratch.proofs.TypeReadings.{one_variables, one_type, one_type_operand, one_type_atom, type_from, types_from, type_atoms_from, variables_from, tail_same, differ, begins_atom, at_con, ends_atoms, no_operand_at_forall, not_comma}

-- each step takes tokens, and what stands behind it fits as deep

pub forall_smaller : (rest after behind : List Terminal) (p : Place) (ws : List Written) → rest ≡ Forall p ∷ after → ReadsVariables after ws (Dot ∷ behind) → length behind < length rest
forall_smaller rest after behind p ws e h = omega (arith, ap length e, variables_length h)

pub arrow_smaller : (rest after behind : List Terminal) (a : TypeOperand) → ReadsTypeOperand rest a after → after ≡ Arrow ∷ behind → length behind < length rest
arrow_smaller rest after behind a h e = omega (arith, ap length e, type_operand_length h)

pub comma_smaller : (rest after behind : List Terminal) (t : TypeExpr) → ReadsType rest t after → after ≡ Comma ∷ behind → length behind < length rest
comma_smaller rest after behind t h e = omega (arith, ap length e, type_length h)

fits_at : (n : ℕ) (ts us : List Terminal) → ts ≡ us → fits n ts ≡ true → fits n us ≡ true
fits_at n ts us e f = sym (ap (fits n) e) ∙ f

pub fits_forall : (n : ℕ) (rest after behind : List Terminal) (p : Place) (ws : List Written) → rest ≡ Forall p ∷ after → ReadsVariables after ws (Dot ∷ behind) → fits n rest ≡ true → fits n behind ≡ true
fits_forall n rest after behind p ws e h f = fits_variables n h (fits_at n _ _ e f)

pub fits_arrow : (n : ℕ) (rest after behind : List Terminal) (a : TypeOperand) → ReadsTypeOperand rest a after → after ≡ Arrow ∷ behind → fits n rest ≡ true → fits n behind ≡ true
fits_arrow n rest after behind a h e f = fits_at n _ _ e (fits_type_operand n h f)

pub fits_comma : (n : ℕ) (rest after behind : List Terminal) (t : TypeExpr) → ReadsType rest t after → after ≡ Comma ∷ behind → fits n rest ≡ true → fits n behind ≡ true
fits_comma n rest after behind t h e f = fits_at n _ _ e (fits_type n h f)

-- an atom, by what stands at the front

atom_from : (us vs : List Terminal) (a : TypeAtom) (xs : List Terminal) → us ≡ vs → ReadsTypeAtom vs a xs → ReadsTypeAtom us a xs
atom_from us vs a xs e h = let P : List Terminal → Type 0 = λ z. ReadsTypeAtom z a xs in subst P (sym e) h

same_atom : (ts us : List Terminal) (a b : TypeAtom) → a ≡ b → ReadsTypeAtom ts b us → ReadsTypeAtom ts a us
same_atom ts us a b e h = let P : TypeAtom → Type 0 = λ z. ReadsTypeAtom ts z us in subst P (sym e) h

pub variable_found : (ts us : List Terminal) (w v : Written) → ts ≡ Small w ∷ us → v ≡ w → ReadsTypeAtom ts (variable v) us
variable_found ts us w v e f = atom_from _ _ _ _ e (same_atom _ _ _ _ (ap variable f) variable_type)

same_path : (v w : Written) → v ≡ w → constant (con.Path v) ≡ constant (con.Path w)
same_path v w e = cc

pub path_found : (ts us : List Terminal) (w v : Written) → (ts ≡ Capital w ∷ us) ⊎ (ts ≡ Dotted w ∷ us) → v ≡ w → ReadsTypeAtom ts (constant (con.Path v)) us
path_found ts us w v (inl e) f = atom_from _ _ _ _ e (same_atom _ _ _ _ (same_path _ _ f) (constant_type capital_con))
path_found ts us w v (inr e) f = atom_from _ _ _ _ e (same_atom _ _ _ _ (same_path _ _ f) (constant_type dotted_con))

same_reference : (r s : reference.Reference) → r ≡ s → constant (con.Reference r) ≡ constant (con.Reference s)
same_reference r s e = cc

pub reference_found : (ts us : List Terminal) (r s : reference.Reference) → ts ≡ Reference r ∷ us → s ≡ r → ReadsTypeAtom ts (constant (con.Reference s)) us
reference_found ts us r s e f = atom_from _ _ _ _ e (same_atom _ _ _ _ (same_reference _ _ f) (constant_type reference_con))

pub unit_found : (ts us : List Terminal) (p : Place) → ts ≡ Right ∷ us → ReadsTypeAtom (Left p ∷ ts) (unit p) us
unit_found ts us p e = let P : List Terminal → Type 0 = λ z. ReadsTypeAtom (Left p ∷ z) (unit p) us in subst P (sym e) unit_type

no_atom_at : (ts : List Terminal) → ends_type_atoms ts ≡ true → (a : TypeAtom) (us : List Terminal) → ReadsTypeAtom ts a us → ⊥
no_atom_at ts q a us h = differ _ q (begins_atom h)

not_type_atom : (t : Terminal) → begins_pattern_atom t ≡ false → not (begins_type_atom t) ≡ true
not_type_atom (Small w) e = cc
not_type_atom (Capital w) e = cc
not_type_atom (Dotted w) e = cc
not_type_atom (Reference r) e = cc
not_type_atom (Left p) e = cc
not_type_atom (LeftSquare p) e = cc
not_type_atom _ e = refl

other_ends : (ts : List Terminal) → ((t : Terminal) (us : List Terminal) → ts ≡ t ∷ us → begins_pattern_atom t ≡ false) → ends_type_atoms ts ≡ true
other_ends [] n = refl
other_ends (t ∷ ts) n = not_type_atom t (n t ts refl)

-- whether a front is one of an atom of a type
abbrev pub is_of_type : AtomFront → Bool
is_of_type (fronts.Wildcard p us) = false
is_of_type (fronts.Literal l us) = false
is_of_type fronts.Other = false
is_of_type _ = true

-- what else stands at the front begins no atom of a type
pub no_type_front : (ts : List Terminal) (f : AtomFront) → IsAtomFront ts f → is_of_type f ≡ false → (a : TypeAtom) (us : List Terminal) → ReadsTypeAtom ts a us → ⊥
no_type_front ts (fronts.Wildcard p vs) h e = no_atom_at ts (ap ends_type_atoms h)
no_type_front ts (fronts.Literal l vs) h e = no_atom_at ts (ap ends_type_atoms h)
no_type_front ts fronts.Other h e = no_atom_at ts (other_ends ts h)
no_type_front ts _ h e = cc

-- atoms, read so far

-- these atoms, and others after them
abbrev pub atoms_before : List seen_atom.TypeAtom → TypeAtoms → TypeAtoms
atoms_before [] xs = xs
atoms_before (a ∷ bs) xs = more_atoms (type_atom a) (atoms_before bs xs)

atoms_push : (bs : List seen_atom.TypeAtom) (a : seen_atom.TypeAtom) (xs : TypeAtoms) → atoms_before (bs ++ a ∷ []) xs ≡ atoms_before bs (more_atoms (type_atom a) xs)
atoms_push [] a xs = refl
atoms_push (b ∷ bs) a xs = ap (more_atoms (type_atom b)) (atoms_push bs a xs)

atoms_none : (bs : List seen_atom.TypeAtom) → atoms_before bs no_atom ≡ type_atoms bs
atoms_none [] = refl
atoms_none (b ∷ bs) = ap (more_atoms (type_atom b)) (atoms_none bs)

-- behind these atoms the rest is left to read
pub record AtomsSoFar (ts rest : List Terminal) (bs : List seen_atom.TypeAtom) : Type 0 where
  pub found : (xs : TypeAtoms) (us : List Terminal) → ReadsTypeAtoms rest xs us → ReadsTypeAtoms ts (atoms_before bs xs) us
  pub only : (xs : TypeAtoms) (us : List Terminal) → ReadsTypeAtoms ts xs us → ends_type_atoms us ≡ true → (ys : TypeAtoms) × ReadsTypeAtoms rest ys us

after_atom : {ts us vs : List Terminal} {a : TypeAtom} {xs : TypeAtoms} → ReadsTypeAtom ts a vs → ReadsTypeAtoms ts xs us → ends_type_atoms us ≡ true → (ys : TypeAtoms) × ReadsTypeAtoms vs ys us
after_atom h no_type_atom q = absurd (differ _ q (begins_atom h))
after_atom h (more_type_atoms k l) q = (_, type_atoms_from _ _ _ _ ((one_type_atom _ _ _ _ h k).1) l)

pub atom_step : (ts rest after : List Terminal) (a : seen_atom.TypeAtom) (bs bs1 : List seen_atom.TypeAtom) → ReadsTypeAtom rest (type_atom a) after → bs1 ≡ bs ++ a ∷ []
    → AtomsSoFar ts rest bs → AtomsSoFar ts after bs1
atom_step ts rest after a bs bs1 h e f = record {
  found = λ xs us k. (let P : TypeAtoms → Type 0 = λ z. ReadsTypeAtoms ts z us in
      subst P (sym (ap (λ z. atoms_before z xs) e ∙ atoms_push bs a xs)) (f.found _ us (more_type_atoms h k)));
  only = λ xs us k q. (let y = f.only xs us k q in after_atom h y.1 q);
}

in_atoms : {ts us : List Terminal} {xs : TypeAtoms} → ReadsTypeAtoms ts xs us → ends_type_atoms us ≡ true → ends_type_atoms ts ≡ false
    → ((a : TypeAtom) (vs : List Terminal) → ReadsTypeAtom ts a vs → ⊥) → ⊥
in_atoms no_type_atom q b g = differ _ q b
in_atoms (more_type_atoms k l) q b g = g _ _ k

pub atom_none : (ts rest : List Terminal) (bs : List seen_atom.TypeAtom) → ends_type_atoms rest ≡ false → ((a : TypeAtom) (vs : List Terminal) → ReadsTypeAtom rest a vs → ⊥)
    → AtomsSoFar ts rest bs → (xs : TypeAtoms) (us : List Terminal) → ReadsTypeAtoms ts xs us → ends_type_atoms us ≡ true → ⊥
atom_none ts rest bs b g f xs us h q = let y = f.only xs us h q in in_atoms y.1 q b g

pub atoms_done : (ts rest : List Terminal) (bs : List seen_atom.TypeAtom) → AtomsSoFar ts rest bs → ReadsTypeAtoms ts (type_atoms bs) rest
atoms_done ts rest bs f = let P : TypeAtoms → Type 0 = λ z. ReadsTypeAtoms ts z rest in subst P (atoms_none bs) (f.found no_atom rest no_type_atom)

-- an operand

applied_found : {ts us vs : List Terminal} {c : Con} {a : TypeAtom} {bs : TypeAtoms} → ReadsTypeAtom ts (constant c) us → ReadsTypeAtoms us (more_atoms a bs) vs
    → ReadsTypeOperand ts (applied c (more_atoms a bs)) vs
applied_found (constant_type h) i = applied_type h i

pub operand_found : {ts us vs : List Terminal} {c : Con} (bs : TypeAtoms) → ReadsTypeAtom ts (constant c) us → ReadsTypeAtoms us bs vs → ReadsTypeOperand ts (operand_with c bs) vs
operand_found no_atom h no_type_atom = atom_type h
operand_found (more_atoms a bs) h i = applied_found h i

pub operand_found_at : (ts us vs : List Terminal) (c : Con) (bs : TypeAtoms) (a : TypeOperand) → ReadsTypeAtom ts (constant c) us → ReadsTypeAtoms us bs vs → a ≡ operand_with c bs → ReadsTypeOperand ts a vs
operand_found_at ts us vs c bs a h i e = let P : TypeOperand → Type 0 = λ z. ReadsTypeOperand ts z vs in subst P (sym e) (operand_found bs h i)

pub con_read : (ts us : List Terminal) (a : seen_atom.TypeAtom) (c : Con) → a ≡ atom_of.Con c → ReadsTypeAtom ts (type_atom a) us → ReadsTypeAtom ts (constant c) us
con_read ts us a c e h = let P : seen_atom.TypeAtom → Type 0 = λ z. ReadsTypeAtom ts (type_atom z) us in subst P e h

-- an operand that begins with the name of a declared type has all atoms behind it
pub operand_at_con : {ts us : List Terminal} {c : Con} → ReadsTypeAtom ts (constant c) us
    → ((bs : TypeAtoms) (vs : List Terminal) → ReadsTypeAtoms us bs vs → ends_type_atoms vs ≡ true → ⊥)
    → (a : TypeOperand) (vs : List Terminal) → ReadsTypeOperand ts a vs → ends_type_atoms vs ≡ true → ⊥
operand_at_con (constant_type h) g a vs (applied_type k l) q = g _ _ l q
operand_at_con h g a vs (atom_type k) q = g _ _ no_type_atom (ap ends_type_atoms ((one_type_atom _ _ _ _ h k).1) ∙ q)

not_con : (a : seen_atom.TypeAtom) → ((c : Con) → a ≡ atom_of.Con c → ⊥) → (c : Con) → constant c ≡ type_atom a → ⊥
not_con (atom_of.Con d) g c e = g d refl
not_con (atom_of.Variable w) g c e = cc
not_con (atom_of.Unit p) g c e = cc
not_con (atom_of.Group p t) g c e = cc
not_con (atom_of.Tuple p ts) g c e = cc
not_con (atom_of.List p t) g c e = cc

-- an operand that begins with another atom is that atom
pub operand_at_atom : (ts us : List Terminal) (a : seen_atom.TypeAtom) → ReadsTypeAtom ts (type_atom a) us → ((c : Con) → a ≡ atom_of.Con c → ⊥) → ends_type_atoms us ≡ false
    → (b : TypeOperand) (vs : List Terminal) → ReadsTypeOperand ts b vs → ends_type_atoms vs ≡ true → ⊥
operand_at_atom ts us a h g n b vs (applied_type k l) q = not_con a g _ ((at_con k h).0)
operand_at_atom ts us a h g n b vs (atom_type k) q = differ _ (ap ends_type_atoms ((one_type_atom _ _ _ _ h k).1) ∙ q) n

pub operand_none : {ts : List Terminal} → ((a : TypeAtom) (us : List Terminal) → ReadsTypeAtom ts a us → ⊥)
    → (a : TypeOperand) (us : List Terminal) → ReadsTypeOperand ts a us → ends_type_atoms us ≡ true → ⊥
operand_none g a us (applied_type k l) q = g _ _ (constant_type k)
operand_none g a us (atom_type k) q = g _ _ k

-- variables

same_front : (w v : Written) (rest after : List Terminal) → v ≡ w → rest ≡ Small w ∷ after → rest ≡ Small v ∷ after
same_front w v rest after e f = cc

pub variable_step : (ts rest after : List Terminal) (w v : Written) (vs vs1 : List Written) → rest ≡ Small w ∷ after → v ≡ w → vs1 ≡ vs ++ v ∷ []
    → ((ws : List Written) (us : List Terminal) → ReadsVariables rest ws us → ReadsVariables ts (vs ++ ws) us)
    → (ws : List Written) (us : List Terminal) → ReadsVariables after ws us → ReadsVariables ts (vs1 ++ ws) us
variable_step ts rest after w v vs vs1 e ew ev f ws us h =
    let P : List Written → Type 0 = λ z. ReadsVariables ts (z ++ ws) us in
    let Q : List Written → Type 0 = λ z. ReadsVariables ts z us in
    subst P (sym ev) (subst Q (sym (append_assoc vs (v ∷ []) ws)) (f (v ∷ ws) us (variables_from (same_front _ _ _ _ ew e) (more_variables h))))

pub variables_done : (ts rest : List Terminal) (vs : List Written) → ((ws : List Written) (us : List Terminal) → ReadsVariables rest ws us → ReadsVariables ts (vs ++ ws) us)
    → ReadsVariables ts vs rest
variables_done ts rest vs f = let P : List Written → Type 0 = λ z. ReadsVariables ts z rest in subst P (append-nil vs) (f [] rest no_variable)

pub bound_empty : (ts rest : List Terminal) (ws : List Written) → ReadsVariables ts ws rest → ends_variables rest ≡ true → length ws ≡ 0
    → (v : Written) (vs : List Written) (us : List Terminal) → ReadsVariables ts (v ∷ vs) (Dot ∷ us) → ⊥
bound_empty ts rest ws h q z v vs us k = let x = one_variables _ _ _ _ q refl h k in omega (arith, ap length x.0)

pub bound_no_dot : (ts rest : List Terminal) (ws : List Written) → ReadsVariables ts ws rest → ends_variables rest ≡ true → ((us : List Terminal) → rest ≡ Dot ∷ us → ⊥)
    → (v : Written) (vs : List Written) (us : List Terminal) → ReadsVariables ts (v ∷ vs) (Dot ∷ us) → ⊥
bound_no_dot ts rest ws h q n v vs us k = n us ((one_variables _ _ _ _ q refl h k).1)

-- quantifiers and left sides of arrows, read so far

fronts_push : (fs : List TypeFront) (f : TypeFront) (t : TypeExpr) → fronts_before (fs ++ f ∷ []) t ≡ fronts_before fs (fronted f t)
fronts_push [] f t = refl
fronts_push (g ∷ fs) f t = ap (fronted g) (fronts_push fs f t)

pub record TypeSoFar (ts rest : List Terminal) (fs : List TypeFront) : Type 0 where
  pub found : (t : TypeExpr) (us : List Terminal) → ReadsType rest t us → ReadsType ts (fronts_before fs t) us
  pub only : (t : TypeExpr) (us : List Terminal) → ReadsType ts t us → ends_type us ≡ true → (u : TypeExpr) × ReadsType rest u us

front_found : (ts us : List Terminal) (fs fs1 : List TypeFront) (f : TypeFront) (t : TypeExpr) → fs1 ≡ fs ++ f ∷ []
    → ReadsType ts (fronts_before fs (fronted f t)) us → ReadsType ts (fronts_before fs1 t) us
front_found ts us fs fs1 f t e h = let P : TypeExpr → Type 0 = λ z. ReadsType ts z us in subst P (sym (ap (λ z. fronts_before z t) e ∙ fronts_push fs f t)) h

after_forall : {ts us vs : List Terminal} {p : Place} {ws : List Written} {t : TypeExpr} → ReadsVariables ts ws (Dot ∷ us) → ReadsType (Forall p ∷ ts) t vs → (u : TypeExpr) × ReadsType us u vs
after_forall h (forall_type k l) = (_, type_from _ _ _ _ (tail_same _ _ _ _ ((one_variables _ _ _ _ refl refl h k).1)) l)
after_forall h (arrow_type k l) = absurd (no_operand_at_forall k)
after_forall h (operand_type k) = absurd (no_operand_at_forall k)

forall_found : {ts us vs : List Terminal} {p : Place} {t : TypeExpr} (ws : List Written) → ws ≢ [] → ReadsVariables ts ws (Dot ∷ us) → ReadsType us t vs → ReadsType (Forall p ∷ ts) (quantified p ws t) vs
forall_found [] n h i = absurd (n refl)
forall_found (w ∷ ws) n h i = forall_type h i

pub forall_step : (ts rest after behind : List Terminal) (p : Place) (f : TypeFront) (ws : List Written) (fs fs1 : List TypeFront) → rest ≡ Forall p ∷ after
    → ReadsVariables after ws (Dot ∷ behind) → ws ≢ [] → ((t : TypeExpr) → fronted f t ≡ quantified p ws t) → fs1 ≡ fs ++ f ∷ [] → TypeSoFar ts rest fs → TypeSoFar ts behind fs1
forall_step ts rest after behind p f ws fs fs1 er h n ef e s = record {
  found = λ t us k. front_found ts us fs fs1 f t e
      (let P : TypeExpr → Type 0 = λ z. ReadsType ts (fronts_before fs z) us in subst P (sym (ef t)) (s.found _ us (type_from _ _ _ _ er (forall_found ws n h k))));
  only = λ t us k q. (let y = s.only t us k q in after_forall h (type_from _ _ _ _ (sym er) y.1));
}

in_forall : {ts us : List Terminal} {p : Place} {t : TypeExpr} → ReadsType (Forall p ∷ ts) t us
    → ((w : Written) (ws : List Written) (vs : List Terminal) → ReadsVariables ts (w ∷ ws) (Dot ∷ vs) → ⊥) → ⊥
in_forall (forall_type k l) g = g _ _ _ k
in_forall (arrow_type k l) g = no_operand_at_forall k
in_forall (operand_type k) g = no_operand_at_forall k

pub forall_none : (ts rest after : List Terminal) (p : Place) (fs : List TypeFront) → rest ≡ Forall p ∷ after
    → ((w : Written) (ws : List Written) (vs : List Terminal) → ReadsVariables after (w ∷ ws) (Dot ∷ vs) → ⊥) → TypeSoFar ts rest fs
    → (t : TypeExpr) (us : List Terminal) → ReadsType ts t us → ends_type us ≡ true → ⊥
forall_none ts rest after p fs e g s t us h q = let y = s.only t us h q in in_forall (type_from _ _ _ _ (sym e) y.1) g

after_arrow : {ts us vs : List Terminal} {a : TypeOperand} {t : TypeExpr} → ReadsTypeOperand ts a (Arrow ∷ us) → ReadsType ts t vs → ends_type vs ≡ true → (u : TypeExpr) × ReadsType us u vs
after_arrow h (forall_type k l) q = absurd (no_operand_at_forall h)
after_arrow h (arrow_type k l) q = (_, type_from _ _ _ _ (tail_same _ _ _ _ ((one_type_operand _ _ _ _ refl refl h k).1)) l)
after_arrow h (operand_type k) q = absurd (differ _ q (ap ends_type (sym ((one_type_operand _ _ _ _ refl (ends_atoms _ q) h k).1))))

operand_at : (ts us vs : List Terminal) (a : TypeOperand) → us ≡ vs → ReadsTypeOperand ts a us → ReadsTypeOperand ts a vs
operand_at ts us vs a e h = let P : List Terminal → Type 0 = λ z. ReadsTypeOperand ts a z in subst P e h

pub arrow_step : (ts rest after behind : List Terminal) (f : TypeFront) (a : TypeOperand) (fs fs1 : List TypeFront) → ReadsTypeOperand rest a after → after ≡ Arrow ∷ behind
    → ((t : TypeExpr) → fronted f t ≡ arrow a t) → fs1 ≡ fs ++ f ∷ [] → TypeSoFar ts rest fs → TypeSoFar ts behind fs1
arrow_step ts rest after behind f a fs fs1 h ea ef e s = record {
  found = λ t us k. front_found ts us fs fs1 f t e
      (let P : TypeExpr → Type 0 = λ z. ReadsType ts (fronts_before fs z) us in subst P (sym (ef t)) (s.found _ us (arrow_type (operand_at _ _ _ _ ea h) k)));
  only = λ t us k q. (let y = s.only t us k q in after_arrow (operand_at _ _ _ _ ea h) y.1 q);
}

in_type : {ts us : List Terminal} {t : TypeExpr} → ReadsType ts t us → ends_type us ≡ true → ((p : Place) (vs : List Terminal) → ts ≡ Forall p ∷ vs → ⊥)
    → ((a : TypeOperand) (vs : List Terminal) → ReadsTypeOperand ts a vs → ends_type_atoms vs ≡ true → ⊥) → ⊥
in_type (forall_type k l) q n g = n _ _ refl
in_type (arrow_type k l) q n g = g _ _ k refl
in_type (operand_type k) q n g = g _ _ k (ends_atoms _ q)

pub type_none : (ts rest : List Terminal) (fs : List TypeFront) → ((p : Place) (vs : List Terminal) → rest ≡ Forall p ∷ vs → ⊥)
    → ((a : TypeOperand) (vs : List Terminal) → ReadsTypeOperand rest a vs → ends_type_atoms vs ≡ true → ⊥) → TypeSoFar ts rest fs
    → (t : TypeExpr) (us : List Terminal) → ReadsType ts t us → ends_type us ≡ true → ⊥
type_none ts rest fs n g s t us h q = let y = s.only t us h q in in_type y.1 q n g

pub type_done : (ts rest after : List Terminal) (a : TypeOperand) (fs : List TypeFront) → ReadsTypeOperand rest a after → TypeSoFar ts rest fs → ReadsType ts (fronts_before fs (operand a)) after
type_done ts rest after a fs h s = s.found _ _ (operand_type h)

-- types with commas, read so far

-- these types, and others after them
abbrev pub types_before : List TypeExpr → TypeExprs → TypeExprs
types_before [] xs = xs
types_before (t ∷ ts) xs = more t (types_before ts xs)

types_push : (ss : List TypeExpr) (t : TypeExpr) (xs : TypeExprs) → types_before (ss ++ t ∷ []) xs ≡ types_before ss (more t xs)
types_push [] t xs = refl
types_push (s ∷ ss) t xs = ap (more s) (types_push ss t xs)

types_none : (ss : List TypeExpr) → types_before ss none ≡ types_of ss
types_none [] = refl
types_none (s ∷ ss) = ap (more s) (types_none ss)

pub record TypesSoFar (ts rest : List Terminal) (ss : List TypeExpr) : Type 0 where
  pub found : (xs : TypeExprs) (us : List Terminal) → ReadsTypes rest xs us → ReadsTypes ts (types_before ss xs) us
  pub only : (xs : TypeExprs) (us : List Terminal) → ReadsTypes ts xs us → (ys : TypeExprs) × ReadsTypes rest ys us

type_at : (ts us vs : List Terminal) (t : TypeExpr) → us ≡ vs → ReadsType ts t us → ReadsType ts t vs
type_at ts us vs t e h = let P : List Terminal → Type 0 = λ z. ReadsType ts t z in subst P e h

after_comma : {ts us vs : List Terminal} {t : TypeExpr} {xs : TypeExprs} → ReadsType ts t (Comma ∷ us) → ReadsTypes ts xs vs → (ys : TypeExprs) × ReadsTypes us ys vs
after_comma h (last_type k) = absurd (not_comma _ _ (sym ((one_type _ _ _ _ refl refl h k).1)))
after_comma h (more_types k l) = (_, types_from _ _ _ _ (tail_same _ _ _ _ ((one_type _ _ _ _ refl refl h k).1)) l)

pub comma_step : (ts rest after behind : List Terminal) (t : TypeExpr) (ss ss1 : List TypeExpr) → ReadsType rest t after → after ≡ Comma ∷ behind → ss1 ≡ ss ++ t ∷ []
    → TypesSoFar ts rest ss → TypesSoFar ts behind ss1
comma_step ts rest after behind t ss ss1 h ea e f = record {
  found = λ xs us k. (let P : TypeExprs → Type 0 = λ z. ReadsTypes ts z us in
      subst P (sym (ap (λ z. types_before z xs) e ∙ types_push ss t xs)) (f.found _ us (more_types (type_at _ _ _ _ ea h) k)));
  only = λ xs us k. (let y = f.only xs us k in after_comma (type_at _ _ _ _ ea h) y.1);
}

pub types_done : (ts rest after behind : List Terminal) (t : TypeExpr) (ss ss1 : List TypeExpr) → ReadsType rest t after → after ≡ Right ∷ behind → ss1 ≡ ss ++ t ∷ []
    → TypesSoFar ts rest ss → ReadsTypes ts (types_of ss1) behind
types_done ts rest after behind t ss ss1 h ea e f =
    let P : TypeExprs → Type 0 = λ z. ReadsTypes ts z behind in
    subst P (sym (types_push ss t none) ∙ ap (λ z. types_before z none) (sym e) ∙ types_none ss1) (f.found _ behind (last_type (type_at _ _ _ _ ea h)))

in_types : {ts us : List Terminal} {xs : TypeExprs} → ReadsTypes ts xs us → ((t : TypeExpr) (vs : List Terminal) → ReadsType ts t vs → ends_type vs ≡ true → ⊥) → ⊥
in_types (last_type k) g = g _ _ k refl
in_types (more_types k l) g = g _ _ k refl

pub types_without : (ts rest : List Terminal) (ss : List TypeExpr) → ((t : TypeExpr) (vs : List Terminal) → ReadsType rest t vs → ends_type vs ≡ true → ⊥) → TypesSoFar ts rest ss
    → (xs : TypeExprs) (us : List Terminal) → ReadsTypes ts xs us → ⊥
types_without ts rest ss g f xs us h = let y = f.only xs us h in in_types y.1 g

not_behind : {ts after us : List Terminal} {t : TypeExpr} {xs : TypeExprs} → ReadsType ts t after → ends_type after ≡ true
    → ((vs : List Terminal) → after ≡ Right ∷ vs → ⊥) × ((vs : List Terminal) → after ≡ Comma ∷ vs → ⊥) → ReadsTypes ts xs us → ⊥
not_behind h q n (last_type k) = n.0 _ ((one_type _ _ _ _ q refl h k).1)
not_behind h q n (more_types k l) = n.1 _ ((one_type _ _ _ _ q refl h k).1)

pub types_not_behind : (ts rest after : List Terminal) (t : TypeExpr) (ss : List TypeExpr) → ReadsType rest t after → ends_type after ≡ true
    → ((vs : List Terminal) → after ≡ Right ∷ vs → ⊥) × ((vs : List Terminal) → after ≡ Comma ∷ vs → ⊥) → TypesSoFar ts rest ss
    → (xs : TypeExprs) (us : List Terminal) → ReadsTypes ts xs us → ⊥
types_not_behind ts rest after t ss h q n f xs us k = let y = f.only xs us k in not_behind h q n y.1

-- atoms in brackets

pub round_found : {ts us : List Terminal} (p : Place) (ss : TypeExprs) → ReadsTypes ts ss us → ReadsTypeAtom (Left p ∷ ts) (in_round p ss) us
round_found p _ (last_type h) = group_type h
round_found p _ (more_types h (last_type k)) = tuple_type h (last_type k)
round_found p _ (more_types h (more_types k l)) = tuple_type h (more_types k l)

pub round_found_at : (ts us : List Terminal) (p : Place) (ss : TypeExprs) (a : TypeAtom) → ReadsTypes ts ss us → a ≡ in_round p ss → ReadsTypeAtom (Left p ∷ ts) a us
round_found_at ts us p ss a h e = same_atom _ _ _ _ e (round_found p ss h)

same_list : (p : Place) (t u : TypeExpr) → t ≡ u → list p t ≡ list p u
same_list p t u e = cc

pub list_found : (ts after us : List Terminal) (p : Place) (t u : TypeExpr) → ReadsType ts t after → after ≡ RightSquare ∷ us → u ≡ t → ReadsTypeAtom (LeftSquare p ∷ ts) (list p u) us
list_found ts after us p t u h e f = same_atom _ _ _ _ (same_list _ _ _ f) (list_type (type_at _ _ _ _ e h))

pub round_none : (ts : List Terminal) (p : Place) → ((vs : List Terminal) → ts ≡ Right ∷ vs → ⊥) → ((ss : TypeExprs) (vs : List Terminal) → ReadsTypes ts ss vs → ⊥)
    → (a : TypeAtom) (us : List Terminal) → ReadsTypeAtom (Left p ∷ ts) a us → ⊥
round_none ts p n g a us (constant_type k) = elim k [ ]
round_none ts p n g a us unit_type = n _ refl
round_none ts p n g a us (group_type k) = g _ _ (last_type k)
round_none ts p n g a us (tuple_type k l) = g _ _ (more_types k l)

pub list_not_closed : (ts after : List Terminal) (p : Place) (t : TypeExpr) → ReadsType ts t after → ends_type after ≡ true → ((vs : List Terminal) → after ≡ RightSquare ∷ vs → ⊥)
    → (a : TypeAtom) (us : List Terminal) → ReadsTypeAtom (LeftSquare p ∷ ts) a us → ⊥
list_not_closed ts after p t h q n a us (constant_type k) = elim k [ ]
list_not_closed ts after p t h q n a us (list_type k) = n _ ((one_type _ _ _ _ q refl h k).1)

-- what the vectors of the readers stand for

pub some_operand : (c : Con) (bs : List seen_atom.TypeAtom) → length bs ≢ 0 → applied c (type_atoms bs) ≡ operand_with c (type_atoms bs)
some_operand c [] n = absurd (n refl)
some_operand c (b ∷ bs) n = refl

pub not_one_type : (p : Place) (ts : List TypeExpr) → length ts ≢ 1 → tuple p (types_of ts) ≡ in_round p (types_of ts)
not_one_type p [] n = refl
not_one_type p (t ∷ []) n = absurd (n refl)
not_one_type p (t ∷ u ∷ ts) n = refl
