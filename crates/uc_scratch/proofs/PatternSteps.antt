-- What each step of the readers of patterns leaves to read.
use Rattle.std.proofs.Common.{◌≡◌, ◌≢◌, ℕ, ◌<◌, Bool, true, false, ◌⊎◌, inl, inr, List, [], ◌∷◌, ◌++◌, length, refl, subst, sym, ap, ◌∙◌, arith}
use Rattle.uc_base.specs.declared.place.Place.{Place}
use Rattle.uc_scratch.specs.declared.written.Written.{Written}
use Rattle.uc_scratch.specs.declared.written.Literal as written_literal
use Rattle.uc_scratch.specs.declared.written.Reference as reference
use Rattle.uc_scratch.specs.declared.written.Con.{Con}
use Rattle.uc_scratch.specs.declared.written.Con.TheVariants as con
use Rattle.uc_scratch.specs.declared.terminal.Terminal.{Terminal}
use Rattle.uc_scratch.specs.declared.terminal.Terminal.TheVariants.{Small, Capital, Dotted, Cons, Snoc, Wildcard, Literal, Reference, Left, Right, LeftSquare, RightSquare, Comma, At}
use Rattle.uc_scratch.specs.declared.pattern.PatternOperand as seen_operand
use Rattle.uc_scratch.specs.declared.pattern.PatternAtom as seen_atom
use Rattle.uc_scratch.specs.declared.read_patterns.Bracket.{Bracket}
use Rattle.uc_scratch.specs.declared.read_patterns.Bracket.TheVariants as bracket
use Rattle.uc_scratch.specs.Patterns.{Pattern, cons, snocs, PatternOperand, applied, PatternAtom, any, variable, named, literal, constant, unit, tuple, list, Patterns, none, more, patterns_of, PatternOperands, no_operand, more_operands, PatternAtoms, no_atom, more_atoms}
use Rattle.uc_scratch.specs.PatternViews.{names_before, pattern_atom, pattern_atoms, pattern_operand, pattern_operands, heads_before}
use Rattle.uc_scratch.specs.Terminals.{IsCon, capital_con, dotted_con, reference_con}
use Rattle.uc_scratch.specs.PatternGrammar.{ReadsPattern, cons_pattern, snoc_pattern, ReadsSnocs, no_snoc, more_snocs, ReadsPatternOperand, applied_pattern, atom_pattern, ReadsPatternAtoms, no_pattern_atom, more_pattern_atoms, ReadsPatternAtom, any_pattern, variable_pattern, named_pattern, literal_pattern, constant_pattern, unit_pattern, group_pattern, tuple_pattern, empty_list_pattern, ReadsPatterns, last_pattern, more_patterns}
use Rattle.uc_scratch.specs.declared.atom_front.AtomFront.{AtomFront}
use Rattle.uc_scratch.specs.declared.atom_front.AtomFront.TheVariants as fronts
use Rattle.uc_scratch.specs.AtomFronts.{IsAtomFront, BeginsCon, begins_con}
use Rattle.uc_scratch.specs.Marks.{IsRight, round, square}
use Rattle.uc_scratch.specs.PatternBrackets.{operand_with, in_round, closing_terminal}
use Rattle.uc_scratch.specs.Follows.{begins_pattern_atom, ends_name, ends_pattern_atoms, ends_pattern}
use Rattle.uc_scratch.specs.Nesting.{fits}
use Rattle.uc_scratch.proofs.Fits.{fits_pattern, fits_pattern_operand}
use Rattle.uc_scratch.proofs.Lengths.{pattern_length, pattern_operand_length}
use Rattle.uc_scratch.proofs.TypeReadings.{tail_same, differ}
use Rattle.uc_scratch.proofs.PatternReadings.{pattern_from, patterns_from, snocs_from, pattern_atoms_from, begins_pattern, begins_no_at, no_at_of_atoms, no_at_before_atoms, is_named, right_ends, right_no_comma, pattern_at_con, snocs_end, no_cons_snoc, one_pattern, one_pattern_operand, one_pattern_atom}

pub is_right : (b : Bracket) → IsRight (closing_terminal b)
is_right bracket.Round = round
is_right bracket.Square = square

-- each step takes tokens, and what stands behind it fits as deep

pub snoc_smaller : (rest next after : List Terminal) (w : Written) (a : PatternOperand) → rest ≡ Snoc w ∷ next → ReadsPatternOperand next a after → length after < length rest
snoc_smaller rest next after w a e h = omega (arith, ap length e, pattern_operand_length h)

pub cons_smaller : (rest after next : List Terminal) (w : Written) (a : PatternOperand) → ReadsPatternOperand rest a after → after ≡ Cons w ∷ next → length next < length rest
cons_smaller rest after next w a h e = omega (arith, ap length e, pattern_operand_length h)

pub comma_smaller : (rest after next : List Terminal) (x : Pattern) → ReadsPattern rest x after → after ≡ Comma ∷ next → length next < length rest
comma_smaller rest after next x h e = omega (arith, ap length e, pattern_length h)

fits_at : (n : ℕ) (ts us : List Terminal) → ts ≡ us → fits n ts ≡ true → fits n us ≡ true
fits_at n ts us e f = sym (ap (fits n) e) ∙ f

pub fits_named : (n : ℕ) (rest next : List Terminal) (w : Written) → rest ≡ Small w ∷ At ∷ next → fits n rest ≡ true → fits n next ≡ true
fits_named n rest next w e f = fits_at n _ _ e f

pub fits_snoc : (n : ℕ) (rest next after : List Terminal) (w : Written) (a : PatternOperand) → rest ≡ Snoc w ∷ next → ReadsPatternOperand next a after → fits n rest ≡ true → fits n after ≡ true
fits_snoc n rest next after w a e h f = fits_pattern_operand n h (fits_at n _ _ e f)

pub fits_cons : (n : ℕ) (rest after next : List Terminal) (w : Written) (a : PatternOperand) → ReadsPatternOperand rest a after → after ≡ Cons w ∷ next → fits n rest ≡ true → fits n next ≡ true
fits_cons n rest after next w a h e f = fits_at n _ _ e (fits_pattern_operand n h f)

pub fits_comma : (n : ℕ) (rest after next : List Terminal) (x : Pattern) → ReadsPattern rest x after → after ≡ Comma ∷ next → fits n rest ≡ true → fits n next ≡ true
fits_comma n rest after next x h e f = fits_at n _ _ e (fits_pattern n h f)

-- an atom, by what stands at the front

atom_from : (us vs : List Terminal) (a : PatternAtom) (xs : List Terminal) → us ≡ vs → ReadsPatternAtom vs a xs → ReadsPatternAtom us a xs
atom_from us vs a xs e h = let P : List Terminal → Type 0 = λ z. ReadsPatternAtom z a xs in subst P (sym e) h

same_atom : (ts us : List Terminal) (a b : PatternAtom) → a ≡ b → ReadsPatternAtom ts b us → ReadsPatternAtom ts a us
same_atom ts us a b e h = let P : PatternAtom → Type 0 = λ z. ReadsPatternAtom ts z us in subst P (sym e) h

pub variable_found : (ts us : List Terminal) (w v : Written) → ts ≡ Small w ∷ us → v ≡ w → ReadsPatternAtom ts (variable v) us
variable_found ts us w v e f = atom_from _ _ _ _ e (same_atom _ _ _ _ (ap variable f) variable_pattern)

pub literal_found : (ts us : List Terminal) (l m : written_literal.Literal) → ts ≡ Literal l ∷ us → m ≡ l → ReadsPatternAtom ts (literal m) us
literal_found ts us l m e f = atom_from _ _ _ _ e (same_atom _ _ _ _ (ap literal f) literal_pattern)

pub any_found : (ts us : List Terminal) (p : Place) → ts ≡ Wildcard p ∷ us → ReadsPatternAtom ts (any p) us
any_found ts us p e = atom_from _ _ _ _ e any_pattern

same_path : (v w : Written) → v ≡ w → con.Path v ≡ con.Path w
same_path v w e = cc

same_reference : (r s : reference.Reference) → r ≡ s → con.Reference r ≡ con.Reference s
same_reference r s e = cc

con_from : (us vs : List Terminal) (c d : Con) (xs : List Terminal) → us ≡ vs → c ≡ d → BeginsCon vs d xs → BeginsCon us c xs
con_from us vs c d xs e f h = let P : List Terminal → Type 0 = λ z. BeginsCon z c xs in let Q : Con → Type 0 = λ z. BeginsCon vs z xs in subst P (sym e) (subst Q (sym f) h)

pub path_con : (ts us : List Terminal) (w v : Written) → (ts ≡ Capital w ∷ us) ⊎ (ts ≡ Dotted w ∷ us) → v ≡ w → BeginsCon ts (con.Path v) us
path_con ts us w v (inl e) f = con_from _ _ _ _ _ e (same_path _ _ f) (begins_con capital_con)
path_con ts us w v (inr e) f = con_from _ _ _ _ _ e (same_path _ _ f) (begins_con dotted_con)

pub reference_con_front : (ts us : List Terminal) (r s : reference.Reference) → ts ≡ Reference r ∷ us → s ≡ r → BeginsCon ts (con.Reference s) us
reference_con_front ts us r s e f = con_from _ _ _ _ _ e (same_reference _ _ f) (begins_con reference_con)

pub con_found : {ts us : List Terminal} {c : Con} → BeginsCon ts c us → ReadsPatternAtom ts (constant c) us
con_found (begins_con h) = constant_pattern h

pub unit_found : (ts us : List Terminal) (p : Place) → ts ≡ Right ∷ us → ReadsPatternAtom (Left p ∷ ts) (unit p) us
unit_found ts us p e = let P : List Terminal → Type 0 = λ z. ReadsPatternAtom (Left p ∷ z) (unit p) us in subst P (sym e) unit_pattern

begins_with : (t : Terminal) (ts us : List Terminal) (a : PatternAtom) → ReadsPatternAtom (t ∷ ts) a us → begins_pattern_atom t ≡ false → ⊥
begins_with t ts us a h e = no_begin t ts e (begins_pattern h) (begins_no_at h)
  where
    no_begin : (t : Terminal) (ts : List Terminal) → begins_pattern_atom t ≡ false → ends_pattern_atoms (t ∷ ts) ≡ false → ends_name (t ∷ ts) ≡ true → ⊥
    no_begin At ts e f g = cc
    no_begin (Small w) ts e f g = cc
    no_begin (Capital w) ts e f g = cc
    no_begin (Dotted w) ts e f g = cc
    no_begin (Wildcard p) ts e f g = cc
    no_begin (Literal l) ts e f g = cc
    no_begin (Reference r) ts e f g = cc
    no_begin (Left p) ts e f g = cc
    no_begin (LeftSquare p) ts e f g = cc
    no_begin _ ts e f g = cc

pub other_front : (ts : List Terminal) → ((t : Terminal) (us : List Terminal) → ts ≡ t ∷ us → begins_pattern_atom t ≡ false) → (a : PatternAtom) (us : List Terminal) → ReadsPatternAtom ts a us → ⊥
other_front [] n a us h = let e = begins_pattern h in cc
other_front (t ∷ ts) n a us h = begins_with t ts us a h (n t ts refl)

-- whether a front is the name of a constructor
abbrev pub is_con_front : AtomFront → Bool
is_con_front (fronts.Path w us) = true
is_con_front (fronts.Reference r us) = true
is_con_front _ = false

pub not_con_front : (f : AtomFront) → ((w : _) (us : _) → f ≡ fronts.Path w us → ⊥) → ((r : _) (us : _) → f ≡ fronts.Reference r us → ⊥) → is_con_front f ≡ false
not_con_front (fronts.Path w us) n m = absurd (n w us refl)
not_con_front (fronts.Reference r us) n m = absurd (m r us refl)
not_con_front _ n m = refl

same_con_at : {t : Terminal} {c : Con} (u : Terminal) → IsCon t c → t ≡ u → IsCon u c
same_con_at {c = c} u h e = let P : Terminal → Type 0 = λ z. IsCon z c in subst P e h

con_at : {ts vs : List Terminal} {c : Con} (us : List Terminal) (u : Terminal) → BeginsCon ts c vs → ts ≡ u ∷ us → IsCon u c
con_at us u (begins_con h) e = same_con_at u h (cc)

begins_atom : {t : Terminal} {c : Con} → IsCon t c → begins_pattern_atom t ≡ true
begins_atom capital_con = refl
begins_atom dotted_con = refl
begins_atom reference_con = refl

no_con_other : {ts vs : List Terminal} {c : Con} → BeginsCon ts c vs → ((t : Terminal) (us : List Terminal) → ts ≡ t ∷ us → begins_pattern_atom t ≡ false) → ⊥
no_con_other (begins_con h) n = differ _ (begins_atom h) (n _ _ refl)

pub no_con_front : (ts : List Terminal) (f : AtomFront) → IsAtomFront ts f → is_con_front f ≡ false → (c : Con) (us : List Terminal) → BeginsCon ts c us → ⊥
no_con_front ts (fronts.Path w vs) h e c us k = cc
no_con_front ts (fronts.Reference r vs) h e c us k = cc
no_con_front ts (fronts.Variable w vs) h e c us k = elim (con_at _ _ k h) [ ]
no_con_front ts (fronts.Wildcard p vs) h e c us k = elim (con_at _ _ k h) [ ]
no_con_front ts (fronts.Literal l vs) h e c us k = elim (con_at _ _ k h) [ ]
no_con_front ts (fronts.Left p vs) h e c us k = elim (con_at _ _ k h) [ ]
no_con_front ts (fronts.LeftSquare p vs) h e c us k = elim (con_at _ _ k h) [ ]
no_con_front ts fronts.Other h e c us k = no_con_other k h

-- names with `@`, read so far

names_push : (ws : List Written) (w : Written) (a : PatternAtom) → names_before (ws ++ w ∷ []) a ≡ names_before ws (named w a)
names_push [] w a = refl
names_push (v ∷ ws) w a = ap (named v) (names_push ws w a)

-- behind these names the rest is left to read
pub record NamesSoFar (ts rest : List Terminal) (ws : List Written) : Type 0 where
  pub found : (a : PatternAtom) (us : List Terminal) → ReadsPatternAtom rest a us → ReadsPatternAtom ts (names_before ws a) us
  pub only : (a : PatternAtom) (us : List Terminal) → ReadsPatternAtom ts a us → ends_name us ≡ true → (b : PatternAtom) × ReadsPatternAtom rest b us

after_named : {w : Written} {ts us : List Terminal} {a : PatternAtom} → ReadsPatternAtom (Small w ∷ At ∷ ts) a us → ends_name us ≡ true → (b : PatternAtom) × ReadsPatternAtom ts b us
after_named (constant_pattern k) q = elim k [ ]
after_named variable_pattern q = cc
after_named (named_pattern k) q = (_, k)

same_front : (w v : Written) (rest next : List Terminal) → v ≡ w → rest ≡ Small w ∷ At ∷ next → rest ≡ Small v ∷ At ∷ next
same_front w v rest next e f = cc

pub name_step : (ts rest next : List Terminal) (w v : Written) (ws ws1 : List Written) → rest ≡ Small w ∷ At ∷ next → v ≡ w → ws1 ≡ ws ++ v ∷ [] → NamesSoFar ts rest ws → NamesSoFar ts next ws1
name_step ts rest next w v ws ws1 e ew ev f = record {
  found = λ a us h. (let P : PatternAtom → Type 0 = λ z. ReadsPatternAtom ts z us in
      subst P (sym (ap (λ z. names_before z a) ev ∙ names_push ws v a)) (f.found (named v a) us (atom_from _ _ _ _ (same_front _ _ _ _ ew e) (named_pattern h))));
  only = λ a us h q. (let y = f.only a us h q in after_named (atom_from _ _ _ _ (sym e) y.1) q);
}

not_named : (ts : List Terminal) → ((w : Written) (us : List Terminal) → ts ≡ Small w ∷ At ∷ us → ⊥) → is_named ts ≡ true → ⊥
not_named (Small w ∷ At ∷ ts) n e = n w ts refl
not_named _ n e = cc

pub at_behind : (ts rest after next : List Terminal) (f : PatternAtom) (ws : List Written) → ((w : Written) (us : List Terminal) → rest ≡ Small w ∷ At ∷ us → ⊥)
    → ReadsPatternAtom rest f after → after ≡ At ∷ next → NamesSoFar ts rest ws → (a : PatternAtom) (us : List Terminal) → ReadsPatternAtom ts a us → ends_name us ≡ true → ⊥
at_behind ts rest after next f ws n h e s a us k q =
    let y = s.only a us k q in
    let x = one_pattern_atom _ _ _ _ (λ z. absurd (not_named rest n z)) (λ z. absurd (not_named rest n z)) h y.1 in
    differ _ q (ap ends_name (sym x.1 ∙ e))

-- atoms, read so far

-- these atoms, and others after them
abbrev pub atoms_before : List seen_atom.PatternAtom → PatternAtoms → PatternAtoms
atoms_before [] xs = xs
atoms_before (a ∷ bs) xs = more_atoms (pattern_atom a) (atoms_before bs xs)

atoms_push : (bs : List seen_atom.PatternAtom) (a : seen_atom.PatternAtom) (xs : PatternAtoms) → atoms_before (bs ++ a ∷ []) xs ≡ atoms_before bs (more_atoms (pattern_atom a) xs)
atoms_push [] a xs = refl
atoms_push (b ∷ bs) a xs = ap (more_atoms (pattern_atom b)) (atoms_push bs a xs)

atoms_none : (bs : List seen_atom.PatternAtom) → atoms_before bs no_atom ≡ pattern_atoms bs
atoms_none [] = refl
atoms_none (b ∷ bs) = ap (more_atoms (pattern_atom b)) (atoms_none bs)

-- behind these atoms the rest is left to read
pub record AtomsSoFar (ts rest : List Terminal) (bs : List seen_atom.PatternAtom) : Type 0 where
  pub found : (xs : PatternAtoms) (us : List Terminal) → ReadsPatternAtoms rest xs us → ReadsPatternAtoms ts (atoms_before bs xs) us
  pub only : (xs : PatternAtoms) (us : List Terminal) → ReadsPatternAtoms ts xs us → ends_pattern_atoms us ≡ true → (ys : PatternAtoms) × ReadsPatternAtoms rest ys us

after_atom : {ts us vs : List Terminal} {a : PatternAtom} {xs : PatternAtoms} → ReadsPatternAtom ts a vs → ends_name vs ≡ true → ReadsPatternAtoms ts xs us → ends_pattern_atoms us ≡ true
    → (ys : PatternAtoms) × ReadsPatternAtoms vs ys us
after_atom h e no_pattern_atom q = absurd (differ _ q (begins_pattern h))
after_atom h e (more_pattern_atoms k l) q = (_, pattern_atoms_from _ _ _ _ ((one_pattern_atom _ _ _ _ (λ _. e) (λ _. no_at_before_atoms l q) h k).1) l)

pub atom_step : (ts rest after : List Terminal) (a : seen_atom.PatternAtom) (bs bs1 : List seen_atom.PatternAtom) → ReadsPatternAtom rest (pattern_atom a) after → ends_name after ≡ true → bs1 ≡ bs ++ a ∷ []
    → AtomsSoFar ts rest bs → AtomsSoFar ts after bs1
atom_step ts rest after a bs bs1 h n e f = record {
  found = λ xs us k. (let P : PatternAtoms → Type 0 = λ z. ReadsPatternAtoms ts z us in
      subst P (sym (ap (λ z. atoms_before z xs) e ∙ atoms_push bs a xs)) (f.found _ us (more_pattern_atoms h k)));
  only = λ xs us k q. (let y = f.only xs us k q in after_atom h n y.1 q);
}

in_atoms : {ts us : List Terminal} {xs : PatternAtoms} → ReadsPatternAtoms ts xs us → ends_pattern_atoms us ≡ true → ends_pattern_atoms ts ≡ false
    → ((a : PatternAtom) (vs : List Terminal) → ReadsPatternAtom ts a vs → ends_name vs ≡ true → ⊥) → ⊥
in_atoms no_pattern_atom q b g = differ _ q b
in_atoms (more_pattern_atoms k l) q b g = g _ _ k (no_at_before_atoms l q)

pub atom_none : (ts rest : List Terminal) (bs : List seen_atom.PatternAtom) → ends_pattern_atoms rest ≡ false → ((a : PatternAtom) (vs : List Terminal) → ReadsPatternAtom rest a vs → ends_name vs ≡ true → ⊥)
    → AtomsSoFar ts rest bs → (xs : PatternAtoms) (us : List Terminal) → ReadsPatternAtoms ts xs us → ends_pattern_atoms us ≡ true → ⊥
atom_none ts rest bs b g f xs us h q = let y = f.only xs us h q in in_atoms y.1 q b g

pub atoms_done : (ts rest : List Terminal) (bs : List seen_atom.PatternAtom) → AtomsSoFar ts rest bs → ReadsPatternAtoms ts (pattern_atoms bs) rest
atoms_done ts rest bs f = let P : PatternAtoms → Type 0 = λ z. ReadsPatternAtoms ts z rest in subst P (atoms_none bs) (f.found no_atom rest no_pattern_atom)

-- an operand

operand_found : {ts us vs : List Terminal} {c : Con} (bs : PatternAtoms) → BeginsCon ts c us → ReadsPatternAtoms us bs vs → ReadsPatternOperand ts (operand_with c bs) vs
operand_found no_atom (begins_con h) no_pattern_atom = atom_pattern (constant_pattern h)
operand_found (more_atoms a bs) (begins_con h) i = applied_pattern h i

pub operand_found_at : (ts us vs : List Terminal) (c : Con) (bs : PatternAtoms) (a : PatternOperand) → BeginsCon ts c us → ReadsPatternAtoms us bs vs → a ≡ operand_with c bs → ReadsPatternOperand ts a vs
operand_found_at ts us vs c bs a h i e = let P : PatternOperand → Type 0 = λ z. ReadsPatternOperand ts z vs in subst P (sym e) (operand_found bs h i)

-- an operand that begins with a constructor has all atoms behind it
pub operand_at_con : {ts us : List Terminal} {c : Con} → BeginsCon ts c us
    → ((bs : PatternAtoms) (vs : List Terminal) → ReadsPatternAtoms us bs vs → ends_pattern_atoms vs ≡ true → ⊥)
    → (a : PatternOperand) (vs : List Terminal) → ReadsPatternOperand ts a vs → ends_pattern_atoms vs ≡ true → ⊥
operand_at_con (begins_con h) g a vs (applied_pattern k l) q = g _ _ l q
operand_at_con (begins_con h) g a vs (atom_pattern k) q = g _ _ no_pattern_atom (ap ends_pattern_atoms ((pattern_at_con h k).1) ∙ q)

pub operand_none : {ts : List Terminal} → ((c : Con) (us : List Terminal) → BeginsCon ts c us → ⊥) → ((a : PatternAtom) (us : List Terminal) → ReadsPatternAtom ts a us → ends_name us ≡ true → ⊥)
    → (a : PatternOperand) (us : List Terminal) → ReadsPatternOperand ts a us → ends_pattern_atoms us ≡ true → ⊥
operand_none n g a us (applied_pattern k l) q = n _ _ (begins_con k)
operand_none n g a us (atom_pattern k) q = g _ _ k (no_at_of_atoms _ q)

-- an operand that begins with another atom is that atom
pub operand_at_atom : {ts us : List Terminal} {a : PatternAtom} → ((c : Con) (vs : List Terminal) → BeginsCon ts c vs → ⊥) → ReadsPatternAtom ts a us → ends_name us ≡ true → ends_pattern_atoms us ≡ false
    → (b : PatternOperand) (vs : List Terminal) → ReadsPatternOperand ts b vs → ends_pattern_atoms vs ≡ true → ⊥
operand_at_atom n h e f b vs (applied_pattern k l) q = n _ _ (begins_con k)
operand_at_atom n h e f b vs (atom_pattern k) q =
    differ _ (ap ends_pattern_atoms ((one_pattern_atom _ _ _ _ (λ _. e) (λ _. no_at_of_atoms _ q) h k).1) ∙ q) f

-- operands with `:+`, read so far

-- these operands, and others after them
abbrev pub operands_before : List seen_operand.PatternOperand → PatternOperands → PatternOperands
operands_before [] xs = xs
operands_before (a ∷ bs) xs = more_operands (pattern_operand a) (operands_before bs xs)

operands_push : (bs : List seen_operand.PatternOperand) (a : seen_operand.PatternOperand) (xs : PatternOperands) → operands_before (bs ++ a ∷ []) xs ≡ operands_before bs (more_operands (pattern_operand a) xs)
operands_push [] a xs = refl
operands_push (b ∷ bs) a xs = ap (more_operands (pattern_operand b)) (operands_push bs a xs)

operands_none : (bs : List seen_operand.PatternOperand) → operands_before bs no_operand ≡ pattern_operands bs
operands_none [] = refl
operands_none (b ∷ bs) = ap (more_operands (pattern_operand b)) (operands_none bs)

-- behind these operands the rest is left to read
pub record TailsSoFar (ts rest : List Terminal) (bs : List seen_operand.PatternOperand) : Type 0 where
  pub found : (xs : PatternOperands) (us : List Terminal) → ReadsSnocs rest xs us → ReadsSnocs ts (operands_before bs xs) us
  pub only : (xs : PatternOperands) (us : List Terminal) → ReadsSnocs ts xs us → ends_pattern us ≡ true → (ys : PatternOperands) × ReadsSnocs rest ys us

after_snoc : {w : Written} {ts us vs : List Terminal} {a : PatternOperand} {xs : PatternOperands} → ReadsPatternOperand ts a vs → ends_pattern_atoms vs ≡ true → ReadsSnocs (Snoc w ∷ ts) xs us → ends_pattern us ≡ true
    → (ys : PatternOperands) × ReadsSnocs vs ys us
after_snoc h e no_snoc q = cc
after_snoc h e (more_snocs k l) q = (_, snocs_from _ _ _ _ ((one_pattern_operand _ _ _ _ e (snocs_end l q) h k).1) l)

pub tail_step : (ts rest next after : List Terminal) (w : Written) (a : seen_operand.PatternOperand) (bs bs1 : List seen_operand.PatternOperand) → rest ≡ Snoc w ∷ next
    → ReadsPatternOperand next (pattern_operand a) after → ends_pattern_atoms after ≡ true → bs1 ≡ bs ++ a ∷ [] → TailsSoFar ts rest bs → TailsSoFar ts after bs1
tail_step ts rest next after w a bs bs1 er h n e f = record {
  found = λ xs us k. (let P : PatternOperands → Type 0 = λ z. ReadsSnocs ts z us in
      subst P (sym (ap (λ z. operands_before z xs) e ∙ operands_push bs a xs)) (f.found _ us (snocs_from _ _ _ _ er (more_snocs h k))));
  only = λ xs us k q. (let y = f.only xs us k q in after_snoc h n (snocs_from _ _ _ _ (sym er) y.1) q);
}

in_tail : {w : Written} {ts us : List Terminal} {xs : PatternOperands} → ReadsSnocs (Snoc w ∷ ts) xs us → ends_pattern us ≡ true
    → ((a : PatternOperand) (vs : List Terminal) → ReadsPatternOperand ts a vs → ends_pattern_atoms vs ≡ true → ⊥) → ⊥
in_tail no_snoc q g = cc
in_tail (more_snocs k l) q g = g _ _ k (snocs_end l q)

pub tail_none : (ts rest next : List Terminal) (w : Written) (bs : List seen_operand.PatternOperand) → rest ≡ Snoc w ∷ next
    → ((a : PatternOperand) (vs : List Terminal) → ReadsPatternOperand next a vs → ends_pattern_atoms vs ≡ true → ⊥) → TailsSoFar ts rest bs
    → (xs : PatternOperands) (us : List Terminal) → ReadsSnocs ts xs us → ends_pattern us ≡ true → ⊥
tail_none ts rest next w bs e g f xs us h q = let y = f.only xs us h q in in_tail (snocs_from _ _ _ _ (sym e) y.1) q g

at_cons : {w : Written} {ts us : List Terminal} {xs : PatternOperands} → ReadsSnocs (Cons w ∷ ts) xs us → ends_pattern us ≡ true → ⊥
at_cons no_snoc q = cc

-- `+:` can't stand behind `:+`
pub cons_behind : (ts rest next : List Terminal) (w : Written) (bs : List seen_operand.PatternOperand) → rest ≡ Cons w ∷ next → TailsSoFar ts rest bs
    → (xs : PatternOperands) (us : List Terminal) → ReadsSnocs ts xs us → ends_pattern us ≡ true → ⊥
cons_behind ts rest next w bs e f xs us h q = let y = f.only xs us h q in at_cons (snocs_from _ _ _ _ (sym e) y.1) q

pub tails_done : (ts rest : List Terminal) (bs : List seen_operand.PatternOperand) → TailsSoFar ts rest bs → ReadsSnocs ts (pattern_operands bs) rest
tails_done ts rest bs f = let P : PatternOperands → Type 0 = λ z. ReadsSnocs ts z rest in subst P (operands_none bs) (f.found no_operand rest no_snoc)

-- operands with `+:`, read so far

heads_push : (bs : List seen_operand.PatternOperand) (a : seen_operand.PatternOperand) (x : Pattern) → heads_before (bs ++ a ∷ []) x ≡ heads_before bs (cons (pattern_operand a) x)
heads_push [] a x = refl
heads_push (b ∷ bs) a x = ap (cons (pattern_operand b)) (heads_push bs a x)

-- behind these operands the rest is left to read
pub record HeadsSoFar (ts rest : List Terminal) (bs : List seen_operand.PatternOperand) : Type 0 where
  pub found : (x : Pattern) (us : List Terminal) → ReadsPattern rest x us → ReadsPattern ts (heads_before bs x) us
  pub only : (x : Pattern) (us : List Terminal) → ReadsPattern ts x us → ends_pattern us ≡ true → (y : Pattern) × ReadsPattern rest y us

after_cons : {w : Written} {ts us vs : List Terminal} {a : PatternOperand} {x : Pattern} → ReadsPatternOperand ts a (Cons w ∷ us) → ReadsPattern ts x vs → ends_pattern vs ≡ true → (y : Pattern) × ReadsPattern us y vs
after_cons h (cons_pattern k l) q = (_, pattern_from _ _ _ _ (tail_same _ _ _ _ ((one_pattern_operand _ _ _ _ refl refl h k).1)) l)
after_cons h (snoc_pattern k l) q = absurd (no_cons_snoc q ((one_pattern_operand _ _ _ _ refl (snocs_end l q) h k).1) l)

operand_at : (ts us vs : List Terminal) (a : PatternOperand) → us ≡ vs → ReadsPatternOperand ts a us → ReadsPatternOperand ts a vs
operand_at ts us vs a e h = let P : List Terminal → Type 0 = λ z. ReadsPatternOperand ts a z in subst P e h

pub head_step : (ts rest after next : List Terminal) (w : Written) (a : seen_operand.PatternOperand) (bs bs1 : List seen_operand.PatternOperand) → ReadsPatternOperand rest (pattern_operand a) after → after ≡ Cons w ∷ next
    → bs1 ≡ bs ++ a ∷ [] → HeadsSoFar ts rest bs → HeadsSoFar ts next bs1
head_step ts rest after next w a bs bs1 h ea e f = record {
  found = λ x us k. (let P : Pattern → Type 0 = λ z. ReadsPattern ts z us in
      subst P (sym (ap (λ z. heads_before z x) e ∙ heads_push bs a x)) (f.found _ us (cons_pattern (operand_at _ _ _ _ ea h) k)));
  only = λ x us k q. (let y = f.only x us k q in after_cons (operand_at _ _ _ _ ea h) y.1 q);
}

in_pattern : {ts us : List Terminal} {x : Pattern} → ReadsPattern ts x us → ends_pattern us ≡ true → ((a : PatternOperand) (vs : List Terminal) → ReadsPatternOperand ts a vs → ends_pattern_atoms vs ≡ true → ⊥) → ⊥
in_pattern (cons_pattern k l) q g = g _ _ k refl
in_pattern (snoc_pattern k l) q g = g _ _ k (snocs_end l q)

pub pattern_none : (ts rest : List Terminal) (bs : List seen_operand.PatternOperand) → ((a : PatternOperand) (vs : List Terminal) → ReadsPatternOperand rest a vs → ends_pattern_atoms vs ≡ true → ⊥) → HeadsSoFar ts rest bs
    → (x : Pattern) (us : List Terminal) → ReadsPattern ts x us → ends_pattern us ≡ true → ⊥
pattern_none ts rest bs g f x us h q = let y = f.only x us h q in in_pattern y.1 q g

in_tails : {ts after us : List Terminal} {a : PatternOperand} {x : Pattern} → ReadsPatternOperand ts a after → ends_pattern_atoms after ≡ true → ((w : Written) (vs : List Terminal) → after ≡ Cons w ∷ vs → ⊥)
    → ((bs : PatternOperands) (vs : List Terminal) → ReadsSnocs after bs vs → ends_pattern vs ≡ true → ⊥) → ReadsPattern ts x us → ends_pattern us ≡ true → ⊥
in_tails h e n g (cons_pattern k l) q = n _ _ ((one_pattern_operand _ _ _ _ e refl h k).1)
in_tails h e n g (snoc_pattern k l) q = g _ _ (snocs_from _ _ _ _ ((one_pattern_operand _ _ _ _ e (snocs_end l q) h k).1) l) q

pub tails_none : (ts rest after : List Terminal) (a : PatternOperand) (bs : List seen_operand.PatternOperand) → ReadsPatternOperand rest a after → ends_pattern_atoms after ≡ true
    → ((w : Written) (vs : List Terminal) → after ≡ Cons w ∷ vs → ⊥) → ((xs : PatternOperands) (vs : List Terminal) → ReadsSnocs after xs vs → ends_pattern vs ≡ true → ⊥) → HeadsSoFar ts rest bs
    → (x : Pattern) (us : List Terminal) → ReadsPattern ts x us → ends_pattern us ≡ true → ⊥
tails_none ts rest after a bs h e n g f x us k q = let y = f.only x us k q in in_tails h e n g y.1 q

pub pattern_done : (ts rest after end : List Terminal) (a : PatternOperand) (xs : PatternOperands) (bs : List seen_operand.PatternOperand) → ReadsPatternOperand rest a after → ReadsSnocs after xs end → HeadsSoFar ts rest bs
    → ReadsPattern ts (heads_before bs (snocs a xs)) end
pattern_done ts rest after end a xs bs h i f = f.found _ _ (snoc_pattern h i)

-- patterns with commas, read so far

pub closing_at : (after end : List Terminal) (u t : Terminal) → u ≡ t → after ≡ u ∷ end → after ≡ t ∷ end
closing_at after end u t e f = cc

pub not_closing : (after : List Terminal) (u t : Terminal) → u ≡ t → ((vs : List Terminal) → after ≡ u ∷ vs → ⊥) → (vs : List Terminal) → after ≡ t ∷ vs → ⊥
not_closing after u t e n vs f = n vs (closing_at after vs t u (sym e) f)

-- these patterns, and others after them
abbrev pub patterns_before : List Pattern → Patterns → Patterns
patterns_before [] xs = xs
patterns_before (y ∷ ys) xs = more y (patterns_before ys xs)

patterns_push : (ys : List Pattern) (y : Pattern) (xs : Patterns) → patterns_before (ys ++ y ∷ []) xs ≡ patterns_before ys (more y xs)
patterns_push [] y xs = refl
patterns_push (z ∷ ys) y xs = ap (more z) (patterns_push ys y xs)

patterns_none : (ys : List Pattern) → patterns_before ys none ≡ patterns_of ys
patterns_none [] = refl
patterns_none (y ∷ ys) = ap (more y) (patterns_none ys)

-- behind these patterns the rest is left to read, up to this closing bracket
pub record PatternsSoFar (t : Terminal) (ts rest : List Terminal) (ys : List Pattern) : Type 0 where
  pub found : (xs : Patterns) (us : List Terminal) → ReadsPatterns t rest xs us → ReadsPatterns t ts (patterns_before ys xs) us
  pub only : (xs : Patterns) (us : List Terminal) → ReadsPatterns t ts xs us → (zs : Patterns) × ReadsPatterns t rest zs us

pattern_at : (ts us vs : List Terminal) (x : Pattern) → us ≡ vs → ReadsPattern ts x us → ReadsPattern ts x vs
pattern_at ts us vs x e h = let P : List Terminal → Type 0 = λ z. ReadsPattern ts x z in subst P e h

after_comma : {t : Terminal} {ts us vs : List Terminal} {x : Pattern} {xs : Patterns} → IsRight t → ReadsPattern ts x (Comma ∷ us) → ReadsPatterns t ts xs vs → (ys : Patterns) × ReadsPatterns t us ys vs
after_comma r h (last_pattern k) = absurd (right_no_comma _ _ r (sym ((one_pattern _ _ _ _ refl (right_ends _ r) h k).1)))
after_comma r h (more_patterns k l) = (_, patterns_from _ _ _ _ _ (tail_same _ _ _ _ ((one_pattern _ _ _ _ refl refl h k).1)) l)

pub comma_step : (t : Terminal) (ts rest after next : List Terminal) (x : Pattern) (ys ys1 : List Pattern) → IsRight t → ReadsPattern rest x after → after ≡ Comma ∷ next → ys1 ≡ ys ++ x ∷ []
    → PatternsSoFar t ts rest ys → PatternsSoFar t ts next ys1
comma_step t ts rest after next x ys ys1 r h ea e f = record {
  found = λ xs us k. (let P : Patterns → Type 0 = λ z. ReadsPatterns t ts z us in
      subst P (sym (ap (λ z. patterns_before z xs) e ∙ patterns_push ys x xs)) (f.found _ us (more_patterns (pattern_at _ _ _ _ ea h) k)));
  only = λ xs us k. (let y = f.only xs us k in after_comma r (pattern_at _ _ _ _ ea h) y.1);
}

pub patterns_done : (t : Terminal) (ts rest after end : List Terminal) (x : Pattern) (ys ys1 : List Pattern) → ReadsPattern rest x after → after ≡ t ∷ end → ys1 ≡ ys ++ x ∷ []
    → PatternsSoFar t ts rest ys → ReadsPatterns t ts (patterns_of ys1) end
patterns_done t ts rest after end x ys ys1 h ea e f =
    let P : Patterns → Type 0 = λ z. ReadsPatterns t ts z end in
    subst P (sym (patterns_push ys x none) ∙ ap (λ z. patterns_before z none) (sym e) ∙ patterns_none ys1) (f.found _ end (last_pattern (pattern_at _ _ _ _ ea h)))

in_patterns : {t : Terminal} {ts us : List Terminal} {xs : Patterns} → IsRight t → ReadsPatterns t ts xs us → ((x : Pattern) (vs : List Terminal) → ReadsPattern ts x vs → ends_pattern vs ≡ true → ⊥) → ⊥
in_patterns r (last_pattern k) g = g _ _ k (right_ends _ r)
in_patterns r (more_patterns k l) g = g _ _ k refl

pub patterns_without : (t : Terminal) (ts rest : List Terminal) (ys : List Pattern) → IsRight t → ((x : Pattern) (vs : List Terminal) → ReadsPattern rest x vs → ends_pattern vs ≡ true → ⊥) → PatternsSoFar t ts rest ys
    → (xs : Patterns) (us : List Terminal) → ReadsPatterns t ts xs us → ⊥
patterns_without t ts rest ys r g f xs us h = let y = f.only xs us h in in_patterns r y.1 g

not_behind : {t : Terminal} {ts after us : List Terminal} {x : Pattern} {xs : Patterns} → IsRight t → ReadsPattern ts x after → ends_pattern after ≡ true
    → ((vs : List Terminal) → after ≡ t ∷ vs → ⊥) → ((vs : List Terminal) → after ≡ Comma ∷ vs → ⊥) → ReadsPatterns t ts xs us → ⊥
not_behind r h q n m (last_pattern k) = n _ ((one_pattern _ _ _ _ q (right_ends _ r) h k).1)
not_behind r h q n m (more_patterns k l) = m _ ((one_pattern _ _ _ _ q refl h k).1)

pub patterns_not_behind : (t : Terminal) (ts rest after : List Terminal) (x : Pattern) (ys : List Pattern) → IsRight t → ReadsPattern rest x after → ends_pattern after ≡ true
    → ((vs : List Terminal) → after ≡ t ∷ vs → ⊥) → ((vs : List Terminal) → after ≡ Comma ∷ vs → ⊥) → PatternsSoFar t ts rest ys
    → (xs : Patterns) (us : List Terminal) → ReadsPatterns t ts xs us → ⊥
patterns_not_behind t ts rest after x ys r h q n m f xs us k = let y = f.only xs us k in not_behind r h q n m y.1

-- atoms in brackets

round_found : {ts us : List Terminal} (p : Place) (xs : Patterns) → ReadsPatterns Right ts xs us → ReadsPatternAtom (Left p ∷ ts) (in_round p xs) us
round_found p _ (last_pattern h) = group_pattern h
round_found p _ (more_patterns h (last_pattern k)) = tuple_pattern h (last_pattern k)
round_found p _ (more_patterns h (more_patterns k l)) = tuple_pattern h (more_patterns k l)

pub round_found_at : (ts us : List Terminal) (p : Place) (xs : Patterns) (a : PatternAtom) → ReadsPatterns Right ts xs us → a ≡ in_round p xs → ReadsPatternAtom (Left p ∷ ts) a us
round_found_at ts us p xs a h e = same_atom _ _ _ _ e (round_found p xs h)

pub round_none : (ts : List Terminal) (p : Place) → ((vs : List Terminal) → ts ≡ Right ∷ vs → ⊥) → ((xs : Patterns) (vs : List Terminal) → ReadsPatterns Right ts xs vs → ⊥)
    → (a : PatternAtom) (us : List Terminal) → ReadsPatternAtom (Left p ∷ ts) a us → ⊥
round_none ts p n g a us (constant_pattern k) = elim k [ ]
round_none ts p n g a us unit_pattern = n _ refl
round_none ts p n g a us (group_pattern k) = g _ _ (last_pattern k)
round_none ts p n g a us (tuple_pattern k l) = g _ _ (more_patterns k l)

pub empty_list_found : (ts us : List Terminal) (p : Place) (xs : List Pattern) → ts ≡ RightSquare ∷ us → xs ≡ [] → ReadsPatternAtom (LeftSquare p ∷ ts) (list p (patterns_of xs)) us
empty_list_found ts us p xs e f =
    let P : List Terminal → Type 0 = λ z. ReadsPatternAtom (LeftSquare p ∷ z) (list p (patterns_of xs)) us in
    let Q : List Pattern → Type 0 = λ z. ReadsPatternAtom (LeftSquare p ∷ RightSquare ∷ us) (list p (patterns_of z)) us in
    subst P (sym e) (subst Q (sym f) empty_list_pattern)

-- what the vectors of the readers stand for

pub some_operand : (c : Con) (bs : List seen_atom.PatternAtom) → length bs ≢ 0 → applied c (pattern_atoms bs) ≡ operand_with c (pattern_atoms bs)
some_operand c [] n = absurd (n refl)
some_operand c (b ∷ bs) n = refl

pub not_one_pattern : (p : Place) (xs : List Pattern) → length xs ≢ 1 → tuple p (patterns_of xs) ≡ in_round p (patterns_of xs)
not_one_pattern p [] n = refl
not_one_pattern p (x ∷ []) n = absurd (n refl)
not_one_pattern p (x ∷ y ∷ xs) n = refl
