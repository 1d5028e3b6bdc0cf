-- A pattern is read in one way, up to a token that can't go on with it.
use Rattle.std.proofs.Common.{◌≡◌, Bool, true, false, List, [], ◌∷◌, refl, subst, sym, ap, ◌∙◌}
use Rattle.uc_base.specs.declared.place.Place.{Place}
use Rattle.uc_scratch.specs.declared.written.Written.{Written}
use Rattle.uc_scratch.specs.declared.written.Con.{Con}
use Rattle.uc_scratch.specs.declared.terminal.Terminal.{Terminal}
use Rattle.uc_scratch.specs.declared.terminal.Terminal.TheVariants.{Small, Cons, Snoc, Right, RightSquare, Comma, At}
use Rattle.uc_scratch.specs.Patterns.{Pattern, cons, snocs, PatternOperand, applied, atom, PatternAtom, any, variable, named, literal, constant, unit, group, tuple, list, Patterns, none, more, PatternOperands, no_operand, more_operands, PatternAtoms, no_atom, more_atoms}
use Rattle.uc_scratch.specs.Terminals.{IsCon, capital_con, dotted_con, reference_con}
use Rattle.uc_scratch.specs.PatternGrammar.{ReadsPattern, cons_pattern, snoc_pattern, ReadsSnocs, no_snoc, more_snocs, ReadsPatternOperand, applied_pattern, atom_pattern, ReadsPatternAtoms, no_pattern_atom, more_pattern_atoms, ReadsPatternAtom, any_pattern, variable_pattern, named_pattern, literal_pattern, constant_pattern, unit_pattern, group_pattern, tuple_pattern, empty_list_pattern, list_pattern, ReadsPatterns, last_pattern, more_patterns}
use Rattle.uc_scratch.specs.Marks.{IsRight, round, square}
use Rattle.uc_scratch.specs.Follows.{ends_name, ends_pattern_atoms, ends_pattern}
use Rattle.uc_scratch.proofs.TypeReadings.{one_con, tail_same, differ}

-- the same values behind the same tokens

pub pattern_from : (us vs : List Terminal) (x : Pattern) (ws : List Terminal) → us ≡ vs → ReadsPattern vs x ws → ReadsPattern us x ws
pattern_from us vs x ws e h = let P : List Terminal → Type 0 = λ z. ReadsPattern z x ws in subst P (sym e) h

pub patterns_from : (t : Terminal) (us vs : List Terminal) (x : Patterns) (ws : List Terminal) → us ≡ vs → ReadsPatterns t vs x ws → ReadsPatterns t us x ws
patterns_from t us vs x ws e h = let P : List Terminal → Type 0 = λ z. ReadsPatterns t z x ws in subst P (sym e) h

pub snocs_from : (us vs : List Terminal) (x : PatternOperands) (ws : List Terminal) → us ≡ vs → ReadsSnocs vs x ws → ReadsSnocs us x ws
snocs_from us vs x ws e h = let P : List Terminal → Type 0 = λ z. ReadsSnocs z x ws in subst P (sym e) h

pub pattern_atoms_from : (us vs : List Terminal) (x : PatternAtoms) (ws : List Terminal) → us ≡ vs → ReadsPatternAtoms vs x ws → ReadsPatternAtoms us x ws
pattern_atoms_from us vs x ws e h = let P : List Terminal → Type 0 = λ z. ReadsPatternAtoms z x ws in subst P (sym e) h

-- what a pattern begins with

pub begins_pattern : {ts us : List Terminal} {a : PatternAtom} → ReadsPatternAtom ts a us → ends_pattern_atoms ts ≡ false
begins_pattern any_pattern = refl
begins_pattern variable_pattern = refl
begins_pattern (named_pattern h) = refl
begins_pattern literal_pattern = refl
begins_pattern (constant_pattern capital_con) = refl
begins_pattern (constant_pattern dotted_con) = refl
begins_pattern (constant_pattern reference_con) = refl
begins_pattern unit_pattern = refl
begins_pattern (group_pattern h) = refl
begins_pattern (tuple_pattern h i) = refl
begins_pattern empty_list_pattern = refl
begins_pattern (list_pattern h) = refl

-- no atom begins with `@`
pub begins_no_at : {ts us : List Terminal} {a : PatternAtom} → ReadsPatternAtom ts a us → ends_name ts ≡ true
begins_no_at any_pattern = refl
begins_no_at variable_pattern = refl
begins_no_at (named_pattern h) = refl
begins_no_at literal_pattern = refl
begins_no_at (constant_pattern capital_con) = refl
begins_no_at (constant_pattern dotted_con) = refl
begins_no_at (constant_pattern reference_con) = refl
begins_no_at unit_pattern = refl
begins_no_at (group_pattern h) = refl
begins_no_at (tuple_pattern h i) = refl
begins_no_at empty_list_pattern = refl
begins_no_at (list_pattern h) = refl

pub begins_pattern_atoms : {ts us : List Terminal} {a : PatternAtom} {bs : PatternAtoms} → ReadsPatternAtoms ts (more_atoms a bs) us → ends_pattern_atoms ts ≡ false
begins_pattern_atoms (more_pattern_atoms h i) = begins_pattern h

pub begins_pattern_operand : {ts us : List Terminal} {a : PatternOperand} → ReadsPatternOperand ts a us → ends_pattern_atoms ts ≡ false
begins_pattern_operand (applied_pattern capital_con i) = refl
begins_pattern_operand (applied_pattern dotted_con i) = refl
begins_pattern_operand (applied_pattern reference_con i) = refl
begins_pattern_operand (atom_pattern h) = begins_pattern h

begins_whole : {ts us : List Terminal} {x : Pattern} → ReadsPattern ts x us → ends_pattern_atoms ts ≡ false
begins_whole (cons_pattern h i) = begins_pattern_operand h
begins_whole (snoc_pattern h i) = begins_pattern_operand h

begins_list : {t : Terminal} {ts us : List Terminal} {xs : Patterns} → ReadsPatterns t ts xs us → ends_pattern_atoms ts ≡ false
begins_list (last_pattern h) = begins_whole h
begins_list (more_patterns h i) = begins_whole h

pub no_pattern_at_right : {ts us : List Terminal} {x : Pattern} → ReadsPattern (Right ∷ ts) x us → ⊥
no_pattern_at_right h = let e = begins_whole h in cc

pub no_patterns_at_square : {t : Terminal} {ts us : List Terminal} {xs : Patterns} → ReadsPatterns t (RightSquare ∷ ts) xs us → ⊥
no_patterns_at_square h = let e = begins_list h in cc

-- what follows

pub no_at_of_atoms : (ts : List Terminal) → ends_pattern_atoms ts ≡ true → ends_name ts ≡ true
no_at_of_atoms [] p = refl
no_at_of_atoms (At ∷ ts) p = p
no_at_of_atoms (_ ∷ ts) p = refl

pub atoms_of_pattern : (ts : List Terminal) → ends_pattern ts ≡ true → ends_pattern_atoms ts ≡ true
atoms_of_pattern [] p = refl
atoms_of_pattern (Cons w ∷ ts) p = refl
atoms_of_pattern (Snoc w ∷ ts) p = refl
atoms_of_pattern (_ ∷ ts) p = p

-- an atom of a pattern begins without `@`, and so what stands before it ends
pub no_at_before_atoms : {ts us : List Terminal} {bs : PatternAtoms} → ReadsPatternAtoms ts bs us → ends_pattern_atoms us ≡ true → ends_name ts ≡ true
no_at_before_atoms no_pattern_atom p = no_at_of_atoms _ p
no_at_before_atoms (more_pattern_atoms h i) p = begins_no_at h

-- whether a name with `@` stands at the front
abbrev pub is_named : List Terminal → Bool
is_named (Small w ∷ At ∷ ts) = true
is_named _ = false

pub right_ends : {t : Terminal} (ts : List Terminal) → IsRight t → ends_pattern (t ∷ ts) ≡ true
right_ends ts round = refl
right_ends ts square = refl

pub right_no_comma : {t : Terminal} (ts us : List Terminal) → IsRight t → t ∷ ts ≡ Comma ∷ us → ⊥
right_no_comma ts us round e = cc
right_no_comma ts us square e = cc

-- an atom that begins with a constructor's name is that name
pub pattern_at_con : {t : Terminal} {ts us : List Terminal} {c : Con} {a : PatternAtom} → IsCon t c → ReadsPatternAtom (t ∷ ts) a us → (constant c ≡ a) × (ts ≡ us)
pattern_at_con capital_con (constant_pattern capital_con) = (refl, refl)
pattern_at_con dotted_con (constant_pattern dotted_con) = (refl, refl)
pattern_at_con reference_con (constant_pattern reference_con) = (refl, refl)

same_cons : (a b : PatternOperand) (x y : Pattern) → a ≡ b → x ≡ y → cons a x ≡ cons b y
same_cons a b x y e f = cc

same_snocs : (a b : PatternOperand) (x y : PatternOperands) → a ≡ b → x ≡ y → snocs a x ≡ snocs b y
same_snocs a b x y e f = cc

same_more_operands : (a b : PatternOperand) (x y : PatternOperands) → a ≡ b → x ≡ y → more_operands a x ≡ more_operands b y
same_more_operands a b x y e f = cc

same_applied : (c d : Con) (a b : PatternAtoms) → c ≡ d → a ≡ b → applied c a ≡ applied d b
same_applied c d a b e f = cc

same_more_atoms : (a b : PatternAtom) (x y : PatternAtoms) → a ≡ b → x ≡ y → more_atoms a x ≡ more_atoms b y
same_more_atoms a b x y e f = cc

same_named : (w : Written) (a b : PatternAtom) → a ≡ b → named w a ≡ named w b
same_named w a b e = cc

same_group : (p : Place) (x y : Pattern) → x ≡ y → group p x ≡ group p y
same_group p x y e = cc

same_tuple : (p : Place) (x y : Pattern) (xs ys : Patterns) → x ≡ y → xs ≡ ys → tuple p (more x xs) ≡ tuple p (more y ys)
same_tuple p x y xs ys e f = cc

same_list : (p : Place) (xs ys : Patterns) → xs ≡ ys → list p xs ≡ list p ys
same_list p xs ys e = cc

same_more : (x y : Pattern) (xs ys : Patterns) → x ≡ y → xs ≡ ys → more x xs ≡ more y ys
same_more x y xs ys e f = cc

-- behind an operand stands what ends it: the end of the pattern, or `:+`
pub snocs_end : {ts us : List Terminal} {bs : PatternOperands} → ReadsSnocs ts bs us → ends_pattern us ≡ true → ends_pattern_atoms ts ≡ true
snocs_end no_snoc p = atoms_of_pattern _ p
snocs_end (more_snocs h i) p = refl

-- an operand isn't followed by `+:` and by the operands of `:+`
pub no_cons_snoc : {w : Written} {us vs ws : List Terminal} {bs : PatternOperands} → ends_pattern ws ≡ true → Cons w ∷ us ≡ vs → ReadsSnocs vs bs ws → ⊥
no_cons_snoc p e no_snoc = differ _ p (ap ends_pattern (sym e))
no_cons_snoc p e (more_snocs h i) = cc

mutual
  pub one_pattern : {ts : List Terminal} (us vs : List Terminal) (x y : Pattern) → ends_pattern us ≡ true → ends_pattern vs ≡ true
      → ReadsPattern ts x us → ReadsPattern ts y vs → (x ≡ y) × (us ≡ vs)
  one_pattern us vs x y p q (cons_pattern h i) (cons_pattern k l) =
      let r = one_pattern_operand _ _ _ _ refl refl h k in
      let s = one_pattern _ _ _ _ p q i (pattern_from _ _ _ _ (tail_same _ _ _ _ r.1) l) in
      (same_cons _ _ _ _ r.0 s.0, s.1)
  one_pattern us vs x y p q (cons_pattern h i) (snoc_pattern k l) = absurd (no_cons_snoc q ((one_pattern_operand _ _ _ _ refl (snocs_end l q) h k).1) l)
  one_pattern us vs x y p q (snoc_pattern k l) (cons_pattern h i) = absurd (no_cons_snoc p (sym ((one_pattern_operand _ _ _ _ (snocs_end l p) refl k h).1)) l)
  one_pattern us vs x y p q (snoc_pattern h i) (snoc_pattern k l) =
      let r = one_pattern_operand _ _ _ _ (snocs_end i p) (snocs_end l q) h k in
      let s = one_snocs _ _ _ _ p q i (snocs_from _ _ _ _ r.1 l) in
      (same_snocs _ _ _ _ r.0 s.0, s.1)

  pub one_snocs : {ts : List Terminal} (us vs : List Terminal) (x y : PatternOperands) → ends_pattern us ≡ true → ends_pattern vs ≡ true
      → ReadsSnocs ts x us → ReadsSnocs ts y vs → (x ≡ y) × (us ≡ vs)
  one_snocs us vs x y p q no_snoc no_snoc = (refl, refl)
  one_snocs us vs x y p q no_snoc (more_snocs k l) = cc
  one_snocs us vs x y p q (more_snocs h i) no_snoc = cc
  one_snocs us vs x y p q (more_snocs h i) (more_snocs k l) =
      let r = one_pattern_operand _ _ _ _ (snocs_end i p) (snocs_end l q) h k in
      let s = one_snocs _ _ _ _ p q i (snocs_from _ _ _ _ r.1 l) in
      (same_more_operands _ _ _ _ r.0 s.0, s.1)

  pub one_pattern_operand : {ts : List Terminal} (us vs : List Terminal) (a b : PatternOperand) → ends_pattern_atoms us ≡ true → ends_pattern_atoms vs ≡ true
      → ReadsPatternOperand ts a us → ReadsPatternOperand ts b vs → (a ≡ b) × (us ≡ vs)
  one_pattern_operand us vs a b p q (applied_pattern h i) (applied_pattern k l) =
      let x = one_pattern_atoms _ _ _ _ p q i l in (same_applied _ _ _ _ (one_con h k) x.0, x.1)
  one_pattern_operand us vs a b p q (applied_pattern h i) (atom_pattern k) =
      absurd (differ (ends_pattern_atoms vs) q (ap ends_pattern_atoms (sym ((pattern_at_con h k).1)) ∙ begins_pattern_atoms i))
  one_pattern_operand us vs a b p q (atom_pattern h) (applied_pattern k l) =
      absurd (differ (ends_pattern_atoms us) p (ap ends_pattern_atoms (sym ((pattern_at_con k h).1)) ∙ begins_pattern_atoms l))
  one_pattern_operand us vs a b p q (atom_pattern h) (atom_pattern k) =
      let x = one_pattern_atom _ _ _ _ (λ _. no_at_of_atoms us p) (λ _. no_at_of_atoms vs q) h k in (ap atom x.0, x.1)

  pub one_pattern_atoms : {ts : List Terminal} (us vs : List Terminal) (a b : PatternAtoms) → ends_pattern_atoms us ≡ true → ends_pattern_atoms vs ≡ true
      → ReadsPatternAtoms ts a us → ReadsPatternAtoms ts b vs → (a ≡ b) × (us ≡ vs)
  one_pattern_atoms us vs a b p q no_pattern_atom no_pattern_atom = (refl, refl)
  one_pattern_atoms us vs a b p q no_pattern_atom (more_pattern_atoms k l) = absurd (differ (ends_pattern_atoms us) p (begins_pattern k))
  one_pattern_atoms us vs a b p q (more_pattern_atoms h i) no_pattern_atom = absurd (differ (ends_pattern_atoms vs) q (begins_pattern h))
  one_pattern_atoms us vs a b p q (more_pattern_atoms h i) (more_pattern_atoms k l) =
      let x = one_pattern_atom _ _ _ _ (λ _. no_at_before_atoms i p) (λ _. no_at_before_atoms l q) h k in
      let y = one_pattern_atoms _ _ _ _ p q i (pattern_atoms_from _ _ _ _ x.1 l) in
      (same_more_atoms _ _ _ _ x.0 y.0, y.1)

  -- where a name with `@` stands at the front, what follows may not be `@`
  pub one_pattern_atom : {ts : List Terminal} (us vs : List Terminal) (a b : PatternAtom) → (is_named ts ≡ true → ends_name us ≡ true) → (is_named ts ≡ true → ends_name vs ≡ true)
      → ReadsPatternAtom ts a us → ReadsPatternAtom ts b vs → (a ≡ b) × (us ≡ vs)
  one_pattern_atom us vs a b p q (constant_pattern h) k = pattern_at_con h k
  one_pattern_atom us vs a b p q h (constant_pattern k) = let x = pattern_at_con k h in (sym x.0, sym x.1)
  one_pattern_atom us vs a b p q any_pattern any_pattern = (refl, refl)
  one_pattern_atom us vs a b p q variable_pattern variable_pattern = (refl, refl)
  one_pattern_atom us vs a b p q variable_pattern (named_pattern k) = let e : false ≡ true = p refl in cc
  one_pattern_atom us vs a b p q (named_pattern h) variable_pattern = let e : false ≡ true = q refl in cc
  one_pattern_atom us vs a b p q (named_pattern h) (named_pattern k) = let x = one_pattern_atom _ _ _ _ (λ _. p refl) (λ _. q refl) h k in (same_named _ _ _ x.0, x.1)
  one_pattern_atom us vs a b p q literal_pattern literal_pattern = (refl, refl)
  one_pattern_atom us vs a b p q unit_pattern unit_pattern = (refl, refl)
  one_pattern_atom us vs a b p q unit_pattern (group_pattern k) = absurd (no_pattern_at_right k)
  one_pattern_atom us vs a b p q unit_pattern (tuple_pattern k l) = absurd (no_pattern_at_right k)
  one_pattern_atom us vs a b p q (group_pattern h) unit_pattern = absurd (no_pattern_at_right h)
  one_pattern_atom us vs a b p q (tuple_pattern h i) unit_pattern = absurd (no_pattern_at_right h)
  one_pattern_atom us vs a b p q (group_pattern h) (group_pattern k) =
      let x = one_pattern _ _ _ _ refl refl h k in (same_group _ _ _ x.0, tail_same _ _ _ _ x.1)
  one_pattern_atom us vs a b p q (group_pattern h) (tuple_pattern k l) =
      let x = one_pattern _ _ _ _ refl refl h k in absurd (right_no_comma _ _ round x.1)
  one_pattern_atom us vs a b p q (tuple_pattern h i) (group_pattern k) =
      let x = one_pattern _ _ _ _ refl refl h k in absurd (right_no_comma _ _ round (sym x.1))
  one_pattern_atom us vs a b p q (tuple_pattern h i) (tuple_pattern k l) =
      let x = one_pattern _ _ _ _ refl refl h k in
      let y = one_patterns round _ _ _ _ i (patterns_from _ _ _ _ _ (tail_same _ _ _ _ x.1) l) in
      (same_tuple _ _ _ _ _ x.0 y.0, y.1)
  one_pattern_atom us vs a b p q empty_list_pattern empty_list_pattern = (refl, refl)
  one_pattern_atom us vs a b p q empty_list_pattern (list_pattern k) = absurd (no_patterns_at_square k)
  one_pattern_atom us vs a b p q (list_pattern h) empty_list_pattern = absurd (no_patterns_at_square h)
  one_pattern_atom us vs a b p q (list_pattern h) (list_pattern k) =
      let x = one_patterns square _ _ _ _ h k in (same_list _ _ _ x.0, x.1)

  pub one_patterns : {t : Terminal} {ts : List Terminal} → IsRight t → (us vs : List Terminal) (a b : Patterns) → ReadsPatterns t ts a us → ReadsPatterns t ts b vs → (a ≡ b) × (us ≡ vs)
  one_patterns r us vs a b (last_pattern h) (last_pattern k) =
      let x = one_pattern _ _ _ _ (right_ends _ r) (right_ends _ r) h k in (ap (λ z. more z none) x.0, tail_same _ _ _ _ x.1)
  one_patterns r us vs a b (last_pattern h) (more_patterns k l) =
      let x = one_pattern _ _ _ _ (right_ends _ r) refl h k in absurd (right_no_comma _ _ r x.1)
  one_patterns r us vs a b (more_patterns h i) (last_pattern k) =
      let x = one_pattern _ _ _ _ refl (right_ends _ r) h k in absurd (right_no_comma _ _ r (sym x.1))
  one_patterns r us vs a b (more_patterns h i) (more_patterns k l) =
      let x = one_pattern _ _ _ _ refl refl h k in
      let y = one_patterns r _ _ _ _ i (patterns_from _ _ _ _ _ (tail_same _ _ _ _ x.1) l) in
      (same_more _ _ _ _ x.0 y.0, y.1)
