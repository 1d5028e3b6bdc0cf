-- Trees that are gathered one after the other, with the places of their nodes.
use Rattle.std.proofs.Common.{◌≡◌, ℕ, ◌+◌, ◌<◌, ◌≤◌, List, [], ◌∷◌, ◌++◌, drop, get_or, length, Result, Ok, Err, refl, ap, sym, ◌∙◌, append_assoc, append-nil}
use Rattle.std.proofs.lemmas.List.{at_drop_more, at_drop_all}
use Rattle.uc_base.specs.declared.place.Place.{Place}
use Rattle.uc_base.specs.declared.fault.Fault.{Fault}
use Rattle.uc_tree.specs.Terms.{Term, Cases, none, more, no_case, terms_of}
use Rattle.uc_tree.specs.TermViews.{case_with, cases_of}
use Rattle.uc_tree.specs.declared.term.Case.{Case}
use Rattle.uc_meaning.specs.Placed.{Placed}
use Rattle.uc_meaning.specs.Results.{◌>>=◌}
use Rattle.uc_bodies.proofs.Steps.{through, stops}

-- trees before others
abbrev pub onto : {A R : Type 0} → (A → R → R) → List A → R → R
onto put [] rest = rest
onto put (x ∷ xs) rest = put x (onto put xs rest)

abbrev pub ahead : {A R : Type 0} → (A → R → R) → List A → List Place → Placed R → Placed R
ahead put xs ps rest = (onto put xs rest.0, ps ++ rest.1)

module _ {A R E : Type 0} (put : A → R → R) (meaning : List E → Result (Placed R) Fault) where
  onto_more : (xs : List A) (x : A) (rest : R) → onto put xs (put x rest) ≡ onto put (xs ++ x ∷ []) rest
  onto_more [] x rest = refl
  onto_more (y ∷ xs) x rest = ap (put y) (onto_more xs x rest)

  ahead_more : (m : Result (Placed R) Fault) (xs : List A) (ps : List Place) (x : A) (qs : List Place)
      → (m >>= λ r. Ok (ahead put xs ps (put x r.0, qs ++ r.1))) ≡ (m >>= λ r. Ok (ahead put (xs ++ x ∷ []) (ps ++ qs) r))
  ahead_more (Ok r) xs ps x qs =
      ap (λ t. Ok (t, ps ++ (qs ++ r.1))) (onto_more xs x r.0) ∙ ap (λ l. Ok (onto put (xs ++ x ∷ []) r.0, l)) (sym (append_assoc ps qs r.1))
  ahead_more (Err e) xs ps x qs = refl

  -- one more
  pub gathers : (es : List E) (i : ℕ) (e : E) (xs : List A) (ps : List Place) (x : A) (qs : List Place) (whole : Result (Placed R) Fault)
      → i < length es → e ≡ get_or es i e → ((rest : List E) → meaning (e ∷ rest) ≡ (meaning rest >>= λ r. Ok (put x r.0, qs ++ r.1)))
      → (meaning (drop i es) >>= λ r. Ok (ahead put xs ps r)) ≡ whole
      → (meaning (drop (i + 1) es) >>= λ r. Ok (ahead put (xs ++ x ∷ []) (ps ++ qs) r)) ≡ whole
  gathers es i e xs ps x qs whole h is passed so_far =
      sym (ahead_more (meaning (drop (i + 1) es)) xs ps x qs)
      ∙ through (meaning (drop (i + 1) es)) (λ r. (put x r.0, qs ++ r.1)) (λ r. Ok (ahead put xs ps r))
      ∙ ap (λ m. m >>= λ r. Ok (ahead put xs ps r)) (sym (passed (drop (i + 1) es)) ∙ ap (λ d. meaning (d ∷ drop (i + 1) es)) is ∙ sym (at_drop_more meaning es i e h))
      ∙ so_far

  -- one that fails
  pub fails_at : (es : List E) (i : ℕ) (e : E) (xs : List A) (ps : List Place) (whole : Result (Placed R) Fault) (fault : Fault)
      → i < length es → e ≡ get_or es i e → ((rest : List E) → meaning (e ∷ rest) ≡ Err fault)
      → (meaning (drop i es) >>= λ r. Ok (ahead put xs ps r)) ≡ whole
      → whole ≡ Err fault
  fails_at es i e xs ps whole fault h is failed so_far =
      sym so_far ∙ stops (meaning (drop i es)) fault (λ r. Ok (ahead put xs ps r))
      (at_drop_more meaning es i e h ∙ ap (λ d. meaning (d ∷ drop (i + 1) es)) (sym is) ∙ failed (drop (i + 1) es))

  -- all
  pub gathered : (es : List E) (i : ℕ) (xs : List A) (ps : List Place) (whole : Result (Placed R) Fault) (end : R)
      → length es ≤ i → meaning [] ≡ Ok (end, [])
      → (meaning (drop i es) >>= λ r. Ok (ahead put xs ps r)) ≡ whole
      → whole ≡ Ok (onto put xs end, ps)
  gathered es i xs ps whole end h empty so_far =
      sym so_far ∙ ap (λ m. m >>= λ r. Ok (ahead put xs ps r)) (at_drop_all meaning es i h ∙ empty) ∙ ap (λ l. Ok (onto put xs end, l)) (append-nil ps)

abbrev pub put_case : Case → Cases → Cases
put_case c rest = case_with c.pattern c.guard c.body rest

pub all_terms : (ts : List Term) → onto more ts none ≡ terms_of ts
all_terms [] = refl
all_terms (t ∷ ts) = ap (more t) (all_terms ts)

pub all_cases : (cs : List Case) → onto put_case cs no_case ≡ cases_of cs
all_cases [] = refl
all_cases (c ∷ cs) = ap (put_case c) (all_cases cs)
