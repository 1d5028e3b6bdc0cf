-- Types in which an existential is replaced.
use Rattle.std.proofs.Common.{◌≡◌, ℕ, true, false, refl, sym, ap, ◌∙◌, inl, inr}
use Rattle.std.specs.List.{list_any}
use Rattle.std.proofs.lemmas.Bool.{or_parts, or_cases, and_parts, eqb-true}
use Rattle.uc_context.specs.Opens.{Open, bound, rigid, existential, quantified, arrow, unit, tuple, applied, Opens, none, more}
use Rattle.uc_context.specs.Entries.{ContextEntries, declares}
use Rattle.uc_context.specs.Variables.{replaced, replaced_all, mentions, some_mentions, declares_all, declares_all_of}

-- where an existential isn't mentioned nothing is replaced
mutual
  pub replaced-unmentioned : (x : ℕ) (s t : Open) → mentions x t ≡ false → replaced x s t ≡ t
  replaced-unmentioned x s (bound i) n = refl
  replaced-unmentioned x s (rigid y) n = refl
  replaced-unmentioned x s (existential y) n = rw n refl
  replaced-unmentioned x s (quantified t) n = ap quantified (replaced-unmentioned x s t n)
  replaced-unmentioned x s (arrow a b) n =
      let p = or_parts (mentions x a) (mentions x b) n in
      ap (λ (c : Open). arrow c (replaced x s b)) (replaced-unmentioned x s a p.0) ∙ ap (arrow a) (replaced-unmentioned x s b p.1)
  replaced-unmentioned x s unit n = refl
  replaced-unmentioned x s (tuple ts) n = ap tuple (replaced_all-unmentioned x s ts n)
  replaced-unmentioned x s (applied h ts) n = ap (applied h) (replaced_all-unmentioned x s ts n)

  replaced_all-unmentioned : (x : ℕ) (s : Open) (ts : Opens) → some_mentions x ts ≡ false → replaced_all x s ts ≡ ts
  replaced_all-unmentioned x s none n = refl
  replaced_all-unmentioned x s (more t ts) n =
      let p = or_parts (mentions x t) (some_mentions x ts) n in
      ap (λ (u : Open). more u (replaced_all x s ts)) (replaced-unmentioned x s t p.0) ∙ ap (more t) (replaced_all-unmentioned x s ts p.1)

-- where all existentials are declared each that is mentioned is
mutual
  pub mentioned-declared : (y : ℕ) (es : ContextEntries) (t : Open) → declares_all es t ≡ true → mentions y t ≡ true → list_any (declares y) es ≡ true
  mentioned-declared y es (bound i) d m = absurd cc
  mentioned-declared y es (rigid z) d m = absurd cc
  mentioned-declared y es (existential z) d m = ap (λ (n : ℕ). list_any (declares n) es) (sym (eqb-true z y m)) ∙ d
  mentioned-declared y es (quantified t) d m = mentioned-declared y es t d m
  mentioned-declared y es (arrow a b) d m =
      let p = and_parts (declares_all es a) (declares_all es b) d in
      elim (or_cases (mentions y a) (mentions y b) m) [ inl l ↦ mentioned-declared y es a p.0 l | inr r ↦ mentioned-declared y es b p.1 r ]
  mentioned-declared y es unit d m = absurd cc
  mentioned-declared y es (tuple ts) d m = some_mentioned-declared y es ts d m
  mentioned-declared y es (applied h ts) d m = some_mentioned-declared y es ts d m

  some_mentioned-declared : (y : ℕ) (es : ContextEntries) (ts : Opens) → declares_all_of es ts ≡ true → some_mentions y ts ≡ true → list_any (declares y) es ≡ true
  some_mentioned-declared y es none d m = absurd cc
  some_mentioned-declared y es (more t ts) d m =
      let p = and_parts (declares_all es t) (declares_all_of es ts) d in
      elim (or_cases (mentions y t) (some_mentions y ts) m) [ inl l ↦ mentioned-declared y es t p.0 l | inr r ↦ some_mentioned-declared y es ts p.1 r ]
