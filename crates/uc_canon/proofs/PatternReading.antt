-- A pattern that is read is spelled so, and a pattern that is spelled is read.
use Rattle.std.proofs.Common.{◌≡◌, ℕ, zero, suc, ◌≤◌, true, false, List, [], ◌∷◌, ◌++◌, length, Some, refl, ap, append_assoc, arith}
use Rattle.std.specs.List.{AllByRecursion}
use Rattle.uc_base.specs.declared.reference.Ref.TheVariants.{Def, Ctor, Builtin}
use Rattle.uc_tree.specs.declared.target.Target.{Target}
use Rattle.uc_tree.specs.declared.target.Target.TheVariants.{Stored, Own, OwnCtor}
use Rattle.uc_tree.specs.declared.literal.Literal.{Literal}
use Rattle.uc_tree.specs.declared.literal.Literal.TheVariants as lit
use Rattle.uc_tree.specs.Patterns.{Pattern, any, variable, alias, literal, unit, tuple, list, constructor, cons, snoc, Patterns, none, more, patterns_of}
use Rattle.uc_tree.specs.Counts.{pattern_levels, patterns_levels}
use Rattle.uc_canon.specs.Bounds.{IsCount, IsLiteralInRange, IsPatternTarget, IsPatternInRange, ArePatternsInRange}
use Rattle.uc_canon.specs.Spelling.{number_text, literal_text, pattern_target_text, patterns_count, pattern_text, patterns_text, counted_patterns}
use Rattle.uc_canon.specs.Reading.{Read, ◌>>=◌, counted_at, literal_by}
use Rattle.uc_canon.specs.ReadingTypes.{constructor_at}
use Rattle.uc_canon.specs.ReadingPatterns.{literal_pattern_at, alias_at, tuple_pattern_at, list_pattern_at, constructor_pattern_at, cons_at, snoc_at, pattern_by, pattern_at}
use Rattle.uc_canon.proofs.Counts.{patterns_count-patterns_of}
use Rattle.uc_canon.proofs.ReadLiterals.{literal_takes, literal_again}
use Rattle.uc_canon.proofs.ReadLists.{Parts, parts_take, parts_again}
use Rattle.uc_canon.proofs.ReadSteps.{bound, Takes, answered, by_first, joined, laid}
use Rattle.uc_canon.proofs.TypeReading.{constructor_takes, constructor_again}

-- ---- heads

head_takes : (bytes : List ℕ) (x : Target × List ℕ) → constructor_at bytes ≡ Some x → Takes pattern_target_text IsPatternTarget bytes x
head_takes bytes x e =
    constructor_takes (Takes pattern_target_text IsPatternTarget bytes) bytes x e
    (λ hash n c after is small few parts. record { parts = parts; fits = (is, small, few) })

head_again : (x : Target) (rest : List ℕ) → IsPatternTarget x → constructor_at (pattern_target_text x ++ rest) ≡ Some (x, rest)
head_again (Stored (Ctor hash n c)) rest fits = constructor_again hash n c rest fits.0 fits.1 fits.2
head_again (Stored (Def hash n)) rest fits = absurd fits
head_again (Stored (Builtin n)) rest fits = absurd fits
head_again (Own n) rest fits = absurd fits
head_again (OwnCtor n c) rest fits = absurd fits

-- ---- patterns as lists and as trees

pub list_of : Patterns → List Pattern
list_of none = []
list_of (more p ps) = p ∷ list_of ps

patterns_of-list_of : (ps : Patterns) → patterns_of (list_of ps) ≡ ps
unfolding list_of
patterns_of-list_of none = refl
patterns_of-list_of (more p ps) = ap (more p) (patterns_of-list_of ps)

laid_patterns : (ps : List Pattern) → laid pattern_text ps ≡ patterns_text (patterns_of ps)
laid_patterns [] = refl
laid_patterns (p ∷ ps) = ap (λ (l : List ℕ). pattern_text p ++ l) (laid_patterns ps)

counted_is : (ps : List Pattern) → number_text (length ps) ++ laid pattern_text ps ≡ counted_patterns (patterns_of ps)
counted_is ps = rw (patterns_count-patterns_of ps, laid_patterns ps) refl

-- ---- patterns

-- a pattern is in range, of at most so many levels
pub record PatternFits (d : ℕ) (p : Pattern) : Type 0 where
  pub range : IsPatternInRange p
  pub levels : pattern_levels p ≤ d

pub record PatternsFit (d : ℕ) (ps : Patterns) : Type 0 where
  pub range : ArePatternsInRange ps
  pub levels : patterns_levels ps ≤ d

patterns_from : (d : ℕ) (ps : List Pattern) → AllByRecursion (PatternFits d) ps → PatternsFit d (patterns_of ps)
patterns_from d [] all = record { range = tt; levels = omega arith }
patterns_from d (p ∷ ps) all =
    let r = patterns_from d ps all.1 in
    record { range = (all.0.range, r.range); levels = omega (arith, all.0.levels, r.levels) }

patterns_to : (d : ℕ) (ps : Patterns) → PatternsFit d ps → AllByRecursion (PatternFits d) (list_of ps)
unfolding list_of
patterns_to d none fit = tt
patterns_to d (more p ps) fit = (
  record { range = fit.range.0; levels = omega (arith, fit.levels) },
  patterns_to d ps (record { range = fit.range.1; levels = omega (arith, fit.levels) }),
)

-- what was read after a number of parts
abbrev PatternParts : ℕ → ℕ → List ℕ → List Pattern × List ℕ → Type 0
PatternParts d = Parts pattern_text (PatternFits d) patterns_of (PatternsFit d) patterns_count counted_patterns patterns_count-patterns_of counted_is

some_levels : (p : Pattern) → 1 ≤ pattern_levels p
some_levels any = omega arith
some_levels variable = omega arith
some_levels (alias p) = omega arith
some_levels (literal l) = omega arith
some_levels unit = omega arith
some_levels (tuple ps) = omega arith
some_levels (list ps) = omega arith
some_levels (constructor x ps) = omega arith
some_levels (cons p q) = omega arith
some_levels (snoc p q) = omega arith

literal_takes_pattern : (d c : ℕ) (rest : List ℕ) (x : Pattern × List ℕ) → literal_pattern_at c rest ≡ Some x → Takes pattern_text (PatternFits (suc d)) (c ∷ rest) x
unfolding literal_pattern_at
literal_takes_pattern d c rest x e =
    let a = bound (literal_by c rest) (λ l. Some (literal l.0, l.1)) x e in
    let l = literal_takes c rest a.0 a.1 in
    answered pattern_text (PatternFits (suc d)) (c ∷ rest) (literal a.0.0, a.0.1) x a.2
    (record { parts = l.parts; fits = record { range = l.fits; levels = omega arith } })

module _ (next : List ℕ → Read Pattern) (d : ℕ)
    (take_one : (bytes : List ℕ) (x : Pattern × List ℕ) → next bytes ≡ Some x → Takes pattern_text (PatternFits d) bytes x) where
  patterns_take : (least : ℕ) (bytes : List ℕ) (x : List Pattern × List ℕ) → counted_at next least bytes ≡ Some x → PatternParts d least bytes x
  patterns_take = parts_take pattern_text (PatternFits d) patterns_of (PatternsFit d) patterns_count counted_patterns patterns_count-patterns_of counted_is next (patterns_from d) take_one

  alias_takes : (rest : List ℕ) (x : Pattern × List ℕ) → alias_at next rest ≡ Some x → Takes pattern_text (PatternFits (suc d)) (64 ∷ rest) x
  unfolding alias_at
  alias_takes rest x e =
      let a = bound (next rest) (λ p. Some (alias p.0, p.1)) x e in
      let p = take_one rest a.0 a.1 in
      answered pattern_text (PatternFits (suc d)) (64 ∷ rest) (alias a.0.0, a.0.1) x a.2
      (record { parts = ap (λ (l : List ℕ). 64 ∷ l) p.parts; fits = record { range = p.fits.range; levels = omega (arith, p.fits.levels) } })

  tuple_takes : (rest : List ℕ) (x : Pattern × List ℕ) → tuple_pattern_at next rest ≡ Some x → Takes pattern_text (PatternFits (suc d)) (112 ∷ rest) x
  unfolding tuple_pattern_at
  tuple_takes rest x e =
      let a = bound (counted_at next 2 rest) (λ ps. Some (tuple (patterns_of ps.0), ps.1)) x e in
      let ps = patterns_take 2 rest a.0 a.1 in
      answered pattern_text (PatternFits (suc d)) (112 ∷ rest) (tuple (patterns_of a.0.0), a.0.1) x a.2
      (record { parts = ap (λ (l : List ℕ). 112 ∷ l) ps.parts; fits = record { range = (ps.count, ps.fit.range); levels = omega (arith, ps.fit.levels) } })

  list_takes : (rest : List ℕ) (x : Pattern × List ℕ) → list_pattern_at next rest ≡ Some x → Takes pattern_text (PatternFits (suc d)) (103 ∷ rest) x
  unfolding list_pattern_at
  list_takes rest x e =
      let a = bound (counted_at next 0 rest) (λ ps. Some (list (patterns_of ps.0), ps.1)) x e in
      let ps = patterns_take 0 rest a.0 a.1 in
      answered pattern_text (PatternFits (suc d)) (103 ∷ rest) (list (patterns_of a.0.0), a.0.1) x a.2
      (record { parts = ap (λ (l : List ℕ). 103 ∷ l) ps.parts; fits = record { range = (ps.count, ps.fit.range); levels = omega (arith, ps.fit.levels) } })

  constructor_takes_pattern : (rest : List ℕ) (x : Pattern × List ℕ) → constructor_pattern_at next rest ≡ Some x → Takes pattern_text (PatternFits (suc d)) (107 ∷ rest) x
  unfolding constructor_pattern_at
  constructor_takes_pattern rest x e =
      let a = bound (constructor_at rest) (λ y. counted_at next 0 y.1 >>= λ ps. Some (constructor y.0 (patterns_of ps.0), ps.1)) x e in
      let b = bound (counted_at next 0 a.0.1) (λ ps. Some (constructor a.0.0 (patterns_of ps.0), ps.1)) x a.2 in
      let y = head_takes rest a.0 a.1 in
      let ps = patterns_take 0 a.0.1 b.0 b.1 in
      answered pattern_text (PatternFits (suc d)) (107 ∷ rest) (constructor a.0.0 (patterns_of b.0.0), b.0.1) x b.2
      (record {
        parts = ap (λ (l : List ℕ). 107 ∷ l) (joined rest (pattern_target_text a.0.0) a.0.1 (counted_patterns (patterns_of b.0.0)) b.0.1 y.parts ps.parts);
        fits = record { range = (y.fits, ps.count, ps.fit.range); levels = omega (arith, ps.fit.levels) };
      })

  cons_takes : (rest : List ℕ) (x : Pattern × List ℕ) → cons_at next rest ≡ Some x → Takes pattern_text (PatternFits (suc d)) (60 ∷ rest) x
  unfolding cons_at
  cons_takes rest x e =
      let a = bound (next rest) (λ p. next p.1 >>= λ q. Some (cons p.0 q.0, q.1)) x e in
      let b = bound (next a.0.1) (λ q. Some (cons a.0.0 q.0, q.1)) x a.2 in
      let p = take_one rest a.0 a.1 in
      let q = take_one a.0.1 b.0 b.1 in
      answered pattern_text (PatternFits (suc d)) (60 ∷ rest) (cons a.0.0 b.0.0, b.0.1) x b.2
      (record {
        parts = ap (λ (l : List ℕ). 60 ∷ l) (joined rest (pattern_text a.0.0) a.0.1 (pattern_text b.0.0) b.0.1 p.parts q.parts);
        fits = record { range = (p.fits.range, q.fits.range); levels = omega (arith, p.fits.levels, q.fits.levels) };
      })

  snoc_takes : (rest : List ℕ) (x : Pattern × List ℕ) → snoc_at next rest ≡ Some x → Takes pattern_text (PatternFits (suc d)) (62 ∷ rest) x
  unfolding snoc_at
  snoc_takes rest x e =
      let a = bound (next rest) (λ p. next p.1 >>= λ q. Some (snoc p.0 q.0, q.1)) x e in
      let b = bound (next a.0.1) (λ q. Some (snoc a.0.0 q.0, q.1)) x a.2 in
      let p = take_one rest a.0 a.1 in
      let q = take_one a.0.1 b.0 b.1 in
      answered pattern_text (PatternFits (suc d)) (62 ∷ rest) (snoc a.0.0 b.0.0, b.0.1) x b.2
      (record {
        parts = ap (λ (l : List ℕ). 62 ∷ l) (joined rest (pattern_text a.0.0) a.0.1 (pattern_text b.0.0) b.0.1 p.parts q.parts);
        fits = record { range = (p.fits.range, q.fits.range); levels = omega (arith, p.fits.levels, q.fits.levels) };
      })

  by_takes : (bytes : List ℕ) (x : Pattern × List ℕ) → pattern_by next bytes ≡ Some x → Takes pattern_text (PatternFits (suc d)) bytes x
  unfolding pattern_by
  by_takes [] x e = absurd cc
  by_takes (c ∷ rest) x e =
      let text = pattern_text in
      let P = PatternFits (suc d) in
      by_first text P c 95 rest x _ _ e (λ e. answered text P (95 ∷ rest) (any, rest) x e (record { parts = refl; fits = record { range = tt; levels = omega arith } }))
      (λ e. by_first text P c 118 rest x _ _ e (λ e. answered text P (118 ∷ rest) (variable, rest) x e (record { parts = refl; fits = record { range = tt; levels = omega arith } }))
      (λ e. by_first text P c 64 rest x _ _ e (alias_takes rest x)
      (λ e. by_first text P c 101 rest x _ _ e (λ e. answered text P (101 ∷ rest) (unit, rest) x e (record { parts = refl; fits = record { range = tt; levels = omega arith } }))
      (λ e. by_first text P c 112 rest x _ _ e (tuple_takes rest x)
      (λ e. by_first text P c 103 rest x _ _ e (list_takes rest x)
      (λ e. by_first text P c 107 rest x _ _ e (constructor_takes_pattern rest x)
      (λ e. by_first text P c 60 rest x _ _ e (cons_takes rest x)
      (λ e. by_first text P c 62 rest x _ _ e (snoc_takes rest x) (literal_takes_pattern d c rest x)))))))))

-- what is read is spelled so
pub pattern_takes : (d : ℕ) (bytes : List ℕ) (x : Pattern × List ℕ) → pattern_at d bytes ≡ Some x → Takes pattern_text (PatternFits d) bytes x
pattern_takes zero bytes x e = absurd cc
pattern_takes (suc d) bytes x e = by_takes (pattern_at d) d (pattern_takes d) bytes x e

patterns_again : (d : ℕ) → ((p : Pattern) (rest : List ℕ) → PatternFits d p → pattern_at d (pattern_text p ++ rest) ≡ Some (p, rest))
    → (least : ℕ) (ps : Patterns) (rest : List ℕ) → IsCount least (patterns_count ps) → PatternsFit d ps → counted_at (pattern_at d) least (counted_patterns ps ++ rest) ≡ Some (list_of ps, rest)
patterns_again d = parts_again pattern_text (PatternFits d) patterns_of (PatternsFit d) patterns_count counted_patterns patterns_count-patterns_of counted_is (pattern_at d) list_of patterns_of-list_of (patterns_to d)

-- its first byte begins no other pattern
literal_pattern_again : (d : ℕ) (l : Literal) (rest : List ℕ) → IsLiteralInRange l → pattern_by (pattern_at d) (literal_text l ++ rest) ≡ Some (literal l, rest)
unfolding pattern_by literal_pattern_at
literal_pattern_again d (lit.Nat n) rest fits = rw (literal_again (lit.Nat n) rest fits) refl
literal_pattern_again d (lit.Int z) rest fits = rw (literal_again (lit.Int z) rest fits) refl
literal_pattern_again d (lit.Boolean true) rest fits = rw (literal_again (lit.Boolean true) rest fits) refl
literal_pattern_again d (lit.Boolean false) rest fits = rw (literal_again (lit.Boolean false) rest fits) refl
literal_pattern_again d (lit.Text text) rest fits = rw (literal_again (lit.Text text) rest fits) refl
literal_pattern_again d (lit.Char c) rest fits = rw (literal_again (lit.Char c) rest fits) refl

-- what is spelled is read
pub pattern_again : (d : ℕ) (p : Pattern) (rest : List ℕ) → PatternFits d p → pattern_at d (pattern_text p ++ rest) ≡ Some (p, rest)
unfolding pattern_by alias_at tuple_pattern_at list_pattern_at constructor_pattern_at cons_at snoc_at
pattern_again zero p rest fits = absurd (omega (arith, fits.levels, some_levels p))
pattern_again (suc d) any rest fits = refl
pattern_again (suc d) variable rest fits = refl
pattern_again (suc d) (alias p) rest fits = rw (pattern_again d p rest (record { range = fits.range; levels = omega (arith, fits.levels) })) refl
pattern_again (suc d) (literal l) rest fits = literal_pattern_again d l rest fits.range
pattern_again (suc d) unit rest fits = refl
pattern_again (suc d) (tuple ps) rest fits =
    rw (patterns_again d (λ q r f. pattern_again d q r f) 2 ps rest fits.range.0 (record { range = fits.range.1; levels = omega (arith, fits.levels) }), patterns_of-list_of ps) refl
pattern_again (suc d) (list ps) rest fits =
    rw (patterns_again d (λ q r f. pattern_again d q r f) 0 ps rest fits.range.0 (record { range = fits.range.1; levels = omega (arith, fits.levels) }), patterns_of-list_of ps) refl
pattern_again (suc d) (constructor x ps) rest fits =
    rw (
      append_assoc,
      head_again x (counted_patterns ps ++ rest) fits.range.0,
      patterns_again d (λ q r f. pattern_again d q r f) 0 ps rest fits.range.1 (record { range = fits.range.2; levels = omega (arith, fits.levels) }),
      patterns_of-list_of ps,
    ) refl
pattern_again (suc d) (cons p q) rest fits =
    rw (
      append_assoc,
      pattern_again d p (pattern_text q ++ rest) (record { range = fits.range.0; levels = omega (arith, fits.levels) }),
      pattern_again d q rest (record { range = fits.range.1; levels = omega (arith, fits.levels) }),
    ) refl
pattern_again (suc d) (snoc p q) rest fits =
    rw (
      append_assoc,
      pattern_again d p (pattern_text q ++ rest) (record { range = fits.range.0; levels = omega (arith, fits.levels) }),
      pattern_again d q rest (record { range = fits.range.1; levels = omega (arith, fits.levels) }),
    ) refl
