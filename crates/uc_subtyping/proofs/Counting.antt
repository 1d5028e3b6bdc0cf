-- How many quantifiers stand in types, and how many existentials of a context are unsolved.
use Rattle.std.proofs.Common.{◌≡◌, ℕ, zero, suc, ◌+◌, ◌<◌, ◌≤◌, Bool, true, false, cond, eqb, ◌||◌, List, [], ◌∷◌, ◌++◌, map, length, arith, refl, sym, ap, ◌∙◌}
use Rattle.std.specs.List.{list_any}
use Rattle.std.proofs.lemmas.Bool.{and_parts}
use Rattle.uc_context.specs.declared.entry.Entry.{Entry}
use Rattle.uc_context.specs.declared.entry.Entry.TheVariants.{Rigid, Exists, Solved, Mark, Binder}
use Rattle.uc_context.specs.Opens.{Open, bound, rigid, existential, quantified, arrow, unit, tuple, applied, Opens, none, more}
use Rattle.uc_context.specs.Contexts.{type_under, types_under}
use Rattle.uc_context.specs.Entries.{ContextEntries, is_unsolved, is_same_entry, dropped_from}
use Rattle.uc_context.specs.Solving.{exchanged}
use Rattle.uc_context.specs.Variables.{replaced, replaced_all, opened_at, opened_all_at, is_monotype, are_monotypes}
use Rattle.uc_subtyping.specs.InHand.{SolvesByMonotypes}

abbrev mutual
  -- how many quantifiers stand in a type
  pub quantifiers : Open → ℕ
  quantifiers (bound i) = 0
  quantifiers (rigid x) = 0
  quantifiers (existential x) = 0
  quantifiers (quantified t) = quantifiers t + 1
  quantifiers (arrow a b) = quantifiers a + quantifiers b
  quantifiers unit = 0
  quantifiers (tuple ts) = quantifiers_of ts
  quantifiers (applied h ts) = quantifiers_of ts

  pub quantifiers_of : Opens → ℕ
  quantifiers_of none = 0
  quantifiers_of (more t ts) = quantifiers t + quantifiers_of ts

-- how many existentials are unsolved
abbrev pub unsolved_count : ContextEntries → ℕ
unsolved_count [] = 0
unsolved_count (Rigid x ∷ es) = unsolved_count es
unsolved_count (Exists x ∷ es) = unsolved_count es + 1
unsolved_count (Solved x t ∷ es) = unsolved_count es
unsolved_count (Mark x ∷ es) = unsolved_count es
unsolved_count (Binder x t ∷ es) = unsolved_count es

mutual
  pub monotype-none : (t : Open) → is_monotype t ≡ true → quantifiers t ≡ 0
  monotype-none (bound i) m = refl
  monotype-none (rigid x) m = refl
  monotype-none (existential x) m = refl
  monotype-none (quantified t) m = absurd cc
  monotype-none (arrow a b) m = let p = and_parts (is_monotype a) (is_monotype b) m in omega (arith, monotype-none a p.0, monotype-none b p.1)
  monotype-none unit m = refl
  monotype-none (tuple ts) m = monotypes-none ts m
  monotype-none (applied h ts) m = monotypes-none ts m

  monotypes-none : (ts : Opens) → are_monotypes ts ≡ true → quantifiers_of ts ≡ 0
  monotypes-none none m = refl
  monotypes-none (more t ts) m = let p = and_parts (is_monotype t) (are_monotypes ts) m in omega (arith, monotype-none t p.0, monotypes-none ts p.1)

module _ (x : ℕ) (s : Open) (flat : quantifiers s ≡ 0) where
  mutual
    quantifiers-replaced : (t : Open) → quantifiers (replaced x s t) ≡ quantifiers t
    quantifiers-replaced (bound i) = refl
    quantifiers-replaced (rigid y) = refl
    quantifiers-replaced (existential y) = go (eqb y x)
      where
        go : (b : Bool) → quantifiers (cond b s (existential y)) ≡ 0
        go true = flat
        go false = refl
    quantifiers-replaced (quantified t) = omega (arith, quantifiers-replaced t)
    quantifiers-replaced (arrow a b) = omega (arith, quantifiers-replaced a, quantifiers-replaced b)
    quantifiers-replaced unit = refl
    quantifiers-replaced (tuple ts) = all_quantifiers-replaced ts
    quantifiers-replaced (applied h ts) = all_quantifiers-replaced ts

    all_quantifiers-replaced : (ts : Opens) → quantifiers_of (replaced_all x s ts) ≡ quantifiers_of ts
    all_quantifiers-replaced none = refl
    all_quantifiers-replaced (more t ts) = omega (arith, quantifiers-replaced t, all_quantifiers-replaced ts)

-- monotypes that are put in have no quantifiers
pub quantifiers-under : (es : ContextEntries) (t : Open) → SolvesByMonotypes es → quantifiers (type_under es t) ≡ quantifiers t
quantifiers-under [] t h = refl
quantifiers-under (Rigid x ∷ es) t h = quantifiers-under es t h
quantifiers-under (Exists x ∷ es) t h = quantifiers-under es t h
quantifiers-under (Solved x s ∷ es) t h = quantifiers-replaced x s (monotype-none s h.0) (type_under es t) ∙ quantifiers-under es t h.1
quantifiers-under (Mark x ∷ es) t h = quantifiers-under es t h
quantifiers-under (Binder x s ∷ es) t h = quantifiers-under es t h

module _ (by : Open) (flat : quantifiers by ≡ 0) where
  mutual
    pub quantifiers-opened : (k : ℕ) (t : Open) → quantifiers (opened_at k by t) ≡ quantifiers t
    quantifiers-opened k (bound i) = go (eqb i k)
      where
        go : (b : Bool) → quantifiers (cond b by (bound i)) ≡ 0
        go true = flat
        go false = refl
    quantifiers-opened k (rigid y) = refl
    quantifiers-opened k (existential y) = refl
    quantifiers-opened k (quantified t) = omega (arith, quantifiers-opened (suc k) t)
    quantifiers-opened k (arrow a b) = omega (arith, quantifiers-opened k a, quantifiers-opened k b)
    quantifiers-opened k unit = refl
    quantifiers-opened k (tuple ts) = all_quantifiers-opened k ts
    quantifiers-opened k (applied h ts) = all_quantifiers-opened k ts

    all_quantifiers-opened : (k : ℕ) (ts : Opens) → quantifiers_of (opened_all_at k by ts) ≡ quantifiers_of ts
    all_quantifiers-opened k none = refl
    all_quantifiers-opened k (more t ts) = omega (arith, quantifiers-opened k t, all_quantifiers-opened k ts)

pub unsolved-append : (es ds : ContextEntries) → unsolved_count (es ++ ds) ≡ unsolved_count es + unsolved_count ds
unsolved-append [] ds = omega arith
unsolved-append (Rigid x ∷ es) ds = unsolved-append es ds
unsolved-append (Exists x ∷ es) ds = omega (arith, unsolved-append es ds)
unsolved-append (Solved x t ∷ es) ds = unsolved-append es ds
unsolved-append (Mark x ∷ es) ds = unsolved-append es ds
unsolved-append (Binder x t ∷ es) ds = unsolved-append es ds

unsolved-new : (ns : List ℕ) → unsolved_count (map (λ n. Exists n) ns) ≡ length ns
unsolved-new [] = refl
unsolved-new (n ∷ ns) = omega (arith, unsolved-new ns)

pub unsolved-with : (ns : List ℕ) (x : ℕ) (t : Open) → unsolved_count (map (λ n. Exists n) ns ++ Solved x t ∷ []) ≡ length ns
unsolved-with ns x t = omega (arith, unsolved-append (map (λ n. Exists n) ns) (Solved x t ∷ []), unsolved-new ns)

-- an unsolved existential gives way
pub unsolved-exchanged : (x : ℕ) (new es : ContextEntries) → list_any (is_unsolved x) es ≡ true → unsolved_count (exchanged x new es) + 1 ≡ unsolved_count es + unsolved_count new
unsolved-exchanged x new [] u = absurd cc
unsolved-exchanged x new (Rigid y ∷ es) u = unsolved-exchanged x new es u
unsolved-exchanged x new (Exists y ∷ es) u = go (eqb y x) u (unsolved-exchanged x new es)
  where
    go : (b : Bool) → (b || list_any (is_unsolved x) es) ≡ true → (list_any (is_unsolved x) es ≡ true → unsolved_count (exchanged x new es) + 1 ≡ unsolved_count es + unsolved_count new)
        → unsolved_count (cond b (new ++ es) (Exists y ∷ exchanged x new es)) + 1 ≡ unsolved_count es + 1 + unsolved_count new
    go true v rest = omega (arith, unsolved-append new es)
    go false v rest = omega (arith, rest v)
unsolved-exchanged x new (Solved y t ∷ es) u = unsolved-exchanged x new es u
unsolved-exchanged x new (Mark y ∷ es) u = unsolved-exchanged x new es u
unsolved-exchanged x new (Binder y t ∷ es) u = unsolved-exchanged x new es u

unsolved-cons : (e : Entry) (es ds : ContextEntries) → unsolved_count es ≤ unsolved_count ds → unsolved_count (e ∷ es) ≤ unsolved_count (e ∷ ds)
unsolved-cons (Rigid x) es ds h = h
unsolved-cons (Exists x) es ds h = omega (arith, h)
unsolved-cons (Solved x t) es ds h = h
unsolved-cons (Mark x) es ds h = h
unsolved-cons (Binder x t) es ds h = h

-- fewer entries
pub unsolved-dropped : (d : Entry) (es : ContextEntries) → unsolved_count (dropped_from d es) ≤ unsolved_count es
unsolved-dropped d [] = omega arith
unsolved-dropped d (e ∷ es) = go (list_any (is_same_entry d) es) (is_same_entry d e) (unsolved-dropped d es)
  where
    go : (a b : Bool) → unsolved_count (dropped_from d es) ≤ unsolved_count es → unsolved_count (cond a (e ∷ dropped_from d es) (cond b [] (e ∷ es))) ≤ unsolved_count (e ∷ es)
    go true b h = unsolved-cons e (dropped_from d es) es h
    go false true h = omega arith
    go false false h = omega arith
