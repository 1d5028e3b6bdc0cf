-- Types whose existentials are all unsolved.
use Rattle.std.proofs.Common.{◌≡◌, ℕ, Bool, true, false, cond, eqb, ◌||◌, List, [], ◌∷◌, ◌++◌, map, suc, Option, Some, None, refl, sym, ap, subst, ◌∙◌, ◌⊎◌, inl, inr}
use Rattle.std.specs.List.{list_any}
use Rattle.std.proofs.lemmas.Bool.{or_left, or_right, or_parts, or_from, or_cases, and_parts, and_from, eqb-true, eqb-false, eq-eqb, ne_eqb, false≢true, false_from_ne_true}
use Rattle.std.proofs.lemmas.List.Folds.{list_any-append}
use Rattle.uc_context.specs.declared.entry.Entry.{Entry}
use Rattle.uc_context.specs.declared.entry.Entry.TheVariants.{Rigid, Exists, Solved, Mark, Binder}
use Rattle.uc_context.specs.Opens.{Open, bound, rigid, existential, quantified, arrow, unit, tuple, applied, Opens, none, more}
use Rattle.uc_context.specs.Contexts.{IsContext, type_under, types_under, solution_of}
use Rattle.uc_context.specs.Entries.{ContextEntries, is_numbered, is_rigid, is_unsolved, declares, is_variable}
use Rattle.uc_context.specs.Solving.{exchanged}
use Rattle.uc_context.specs.Variables.{opened_at, opened_all_at, mentions, some_mentions, has_variables, has_variables_of}
use Rattle.uc_context.proofs.Declared.{variables_declared}
use Rattle.uc_context.proofs.Looked.{solution_standing, existential_tests}
use Rattle.uc_context.proofs.Noting.{numbered_fails, variable_by_number}
use Rattle.uc_context.proofs.Replacing.{mentioned-declared}
use Rattle.uc_context.proofs.Solutions.{declared_variable}
use Rattle.uc_context.proofs.Standing.{fails_without}
use Rattle.uc_context.proofs.Under.{under-bound, under-rigid, under-quantified, under-arrow, under-unit, under-tuple, under-applied, under-settled, under-unsolved}
use Rattle.uc_context.proofs.Unsolved.{unsolved}
use Rattle.uc_subtyping.proofs.Extending.{unsolved_entry}
use Rattle.uc_subtyping.proofs.InOrder.{StandsUnsolved, stands_unsolved}

pub unsolved_declared : (y : ℕ) (es : ContextEntries) → list_any (is_unsolved y) es ≡ true → list_any (declares y) es ≡ true
unsolved_declared y [] u = u
unsolved_declared y (Rigid x ∷ es) u = unsolved_declared y es u
unsolved_declared y (Exists x ∷ es) u = elim (or_cases (eqb x y) (list_any (is_unsolved y) es) u) [ inl h ↦ or_left (eqb x y) (list_any (declares y) es) h | inr t ↦ or_right (eqb x y) (list_any (declares y) es) (unsolved_declared y es t) ]
unsolved_declared y (Solved x t ∷ es) u = or_right (eqb x y) (list_any (declares y) es) (unsolved_declared y es u)
unsolved_declared y (Mark x ∷ es) u = unsolved_declared y es u
unsolved_declared y (Binder x t ∷ es) u = unsolved_declared y es u

-- a declared existential without a solution is unsolved
pub declared_unsolved : (y : ℕ) (es : ContextEntries) → list_any (declares y) es ≡ true → solution_of es y ≡ None → list_any (is_unsolved y) es ≡ true
declared_unsolved y [] d n = d
declared_unsolved y (Rigid x ∷ es) d n = declared_unsolved y es d n
declared_unsolved y (Exists x ∷ es) d n = elim (or_cases (eqb x y) (list_any (declares y) es) d) [ inl h ↦ or_left (eqb x y) (list_any (is_unsolved y) es) h | inr t ↦ or_right (eqb x y) (list_any (is_unsolved y) es) (declared_unsolved y es t n) ]
declared_unsolved y (Solved x t ∷ es) d n = go (eqb x y) d n (declared_unsolved y es)
  where
    go : (b : Bool) → (b || list_any (declares y) es) ≡ true → cond b (Some t) (solution_of es y) ≡ None → (list_any (declares y) es ≡ true → solution_of es y ≡ None → list_any (is_unsolved y) es ≡ true) → list_any (is_unsolved y) es ≡ true
    go true e m rest = absurd cc
    go false e m rest = rest e m
declared_unsolved y (Mark x ∷ es) d n = declared_unsolved y es d n
declared_unsolved y (Binder x t ∷ es) d n = declared_unsolved y es d n

-- an unsolved existential has no solution
pub unsolved_solution : (y : ℕ) (es : ContextEntries) → IsContext es → list_any (is_unsolved y) es ≡ true → solution_of es y ≡ None
unsolved_solution y es order u = let s : StandsUnsolved y es = stands_unsolved y es order u in solution_standing y es s.left (Exists y) s.right s.stands

pub unsolved_stays : (y : ℕ) (es : ContextEntries) → IsContext es → list_any (is_unsolved y) es ≡ true → type_under es (existential y) ≡ existential y
unsolved_stays y es order u = under-unsolved es y (unsolved_solution y es order u)

-- what entries have, among which an existential gives way to others
module _ (test : Entry → Bool) (x : ℕ) (new : ContextEntries) where
  pub exchanged_passes : test (Exists x) ≡ false → (es : ContextEntries) → list_any test es ≡ true → list_any test (exchanged x new es) ≡ true
  exchanged_passes fails [] p = p
  exchanged_passes fails (e ∷ es) p = go (is_unsolved x e) refl (or_cases (test e) (list_any test es) p) (exchanged_passes fails es)
    where
      go : (b : Bool) → is_unsolved x e ≡ b → (test e ≡ true) ⊎ (list_any test es ≡ true) → (list_any test es ≡ true → list_any test (exchanged x new es) ≡ true) → list_any test (cond b (new ++ es) (e ∷ exchanged x new es)) ≡ true
      go true h (inl t) rest = absurd (false≢true (sym (ap test (sym (unsolved_entry x e h)) ∙ fails) ∙ t))
      go true h (inr t) rest = list_any-append test new es ∙ or_right (list_any test new) (list_any test es) t
      go false h (inl t) rest = or_left (test e) (list_any test (exchanged x new es)) t
      go false h (inr t) rest = or_right (test e) (list_any test (exchanged x new es)) (rest t)

  pub exchanged_new : list_any test new ≡ true → (es : ContextEntries) → list_any (is_unsolved x) es ≡ true → list_any test (exchanged x new es) ≡ true
  exchanged_new passes [] u = absurd cc
  exchanged_new passes (e ∷ es) u = go (is_unsolved x e) u (exchanged_new passes es)
    where
      go : (b : Bool) → (b || list_any (is_unsolved x) es) ≡ true → (list_any (is_unsolved x) es ≡ true → list_any test (exchanged x new es) ≡ true) → list_any test (cond b (new ++ es) (e ∷ exchanged x new es)) ≡ true
      go true v rest = list_any-append test new es ∙ or_left (list_any test new) (list_any test es) passes
      go false v rest = or_right (test e) (list_any test (exchanged x new es)) (rest v)

pub eqb-flip : (a b : ℕ) → eqb a b ≡ false → eqb b a ≡ false
eqb-flip a b h = ne_eqb b a (λ e. eqb-false a b h (sym e))

-- of two existentials a type mentions only the first
pub differ : (x y : ℕ) (t : Open) → mentions x t ≡ false → mentions y t ≡ true → eqb y x ≡ false
differ x y t n m = false_from_ne_true (eqb y x) (λ e. false≢true (sym n ∙ sym (ap (λ (z : ℕ). mentions z t) (eqb-true y x e)) ∙ m))

-- an existential that entries declare isn't one whose number none has
pub differ_new : (es : ContextEntries) (y n : ℕ) → list_any (declares y) es ≡ true → list_any (is_numbered n) es ≡ false → eqb y n ≡ false
differ_new es y n d unused =
    false_from_ne_true (eqb y n) (λ e. false≢true (sym (numbered_fails is_variable variable_by_number n es unused) ∙ sym (ap (λ (z : ℕ). list_any (is_variable z) es) (eqb-true y n e)) ∙ declared_variable y es d))

-- a type whose variables a context has, and whose existentials are unsolved in it
pub record Settled (es : ContextEntries) (t : Open) : Type 0 where
  pub known : has_variables es t ≡ true
  pub unsolved : (y : ℕ) → mentions y t ≡ true → list_any (is_unsolved y) es ≡ true

pub mentioned_known : (es : ContextEntries) (t : Open) → has_variables es t ≡ true → (y : ℕ) → mentions y t ≡ true → list_any (declares y) es ≡ true
mentioned_known es t k y m = mentioned-declared y es t (variables_declared es t k) m

pub settled-same : (es : ContextEntries) → IsContext es → (t : Open) → Settled es t → type_under es t ≡ t
settled-same es order t s = under-settled es t (λ y m. unsolved_solution y es order (s.unsolved y m))

pub settled-under : (es : ContextEntries) → IsContext es → (t : Open) → has_variables es (type_under es t) ≡ true → Settled es (type_under es t)
settled-under es order t k = record {
  known = k;
  unsolved = λ y m. declared_unsolved y es (mentioned_known es (type_under es t) k y m) (unsolved es t order y m);
}

pub settled-current : (es : ContextEntries) → IsContext es → (t : Open) → has_variables es t ≡ true → type_under es t ≡ t → Settled es t
settled-current es order t k same = subst (Settled es) same (settled-under es order t (ap (has_variables es) same ∙ k))

-- a type that a settled one is part of, at each of its parts
pub settled-part : (es : ContextEntries) (t u : Open) → Settled es t → has_variables es u ≡ true → ((y : ℕ) → mentions y u ≡ true → mentions y t ≡ true) → Settled es u
settled-part es t u s k part = record { known = k; unsolved = λ y m. s.unsolved y (part y m) }

-- entries that have more variables
module _ (es fs : ContextEntries) (rigids : (y : ℕ) → list_any (is_rigid y) es ≡ true → list_any (is_rigid y) fs ≡ true) where
  module _ (declared : (y : ℕ) → list_any (declares y) es ≡ true → list_any (declares y) fs ≡ true) where
    mutual
      pub known-more : (t : Open) → has_variables es t ≡ true → has_variables fs t ≡ true
      known-more (bound i) k = refl
      known-more (rigid y) k = rigids y k
      known-more (existential y) k = declared y k
      known-more (quantified t) k = known-more t k
      known-more (arrow a b) k = let p = and_parts (has_variables es a) (has_variables es b) k in and_from (has_variables fs a) (has_variables fs b) (known-more a p.0) (known-more b p.1)
      known-more unit k = refl
      known-more (tuple ts) k = all_known-more ts k
      known-more (applied h ts) k = all_known-more ts k

      all_known-more : (ts : Opens) → has_variables_of es ts ≡ true → has_variables_of fs ts ≡ true
      all_known-more none k = refl
      all_known-more (more t ts) k = let p = and_parts (has_variables es t) (has_variables_of es ts) k in and_from (has_variables fs t) (has_variables_of fs ts) (known-more t p.0) (all_known-more ts p.1)

  -- and types under a context have theirs, where each existential that they mention has them
  module _ (ds : ContextEntries) where
    mutual
      pub known_under : (t : Open) → has_variables es t ≡ true → ((y : ℕ) → mentions y t ≡ true → has_variables fs (type_under ds (existential y)) ≡ true) → has_variables fs (type_under ds t) ≡ true
      known_under (bound i) k f = ap (has_variables fs) (under-bound ds i)
      known_under (rigid y) k f = ap (has_variables fs) (under-rigid ds y) ∙ rigids y k
      known_under (existential y) k f = f y (eq-eqb y y refl)
      known_under (quantified t) k f = ap (has_variables fs) (under-quantified ds t) ∙ known_under t k f
      known_under (arrow a b) k f =
          let p = and_parts (has_variables es a) (has_variables es b) k in
          ap (has_variables fs) (under-arrow ds a b)
          ∙ and_from (has_variables fs (type_under ds a)) (has_variables fs (type_under ds b)) (known_under a p.0 (λ y m. f y (or_left (mentions y a) (mentions y b) m))) (known_under b p.1 (λ y m. f y (or_right (mentions y a) (mentions y b) m)))
      known_under unit k f = ap (has_variables fs) (under-unit ds)
      known_under (tuple ts) k f = ap (has_variables fs) (under-tuple ds ts) ∙ all_known_under ts k f
      known_under (applied h ts) k f = ap (has_variables fs) (under-applied ds h ts) ∙ all_known_under ts k f

      all_known_under : (ts : Opens) → has_variables_of es ts ≡ true → ((y : ℕ) → some_mentions y ts ≡ true → has_variables fs (type_under ds (existential y)) ≡ true) → has_variables_of fs (types_under ds ts) ≡ true
      all_known_under none k f = refl
      all_known_under (more t ts) k f =
          let p = and_parts (has_variables es t) (has_variables_of es ts) k in
          and_from (has_variables fs (type_under ds t)) (has_variables_of fs (types_under ds ts)) (known_under t p.0 (λ y m. f y (or_left (mentions y t) (some_mentions y ts) m))) (all_known_under ts p.1 (λ y m. f y (or_right (mentions y t) (some_mentions y ts) m)))

-- a type opened by a variable
module _ (es : ContextEntries) (by : Open) (k : has_variables es by ≡ true) where
  mutual
    pub known-opened : (i : ℕ) (t : Open) → has_variables es t ≡ true → has_variables es (opened_at i by t) ≡ true
    known-opened i (bound j) h = go (eqb j i)
      where
        go : (b : Bool) → has_variables es (cond b by (bound j)) ≡ true
        go true = k
        go false = refl
    known-opened i (rigid y) h = h
    known-opened i (existential y) h = h
    known-opened i (quantified t) h = known-opened (suc i) t h
    known-opened i (arrow a b) h = let p = and_parts (has_variables es a) (has_variables es b) h in and_from (has_variables es (opened_at i by a)) (has_variables es (opened_at i by b)) (known-opened i a p.0) (known-opened i b p.1)
    known-opened i unit h = refl
    known-opened i (tuple ts) h = all_known-opened i ts h
    known-opened i (applied x ts) h = all_known-opened i ts h

    all_known-opened : (i : ℕ) (ts : Opens) → has_variables_of es ts ≡ true → has_variables_of es (opened_all_at i by ts) ≡ true
    all_known-opened i none h = refl
    all_known-opened i (more t ts) h = let p = and_parts (has_variables es t) (has_variables_of es ts) h in and_from (has_variables es (opened_at i by t)) (has_variables_of es (opened_all_at i by ts)) (known-opened i t p.0) (all_known-opened i ts p.1)

-- what an opened type mentions
module _ (y : ℕ) (by : Open) where
  either : (a b c d : Bool) → (a ≡ true → (c ≡ true) ⊎ (mentions y by ≡ true)) → (b ≡ true → (d ≡ true) ⊎ (mentions y by ≡ true)) → (a || b) ≡ true → ((c || d) ≡ true) ⊎ (mentions y by ≡ true)
  either a b c d f g m = elim (or_cases a b m) [
    | inl p ↦ elim (f p) [ inl q ↦ inl (or_left c d q) | inr q ↦ inr q ]
    | inr p ↦ elim (g p) [ inl q ↦ inl (or_right c d q) | inr q ↦ inr q ]
  ]

  mutual
    pub mentioned-opened : (i : ℕ) (t : Open) → mentions y (opened_at i by t) ≡ true → (mentions y t ≡ true) ⊎ (mentions y by ≡ true)
    mentioned-opened i (bound j) m = go (eqb j i) m
      where
        go : (b : Bool) → mentions y (cond b by (bound j)) ≡ true → (false ≡ true) ⊎ (mentions y by ≡ true)
        go true n = inr n
        go false n = absurd cc
    mentioned-opened i (rigid z) m = absurd cc
    mentioned-opened i (existential z) m = inl m
    mentioned-opened i (quantified t) m = mentioned-opened (suc i) t m
    mentioned-opened i (arrow a b) m = either (mentions y (opened_at i by a)) (mentions y (opened_at i by b)) (mentions y a) (mentions y b) (mentioned-opened i a) (mentioned-opened i b) m
    mentioned-opened i unit m = absurd cc
    mentioned-opened i (tuple ts) m = some_mentioned-opened i ts m
    mentioned-opened i (applied x ts) m = some_mentioned-opened i ts m

    some_mentioned-opened : (i : ℕ) (ts : Opens) → some_mentions y (opened_all_at i by ts) ≡ true → (some_mentions y ts ≡ true) ⊎ (mentions y by ≡ true)
    some_mentioned-opened i none m = absurd cc
    some_mentioned-opened i (more t ts) m = either (mentions y (opened_at i by t)) (some_mentions y (opened_all_at i by ts)) (mentions y t) (some_mentions y ts) (mentioned-opened i t) (some_mentioned-opened i ts) m

pub unmentioned-opened : (y : ℕ) (by : Open) (t : Open) → mentions y by ≡ false → mentions y t ≡ false → mentions y (opened_at 0 by t) ≡ false
unmentioned-opened y by t n m = false_from_ne_true (mentions y (opened_at 0 by t)) (λ h. elim (mentioned-opened y by 0 t h) [ inl p ↦ false≢true (sym m ∙ p) | inr p ↦ false≢true (sym n ∙ p) ])
