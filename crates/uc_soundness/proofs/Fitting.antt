-- Valuations that fit contexts.
use Rattle.std.proofs.Common.{◌≡◌, ℕ, zero, suc, ◌+◌, ◌<◌, Bool, true, false, eqb, ◌||◌, ◌⊎◌, List, [], ◌∷◌, ◌++◌, map, Contains, refl, sym, ap, subst, ◌∙◌, append_assoc, append-nil, arith, inl, inr}
use Rattle.std.specs.List.{list_any}
use Rattle.std.proofs.lemmas.Bool.{or_left, or_right, eqb-true, eq-eqb, false≢true}
use Rattle.std.proofs.lemmas.List.Folds.{list_any-append}
use Rattle.uc_base.proofs.GraphOrder.{head_in, tail_in, in_cases}
use Rattle.uc_kinds.specs.WellFormed.{Arity}
use Rattle.uc_kinds.specs.Subtyping.{IsMono}
use Rattle.uc_context.specs.declared.entry.Entry.{Entry}
use Rattle.uc_context.specs.declared.entry.Entry.TheVariants.{Rigid, Exists, Solved, Mark, Binder}
use Rattle.uc_context.specs.Opens.{Open}
use Rattle.uc_context.specs.Contexts.{type_under}
use Rattle.uc_context.specs.Entries.{ContextEntries, is_rigid, is_unsolved, declares}
use Rattle.uc_context.specs.Solving.{solved_with}
use Rattle.uc_soundness.specs.Extending.{Extends, extends_none, extends_same, extends_solved, extends_new, extends_new_solved}
use Rattle.uc_soundness.specs.Valuations.{Valuation, value, rigids, all_below, scope_of, Values, Fits}
use Rattle.uc_soundness.specs.WellFormed.{IsWellFormedContext}
use Rattle.uc_soundness.proofs.Extending.{rigids-step}
use Rattle.uc_soundness.proofs.Values.{mono_more, value_replaced, Knows}
use Rattle.uc_soundness.proofs.WellFormed.{where_it_is, solved_whole}

-- what a valuation says of an entry
abbrev pub Holds : {outer : ℕ} → Arity → Valuation outer → List ℕ → Entry → Type 0
Holds arity σ xs (Rigid x) = Unit {0}
Holds arity σ xs (Exists x) = IsMono arity xs (σ.stands_for x)
Holds arity σ xs (Solved x t) = IsMono arity xs (σ.stands_for x) × (σ.stands_for x ≡ value σ t)
Holds arity σ xs (Mark x) = Unit {0}
Holds arity σ xs (Binder x t) = Unit {0}

module _ (arity : Arity) {outer : ℕ} (σ : Valuation outer) where
  pub values_parts : (xs : List ℕ) (e : Entry) (es : ContextEntries) → Values arity σ xs (e ∷ es) → Holds arity σ xs e × Values arity σ (rigids outer xs (e ∷ [])) es
  values_parts xs (Rigid x) es v = (tt, v)
  values_parts xs (Exists x) es v = v
  values_parts xs (Solved x t) es v = ((v.0, v.1), v.2)
  values_parts xs (Mark x) es v = (tt, v)
  values_parts xs (Binder x t) es v = (tt, v)

  pub values_from : (xs : List ℕ) (e : Entry) (es : ContextEntries) → Holds arity σ xs e → Values arity σ (rigids outer xs (e ∷ [])) es → Values arity σ xs (e ∷ es)
  values_from xs (Rigid x) es h v = v
  values_from xs (Exists x) es h v = (h, v)
  values_from xs (Solved x t) es h v = (h.0, h.1, v)
  values_from xs (Mark x) es h v = v
  values_from xs (Binder x t) es h v = v

  -- what comes behind, what comes first, and both again
  pub values_behind : (xs : List ℕ) (es ds : ContextEntries) → Values arity σ xs (es ++ ds) → Values arity σ (rigids outer xs es) ds
  values_behind xs [] ds v = v
  values_behind xs (e ∷ es) ds v =
      let p = values_parts xs e (es ++ ds) v in subst (λ (ys : List ℕ). Values arity σ ys ds) (sym (rigids-step outer xs e es)) (values_behind (rigids outer xs (e ∷ [])) es ds p.1)

  pub values_front : (xs : List ℕ) (es ds : ContextEntries) → Values arity σ xs (es ++ ds) → Values arity σ xs es
  values_front xs [] ds v = tt
  values_front xs (e ∷ es) ds v = let p = values_parts xs e (es ++ ds) v in values_from xs e es p.0 (values_front (rigids outer xs (e ∷ [])) es ds p.1)

  pub values_append : (xs : List ℕ) (es ds : ContextEntries) → Values arity σ xs es → Values arity σ (rigids outer xs es) ds → Values arity σ xs (es ++ ds)
  values_append xs [] ds v w = w
  values_append xs (e ∷ es) ds v w =
      let p = values_parts xs e es v in
      values_from xs e (es ++ ds) p.0 (values_append (rigids outer xs (e ∷ [])) es ds p.1 (subst (λ (ys : List ℕ). Values arity σ ys ds) (rigids-step outer xs e es) w))

  -- a valuation that fits a context fits what it extends
  pub values_before : (xs : List ℕ) {es fs : ContextEntries} → Extends es fs → Values arity σ xs fs → Values arity σ xs es
  values_before xs extends_none v = v
  values_before xs (extends_same {e} {es} {fs} d) v = let p = values_parts xs e fs v in values_from xs e es p.0 (values_before (rigids outer xs (e ∷ [])) d p.1)
  values_before xs (extends_solved d) v = (v.0, values_before xs d v.2)
  values_before xs (extends_new d) v = values_before xs d v.1
  values_before xs (extends_new_solved d) v = values_before xs d v.2

  pub fits_before : {es fs : ContextEntries} → Extends es fs → Fits arity σ fs → Fits arity σ es
  fits_before d v = values_before (all_below outer) d v

  -- solutions change nothing of what a type stands for
  values_under : (xs : List ℕ) (es : ContextEntries) (t : Open) → Values arity σ xs es → value σ (type_under es t) ≡ value σ t
  values_under xs [] t v = refl
  values_under xs (Rigid x ∷ es) t v = values_under ((outer + x) ∷ xs) es t v
  values_under xs (Exists x ∷ es) t v = values_under xs es t v.1
  values_under xs (Solved x s ∷ es) t v = value_replaced σ x s v.1 (type_under es t) ∙ values_under xs es t v.2
  values_under xs (Mark x ∷ es) t v = values_under xs es t v
  values_under xs (Binder x s ∷ es) t v = values_under xs es t v

  pub value_under : (es : ContextEntries) (t : Open) → Fits arity σ es → value σ (type_under es t) ≡ value σ t
  value_under es t v = values_under (all_below outer) es t v

-- a test that an entry more passes, or those before it
pushed_cases : (test : Entry → Bool) (es : ContextEntries) (e : Entry) → list_any test (es ++ e ∷ []) ≡ true → (list_any test es ≡ true) ⊎ (test e ≡ true)
pushed_cases test es e h = go (list_any test es) (test e) (sym (list_any-append test es (e ∷ [])) ∙ h)
  where
    go : (a b : Bool) → (a || (b || false)) ≡ true → (a ≡ true) ⊎ (b ≡ true)
    go true b is = inl refl
    go false true is = inr refl
    go false false is = absurd cc

-- what a valuation says of the entries so far
module _ (arity : Arity) {outer : ℕ} (σ : Valuation outer) where
  pub knows_none : Knows arity σ (all_below outer) []
  knows_none = record { existentials = λ x h. absurd cc; in_scope = λ x h. absurd cc }

  knows_same : (xs : List ℕ) (es : ContextEntries) (e : Entry) → ((y : ℕ) → declares y e ≡ false) → ((y : ℕ) → is_rigid y e ≡ false) → Knows arity σ xs es → Knows arity σ xs (es ++ e ∷ [])
  knows_same xs es e undeclared flexible k = record {
    existentials = λ y h. elim (pushed_cases (declares y) es e h) [ inl p ↦ k.existentials y p | inr p ↦ absurd (false≢true (sym (undeclared y) ∙ p)) ];
    in_scope = λ y h. elim (pushed_cases (is_rigid y) es e h) [ inl p ↦ k.in_scope y p | inr p ↦ absurd (false≢true (sym (flexible y) ∙ p)) ];
  }

  knows_existential : (xs : List ℕ) (es : ContextEntries) (x : ℕ) (e : Entry) → ((y : ℕ) → declares y e ≡ eqb x y) → ((y : ℕ) → is_rigid y e ≡ false) → IsMono arity xs (σ.stands_for x) → Knows arity σ xs es → Knows arity σ xs (es ++ e ∷ [])
  knows_existential xs es x e declared flexible mono k = record {
    existentials = λ y h. elim (pushed_cases (declares y) es e h) [ inl p ↦ k.existentials y p | inr p ↦ subst (λ (z : ℕ). IsMono arity xs (σ.stands_for z)) (eqb-true x y (sym (declared y) ∙ p)) mono ];
    in_scope = λ y h. elim (pushed_cases (is_rigid y) es e h) [ inl p ↦ k.in_scope y p | inr p ↦ absurd (false≢true (sym (flexible y) ∙ p)) ];
  }

  knows_rigid : (xs : List ℕ) (es : ContextEntries) (x : ℕ) → Knows arity σ xs es → Knows arity σ ((outer + x) ∷ xs) (es ++ Rigid x ∷ [])
  knows_rigid xs es x k = record {
    existentials = λ y h. elim (pushed_cases (declares y) es (Rigid x) h) [ inl p ↦ mono_more arity xs ((outer + x) ∷ xs) (λ z m. tail_in (outer + x) z xs m) (k.existentials y p) | inr p ↦ absurd cc ];
    in_scope = λ y h. elim (pushed_cases (is_rigid y) es (Rigid x) h) [ inl p ↦ tail_in (outer + x) (outer + y) xs (k.in_scope y p) | inr p ↦ subst (Contains ((outer + x) ∷ xs)) (ap (λ (z : ℕ). outer + z) (eqb-true x y p)) (head_in (outer + x) xs) ];
  }

  pub knows_push : (xs : List ℕ) (es : ContextEntries) (e : Entry) → Holds arity σ xs e → Knows arity σ xs es → Knows arity σ (rigids outer xs (e ∷ [])) (es ++ e ∷ [])
  knows_push xs es (Rigid x) h k = knows_rigid xs es x k
  knows_push xs es (Exists x) h k = knows_existential xs es x (Exists x) (λ y. refl) (λ y. refl) h k
  knows_push xs es (Solved x t) h k = knows_existential xs es x (Solved x t) (λ y. refl) (λ y. refl) h.0 k
  knows_push xs es (Mark x) h k = knows_same xs es (Mark x) (λ y. refl) (λ y. refl) k
  knows_push xs es (Binder x t) h k = knows_same xs es (Binder x t) (λ y. refl) (λ y. refl) k

  knows_more : (xs : List ℕ) (front es : ContextEntries) → Knows arity σ xs front → Values arity σ xs es → Knows arity σ (rigids outer xs es) (front ++ es)
  knows_more xs front [] k v = subst (Knows arity σ xs) (sym (append-nil front)) k
  knows_more xs front (e ∷ es) k v =
      let p = values_parts arity σ xs e es v in
      subst (λ (ys : List ℕ). Knows arity σ ys (front ++ e ∷ es)) (sym (rigids-step outer xs e es))
      (subst (Knows arity σ (rigids outer (rigids outer xs (e ∷ [])) es)) (append_assoc front (e ∷ []) es) (knows_more (rigids outer xs (e ∷ [])) (front ++ e ∷ []) es (knows_push xs front e p.0 k) p.1))

  pub knows_all : (es : ContextEntries) → Fits arity σ es → Knows arity σ (scope_of outer es) es
  knows_all es v = knows_more (all_below outer) [] es knows_none v

  -- an existential that is solved stands for its solution
  pub stands_for : (es : ContextEntries) (wf : IsWellFormedContext arity es) (x : ℕ) (h : list_any (is_unsolved x) es ≡ true) (numbers : List ℕ) (t : Open) → Fits arity σ (solved_with es x numbers t) → σ.stands_for x ≡ value σ t
  stands_for es wf x h numbers t v =
      let u = where_it_is arity x es wf h in
      let whole : Values arity σ (all_below outer) (u.left ++ (map (λ n. Exists n) numbers ++ Solved x t ∷ u.right)) = subst (Values arity σ (all_below outer)) (solved_whole arity x es wf h numbers t) v in
      let behind = values_behind arity σ (scope_of outer u.left) (map (λ n. Exists n) numbers) (Solved x t ∷ u.right) (values_behind arity σ (all_below outer) u.left (map (λ n. Exists n) numbers ++ Solved x t ∷ u.right) whole) in
      behind.1

-- a rigid variable in scope is one of the entries
scope_cases : (outer : ℕ) (xs : List ℕ) (es : ContextEntries) (x : ℕ) → Contains (rigids outer xs es) (outer + x) → Contains xs (outer + x) ⊎ (list_any (is_rigid x) es ≡ true)
scope_cases outer xs [] x m = inl m
scope_cases outer xs (Rigid y ∷ es) x m = elim (scope_cases outer ((outer + y) ∷ xs) es x m) [
  | inl p ↦ elim (in_cases (outer + y) (outer + x) xs p) [ inl q ↦ inr (or_left (eqb y x) (list_any (is_rigid x) es) (eq-eqb y x (omega arith))) | inr q ↦ inl q ]
  | inr p ↦ inr (or_right (eqb y x) (list_any (is_rigid x) es) p)
]
scope_cases outer xs (Exists y ∷ es) x m = scope_cases outer xs es x m
scope_cases outer xs (Solved y t ∷ es) x m = scope_cases outer xs es x m
scope_cases outer xs (Mark y ∷ es) x m = scope_cases outer xs es x m
scope_cases outer xs (Binder y t ∷ es) x m = scope_cases outer xs es x m

-- an outer one is below their number
below_all : (k n : ℕ) → Contains (all_below k) n → n < k
below_all zero n m = let short = m.1 in absurd (omega arith)
below_all (suc k) n m = elim (in_cases k n (all_below k) m) [
  | inl p ↦ omega arith
  | inr p ↦ let rest = below_all k n p in omega arith
]

pub none_in_scope : (outer : ℕ) (es : ContextEntries) (x : ℕ) → list_any (is_rigid x) es ≡ false → Contains (scope_of outer es) (outer + x) → ⊥
none_in_scope outer es x none m = elim (scope_cases outer (all_below outer) es x m) [
  | inl p ↦ let short = below_all outer (outer + x) p in absurd (omega arith)
  | inr p ↦ false≢true (sym none ∙ p)
]
