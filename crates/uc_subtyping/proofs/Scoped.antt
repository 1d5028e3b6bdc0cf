-- What stands before an existential.
use Rattle.std.proofs.Common.{◌≡◌, ℕ, Bool, true, false, cond, eqb, ◌||◌, [], ◌∷◌, ◌++◌, refl, sym, ap, subst, ◌∙◌, ◌⊎◌, inl, inr}
use Rattle.std.specs.List.{list_any}
use Rattle.std.proofs.lemmas.Bool.{or_left, or_right, or_parts, or_cases, eqb-true, eq-eqb, false≢true, false_from_ne_true}
use Rattle.std.proofs.lemmas.List.Folds.{list_any-append}
use Rattle.uc_context.specs.declared.entry.Entry.{Entry}
use Rattle.uc_context.specs.declared.entry.Entry.TheVariants.{Exists, Solved}
use Rattle.uc_context.specs.Opens.{Open, existential}
use Rattle.uc_context.specs.Contexts.{AreInOrder, IsContext, type_under}
use Rattle.uc_context.specs.Entries.{ContextEntries, is_rigid, is_variable, declares, before}
use Rattle.uc_context.specs.Variables.{has_variables}
use Rattle.uc_context.proofs.Looked.{existential_tests}
use Rattle.uc_context.proofs.Orders.{later_apart}
use Rattle.uc_context.proofs.Solutions.{declared_variable}
use Rattle.uc_subtyping.proofs.Extending.{ExtendsByMonotypes, extends_nothing, extends_same, extends_solved, extends_by_unsolved, extends_by_solved, extends-passes}
use Rattle.uc_subtyping.proofs.Settled.{known-more}

-- an existential behind what stands before it
abbrev pub up_to : ℕ → ContextEntries → ContextEntries
up_to y es = before y es ++ Exists y ∷ []

-- a context has what stands before a variable
before_among : (test : Entry → Bool) (y : ℕ) (es : ContextEntries) → list_any test (before y es) ≡ true → list_any test es ≡ true
before_among test y [] h = h
before_among test y (e ∷ es) h = go (is_variable y e) h (before_among test y es)
  where
    go : (b : Bool) → list_any test (cond b [] (e ∷ before y es)) ≡ true → (list_any test (before y es) ≡ true → list_any test es ≡ true) → (test e || list_any test es) ≡ true
    go true k rest = absurd cc
    go false k rest = elim (or_cases (test e) (list_any test (before y es)) k) [ inl p ↦ or_left (test e) (list_any test es) p | inr p ↦ or_right (test e) (list_any test es) (rest p) ]

-- what stands up to an existential that is declared is in the context
up_to_among : (test : Entry → Bool) (y : ℕ) (es : ContextEntries) → (test (Exists y) ≡ true → list_any test es ≡ true) → list_any test (up_to y es) ≡ true → list_any test es ≡ true
up_to_among test y es self h =
    elim (or_cases (list_any test (before y es)) (test (Exists y) || false) (sym (list_any-append test (before y es) (Exists y ∷ [])) ∙ h)) [
      | inl p ↦ before_among test y es p
      | inr p ↦ elim (or_cases (test (Exists y)) false p) [ inl q ↦ self q | inr q ↦ absurd (false≢true q) ]
    ]

pub known_among : (y : ℕ) (es : ContextEntries) → list_any (declares y) es ≡ true → (t : Open) → has_variables (up_to y es) t ≡ true → has_variables es t ≡ true
known_among y es d t k =
    known-more (up_to y es) es (λ z h. up_to_among (is_rigid z) y es (λ p. absurd (false≢true p)) h)
    (λ z h. up_to_among (declares z) y es (λ p. ap (λ (n : ℕ). list_any (declares n) es) (sym (eqb-true y z p)) ∙ d) h) t k

-- what stands before an existential stands before each variable that it stands before
before_before : (test : Entry → Bool) (z y : ℕ) (es : ContextEntries) → list_any (declares z) (before y es) ≡ true → list_any test (before z es) ≡ true → list_any test (before y es) ≡ true
before_before test z y [] d h = h
before_before test z y (e ∷ es) d h = go (is_variable y e) (is_variable z e) refl d h (before_before test z y es)
  where
    go : (a b : Bool) → is_variable z e ≡ b → list_any (declares z) (cond a [] (e ∷ before y es)) ≡ true → list_any test (cond b [] (e ∷ before z es)) ≡ true
        → (list_any (declares z) (before y es) ≡ true → list_any test (before z es) ≡ true → list_any test (before y es) ≡ true) → list_any test (cond a [] (e ∷ before y es)) ≡ true
    go true b is k l rest = absurd cc
    go false true is k l rest = absurd cc
    go false false is k l rest = elim (or_cases (test e) (list_any test (before z es)) l) [
      | inl p ↦ or_left (test e) (list_any test (before y es)) p
      | inr p ↦ elim (or_cases (declares z e) (list_any (declares z) (before y es)) k) [
        | inl q ↦ absurd (false≢true (sym is ∙ existential_tests z e q))
        | inr q ↦ or_right (test e) (list_any test (before y es)) (rest q p)
      ]
    ]

-- a new entry is another one than a variable that was there
new_before : (y : ℕ) (front : ContextEntries) (e : Entry) (ds : ContextEntries) → AreInOrder front (e ∷ ds) → list_any (is_variable y) ds ≡ true → is_variable y e ≡ false
new_before y front e ds order v =
    false_from_ne_true (is_variable y e) (λ p. false≢true (sym (later_apart y (front ++ e ∷ []) ds order.1
    (list_any-append (is_variable y) front (e ∷ []) ∙ or_right (list_any (is_variable y) front) (list_any (is_variable y) (e ∷ [])) (or_left (is_variable y e) false p))) ∙ v))

-- what stands before a variable goes on as well
extends-before : (y : ℕ) (front fs gs : ContextEntries) → ExtendsByMonotypes fs gs → AreInOrder front gs → list_any (is_variable y) fs ≡ true → ExtendsByMonotypes (before y fs) (before y gs)
extends-before y front fs gs extends_nothing order v = extends_nothing
extends-before y front fs gs (extends_same {e = e} {es = es} {fs = ds} d) order v = go (is_variable y e) v (extends-before y (front ++ e ∷ []) es ds d order.1)
  where
    go : (b : Bool) → (b || list_any (is_variable y) es) ≡ true → (list_any (is_variable y) es ≡ true → ExtendsByMonotypes (before y es) (before y ds)) → ExtendsByMonotypes (cond b [] (e ∷ before y es)) (cond b [] (e ∷ before y ds))
    go true w rest = extends_nothing
    go false w rest = extends_same (rest w)
extends-before y front fs gs (extends_solved {x = x} {t = t} {es = es} {fs = ds} m d) order v = go (eqb x y) v (extends-before y (front ++ Solved x t ∷ []) es ds d order.1)
  where
    go : (b : Bool) → (b || list_any (is_variable y) es) ≡ true → (list_any (is_variable y) es ≡ true → ExtendsByMonotypes (before y es) (before y ds)) → ExtendsByMonotypes (cond b [] (Exists x ∷ before y es)) (cond b [] (Solved x t ∷ before y ds))
    go true w rest = extends_nothing
    go false w rest = extends_solved m (rest w)
extends-before y front fs gs (extends_by_unsolved {n = n} {es = es} {fs = ds} d) order v =
    rw (new_before y front (Exists n) ds order (extends-passes (is_variable y) (λ x t p. p) d v)) (extends_by_unsolved (extends-before y (front ++ Exists n ∷ []) es ds d order.1 v))
extends-before y front fs gs (extends_by_solved {n = n} {t = t} {es = es} {fs = ds} m d) order v =
    rw (new_before y front (Solved n t) ds order (extends-passes (is_variable y) (λ x s p. p) d v)) (extends_by_solved m (extends-before y (front ++ Solved n t ∷ []) es ds d order.1 v))

module _ (y : ℕ) (fs gs : ContextEntries) (d : ExtendsByMonotypes fs gs) (order : IsContext gs) (v : list_any (is_variable y) fs ≡ true) where
  goes_on : ExtendsByMonotypes (before y fs) (before y gs)
  goes_on = extends-before y [] fs gs d order v

  -- each variable that stands before an existential does so later
  pub rigid_up_to : (r : ℕ) → list_any (is_rigid r) (up_to y fs) ≡ true → list_any (is_rigid r) (up_to y gs) ≡ true
  rigid_up_to r h =
      list_any-append (is_rigid r) (before y gs) (Exists y ∷ [])
      ∙ elim (or_cases (list_any (is_rigid r) (before y fs)) false (sym (list_any-append (is_rigid r) (before y fs) (Exists y ∷ [])) ∙ h)) [
        | inl p ↦ or_left (list_any (is_rigid r) (before y gs)) false (extends-passes (is_rigid r) (λ x t q. q) goes_on p)
        | inr p ↦ absurd (false≢true p)
      ]

  declared_up_to : (z : ℕ) → list_any (declares z) (before y fs) ≡ true → (test : Entry → Bool) → (test (Exists z) ≡ true → list_any test (before y gs) ≡ true) → list_any test (up_to z gs) ≡ true → list_any test (up_to y gs) ≡ true
  declared_up_to z h test self k =
      list_any-append test (before y gs) (Exists y ∷ [])
      ∙ or_left (list_any test (before y gs)) (list_any test (Exists y ∷ []))
      (elim (or_cases (list_any test (before z gs)) (test (Exists z) || false) (sym (list_any-append test (before z gs) (Exists z ∷ [])) ∙ k)) [
        | inl p ↦ before_before test z y gs (extends-passes (declares z) (λ x t q. q) goes_on h) p
        | inr p ↦ elim (or_cases (test (Exists z)) false p) [ inl q ↦ self q | inr q ↦ absurd (false≢true q) ]
      ])

  -- what an existential stands for that stands up to another, once more is solved
  pub known_earlier : (z : ℕ) → list_any (declares z) (up_to y fs) ≡ true → (t : Open) → has_variables (up_to z gs) t ≡ true → has_variables (up_to y gs) t ≡ true
  known_earlier z h t k =
      elim (or_cases (list_any (declares z) (before y fs)) (eqb y z || false) (sym (list_any-append (declares z) (before y fs) (Exists y ∷ [])) ∙ h)) [
        | inl p ↦ known-more (up_to z gs) (up_to y gs) (λ r l. declared_up_to z p (is_rigid r) (λ q. absurd (false≢true q)) l)
            (λ w l. declared_up_to z p (declares w) (λ q. ap (λ (n : ℕ). list_any (declares n) (before y gs)) (sym (eqb-true z w q)) ∙ extends-passes (declares z) (λ x s q'. q') goes_on p) l) t k
        | inr p ↦ elim (or_cases (eqb y z) false p) [ inl q ↦ subst (λ (n : ℕ). has_variables (up_to n gs) t ≡ true) (sym (eqb-true y z q)) k | inr q ↦ absurd (false≢true q) ]
      ]

-- a variable that stands in front
pub before_front : (y : ℕ) (front ds : ContextEntries) → list_any (is_variable y) front ≡ true → before y (front ++ ds) ≡ before y front
before_front y [] ds v = absurd cc
before_front y (e ∷ front) ds v = go (is_variable y e) v (before_front y front ds)
  where
    go : (b : Bool) → (b || list_any (is_variable y) front) ≡ true → (list_any (is_variable y) front ≡ true → before y (front ++ ds) ≡ before y front) → cond b [] (e ∷ before y (front ++ ds)) ≡ cond b [] (e ∷ before y front)
    go true w rest = refl
    go false w rest = ap (λ (cs : ContextEntries). e ∷ cs) (rest w)

-- an existential stands up to itself
pub self_up_to : (y : ℕ) (es : ContextEntries) → has_variables (up_to y es) (existential y) ≡ true
self_up_to y es = list_any-append (declares y) (before y es) (Exists y ∷ []) ∙ or_right (list_any (declares y) (before y es)) (list_any (declares y) (Exists y ∷ [])) (or_left (eqb y y) false (eq-eqb y y refl))

-- what has its variables before an existential
pub known_up_to : (y : ℕ) (es : ContextEntries) (t : Open) → has_variables (before y es) t ≡ true → has_variables (up_to y es) t ≡ true
known_up_to y es t k =
    known-more (before y es) (up_to y es) (λ r h. list_any-append (is_rigid r) (before y es) (Exists y ∷ []) ∙ or_left (list_any (is_rigid r) (before y es)) (list_any (is_rigid r) (Exists y ∷ [])) h)
    (λ z h. list_any-append (declares z) (before y es) (Exists y ∷ []) ∙ or_left (list_any (declares z) (before y es)) (list_any (declares z) (Exists y ∷ [])) h) t k
