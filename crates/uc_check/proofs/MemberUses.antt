-- A formed term uses only variables that are in scope.
use Rattle.std.proofs.Common.{◌≡◌, ℕ, suc, ◌+◌, ◌<◌, true, ◌||◌, arith, inl, inr}
use Rattle.std.proofs.lemmas.Bool.{or_cases, eqb-true, false≢true}
use Rattle.uc_kinds.specs.PatternTyping.{Known}
use Rattle.uc_kinds.specs.Typing.{binders_in, uses, some_uses, some_case_uses}
use Rattle.uc_tree.specs.Terms.{Term, Terms, Cases}
use Rattle.uc_tree.specs.Terms as terms
use Rattle.uc_sound_typing.specs.Formed.{signature_front, IsFormed, AreFormed, AreFormedCases}

module _ (known : Known) where
  mutual
    pub uses_below : (m k : ℕ) (e : Term) → IsFormed known m k e → (i : ℕ) → uses i e ≡ true → i < m
    uses_below m k (terms.variable n) h i u = let same = eqb-true n i u in omega (arith, same, h)
    uses_below m k (terms.literal l) h i u = absurd (false≢true u)
    uses_below m k terms.unit h i u = absurd (false≢true u)
    uses_below m k (terms.link x) h i u = absurd (false≢true u)
    uses_below m k (terms.lambda e) h i u = omega (arith, uses_below (suc m) k e h (i + 1) u)
    uses_below m k (terms.apply f e) h i u = elim (or_cases (uses i f) (uses i e) u) [
      | inl p ↦ uses_below m k f h.0 i p
      | inr p ↦ uses_below m k e h.1 i p
    ]
    uses_below m k (terms.annotated e ty) h i u = uses_below m k e h.0 i u
    uses_below m k (terms.tuple es) h i u = some_uses_below m k es h i u
    uses_below m k (terms.list es) h i u = some_uses_below m k es h i u
    uses_below m k (terms.conditional a b c) h i u = elim (or_cases (uses i a) (uses i b || uses i c) u) [
      | inl p ↦ uses_below m k a h.0 i p
      | inr p ↦ elim (or_cases (uses i b) (uses i c) p) [
        | inl q ↦ uses_below m k b h.1 i q
        | inr q ↦ uses_below m k c h.2 i q
      ]
    ]
    uses_below m k (terms.and a b) h i u = elim (or_cases (uses i a) (uses i b) u) [
      | inl p ↦ uses_below m k a h.0 i p
      | inr p ↦ uses_below m k b h.1 i p
    ]
    uses_below m k (terms.or a b) h i u = elim (or_cases (uses i a) (uses i b) u) [
      | inl p ↦ uses_below m k a h.0 i p
      | inr p ↦ uses_below m k b h.1 i p
    ]
    uses_below m k (terms.binding s a b) h i u = elim (or_cases (uses (i + 1) a) (uses (i + 1) b) u) [
      | inl p ↦ omega (arith, uses_below (suc m) (signature_front s + k) a h.1 (i + 1) p)
      | inr p ↦ omega (arith, uses_below (suc m) k b h.2 (i + 1) p)
    ]
    uses_below m k (terms.match e cs) h i u = elim (or_cases (uses i e) (some_case_uses i cs) u) [
      | inl p ↦ uses_below m k e h.0 i p
      | inr p ↦ some_case_uses_below m k cs h.1 i p
    ]

    some_uses_below : (m k : ℕ) (es : Terms) → AreFormed known m k es → (i : ℕ) → some_uses i es ≡ true → i < m
    some_uses_below m k terms.none h i u = absurd (false≢true u)
    some_uses_below m k (terms.more e es) h i u = elim (or_cases (uses i e) (some_uses i es) u) [
      | inl p ↦ uses_below m k e h.0 i p
      | inr p ↦ some_uses_below m k es h.1 i p
    ]

    some_case_uses_below : (m k : ℕ) (cs : Cases) → AreFormedCases known m k cs → (i : ℕ) → some_case_uses i cs ≡ true → i < m
    some_case_uses_below m k terms.no_case h i u = absurd (false≢true u)
    some_case_uses_below m k (terms.case p b cs) h i u = elim (or_cases (uses (i + binders_in p) b) (some_case_uses i cs) u) [
      | inl q ↦ omega (arith, uses_below (binders_in p + m) k b h.1 (i + binders_in p) q)
      | inr q ↦ some_case_uses_below m k cs h.2 i q
    ]
    some_case_uses_below m k (terms.guarded p g b cs) h i u = elim (or_cases (uses (i + binders_in p) g) (uses (i + binders_in p) b || some_case_uses i cs) u) [
      | inl q ↦ omega (arith, uses_below (binders_in p + m) k g h.1 (i + binders_in p) q)
      | inr q ↦ elim (or_cases (uses (i + binders_in p) b) (some_case_uses i cs) q) [
        | inl r ↦ omega (arith, uses_below (binders_in p + m) k b h.2 (i + binders_in p) r)
        | inr r ↦ some_case_uses_below m k cs h.3 i r
      ]
    ]
