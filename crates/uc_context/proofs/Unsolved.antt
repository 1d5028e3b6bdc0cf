-- Types with the solutions put in have no solved existentials.
use Rattle.std.proofs.Common.{◌≡◌, ℕ, Bool, true, false, eqb, ◌||◌, ◌⊎◌, cond, [], ◌∷◌, ◌++◌, Option, Some, None, refl, sym, ap, ◌∙◌, inl, inr}
use Rattle.std.proofs.lemmas.Bool.{or_left, or_right, or_cases, eqb-true, eq-eqb, false_from_ne_true, false≢true}
use Rattle.uc_context.specs.declared.entry.Entry.TheVariants.{Rigid, Exists, Solved, Mark, Binder}
use Rattle.uc_context.specs.Opens.{Open, bound, rigid, existential, quantified, arrow, unit, tuple, applied, Opens, none, more}
use Rattle.uc_context.specs.Contexts.{AreInOrder, IsContext, type_under, solution_of}
use Rattle.uc_context.specs.Entries.{ContextEntries}
use Rattle.uc_context.specs.Variables.{replaced, replaced_all, mentions, some_mentions}
use Rattle.uc_context.proofs.Looked.{solution_without}
use Rattle.uc_context.proofs.Orders.{later_apart}
use Rattle.uc_context.proofs.Replacing.{mentioned-declared}
use Rattle.uc_context.proofs.Solutions.{declared_variable}

-- what a type mentions in which an existential is replaced: what comes in its place mentions it, or the type does and it is another
abbrev MentionedIn : ℕ → ℕ → Open → Bool → Type 0
MentionedIn y x s mentioned = (mentions y s ≡ true) ⊎ ((mentioned ≡ true) × (eqb x y ≡ false))

either_mentioned : (y x : ℕ) (s : Open) (a b c d : Bool) → (a ≡ true → MentionedIn y x s c) → (b ≡ true → MentionedIn y x s d) → (a || b) ≡ true → MentionedIn y x s (c || d)
either_mentioned y x s a b c d left right m =
    elim (or_cases a b m) [
      | inl p ↦ elim (left p) [ inl q ↦ inl q | inr q ↦ inr (or_left c d q.0, q.1) ]
      | inr p ↦ elim (right p) [ inl q ↦ inl q | inr q ↦ inr (or_right c d q.0, q.1) ]
    ]

mutual
  mentioned-replaced : (y x : ℕ) (s t : Open) → mentions y (replaced x s t) ≡ true → MentionedIn y x s (mentions y t)
  mentioned-replaced y x s (bound i) m = absurd cc
  mentioned-replaced y x s (rigid z) m = absurd cc
  mentioned-replaced y x s (existential z) m = go (eqb z x) refl m
    where
      other : eqb z x ≡ false → eqb z y ≡ true → eqb x y ≡ false
      other is same = false_from_ne_true (eqb x y) (λ e. false≢true (sym is ∙ eq-eqb z x (eqb-true z y same ∙ sym (eqb-true x y e))))

      go : (b : Bool) → eqb z x ≡ b → mentions y (cond b s (existential z)) ≡ true → MentionedIn y x s (eqb z y)
      go true is n = inl n
      go false is n = inr (n, other is n)
  mentioned-replaced y x s (quantified t) m = mentioned-replaced y x s t m
  mentioned-replaced y x s (arrow a b) m =
      either_mentioned y x s (mentions y (replaced x s a)) (mentions y (replaced x s b)) (mentions y a) (mentions y b) (mentioned-replaced y x s a) (mentioned-replaced y x s b) m
  mentioned-replaced y x s unit m = absurd cc
  mentioned-replaced y x s (tuple ts) m = some_mentioned-replaced y x s ts m
  mentioned-replaced y x s (applied h ts) m = some_mentioned-replaced y x s ts m

  some_mentioned-replaced : (y x : ℕ) (s : Open) (ts : Opens) → some_mentions y (replaced_all x s ts) ≡ true → MentionedIn y x s (some_mentions y ts)
  some_mentioned-replaced y x s none m = absurd cc
  some_mentioned-replaced y x s (more t ts) m =
      either_mentioned y x s (mentions y (replaced x s t)) (some_mentions y (replaced_all x s ts)) (mentions y t) (some_mentions y ts) (mentioned-replaced y x s t) (some_mentioned-replaced y x s ts) m

unsolved_behind : (front es : ContextEntries) (t : Open) → AreInOrder front es → (y : ℕ) → mentions y (type_under es t) ≡ true → solution_of es y ≡ None
unsolved_behind front [] t h y m = refl
unsolved_behind front (Rigid x ∷ es) t h y m = unsolved_behind (front ++ Rigid x ∷ []) es t h.1 y m
unsolved_behind front (Exists x ∷ es) t h y m = unsolved_behind (front ++ Exists x ∷ []) es t h.1 y m
unsolved_behind front (Solved x s ∷ es) t h y m =
    elim (mentioned-replaced y x s (type_under es t) m) [
      | inl p ↦ solution_without y (Solved x s ∷ es) (later_apart y front (Solved x s ∷ es) h (declared_variable y front (mentioned-declared y front s h.0.1 p)))
      | inr p ↦ ap (λ (b : Bool). cond b (Some s) (solution_of es y)) p.1 ∙ unsolved_behind (front ++ Solved x s ∷ []) es t h.1 y p.0
    ]
unsolved_behind front (Mark x ∷ es) t h y m = unsolved_behind (front ++ Mark x ∷ []) es t h.1 y m
unsolved_behind front (Binder x s ∷ es) t h y m = unsolved_behind (front ++ Binder x s ∷ []) es t h.1 y m

-- no existential is left that is solved
pub unsolved : (es : ContextEntries) (t : Open) → IsContext es → (y : ℕ) → mentions y (type_under es t) ≡ true → solution_of es y ≡ None
unsolved es t h y m = unsolved_behind [] es t h y m
