-- Tests of entries.
use Rattle.std.proofs.Common.{◌≡◌, ℕ, Bool, true, [], ◌∷◌, inl, inr}
use Rattle.std.specs.List.{list_any}
use Rattle.std.proofs.lemmas.Bool.{or_left, or_right, or_cases, eq-eqb}
use Rattle.uc_context.specs.declared.entry.Entry.{Entry}
use Rattle.uc_context.specs.declared.entry.Entry.TheVariants.{Rigid, Exists, Solved, Mark, Binder}
use Rattle.uc_context.specs.Entries.{ContextEntries, number_of, is_numbered, is_rigid, is_unsolved, is_variable, declares}
use Rattle.uc_context.proofs.Looked.{rigid_tests}
use Rattle.uc_context.proofs.Noting.{variable_by_number}

-- what passes one test passes another
module _ (first second : Entry → Bool) (weaker : (e : Entry) → first e ≡ true → second e ≡ true) where
  any_weaker : (es : ContextEntries) → list_any first es ≡ true → list_any second es ≡ true
  any_weaker [] h = absurd cc
  any_weaker (e ∷ es) h = elim (or_cases (first e) (list_any first es) h) [
    | inl p ↦ or_left (second e) (list_any second es) (weaker e p)
    | inr p ↦ or_right (second e) (list_any second es) (any_weaker es p)
  ]

unsolved_declares : (x : ℕ) (e : Entry) → is_unsolved x e ≡ true → declares x e ≡ true
unsolved_declares x (Rigid y) p = absurd cc
unsolved_declares x (Exists y) p = p
unsolved_declares x (Solved y t) p = absurd cc
unsolved_declares x (Mark y) p = absurd cc
unsolved_declares x (Binder y t) p = absurd cc

pub unsolved_declared : (x : ℕ) (es : ContextEntries) → list_any (is_unsolved x) es ≡ true → list_any (declares x) es ≡ true
unsolved_declared x es h = any_weaker (is_unsolved x) (declares x) (unsolved_declares x) es h

pub rigid_variable : (x : ℕ) (es : ContextEntries) → list_any (is_rigid x) es ≡ true → list_any (is_variable x) es ≡ true
rigid_variable x es h = any_weaker (is_rigid x) (is_variable x) (rigid_tests x) es h

pub variable_numbered : (x : ℕ) (es : ContextEntries) → list_any (is_variable x) es ≡ true → list_any (is_numbered x) es ≡ true
variable_numbered x es h = any_weaker (is_variable x) (is_numbered x) (λ e p. eq-eqb (number_of e) x (variable_by_number x e p)) es h
