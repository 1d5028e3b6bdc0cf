-- Contexts in which an existential is solved.
use Rattle.std.proofs.Common.{◌≡◌, ℕ, suc, ◌<◌, Bool, true, false, cond, [], ◌∷◌, ◌++◌, length, get_or, take, drop, set, None, arith, refl, sym, ap, subst, ◌∙◌}
use Rattle.std.specs.List.{list_any}
use Rattle.std.specs.Prelude.{count_by}
use Rattle.std.proofs.lemmas.Bool.{or_parts, false≢true, eqb-true, eq-eqb}
use Rattle.std.proofs.lemmas.List.{set_split}
use Rattle.std.proofs.lemmas.List.Sums.{sum_by-append, sum_by-cons}
use Rattle.uc_context.specs.declared.entry.Entry.{Entry}
use Rattle.uc_context.specs.declared.entry.Entry.TheVariants.{Rigid, Exists, Solved, Mark, Binder}
use Rattle.uc_context.specs.declared.index.Index.{Index}
use Rattle.uc_context.specs.Opens.{Open}
use Rattle.uc_context.specs.Contexts.{AreInOrder, IsContext}
use Rattle.uc_context.specs.Entries.{ContextEntries, is_numbered, is_unsolved, declares, is_variable, is_binder, before}
use Rattle.uc_context.specs.Index.{last_place}
use Rattle.uc_context.specs.Indexes.{Indexes}
use Rattle.uc_context.specs.Kept.{IsKept}
use Rattle.uc_context.specs.Looking.{HasAt}
use Rattle.uc_context.specs.Solving.{exchanged, solved}
use Rattle.uc_context.specs.Variables.{declares_all}
use Rattle.uc_context.proofs.LastPlaces.{last_place-within}
use Rattle.uc_context.proofs.Looked.{unsolved_tests, looked_at, looked_nowhere, before_standing}
use Rattle.uc_context.proofs.Orders.{AreInOrder-front, AreInOrder-behind, AreInOrder-append, AreInOrder-with}
use Rattle.uc_context.proofs.Standing.{Stands, stands_at, fails_without}

-- an unsolved existential where a variable stands
unsolved_entry : (x : ℕ) (e : Entry) → is_unsolved x e ≡ true → e ≡ Exists x
unsolved_entry x (Rigid y) p = absurd cc
unsolved_entry x (Exists y) p = ap Exists (eqb-true y x p)
unsolved_entry x (Solved y t) p = absurd cc
unsolved_entry x (Mark y) p = absurd cc
unsolved_entry x (Binder y t) p = absurd cc

module _ (x : ℕ) (es : ContextEntries) (order : IsContext es) (unsolved : list_any (is_unsolved x) es ≡ true) where
  pub unsolved_at : (k : ℕ) (e : Entry) → HasAt (is_variable x) es k e → HasAt (is_variable x) es k (Exists x)
  unsolved_at k e h =
      let is : e ≡ Exists x = unsolved_entry x e (looked_at x (is_unsolved x) (unsolved_tests x) es order k e h ∙ unsolved) in
      subst (HasAt (is_variable x) es k) is h

  pub unsolved_somewhere : last_place (is_variable x) es ≡ None → ⊥
  unsolved_somewhere none = false≢true (looked_nowhere x (is_unsolved x) (unsolved_tests x) es order none ∙ unsolved)

-- other entries in place of an existential
exchanged_behind : (x : ℕ) (new left right : ContextEntries) → list_any (is_unsolved x) left ≡ false → exchanged x new (left ++ Exists x ∷ right) ≡ left ++ (new ++ right)
exchanged_behind x new [] right none = rw (eq-eqb x x refl) refl
exchanged_behind x new (e ∷ left) right none =
    let p = or_parts (is_unsolved x e) (list_any (is_unsolved x) left) none in rw p.0 (ap (λ (cs : ContextEntries). e ∷ cs) (exchanged_behind x new left right p.1))

pub exchanged_at : (x : ℕ) (new es left right : ContextEntries) → Stands x es left (Exists x) right → exchanged x new es ≡ left ++ (new ++ right)
exchanged_at x new es left right s = ap (exchanged x new) s.whole ∙ exchanged_behind x new left right (fails_without x (is_unsolved x) (unsolved_tests x) left s.none_left)

-- an entry in place of another that passes the same test
module _ (test : Entry → Bool) (d e : Entry) (same : test d ≡ test e) where
  pub list_any-swapped : (left right : ContextEntries) → list_any test (left ++ d ∷ right) ≡ list_any test (left ++ e ∷ right)
  list_any-swapped [] right = rw same refl
  list_any-swapped (c ∷ left) right = rw (list_any-swapped left right) refl

  pub last_place-swapped : (left right : ContextEntries) → last_place test (left ++ d ∷ right) ≡ last_place test (left ++ e ∷ right)
  last_place-swapped [] right = rw same refl
  last_place-swapped (c ∷ left) right = rw (last_place-swapped left right) refl

  pub count_by-swapped : (left right : ContextEntries) → count_by test (left ++ d ∷ right) ≡ count_by test (left ++ e ∷ right)
  count_by-swapped left right =
      omega (arith, sum_by-append (λ (c : Entry). cond (test c) 1 0) left (d ∷ right), sum_by-append (λ (c : Entry). cond (test c) 1 0) left (e ∷ right), sum_by-cons (λ (c : Entry). cond (test c) 1 0) d right, sum_by-cons (λ (c : Entry). cond (test c) 1 0) e right, ap (λ (b : Bool). cond {A = ℕ} b 1 0) same)

-- an index tells of a solved existential as of the unsolved one
pub indexes_solved : (i : Index) (x : ℕ) (t : Open) (left right : ContextEntries) → Indexes i (left ++ Exists x ∷ right) → Indexes i (left ++ Solved x t ∷ right)
indexes_solved i x t left right h = record {
  uses = λ y. h.uses y ∙ count_by-swapped (is_numbered y) (Exists x) (Solved x t) refl left right;
  variables = λ y. h.variables y ∙ last_place-swapped (is_variable y) (Exists x) (Solved x t) refl left right;
  binders = λ y. h.binders y ∙ last_place-swapped (is_binder y) (Exists x) (Solved x t) refl left right;
  room_for_variables = h.room_for_variables;
  room_for_binders = h.room_for_binders;
}

-- a context stays one where an existential is solved by what stands before it
pub order_solved : (x : ℕ) (t : Open) (front right : ContextEntries) → declares_all front t ≡ true → AreInOrder front (Exists x ∷ right) → AreInOrder front (Solved x t ∷ right)
order_solved x t front right declared h = (
  (h.0, declared),
  AreInOrder-with (front ++ Exists x ∷ []) (front ++ Solved x t ∷ []) right
      (λ y used apart. sym (list_any-swapped (is_variable y) (Exists x) (Solved x t) refl front []) ∙ apart)
      (λ y d. sym (list_any-swapped (declares y) (Exists x) (Solved x t) refl front []) ∙ d) h.1,
)

-- a context in which a variable stands as an unsolved existential
module _ (x k : ℕ) (es seen : ContextEntries) (view : es ≡ seen) (order : IsContext es) (h : HasAt (is_variable x) seen k (Exists x)) where
  pub unsolved_within : k < length es
  unsolved_within = omega (arith, last_place-within (is_variable x) seen k h.found, ap length view)

  pub unsolved_stands : Stands x es (take k es) (Exists x) (drop (suc k) es)
  unsolved_stands = stands_at x es k (Exists x) order (ap (last_place (is_variable x)) view ∙ h.found) (h.entry ∙ ap (λ (cs : ContextEntries). get_or cs k (Exists x)) (sym view))

  pub order_at : AreInOrder (take k es) (Exists x ∷ drop (suc k) es)
  order_at = AreInOrder-behind [] (take k es) (Exists x ∷ drop (suc k) es) (subst IsContext unsolved_stands.whole order)

  module _ (t : Open) (items : ContextEntries) (written : items ≡ set es k (Solved x t)) where
    as_split : items ≡ take k es ++ Solved x t ∷ drop (suc k) es
    as_split = written ∙ set_split es k (Solved x t) unsolved_within

    pub solve_gives : items ≡ solved seen x t
    solve_gives = as_split ∙ sym (exchanged_at x (Solved x t ∷ []) es (take k es) (drop (suc k) es) unsolved_stands) ∙ ap (λ (cs : ContextEntries). solved cs x t) view

    pub solve_keeps : (i : Index) → Indexes i es → declares_all (before x seen) t ≡ true → IsKept items i
    solve_keeps i indexed declared =
        let front : before x seen ≡ take k es = ap (before x) (sym view) ∙ before_standing x es (take k es) (Exists x) (drop (suc k) es) unsolved_stands in
        subst (λ (cs : ContextEntries). IsKept cs i) (sym as_split) (record {
          in_order = AreInOrder-append [] (take k es) (Solved x t ∷ drop (suc k) es) (AreInOrder-front [] (take k es) (Exists x ∷ drop (suc k) es) (subst IsContext unsolved_stands.whole order))
              (order_solved x t (take k es) (drop (suc k) es) (ap (λ (cs : ContextEntries). declares_all cs t) (sym front) ∙ declared) order_at);
          indexed = indexes_solved i x t (take k es) (drop (suc k) es) (subst (Indexes i) unsolved_stands.whole indexed);
        })
