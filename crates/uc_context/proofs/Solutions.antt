-- Solutions in a context.
use Rattle.std.proofs.Common.{◌≡◌, ℕ, suc, ◌<◌, Bool, true, false, eqb, ◌||◌, [], ◌∷◌, ◌++◌, length, get_or, take, drop, Option, Some, None, refl, sym, ap, subst, ◌∙◌}
use Rattle.std.specs.List.{list_any}
use Rattle.std.proofs.lemmas.Bool.{or_left, or_right, false≢true, eqb-true, eq-eqb, false_from_ne_true}
use Rattle.std.proofs.lemmas.List.{get_or_default}
use Rattle.std.proofs.lemmas.List.Folds.{list_any-append}
use Rattle.std.proofs.lemmas.Option.{same_Some}
use Rattle.uc_context.specs.declared.entry.Entry.{Entry}
use Rattle.uc_context.specs.declared.entry.Entry.TheVariants.{Rigid, Exists, Solved, Mark, Binder}
use Rattle.uc_context.specs.Opens.{Open, existential}
use Rattle.uc_context.specs.Contexts.{AreInOrder, IsContext, type_under, solution_of}
use Rattle.uc_context.specs.Entries.{ContextEntries, declares, is_variable}
use Rattle.uc_context.specs.Index.{last_place}
use Rattle.uc_context.specs.Looking.{HasAt, solution_in}
use Rattle.uc_context.specs.Variables.{replaced, mentions, declares_all}
use Rattle.uc_context.proofs.LastPlaces.{last_place-within}
use Rattle.uc_context.proofs.Looked.{existential_tests, solution_looked, solution_nowhere, solution_without}
use Rattle.uc_context.proofs.Orders.{AreInOrder-behind, later_apart}
use Rattle.uc_context.proofs.Replacing.{replaced-unmentioned, mentioned-declared}
use Rattle.uc_context.proofs.Standing.{Stands, stands_at}
use Rattle.uc_context.proofs.Under.{under-append, under-unsolved, under-settled}

-- a declared existential is a variable
pub declared_variable : (x : ℕ) (es : ContextEntries) → list_any (declares x) es ≡ true → list_any (is_variable x) es ≡ true
declared_variable x [] d = d
declared_variable x (e ∷ es) d = go (declared_variable x es) (declares x e) refl d
  where
    go : (list_any (declares x) es ≡ true → list_any (is_variable x) es ≡ true) → (b : Bool) → declares x e ≡ b → (b || list_any (declares x) es) ≡ true → (is_variable x e || list_any (is_variable x) es) ≡ true
    go rest true is f = or_left (is_variable x e) (list_any (is_variable x) es) (existential_tests x e is)
    go rest false is f = or_right (is_variable x e) (list_any (is_variable x) es) (rest f)

-- a solved existential, with the entries round it
pub record SolvedIn (x : ℕ) (s : Open) (es left right : ContextEntries) : Type 0 where
  pub whole : es ≡ left ++ Solved x s ∷ right
  pub in_order : AreInOrder (left ++ Solved x s ∷ []) right
  pub none_left : list_any (is_variable x) left ≡ false
  pub none_right : list_any (is_variable x) right ≡ false
  pub declared : declares_all left s ≡ true

solved_entry : (x : ℕ) (s : Open) (e : Entry) → is_variable x e ≡ true → solution_in e ≡ Some s → e ≡ Solved x s
solved_entry x s (Rigid y) p q = absurd cc
solved_entry x s (Exists y) p q = absurd cc
solved_entry x s (Solved y t) p q = let a : y ≡ x = eqb-true y x p in let b : t ≡ s = same_Some t s q in cc
solved_entry x s (Mark y) p q = absurd cc
solved_entry x s (Binder y t) p q = absurd cc

solved_in : (x : ℕ) (s : Open) (es left : ContextEntries) (e : Entry) (right : ContextEntries) → IsContext es → Stands x es left e right → solution_in e ≡ Some s → SolvedIn x s es left right
solved_in x s es left e right order stands is =
    let entry : e ≡ Solved x s = solved_entry x s e stands.here is in
    let whole : es ≡ left ++ Solved x s ∷ right = stands.whole ∙ ap (λ (d : Entry). left ++ d ∷ right) entry in
    let rest = AreInOrder-behind [] left (Solved x s ∷ right) (subst IsContext whole order) in
    record { whole = whole; in_order = rest.1; none_left = stands.none_left; none_right = stands.none_right; declared = rest.0.1 }

pub solved_somewhere : (x : ℕ) (s : Open) (es : ContextEntries) → IsContext es → solution_of es x ≡ Some s → (k : ℕ) × (k < length es) × (last_place (is_variable x) es ≡ Some k) × SolvedIn x s es (take k es) (drop (suc k) es)
solved_somewhere x s es order is = go (last_place (is_variable x) es) refl
  where
    go : (o : Option ℕ) → last_place (is_variable x) es ≡ o → (k : ℕ) × (k < length es) × (last_place (is_variable x) es ≡ Some k) × SolvedIn x s es (take k es) (drop (suc k) es)
    go None at = absurd (let n : None ≡ solution_of es x = solution_nowhere x es at in cc)
    go (Some k) at =
        let e : Entry = get_or es k (Mark 0) in
        let within : k < length es = last_place-within (is_variable x) es k at in
        let entry : get_or es k (Mark 0) ≡ get_or es k (get_or es k (Mark 0)) = get_or_default es k (Mark 0) (get_or es k (Mark 0)) within in
        let h : HasAt (is_variable x) es k (get_or es k (Mark 0)) = record { found = at; entry = entry } in
        (k, within, at, solved_in x s es (take k es) (get_or es k (Mark 0)) (drop (suc k) es) order (stands_at x es k (get_or es k (Mark 0)) order at entry) (solution_looked x es order k (get_or es k (Mark 0)) h ∙ is))

module _ (x : ℕ) (s : Open) (es left right : ContextEntries) (h : SolvedIn x s es left right) where
  -- what a solution mentions stands before it, and is neither it nor declared behind it
  pub mentioned_left : (y : ℕ) → mentions y s ≡ true → list_any (is_variable y) left ≡ true
  mentioned_left y m = declared_variable y left (mentioned-declared y left s h.declared m)

  pub mentioned_right : (y : ℕ) → mentions y s ≡ true → list_any (is_variable y) right ≡ false
  mentioned_right y m =
      later_apart y (left ++ Solved x s ∷ []) right h.in_order
      (list_any-append (is_variable y) left (Solved x s ∷ []) ∙ or_left (list_any (is_variable y) left) (list_any (is_variable y) (Solved x s ∷ [])) (mentioned_left y m))

  pub mentioned_other : (y : ℕ) → mentions y s ≡ true → eqb x y ≡ false
  mentioned_other y m = false_from_ne_true (eqb x y) (λ same. false≢true (sym (subst (λ (z : ℕ). list_any (is_variable z) left ≡ false) (eqb-true x y same) h.none_left) ∙ mentioned_left y m))

  -- the solution stands for the existential
  pub under_solved : type_under es (existential x) ≡ type_under es s
  under_solved =
      let a : type_under right (existential x) ≡ existential x = under-unsolved right x (solution_without x right h.none_right) in
      let b : type_under right s ≡ s = under-settled right s (λ y m. solution_without y right (mentioned_right y m)) in
      let c : replaced x s s ≡ s = replaced-unmentioned x s s (false_from_ne_true (mentions x s) (λ m. false≢true (sym (mentioned_other x m) ∙ eq-eqb x x refl))) in
      let d : replaced x s (existential x) ≡ s = rw (eq-eqb x x refl) refl in
      ap (λ (cs : ContextEntries). type_under cs (existential x)) h.whole ∙ under-append left (Solved x s ∷ right) (existential x) ∙ ap (λ (t : Open). type_under left (replaced x s t)) a
      ∙ ap (type_under left) (d ∙ sym c)
      ∙ sym (ap (λ (cs : ContextEntries). type_under cs s) h.whole ∙ under-append left (Solved x s ∷ right) s ∙ ap (λ (t : Open). type_under left (replaced x s t)) b)
