-- Contexts stay contexts.
use Rattle.std.proofs.Common.{◌≡◌, ℕ, suc, ◌<◌, Bool, true, false, eqb, ◌||◌, List, [], ◌∷◌, ◌++◌, length, get_or, take, drop, map, Option, Some, None, refl, sym, ap, subst, ◌∙◌, append_assoc}
use Rattle.std.specs.List.{list_any}
use Rattle.std.proofs.lemmas.Bool.{or_left, or_right, or_parts, or_from, ne_eqb, false≢true, false_from_ne_true}
use Rattle.std.proofs.lemmas.List.{append-nil, get_or_default}
use Rattle.std.proofs.lemmas.List.Folds.{list_any-append}
use Rattle.uc_context.specs.declared.entry.Entry.{Entry}
use Rattle.uc_context.specs.declared.entry.Entry.TheVariants.{Rigid, Exists, Solved, Mark}
use Rattle.uc_context.specs.Opens.{Open}
use Rattle.uc_context.specs.Contexts.{CanFollow, AreInOrder, IsContext}
use Rattle.uc_context.specs.Entries.{ContextEntries, is_numbered, is_unsolved, declares, is_variable, before}
use Rattle.uc_context.specs.Fresh.{AreNew, fresh_number}
use Rattle.uc_context.specs.Index.{last_place}
use Rattle.uc_context.specs.Looking.{HasAt}
use Rattle.uc_context.specs.Solving.{solved, solved_with}
use Rattle.uc_context.specs.Variables.{declares_all}
use Rattle.uc_context.proofs.FreshNumbers.{fresh_number-IsFresh}
use Rattle.uc_context.proofs.LastPlaces.{last_place-within}
use Rattle.uc_context.proofs.Looked.{before_standing}
use Rattle.uc_context.proofs.Noting.{numbered_fails, variable_by_number}
use Rattle.uc_context.proofs.Orders.{AreInOrder-front, AreInOrder-behind, AreInOrder-append, AreInOrder-push, AreInOrder-with, declares_all-more}
use Rattle.uc_context.proofs.Solved.{unsolved_at, unsolved_somewhere, exchanged_at, order_solved}
use Rattle.uc_context.proofs.Standing.{Stands, stands_at}

-- where an unsolved existential stands
pub record StandsUnsolved (x : ℕ) (es : ContextEntries) : Type 0 where
  pub left : ContextEntries
  pub right : ContextEntries
  pub stands : Stands x es left (Exists x) right

pub stands_unsolved : (x : ℕ) (es : ContextEntries) → IsContext es → list_any (is_unsolved x) es ≡ true → StandsUnsolved x es
stands_unsolved x es order u = go (last_place (is_variable x) es) refl
  where
    go : (o : Option ℕ) → last_place (is_variable x) es ≡ o → StandsUnsolved x es
    go None at = absurd (unsolved_somewhere x es order u at)
    go (Some k) at =
        let within : k < length es = last_place-within (is_variable x) es k at in
        let entry : get_or es k (Mark 0) ≡ get_or es k (get_or es k (Mark 0)) = get_or_default es k (Mark 0) (get_or es k (Mark 0)) within in
        let h : HasAt (is_variable x) es k (get_or es k (Mark 0)) = record { found = at; entry = entry } in
        let here : HasAt (is_variable x) es k (Exists x) = unsolved_at x es order u k (get_or es k (Mark 0)) h in
        record { left = take k es; right = drop (suc k) es; stands = stands_at x es k (Exists x) order at here.entry }

module _ (x : ℕ) (es : ContextEntries) (order : IsContext es) (u : list_any (is_unsolved x) es ≡ true) where
  at : StandsUnsolved x es
  at = stands_unsolved x es order u

  whole : IsContext (at.left ++ Exists x ∷ at.right)
  whole = subst IsContext at.stands.whole order

  front : AreInOrder [] at.left
  front = AreInOrder-front [] at.left (Exists x ∷ at.right) whole

  behind : AreInOrder at.left (Exists x ∷ at.right)
  behind = AreInOrder-behind [] at.left (Exists x ∷ at.right) whole

  pub in_order_solved : (t : Open) → declares_all (before x es) t ≡ true → IsContext (solved es x t)
  in_order_solved t declared =
      let d : declares_all at.left t ≡ true = ap (λ (cs : ContextEntries). declares_all cs t) (sym (before_standing x es at.left (Exists x) at.right at.stands)) ∙ declared in
      subst IsContext (sym (exchanged_at x (Solved x t ∷ []) es at.left at.right at.stands)) (AreInOrder-append [] at.left (Solved x t ∷ at.right) front (order_solved x t at.left at.right d behind))

-- new numbers are new among entries with the same numbers
new_among : (ns : List ℕ) (es ds : ContextEntries) → ((m : ℕ) → list_any (is_numbered m) es ≡ list_any (is_numbered m) ds) → AreNew ns es → AreNew ns ds
new_among [] es ds same h = tt
new_among (n ∷ ns) es ds same h = (sym (same n) ∙ h.0, new_among ns (Exists n ∷ es) (Exists n ∷ ds) (λ m. ap (λ (b : Bool). eqb n m || b) (same m)) h.1)

turned : (a b c : Bool) → (a || (b || c)) ≡ ((b || (a || false)) || c)
turned true true c = refl
turned true false c = refl
turned false true c = refl
turned false false c = refl

module _ (x : ℕ) (t : Open) (right : ContextEntries) where
  -- a new existential stands in front of what is there
  in_order_after : (n : ℕ) (front : ContextEntries) → list_any (is_numbered n) (front ++ Exists x ∷ right) ≡ false → AreInOrder front (Exists x ∷ right) → AreInOrder (front ++ Exists n ∷ []) (Exists x ∷ right)
  in_order_after n front unused h =
      AreInOrder-with front (front ++ Exists n ∷ []) (Exists x ∷ right)
      (λ y used apart. list_any-append (is_variable y) front (Exists n ∷ []) ∙ or_from (list_any (is_variable y) front) (list_any (is_variable y) (Exists n ∷ [])) apart
      (or_from (eqb n y) false (ne_eqb n y (λ same. absurd (false≢true (sym (ap (λ (m : ℕ). list_any (is_numbered m) (front ++ Exists x ∷ right)) (sym same) ∙ unused) ∙ numbered_behind y used)))) refl))
      (λ y d. list_any-append (declares y) front (Exists n ∷ []) ∙ or_left (list_any (declares y) front) (list_any (declares y) (Exists n ∷ [])) d) h
    where
      numbered_behind : (y : ℕ) → list_any (is_numbered y) (Exists x ∷ right) ≡ true → list_any (is_numbered y) (front ++ Exists x ∷ right) ≡ true
      numbered_behind y used = list_any-append (is_numbered y) front (Exists x ∷ right) ∙ or_right (list_any (is_numbered y) front) (list_any (is_numbered y) (Exists x ∷ right)) used

  in_order_new : (ns : List ℕ) (front : ContextEntries) → AreNew ns (front ++ Exists x ∷ right) → declares_all (front ++ map (λ n. Exists n) ns) t ≡ true → AreInOrder front (Exists x ∷ right) → AreInOrder front (map (λ n. Exists n) ns ++ Solved x t ∷ right)
  in_order_new [] front new declared h = order_solved x t front right (ap (λ (cs : ContextEntries). declares_all cs t) (sym (append-nil front)) ∙ declared) h
  in_order_new (n ∷ ns) front new declared h = (
    (or_parts (list_any (is_variable n) front) (list_any (is_variable n) (Exists x ∷ right)) (sym (list_any-append (is_variable n) front (Exists x ∷ right)) ∙ numbered_fails is_variable variable_by_number n (front ++ Exists x ∷ right) new.0)).0,
    in_order_new ns (front ++ Exists n ∷ [])
        (new_among ns (Exists n ∷ (front ++ Exists x ∷ right)) (front ++ Exists n ∷ [] ++ Exists x ∷ right) (λ m. moved m) new.1)
        (ap (λ (cs : ContextEntries). declares_all cs t) (append_assoc front (Exists n ∷ []) (map (λ n. Exists n) ns)) ∙ declared)
        (in_order_after n front new.0 h),
  )
    where
      moved : (m : ℕ) → list_any (is_numbered m) (Exists n ∷ (front ++ Exists x ∷ right)) ≡ list_any (is_numbered m) (front ++ Exists n ∷ [] ++ Exists x ∷ right)
      moved m =
          ap (λ (b : Bool). eqb n m || b) (list_any-append (is_numbered m) front (Exists x ∷ right))
          ∙ turned (eqb n m) (list_any (is_numbered m) front) (list_any (is_numbered m) (Exists x ∷ right))
          ∙ sym (list_any-append (is_numbered m) (front ++ Exists n ∷ []) (Exists x ∷ right) ∙ ap (λ (b : Bool). b || list_any (is_numbered m) (Exists x ∷ right)) (list_any-append (is_numbered m) front (Exists n ∷ [])))

pub in_order_solved_with : (x : ℕ) (es : ContextEntries) (ns : List ℕ) (t : Open) → IsContext es → list_any (is_unsolved x) es ≡ true → AreNew ns es → declares_all (map (λ n. Exists n) ns) t ≡ true → IsContext (solved_with es x ns t)
in_order_solved_with x es ns t order u new declared =
    let s : StandsUnsolved x es = at x es order u in
    let parts : solved_with es x ns t ≡ s.left ++ (map (λ n. Exists n) ns ++ Solved x t ∷ s.right) =
    exchanged_at x (map (λ n. Exists n) ns ++ Solved x t ∷ []) es s.left s.right s.stands ∙ ap (λ (cs : ContextEntries). s.left ++ cs) (append_assoc (map (λ n. Exists n) ns) (Solved x t ∷ []) s.right) in
    subst IsContext (sym parts) (AreInOrder-append [] s.left (map (λ n. Exists n) ns ++ Solved x t ∷ s.right) (front x es order u)
    (in_order_new x t s.right ns s.left (subst (AreNew ns) s.stands.whole new)
    (declares_all-more (map (λ n. Exists n) ns) (s.left ++ map (λ n. Exists n) ns) t
    (λ y d. list_any-append (declares y) s.left (map (λ n. Exists n) ns) ∙ or_right (list_any (declares y) s.left) (list_any (declares y) (map (λ n. Exists n) ns)) d) declared)
    (behind x es order u)))

-- the fresh number is new
pub fresh_unused : (es : ContextEntries) (n : ℕ) → n ≡ fresh_number es → list_any (is_numbered n) es ≡ false
fresh_unused es n is = false_from_ne_true (list_any (is_numbered n) es) (λ used. absurd ((fresh_number-IsFresh es).unused (ap (λ (m : ℕ). list_any (is_numbered m) es) (sym is) ∙ used)))

pub no_variable : (es : ContextEntries) (n : ℕ) → list_any (is_numbered n) es ≡ false → list_any (is_variable n) es ≡ false
no_variable es n unused = numbered_fails is_variable variable_by_number n es unused

-- a new variable behind others
module _ (es : ContextEntries) (n : ℕ) (order : IsContext es) (unused : list_any (is_numbered n) es ≡ false) where
  pub in_order_rigid : IsContext (es ++ Rigid n ∷ [])
  in_order_rigid = AreInOrder-push [] es (Rigid n) order (no_variable es n unused)

  pub follows_mark : CanFollow (es ++ Mark n ∷ []) (Exists n)
  follows_mark = list_any-append (is_variable n) es (Mark n ∷ []) ∙ or_from (list_any (is_variable n) es) false (no_variable es n unused) refl

  pub in_order_exists : IsContext (es ++ Mark n ∷ Exists n ∷ [])
  in_order_exists =
      subst IsContext (append_assoc es (Mark n ∷ []) (Exists n ∷ [])) (AreInOrder-push [] (es ++ Mark n ∷ []) (Exists n) (AreInOrder-push [] es (Mark n) order tt) follows_mark)

-- what stands in front of an entry is a context
pub in_order_front : (front : ContextEntries) (d : Entry) (tail gs : ContextEntries) → gs ≡ front ++ d ∷ tail → IsContext gs → IsContext front
in_order_front front d tail gs is order = AreInOrder-front [] front (d ∷ tail) (subst IsContext is order)
