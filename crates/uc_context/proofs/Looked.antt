-- What looking for an entry finds.
use Rattle.std.proofs.Common.{◌≡◌, ℕ, zero, suc, ◌+◌, ◌<◌, Bool, true, false, cond, eqb, List, [], ◌∷◌, ◌++◌, length, get_or, take, drop, Option, Some, None, is_some, arith, refl, sym, ap, ◌∙◌}
use Rattle.std.specs.List.{list_any}
use Rattle.std.specs.Option.{option_map, option_or}
use Rattle.std.proofs.lemmas.Bool.{or_parts}
use Rattle.std.proofs.lemmas.List.{take_all}
use Rattle.std.proofs.lemmas.Option.{same_Some}
use Rattle.uc_context.specs.declared.entry.Entry.{Entry}
use Rattle.uc_context.specs.declared.entry.Entry.TheVariants.{Rigid, Exists, Solved, Mark, Binder}
use Rattle.uc_context.specs.Opens.{Open}
use Rattle.uc_context.specs.Contexts.{IsContext, solution_of, binder_type}
use Rattle.uc_context.specs.Entries.{ContextEntries, is_rigid, is_unsolved, declares, is_variable, is_binder, before}
use Rattle.uc_context.specs.Index.{place_at, last_place}
use Rattle.uc_context.specs.Indexes.{AreNoted}
use Rattle.uc_context.specs.Looking.{TestsVariable, HasAt, solution_in, type_in}
use Rattle.uc_context.proofs.LastPlaces.{last_place-within, last_place-some, last_place-passes}
use Rattle.uc_context.proofs.Standing.{Stands, stands_at, fails_without, tested_at}

pub rigid_tests : (x : ℕ) → TestsVariable x (is_rigid x)
rigid_tests x (Rigid y) t = t
rigid_tests x (Exists y) t = absurd cc
rigid_tests x (Solved y s) t = absurd cc
rigid_tests x (Mark y) t = absurd cc
rigid_tests x (Binder y s) t = absurd cc

pub unsolved_tests : (x : ℕ) → TestsVariable x (is_unsolved x)
unsolved_tests x (Rigid y) t = absurd cc
unsolved_tests x (Exists y) t = t
unsolved_tests x (Solved y s) t = absurd cc
unsolved_tests x (Mark y) t = absurd cc
unsolved_tests x (Binder y s) t = absurd cc

pub existential_tests : (x : ℕ) → TestsVariable x (declares x)
existential_tests x (Rigid y) t = absurd cc
existential_tests x (Exists y) t = t
existential_tests x (Solved y s) t = t
existential_tests x (Mark y) t = absurd cc
existential_tests x (Binder y s) t = absurd cc

-- a test of a variable, among all entries
module _ (x : ℕ) (test : Entry → Bool) (tests : TestsVariable x test) (es : ContextEntries) (order : IsContext es) where
  pub looked_at : (k : ℕ) (e : Entry) → HasAt (is_variable x) es k e → test e ≡ list_any test es
  looked_at k e h =
      sym (ap (list_any test) (sym (take_all (length es) es (omega arith))) ∙ tested_at x test tests es (length es) order k e h.found h.entry (last_place-within (is_variable x) es k h.found))

  pub looked_nowhere : last_place (is_variable x) es ≡ None → false ≡ list_any test es
  looked_nowhere none = sym (fails_without x test tests es (last_place-some (is_variable x) es ∙ ap is_some none))

-- the solution that an entry has
pub solution_without : (x : ℕ) (es : ContextEntries) → list_any (is_variable x) es ≡ false → solution_of es x ≡ None
solution_without x [] none = refl
solution_without x (Rigid y ∷ es) none = solution_without x es (or_parts (eqb y x) (list_any (is_variable x) es) none).1
solution_without x (Exists y ∷ es) none = solution_without x es (or_parts (eqb y x) (list_any (is_variable x) es) none).1
solution_without x (Solved y t ∷ es) none = let p = or_parts (eqb y x) (list_any (is_variable x) es) none in rw p.0 (solution_without x es p.1)
solution_without x (Mark y ∷ es) none = solution_without x es none
solution_without x (Binder y t ∷ es) none = solution_without x es none

solution_here : (x : ℕ) (e : Entry) (es : ContextEntries) → is_variable x e ≡ true → list_any (is_variable x) es ≡ false → solution_of (e ∷ es) x ≡ solution_in e
solution_here x (Rigid y) es here none = solution_without x es none
solution_here x (Exists y) es here none = solution_without x es none
solution_here x (Solved y t) es here none = rw here refl
solution_here x (Mark y) es here none = absurd cc
solution_here x (Binder y t) es here none = absurd cc

solution_behind : (x : ℕ) (es ds : ContextEntries) → list_any (is_variable x) es ≡ false → solution_of (es ++ ds) x ≡ solution_of ds x
solution_behind x [] ds none = refl
solution_behind x (Rigid y ∷ es) ds none = solution_behind x es ds (or_parts (eqb y x) (list_any (is_variable x) es) none).1
solution_behind x (Exists y ∷ es) ds none = solution_behind x es ds (or_parts (eqb y x) (list_any (is_variable x) es) none).1
solution_behind x (Solved y t ∷ es) ds none = let p = or_parts (eqb y x) (list_any (is_variable x) es) none in rw p.0 (solution_behind x es ds p.1)
solution_behind x (Mark y ∷ es) ds none = solution_behind x es ds none
solution_behind x (Binder y t ∷ es) ds none = solution_behind x es ds none

pub solution_standing : (x : ℕ) (es left : ContextEntries) (e : Entry) (right : ContextEntries) → Stands x es left e right → solution_of es x ≡ solution_in e
solution_standing x es left e right s =
    ap (λ (cs : ContextEntries). solution_of cs x) s.whole ∙ solution_behind x left (e ∷ right) s.none_left ∙ solution_here x e right s.here s.none_right

module _ (x : ℕ) (es : ContextEntries) where
  pub solution_looked : IsContext es → (k : ℕ) (e : Entry) → HasAt (is_variable x) es k e → solution_in e ≡ solution_of es x
  solution_looked order k e h = sym (solution_standing x es (take k es) e (drop (suc k) es) (stands_at x es k e order h.found h.entry))

  pub solution_nowhere : last_place (is_variable x) es ≡ None → None ≡ solution_of es x
  solution_nowhere none = sym (solution_without x es (last_place-some (is_variable x) es ∙ ap is_some none))

-- what stands before a variable
pub before_without : (x : ℕ) (es : ContextEntries) → list_any (is_variable x) es ≡ false → before x es ≡ es
before_without x [] none = refl
before_without x (e ∷ es) none = let p = or_parts (is_variable x e) (list_any (is_variable x) es) none in rw p.0 (ap (λ (cs : ContextEntries). e ∷ cs) (before_without x es p.1))

before_here : (x : ℕ) (left : ContextEntries) (e : Entry) (right : ContextEntries) → list_any (is_variable x) left ≡ false → is_variable x e ≡ true → before x (left ++ e ∷ right) ≡ left
before_here x [] e right none here = rw here refl
before_here x (d ∷ left) e right none here = let p = or_parts (is_variable x d) (list_any (is_variable x) left) none in rw p.0 (ap (λ (cs : ContextEntries). d ∷ cs) (before_here x left e right p.1 here))

pub before_standing : (x : ℕ) (es left : ContextEntries) (e : Entry) (right : ContextEntries) → Stands x es left e right → before x es ≡ left
before_standing x es left e right s = ap (before x) s.whole ∙ before_here x left e right s.none_left s.here

module _ (x : ℕ) (es : ContextEntries) where
  pub before_looked : IsContext es → (k : ℕ) (e : Entry) → HasAt (is_variable x) es k e → take k es ≡ before x es
  before_looked order k e h = sym (before_standing x es (take k es) e (drop (suc k) es) (stands_at x es k e order h.found h.entry))

  pub before_nowhere : last_place (is_variable x) es ≡ None → (n : ℕ) → n ≡ length es → take n es ≡ before x es
  before_nowhere none n all = take_all n es (omega arith) ∙ sym (before_without x es (last_place-some (is_variable x) es ∙ ap is_some none))

-- the last binder with a number
pub binder_nowhere : (x : ℕ) (es : ContextEntries) → last_place (is_binder x) es ≡ None → None ≡ binder_type es x
binder_nowhere x es none = sym (go es (last_place-some (is_binder x) es ∙ ap is_some none))
  where
    go : (ds : ContextEntries) → list_any (is_binder x) ds ≡ false → binder_type ds x ≡ None
    go [] e = refl
    go (Rigid y ∷ ds) e = go ds e
    go (Exists y ∷ ds) e = go ds e
    go (Solved y t ∷ ds) e = go ds e
    go (Mark y ∷ ds) e = go ds e
    go (Binder y t ∷ ds) e = let p = or_parts (eqb y x) (list_any (is_binder x) ds) e in rw (go ds p.1, p.0) refl

binder_in : (x : ℕ) (e : Entry) → is_binder x e ≡ true → (t : Open) × (type_in e ≡ Some t)
binder_in x (Rigid y) p = absurd cc
binder_in x (Exists y) p = absurd cc
binder_in x (Solved y t) p = absurd cc
binder_in x (Mark y) p = absurd cc
binder_in x (Binder y t) p = (t, refl)

binder_behind : (x : ℕ) (d : Entry) (es : ContextEntries) (t : Open) → binder_type es x ≡ Some t → binder_type (d ∷ es) x ≡ Some t
binder_behind x (Rigid y) es t e = e
binder_behind x (Exists y) es t e = e
binder_behind x (Solved y s) es t e = e
binder_behind x (Mark y) es t e = e
binder_behind x (Binder y s) es t e = rw e refl

binder_here : (x : ℕ) (d : Entry) (es : ContextEntries) → is_binder x d ≡ true → None ≡ binder_type es x → type_in d ≡ binder_type (d ∷ es) x
binder_here x (Rigid y) es p none = absurd cc
binder_here x (Exists y) es p none = absurd cc
binder_here x (Solved y t) es p none = absurd cc
binder_here x (Mark y) es p none = absurd cc
binder_here x (Binder y t) es p none = let n : binder_type es x ≡ None = sym none in rw (n, p) refl

pub binder_looked : (x : ℕ) (es : ContextEntries) (k : ℕ) (e : Entry) → HasAt (is_binder x) es k e → type_in e ≡ binder_type es x
binder_looked x [] k e h = absurd (let f = h.found in cc)
binder_looked x (d ∷ es) k e h = go (is_binder x d) refl (last_place (is_binder x) es) refl h.found (λ j f is. binder_looked x es j e (record { found = f; entry = is }))
  where
    go : (b : Bool) → is_binder x d ≡ b → (o : Option ℕ) → last_place (is_binder x) es ≡ o → option_or (option_map (λ k. k + 1) o) (cond b (Some 0) None) ≡ Some k
        → ((j : ℕ) → last_place (is_binder x) es ≡ Some j → e ≡ get_or es j e → type_in e ≡ binder_type es x) → type_in e ≡ binder_type (d ∷ es) x
    go true passes None at g rest =
        let z : k ≡ zero = sym cc in
        ap type_in (h.entry ∙ ap (λ (n : ℕ). get_or (d ∷ es) n e) z) ∙ binder_here x d es passes (binder_nowhere x es at)
    go false fails None at g rest = absurd cc
    go b passes (Some j) at g rest =
        let s : k ≡ suc j = omega (arith, same_Some (j + 1) k g) in
        let is : e ≡ get_or es j e = h.entry ∙ ap (λ (n : ℕ). get_or (d ∷ es) n e) s in
        let t = binder_in x e (last_place-passes (is_binder x) es j e at is) in
        t.1 ∙ sym (binder_behind x d es t.0 (sym (rest j at is) ∙ t.1))

-- places as they are noted
module _ (test : ℕ → Entry → Bool) (x : ℕ) (es : ContextEntries) (places : List (Option ℕ)) (found : Option ℕ) (k : ℕ) where
  pub noted_within : AreNoted test places es → found ≡ place_at places x → found ≡ Some k → k < length es
  noted_within noted got some = last_place-within (test x) es k (sym (noted x) ∙ sym got ∙ some)

module _ (x : ℕ) (es seen : ContextEntries) (places : List (Option ℕ)) (found : Option ℕ) (view : es ≡ seen) (noted : AreNoted is_binder places es) (got : found ≡ place_at places x) where
  pub binder_noted : (k : ℕ) (e : Entry) → found ≡ Some k → e ≡ get_or es k e → type_in e ≡ binder_type seen x
  binder_noted k e some is = binder_looked x es k e (record { found = sym (noted x) ∙ sym got ∙ some; entry = is }) ∙ ap (λ (cs : ContextEntries). binder_type cs x) view

  pub none_noted : found ≡ None → None ≡ binder_type seen x
  none_noted none = binder_nowhere x es (sym (noted x) ∙ sym got ∙ none) ∙ ap (λ (cs : ContextEntries). binder_type cs x) view

pub variable_noted : (x : ℕ) (es seen : ContextEntries) (places : List (Option ℕ)) (found : Option ℕ) → es ≡ seen → AreNoted is_variable places es → found ≡ place_at places x → is_some found ≡ list_any (is_variable x) seen
variable_noted x es seen places found view noted got = ap is_some (got ∙ noted x) ∙ sym (last_place-some (is_variable x) es) ∙ ap (list_any (is_variable x)) view
