-- Types that are found, with their existentials quantified, are closed and well-formed.
use Rattle.std.proofs.Common.{◌≡◌, ℕ, suc, ◌+◌, ◌≤◌, Bool, true, false, cond, eqb, ◌||◌, List, [], ◌∷◌, ◌++◌, length, Some, inl, inr, refl, sym, ap, subst, ◌∙◌, arith}
use Rattle.std.specs.List.{list_any}
use Rattle.std.proofs.lemmas.Bool.{or_cases, or_left, or_right, and_from, eqb-true, eq-eqb, false≢true}
use Rattle.std.proofs.lemmas.List.Folds.{list_any-append}
use Rattle.uc_tree.specs.Types.{Ty, Tys}
use Rattle.uc_tree.specs.Types as types
use Rattle.uc_kinds.specs.WellFormed.{Arity, tys_count}
use Rattle.uc_context.specs.Closing.{open_from, opens_from, is_closed, are_closed}
use Rattle.uc_context.specs.Entries.{ContextEntries, is_rigid}
use Rattle.uc_context.specs.Generalising.{bound_by, all_bound_at, each_bound_at, behind_quantifiers, generalised}
use Rattle.uc_context.specs.Occurring.{occurrences, all_occurrences, found_with, found_behind, existentials_of}
use Rattle.uc_context.specs.Opens.{Open, bound, rigid, existential, quantified, arrow, unit, tuple, applied, Opens, none, more}
use Rattle.uc_context.specs.Variables.{mentions, some_mentions}
use Rattle.uc_subtyping.specs.Instances.{opens_count}
use Rattle.uc_soundness.specs.WellFormed.{IsMonoIn, AreMonoIn, IsTypeIn}
use Rattle.uc_soundness.proofs.Types.{mono_type}
use Rattle.uc_sound_typing.specs.Formed.{IsMonoWritten, AreMonoWritten, IsWritten}

-- whether a number is in a list
abbrev has : ℕ → List ℕ → Bool
has x ys = list_any (λ y. eqb y x) ys

-- what was found stays found
found_stays : (x y : ℕ) (found : List ℕ) → has x found ≡ true → has x (found_with found y) ≡ true
found_stays x y found h = go (has y found)
  where
    go : (b : Bool) → has x (cond b found (found ++ y ∷ [])) ≡ true
    go true = h
    go false = list_any-append (λ z. eqb z x) found (y ∷ []) ∙ or_left (has x found) (has x (y ∷ [])) h

-- a number is found
found_here : (x y : ℕ) (found : List ℕ) → eqb y x ≡ true → has x (found_with found y) ≡ true
found_here x y found same = go (has y found) refl
  where
    is : y ≡ x
    is = eqb-true y x same

    go : (b : Bool) → has y found ≡ b → has x (cond b found (found ++ y ∷ [])) ≡ true
    go true p = subst (λ (n : ℕ). has n found ≡ true) is p
    go false p = list_any-append (λ z. eqb z x) found (y ∷ []) ∙ or_right (has x found) (has x (y ∷ [])) (or_left (eqb y x) false same)

behind_stays : (x : ℕ) (found ys : List ℕ) → has x found ≡ true → has x (found_behind found ys) ≡ true
behind_stays x found [] h = h
behind_stays x found (y ∷ ys) h = behind_stays x (found_with found y) ys (found_stays x y found h)

found_all : (x : ℕ) (found ys : List ℕ) → has x ys ≡ true → has x (found_behind found ys) ≡ true
found_all x found [] h = absurd (false≢true h)
found_all x found (y ∷ ys) h = elim (or_cases (eqb y x) (has x ys) h) [ inl e ↦ behind_stays x (found_with found y) ys (found_here x y found e) | inr e ↦ found_all x (found_with found y) ys e ]

mutual
  occurs : (x : ℕ) (t : Open) → mentions x t ≡ true → has x (occurrences t) ≡ true
  occurs x (bound i) h = absurd (false≢true h)
  occurs x (rigid y) h = absurd (false≢true h)
  occurs x (existential y) h = or_left (eqb y x) false h
  occurs x (quantified t) h = occurs x t h
  occurs x (arrow a b) h =
      list_any-append (λ z. eqb z x) (occurrences a) (occurrences b)
      ∙ elim (or_cases (mentions x a) (mentions x b) h) [ inl e ↦ or_left (has x (occurrences a)) (has x (occurrences b)) (occurs x a e) | inr e ↦ or_right (has x (occurrences a)) (has x (occurrences b)) (occurs x b e) ]
  occurs x unit h = absurd (false≢true h)
  occurs x (tuple ts) h = some_occurs x ts h
  occurs x (applied c ts) h = some_occurs x ts h

  some_occurs : (x : ℕ) (ts : Opens) → some_mentions x ts ≡ true → has x (all_occurrences ts) ≡ true
  some_occurs x none h = absurd (false≢true h)
  some_occurs x (more t ts) h =
      list_any-append (λ z. eqb z x) (occurrences t) (all_occurrences ts)
      ∙ elim (or_cases (mentions x t) (some_mentions x ts) h) [ inl e ↦ or_left (has x (occurrences t)) (has x (all_occurrences ts)) (occurs x t e) | inr e ↦ or_right (has x (occurrences t)) (has x (all_occurrences ts)) (some_occurs x ts e) ]

-- each existential of a type is among those that occur
mentioned_found : (x : ℕ) (t : Open) → mentions x t ≡ true → has x (existentials_of t) ≡ true
mentioned_found x t h = found_all x [] (occurrences t) (occurs x t h)

-- as many types
count_bound : (xs : List ℕ) (k : ℕ) (ts : Opens) → opens_count (each_bound_at xs k ts) ≡ opens_count ts
count_bound xs k none = refl
count_bound xs k (more t ts) = ap suc (count_bound xs k ts)

module _ (arity : Arity) (fs : ContextEntries) (rigidless : (x : ℕ) → list_any (is_rigid x) fs ≡ false) where
  -- an existential of the list is bound
  slot_bound : (xs : List ℕ) (k x n : ℕ) → length xs ≤ n → has x xs ≡ true → IsMonoIn arity [] (n + k) (bound_by xs k x)
  slot_bound [] k x n less h = absurd (false≢true h)
  slot_bound (y ∷ ys) k x n less h = go (slot_bound ys k x n (omega (arith, less))) (eqb y x) h
    where
      go : (has x ys ≡ true → IsMonoIn arity [] (n + k) (bound_by ys k x)) → (b : Bool) → (b || has x ys) ≡ true → IsMonoIn arity [] (n + k) (cond b (bound (length ys + k)) (bound_by ys k x))
      go rest true p = omega (arith, less)
      go rest false p = rest p

  module _ (xs : List ℕ) where
    mutual
      mono_bound : (k : ℕ) (t : Open) → ((x : ℕ) → mentions x t ≡ true → has x xs ≡ true) → IsMonoIn arity fs k t → IsMonoIn arity [] (length xs + k) (all_bound_at xs k t)
      mono_bound k (bound i) all m = omega (arith, m)
      mono_bound k (rigid x) all m = absurd (false≢true (sym (rigidless x) ∙ m))
      mono_bound k (existential x) all m = slot_bound xs k x (length xs) (omega arith) (all x (eq-eqb x x refl))
      mono_bound k (quantified t) all m = absurd m
      mono_bound k (arrow a b) all m = (mono_bound k a (λ x h. all x (or_left (mentions x a) (mentions x b) h)) m.0, mono_bound k b (λ x h. all x (or_right (mentions x a) (mentions x b) h)) m.1)
      mono_bound k unit all m = tt
      mono_bound k (tuple ts) all m = monos_bound k ts all m
      mono_bound k (applied c ts) all m = (m.0 ∙ ap Some (sym (count_bound xs k ts)), monos_bound k ts all m.1)

      monos_bound : (k : ℕ) (ts : Opens) → ((x : ℕ) → some_mentions x ts ≡ true → has x xs ≡ true) → AreMonoIn arity fs k ts → AreMonoIn arity [] (length xs + k) (each_bound_at xs k ts)
      monos_bound k none all m = tt
      monos_bound k (more t ts) all m = (mono_bound k t (λ x h. all x (or_left (mentions x t) (some_mentions x ts) h)) m.0, monos_bound k ts (λ x h. all x (or_right (mentions x t) (some_mentions x ts) h)) m.1)

    type_bound : (k : ℕ) (t : Open) → ((x : ℕ) → mentions x t ≡ true → has x xs ≡ true) → IsTypeIn arity fs k t → IsTypeIn arity [] (length xs + k) (all_bound_at xs k t)
    type_bound k (bound i) all m = omega (arith, m)
    type_bound k (rigid x) all m = absurd (false≢true (sym (rigidless x) ∙ m))
    type_bound k (existential x) all m = mono_type arity [] (length xs + k) (bound_by xs k x) (slot_bound xs k x (length xs) (omega arith) (all x (eq-eqb x x refl)))
    type_bound k (quantified t) all m =
        let under : length xs + suc k ≡ suc (length xs + k) = omega arith in
        subst (λ (j : ℕ). IsTypeIn arity [] j (all_bound_at xs (suc k) t)) under (type_bound (suc k) t all m)
    type_bound k (arrow a b) all m = (type_bound k a (λ x h. all x (or_left (mentions x a) (mentions x b) h)) m.0, type_bound k b (λ x h. all x (or_right (mentions x a) (mentions x b) h)) m.1)
    type_bound k unit all m = tt
    type_bound k (tuple ts) all m = monos_bound k ts all m
    type_bound k (applied c ts) all m = (m.0 ∙ ap Some (sym (count_bound xs k ts)), monos_bound k ts all m.1)

  behind_typed : (ys : List ℕ) (k : ℕ) (u : Open) → IsTypeIn arity [] (length ys + k) u → IsTypeIn arity [] k (behind_quantifiers ys u)
  behind_typed [] k u h = let same : 0 + k ≡ k = omega arith in subst (λ (j : ℕ). IsTypeIn arity [] j u) same h
  behind_typed (y ∷ ys) k u h =
      let under : suc (length ys) + k ≡ length ys + suc k = omega arith in
      behind_typed ys (suc k) u (subst (λ (j : ℕ). IsTypeIn arity [] j u) under h)

  -- a type that is found, with its existentials quantified
  pub generalised_typed : (t : Open) → IsTypeIn arity fs 0 t → IsTypeIn arity [] 0 (generalised (existentials_of t) t)
  generalised_typed t h = behind_typed (existentials_of t) 0 (all_bound_at (existentials_of t) 0 t) (type_bound (existentials_of t) 0 t (λ x m. mentioned_found x t m) h)

-- what is well-formed where there is nothing is closed
module _ (arity : Arity) where
  mutual
    mono_closed : (k : ℕ) (t : Open) → IsMonoIn arity [] k t → is_closed t ≡ true
    mono_closed k (bound i) h = refl
    mono_closed k (rigid x) h = absurd (false≢true h)
    mono_closed k (existential x) h = absurd (false≢true h)
    mono_closed k (quantified t) h = absurd h
    mono_closed k (arrow a b) h = and_from (is_closed a) (is_closed b) (mono_closed k a h.0) (mono_closed k b h.1)
    mono_closed k unit h = refl
    mono_closed k (tuple ts) h = monos_closed k ts h
    mono_closed k (applied x ts) h = monos_closed k ts h.1

    monos_closed : (k : ℕ) (ts : Opens) → AreMonoIn arity [] k ts → are_closed ts ≡ true
    monos_closed k none h = refl
    monos_closed k (more t ts) h = and_from (is_closed t) (are_closed ts) (mono_closed k t h.0) (monos_closed k ts h.1)

  pub type_closed : (k : ℕ) (t : Open) → IsTypeIn arity [] k t → is_closed t ≡ true
  type_closed k (bound i) h = refl
  type_closed k (rigid x) h = absurd (false≢true h)
  type_closed k (existential x) h = absurd (false≢true h)
  type_closed k (quantified t) h = type_closed (suc k) t h
  type_closed k (arrow a b) h = and_from (is_closed a) (is_closed b) (type_closed k a h.0) (type_closed k b h.1)
  type_closed k unit h = refl
  type_closed k (tuple ts) h = monos_closed k ts h
  type_closed k (applied x ts) h = monos_closed k ts h.1

  -- as many types
  count_from : (ts : Tys) → opens_count (opens_from ts) ≡ tys_count ts
  count_from types.none = refl
  count_from (types.more t ts) = omega (arith, count_from ts)

  -- and is a written type again
  mutual
    mono_from : (k : ℕ) (ty : Ty) → IsMonoIn arity [] k (open_from ty) → IsMonoWritten arity k ty
    mono_from k (types.variable i) h = h
    mono_from k (types.quantified t) h = absurd h
    mono_from k (types.arrow a b) h = (mono_from k a h.0, mono_from k b h.1)
    mono_from k types.unit h = tt
    mono_from k (types.tuple ts) h = monos_from k ts h
    mono_from k (types.applied x ts) h = (h.0 ∙ ap Some (count_from ts), monos_from k ts h.1)

    monos_from : (k : ℕ) (ts : Tys) → AreMonoIn arity [] k (opens_from ts) → AreMonoWritten arity k ts
    monos_from k types.none h = tt
    monos_from k (types.more t ts) h = (mono_from k t h.0, monos_from k ts h.1)

  pub type_from : (k : ℕ) (ty : Ty) → IsTypeIn arity [] k (open_from ty) → IsWritten arity k ty
  type_from k (types.variable i) h = h
  type_from k (types.quantified t) h = type_from (suc k) t h
  type_from k (types.arrow a b) h = (type_from k a h.0, type_from k b h.1)
  type_from k types.unit h = tt
  type_from k (types.tuple ts) h = monos_from k ts h
  type_from k (types.applied x ts) h = (h.0 ∙ ap Some (count_from ts), monos_from k ts h.1)
