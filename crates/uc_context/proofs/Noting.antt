-- What an index says once an entry is noted or left out.
use Rattle.std.proofs.Common.{◌≡◌, ℕ, ◌+◌, ◌-◌, ◌<◌, ◌≤◌, Bool, true, false, cond, List, [], ◌∷◌, ◌++◌, length, get_or, set, Option, Some, None, arith, refl, sym, ap, subst, ◌∙◌, inl, inr, ◌||◌}
use Rattle.std.specs.Prelude.{count_by}
use Rattle.std.specs.List.{list_any}
use Rattle.std.proofs.lemmas.List.{get_or-set_same, get_or-set_other, get_or_past, length-set}
use Rattle.std.proofs.lemmas.List.Sums.{sum_by-append, sum_by-cons}
use Rattle.std.proofs.lemmas.Bool.{cases_eq, cases_lt, eqb-true, ne_eqb, eq-eqb, or_parts, or_from, false≢true, false_from_ne_true}
use Rattle.uc_context.specs.declared.entry.Entry.{Entry}
use Rattle.uc_context.specs.declared.entry.Entry.TheVariants.{Rigid, Exists, Solved, Mark, Binder}
use Rattle.uc_context.specs.declared.index.Index.{Index}
use Rattle.uc_context.specs.Entries.{ContextEntries, number_of, is_numbered, is_variable, is_binder, IsFresh}
use Rattle.uc_context.specs.Index.{place_at, last_place}
use Rattle.uc_context.specs.Indexes.{Indexes, AreNoted, noted_at}
use Rattle.uc_context.specs.Numbers.{uses_at}
use Rattle.uc_context.proofs.LastPlaces.{last_place-none, last_place-push}

-- counts and tests
module _ {A : Type 0} (test : A → Bool) where
  count_by-cons : (x : A) (xs : List A) → count_by test (x ∷ xs) ≡ cond (test x) 1 0 + count_by test xs
  count_by-cons x xs = sum_by-cons (λ (y : A). cond (test y) 1 0) x xs

  pub count_by-push : (xs : List A) (x : A) → count_by test (xs ++ x ∷ []) ≡ count_by test xs + cond (test x) 1 0
  count_by-push xs x = omega (arith, sum_by-append (λ (y : A). cond (test y) 1 0) xs (x ∷ []))

  pub none_counted : (xs : List A) → count_by test xs ≡ 0 → list_any test xs ≡ false
  none_counted [] e = refl
  none_counted (x ∷ xs) e = go (none_counted xs) (test x) (sym (count_by-cons x xs) ∙ e)
    where
      go : (count_by test xs ≡ 0 → list_any test xs ≡ false) → (b : Bool) → cond b 1 0 + count_by test xs ≡ 0 → (b || list_any test xs) ≡ false
      go rest true f = absurd (omega arith)
      go rest false f = rest (omega arith)

  pub some_counted : (xs : List A) → 0 < count_by test xs → list_any test xs ≡ true
  some_counted [] h = absurd (omega arith)
  some_counted (x ∷ xs) h = go (some_counted xs) (test x) (omega (arith, count_by-cons x xs))
    where
      go : (0 < count_by test xs → list_any test xs ≡ true) → (b : Bool) → 0 < cond b 1 0 + count_by test xs → (b || list_any test xs) ≡ true
      go rest true f = refl
      go rest false f = rest (omega arith)

-- an entry passes a test at its number alone
abbrev pub IsByNumber : (ℕ → Entry → Bool) → Type 0
IsByNumber test = (x : ℕ) (e : Entry) → test x e ≡ true → number_of e ≡ x

pub variable_by_number : IsByNumber is_variable
variable_by_number x (Rigid y) p = eqb-true y x p
variable_by_number x (Exists y) p = eqb-true y x p
variable_by_number x (Solved y t) p = eqb-true y x p
variable_by_number x (Mark y) p = absurd cc
variable_by_number x (Binder y t) p = absurd cc

pub binder_by_number : IsByNumber is_binder
binder_by_number x (Rigid y) p = absurd cc
binder_by_number x (Exists y) p = absurd cc
binder_by_number x (Solved y t) p = absurd cc
binder_by_number x (Mark y) p = absurd cc
binder_by_number x (Binder y t) p = eqb-true y x p

-- a test by number fails where no entry has the number
pub numbered_fails : (test : ℕ → Entry → Bool) → IsByNumber test → (x : ℕ) (es : ContextEntries) → list_any (is_numbered x) es ≡ false → list_any (test x) es ≡ false
numbered_fails test by_number x [] e = refl
numbered_fails test by_number x (d ∷ es) e =
    let p = or_parts (is_numbered x d) (list_any (is_numbered x) es) e in
    or_from (test x d) (list_any (test x) es) (false_from_ne_true (test x d) (λ passes. false≢true (sym p.0 ∙ eq-eqb (number_of d) x (by_number x d passes)))) (numbered_fails test by_number x es p.1)

-- places of numbers
module _ (test : ℕ → Entry → Bool) (by_number : IsByNumber test) (places : List (Option ℕ)) (e : Entry) (place : Option ℕ) where
  pub noted_same : number_of e < length places → (x : ℕ) → test x e ≡ true → place_at (noted_at test e place places) x ≡ place
  noted_same room x passes =
      let n : number_of e ≡ x = by_number x e passes in
      let p : test (number_of e) e ≡ true = ap (λ (y : ℕ). test y e) n ∙ passes in
      rw p (subst (λ (y : ℕ). get_or (set places (number_of e) place) y None ≡ place) n (get_or-set_same places (number_of e) place None room))

  pub noted_other : (x : ℕ) → test x e ≡ false → place_at (noted_at test e place places) x ≡ place_at places x
  noted_other x fails = go (test (number_of e) e) refl
    where
      go : (b : Bool) → test (number_of e) e ≡ b → place_at (cond b (set places (number_of e) place) places) x ≡ place_at places x
      go true p = get_or-set_other places (number_of e) x place None (λ same. absurd (let q : test x e ≡ true = ap (λ (y : ℕ). test y e) same ∙ p in cc))
      go false p = refl

  pub length-noted_at : length (noted_at test e place places) ≡ length places
  length-noted_at = go (test (number_of e) e)
    where
      go : (b : Bool) → length (cond b (set places (number_of e) place) places) ≡ length places
      go true = length-set places (number_of e) place
      go false = refl

  -- an entry more
  pub noted_push : (es : ContextEntries) → number_of e < length places → place ≡ Some (length es) → AreNoted test places es → AreNoted test (noted_at test e place places) (es ++ e ∷ [])
  noted_push es room is noted x = rw (last_place-push (test x) es e) (go (test x e) refl)
    where
      go : (b : Bool) → test x e ≡ b → place_at (noted_at test e place places) x ≡ cond b (Some (length es)) (last_place (test x) es)
      go true p = noted_same room x p ∙ is
      go false p = noted_other x p ∙ noted x

  -- an entry less
  pub noted_pop : (es : ContextEntries) → number_of e < length places → (test (number_of e) e ≡ true → place ≡ last_place (test (number_of e)) es) → AreNoted test places (es ++ e ∷ []) → AreNoted test (noted_at test e place places) es
  noted_pop es room is noted x = go (test x e) refl
    where
      go : (b : Bool) → test x e ≡ b → place_at (noted_at test e place places) x ≡ last_place (test x) es
      go true p =
          let n : number_of e ≡ x = by_number x e p in
          noted_same room x p ∙ is (ap (λ (y : ℕ). test y e) n ∙ p) ∙ ap (λ (y : ℕ). last_place (test y) es) n
      go false p = noted_other x p ∙ noted x ∙ last_place-push (test x) es e ∙ rw p refl

-- uses of numbers
module _ (uses : List ℕ) (e : Entry) (es : ContextEntries) where
  one_more : (x : ℕ) (b : Bool) → is_numbered x e ≡ b → count_by (is_numbered x) (es ++ e ∷ []) ≡ count_by (is_numbered x) es + cond b 1 0
  one_more x b is = count_by-push (is_numbered x) es e ∙ rw is refl

  pub used_within : ((x : ℕ) → uses_at uses x ≡ count_by (is_numbered x) (es ++ e ∷ [])) → number_of e < length uses
  used_within counted = elim (cases_lt (number_of e) (length uses)) [
    | inl h ↦ h
    | inr h ↦ absurd (omega (arith, get_or_past uses (number_of e) 0 h, counted (number_of e), one_more (number_of e) true (eq-eqb (number_of e) (number_of e) refl)))
  ]

  pub uses_push : number_of e < length uses → ((x : ℕ) → uses_at uses x ≡ count_by (is_numbered x) es) → (x : ℕ) → uses_at (set uses (number_of e) (uses_at uses (number_of e) + 1)) x ≡ count_by (is_numbered x) (es ++ e ∷ [])
  uses_push room counted x = elim (cases_eq (number_of e) x) [
    | inl here ↦ subst (λ (y : ℕ). uses_at (set uses (number_of e) (uses_at uses (number_of e) + 1)) y ≡ count_by (is_numbered y) (es ++ e ∷ [])) here
        (get_or-set_same uses (number_of e) (uses_at uses (number_of e) + 1) 0 room ∙ ap (λ (n : ℕ). n + 1) (counted (number_of e)) ∙ sym (one_more (number_of e) true (eq-eqb (number_of e) (number_of e) refl)))
    | inr other ↦ get_or-set_other uses (number_of e) x (uses_at uses (number_of e) + 1) 0 (λ same. other (sym same)) ∙ counted x ∙ omega (arith, one_more x false (ne_eqb (number_of e) x other))
  ]

  pub uses_pop : ((x : ℕ) → uses_at uses x ≡ count_by (is_numbered x) (es ++ e ∷ [])) → (x : ℕ) → uses_at (set uses (number_of e) (uses_at uses (number_of e) - 1)) x ≡ count_by (is_numbered x) es
  uses_pop counted x = elim (cases_eq (number_of e) x) [
    | inl here ↦ subst (λ (y : ℕ). uses_at (set uses (number_of e) (uses_at uses (number_of e) - 1)) y ≡ count_by (is_numbered y) es) here
        (get_or-set_same uses (number_of e) (uses_at uses (number_of e) - 1) 0 (used_within counted) ∙ omega (arith, counted (number_of e), one_more (number_of e) true (eq-eqb (number_of e) (number_of e) refl)))
    | inr other ↦ get_or-set_other uses (number_of e) x (uses_at uses (number_of e) - 1) 0 (λ same. other (sym same)) ∙ counted x ∙ omega (arith, one_more x false (ne_eqb (number_of e) x other))
  ]

-- an index with an entry more, and with one less
module _ (i j : Index) (e : Entry) (es : ContextEntries) (place : Option ℕ) (variables : j.variables ≡ noted_at is_variable e place i.variables) (binders : j.binders ≡ noted_at is_binder e place i.binders) where
  long_enough : (n : ℕ) → length j.numbers ≡ n → n ≤ length i.variables → n ≤ length i.binders → (length j.numbers ≤ length j.variables) × (length j.numbers ≤ length j.binders)
  long_enough n same v b = (
    omega (arith, ap length variables, length-noted_at is_variable variable_by_number i.variables e place),
    omega (arith, ap length binders, length-noted_at is_binder binder_by_number i.binders e place),
  )

  pub indexes_push : Indexes i es → number_of e < length i.numbers → place ≡ Some (length es) → j.numbers ≡ set i.numbers (number_of e) (uses_at i.numbers (number_of e) + 1) → Indexes j (es ++ e ∷ [])
  indexes_push h room is numbers =
      let long : (length j.numbers ≤ length j.variables) × (length j.numbers ≤ length j.binders) = long_enough (length i.numbers) (ap length numbers ∙ length-set i.numbers (number_of e) (uses_at i.numbers (number_of e) + 1)) h.room_for_variables h.room_for_binders in
      record {
        uses = λ x. ap (λ (ns : List ℕ). uses_at ns x) numbers ∙ uses_push i.numbers e es room h.uses x;
        variables = λ x. ap (λ (ps : List (Option ℕ)). place_at ps x) variables ∙ noted_push is_variable variable_by_number i.variables e place es (omega (arith, h.room_for_variables)) is h.variables x;
        binders = λ x. ap (λ (ps : List (Option ℕ)). place_at ps x) binders ∙ noted_push is_binder binder_by_number i.binders e place es (omega (arith, h.room_for_binders)) is h.binders x;
        room_for_variables = long.0;
        room_for_binders = long.1;
      }

  pub indexes_pop : Indexes i (es ++ e ∷ []) → (is_variable (number_of e) e ≡ true → list_any (is_variable (number_of e)) es ≡ false) → (is_variable (number_of e) e ≡ true → place ≡ None) → (is_binder (number_of e) e ≡ true → place ≡ last_place (is_binder (number_of e)) es)
      → j.numbers ≡ set i.numbers (number_of e) (uses_at i.numbers (number_of e) - 1) → Indexes j es
  indexes_pop h apart none some numbers =
      let room = used_within i.numbers e es h.uses in
      let long : (length j.numbers ≤ length j.variables) × (length j.numbers ≤ length j.binders) = long_enough (length i.numbers) (ap length numbers ∙ length-set i.numbers (number_of e) (uses_at i.numbers (number_of e) - 1)) h.room_for_variables h.room_for_binders in
      record {
        uses = λ x. ap (λ (ns : List ℕ). uses_at ns x) numbers ∙ uses_pop i.numbers e es h.uses x;
        variables = λ x. ap (λ (ps : List (Option ℕ)). place_at ps x) variables
            ∙ noted_pop is_variable variable_by_number i.variables e place es (omega (arith, h.room_for_variables, room)) (λ p. none p ∙ sym (last_place-none (is_variable (number_of e)) es (apart p))) h.variables x;
        binders = λ x. ap (λ (ps : List (Option ℕ)). place_at ps x) binders ∙ noted_pop is_binder binder_by_number i.binders e place es (omega (arith, h.room_for_binders, room)) some h.binders x;
        room_for_variables = long.0;
        room_for_binders = long.1;
      }

-- the least number that is not used is fresh
pub fresh_by_uses : (uses : List ℕ) (es : ContextEntries) (n : ℕ) → ((x : ℕ) → uses_at uses x ≡ count_by (is_numbered x) es) → uses_at uses n ≡ 0 → ((m : ℕ) → m < n → 0 < uses_at uses m) → IsFresh es n
fresh_by_uses uses es n counted unused least = record {
  unused = λ used. absurd (let e = none_counted (is_numbered n) es (sym (counted n) ∙ unused) in cc);
  least = λ m below. some_counted (is_numbered m) es (subst (λ (k : ℕ). 0 < k) (counted m) (least m below));
}

-- where no entry has a number there is no binder with it
pub no_binder : (x : ℕ) (es : ContextEntries) → count_by (is_numbered x) es ≡ 0 → None ≡ last_place (is_binder x) es
no_binder x es e = sym (last_place-none (is_binder x) es (numbered_fails is_binder binder_by_number x es (none_counted (is_numbered x) es e)))

pub no_use_no_binder : (uses : List ℕ) (e : Entry) (x k : ℕ) (es : ContextEntries) → number_of e ≡ x → uses_at uses (number_of e) ≡ count_by (is_numbered (number_of e)) es → k ≡ uses_at uses x → k ≤ 0 → None ≡ last_place (is_binder (number_of e)) es
no_use_no_binder uses e x k es same counted is none =
    no_binder (number_of e) es (sym counted ∙ ap (uses_at uses) same ∙ sym is ∙ omega arith)

-- what an index counts, of entries as they are seen
module _ (i : Index) (es seen : ContextEntries) (view : es ≡ seen) (h : Indexes i es) where
  pub unused_by_count : (n : ℕ) → uses_at i.numbers n ≡ 0 → list_any (is_numbered n) seen ≡ false
  unused_by_count n unused = ap (list_any (is_numbered n)) (sym view) ∙ none_counted (is_numbered n) es (sym (h.uses n) ∙ unused)

  pub used_by_count : (n : ℕ) → 0 < uses_at i.numbers n → list_any (is_numbered n) seen ≡ true
  used_by_count n used = ap (list_any (is_numbered n)) (sym view) ∙ some_counted (is_numbered n) es (subst (λ (k : ℕ). 0 < k) (h.uses n) used)
