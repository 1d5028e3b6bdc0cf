-- The last entry that passes a test.
use Rattle.std.proofs.Common.{◌≡◌, ℕ, zero, suc, ◌+◌, ◌<◌, ◌||◌, add-one, Bool, true, false, cond, [], ◌∷◌, ◌++◌, length, get_or, take, drop, Option, Some, None, arith, refl, sym, ap, ◌∙◌}
use Rattle.std.proofs.lemmas.Bool.{or_parts}
use Rattle.std.proofs.lemmas.Option.{same_Some}
use Rattle.std.proofs.lemmas.List.{take_more, length-take}
use Rattle.std.specs.Option.{option_map, option_or, is_some}
use Rattle.std.specs.List.{list_any}
use Rattle.uc_context.specs.declared.entry.Entry.{Entry}
use Rattle.uc_context.specs.Entries.{ContextEntries, is_same_entry, dropped_from}
use Rattle.uc_context.specs.Index.{last_place}

module _ (test : Entry → Bool) where
  -- one entry more
  pub last_place-push : (es : ContextEntries) (e : Entry) → last_place test (es ++ e ∷ []) ≡ cond (test e) (Some (length es)) (last_place test es)
  last_place-push [] e = refl
  last_place-push (d ∷ es) e = rw (last_place-push es e) (go (test e))
    where
      go : (b : Bool) → option_or (option_map (λ k. k + 1) (cond b (Some (length es)) (last_place test es))) (cond (test d) (Some 0) None)
          ≡ cond b (Some (suc (length es))) (option_or (option_map (λ k. k + 1) (last_place test es)) (cond (test d) (Some 0) None))
      go true = ap Some (omega arith)
      go false = refl

  module _ (es : ContextEntries) (k n : ℕ) (e : Entry) (next : n ≡ k + 1) (within : k < length es) (is : e ≡ get_or es k e) where
    last_place-take : last_place test (take n es) ≡ cond (test e) (Some k) (last_place test (take k es))
    last_place-take =
        ap (λ (m : ℕ). last_place test (take m es)) next ∙ ap (last_place test) (take_more es k e within ∙ ap (λ (d : Entry). take k es ++ d ∷ []) (sym is)) ∙ last_place-push (take k es) e
        ∙ ap (λ (n : ℕ). cond (test e) (Some n) (last_place test (take k es))) (omega (arith, length-take {A = Entry}))

    -- a search from the back
    pub last_place-found : test e ≡ true → last_place test (take n es) ≡ last_place test es → Some k ≡ last_place test es
    last_place-found passes so_far = sym (last_place-take ∙ rw passes refl) ∙ so_far

    pub last_place-fails : test e ≡ false → last_place test (take n es) ≡ last_place test es → last_place test (take k es) ≡ last_place test es
    last_place-fails fails so_far = sym (last_place-take ∙ rw fails refl) ∙ so_far

-- there is a last place where one passes
pub last_place-some : (test : Entry → Bool) (es : ContextEntries) → list_any test es ≡ is_some (last_place test es)
last_place-some test [] = refl
last_place-some test (e ∷ es) = rw (last_place-some test es) (go (test e) (last_place test es))
  where
    go : (b : Bool) (o : Option ℕ) → (b || is_some o) ≡ is_some (option_or (option_map (λ k. k + 1) o) (cond b (Some 0) None))
    go true None = refl
    go true (Some k) = refl
    go false None = refl
    go false (Some k) = refl

-- what stands before a place, or all where there is none
abbrev pub kept_by : Option ℕ → ContextEntries → ContextEntries
kept_by None es = es
kept_by (Some k) es = take k es

pub dropped_from-place : (d : Entry) (es : ContextEntries) → dropped_from d es ≡ kept_by (last_place (is_same_entry d) es) es
dropped_from-place d [] = refl
dropped_from-place d (e ∷ es) = go (is_same_entry d e) (list_any (is_same_entry d) es) (last_place (is_same_entry d) es) (last_place-some (is_same_entry d) es) (dropped_from-place d es)
  where
    go : (b c : Bool) (o : Option ℕ) → c ≡ is_some o → dropped_from d es ≡ kept_by o es → cond c (e ∷ dropped_from d es) (cond b [] (e ∷ es)) ≡ kept_by (option_or (option_map (λ k. k + 1) o) (cond b (Some 0) None)) (e ∷ es)
    go true true None is rest = absurd cc
    go true false None is rest = refl
    go false true None is rest = absurd cc
    go false false None is rest = refl
    go b true (Some k) is rest = rw add-one (ap (λ (cs : ContextEntries). e ∷ cs) rest)
    go b false (Some k) is rest = absurd cc

-- a last place is one of the list, and its entry passes
pub last_place-within : (test : Entry → Bool) (es : ContextEntries) (k : ℕ) → last_place test es ≡ Some k → k < length es
last_place-within test [] k e = absurd cc
last_place-within test (d ∷ es) k e = go (test d) (last_place test es) refl e (last_place-within test es)
  where
    go : (b : Bool) (o : Option ℕ) → last_place test es ≡ o → option_or (option_map (λ k. k + 1) o) (cond b (Some 0) None) ≡ Some k → ((j : ℕ) → last_place test es ≡ Some j → j < length es) → k < suc (length es)
    go true None is f rest = let g : 0 ≡ k = cc in omega arith
    go false None is f rest = absurd cc
    go true (Some j) is f rest = let g : j + 1 ≡ k = cc in omega (arith, rest j is)
    go false (Some j) is f rest = let g : j + 1 ≡ k = cc in omega (arith, rest j is)

module _ (test : Entry → Bool) where
  pub last_place-passes : (es : ContextEntries) (k : ℕ) (e : Entry) → last_place test es ≡ Some k → e ≡ get_or es k e → test e ≡ true
  last_place-passes [] k e f is = absurd cc
  last_place-passes (d ∷ es) k e f is = go (test d) refl (last_place test es) refl f (λ j. last_place-passes es j e)
    where
      go : (b : Bool) → test d ≡ b → (o : Option ℕ) → last_place test es ≡ o → option_or (option_map (λ k. k + 1) o) (cond b (Some 0) None) ≡ Some k → ((j : ℕ) → last_place test es ≡ Some j → e ≡ get_or es j e → test e ≡ true) → test e ≡ true
      go true passes None at g rest =
          let z : k ≡ zero = sym cc in
          ap test (is ∙ ap (λ (n : ℕ). get_or (d ∷ es) n e) z) ∙ passes
      go false fails None at g rest = absurd cc
      go b passes (Some j) at g rest =
          let s : k ≡ suc j = omega (arith, same_Some (j + 1) k g) in
          rest j at (is ∙ ap (λ (n : ℕ). get_or (d ∷ es) n e) s)

  pub none_behind_last_place : (es : ContextEntries) (k : ℕ) → last_place test es ≡ Some k → list_any test (drop (suc k) es) ≡ false
  none_behind_last_place [] k f = absurd cc
  none_behind_last_place (d ∷ es) k f = go (test d) (last_place test es) refl f (λ j. none_behind_last_place es j)
    where
      go : (b : Bool) (o : Option ℕ) → last_place test es ≡ o → option_or (option_map (λ k. k + 1) o) (cond b (Some 0) None) ≡ Some k → ((j : ℕ) → last_place test es ≡ Some j → list_any test (drop (suc j) es) ≡ false) → list_any test (drop k es) ≡ false
      go true None at g rest =
          let z : k ≡ zero = sym cc in
          ap (λ (n : ℕ). list_any test (drop n es)) z ∙ last_place-some test es ∙ ap is_some at
      go false None at g rest = absurd cc
      go b (Some j) at g rest =
          let s : k ≡ suc j = omega (arith, same_Some (j + 1) k g) in
          ap (λ (n : ℕ). list_any test (drop n es)) s ∙ rest j at

-- where none passes there is no last place
pub last_place-none : (test : Entry → Bool) (es : ContextEntries) → list_any test es ≡ false → last_place test es ≡ None
last_place-none test [] e = refl
last_place-none test (d ∷ es) e = let p = or_parts (test d) (list_any test es) e in rw (last_place-none test es p.1, p.0) refl

-- where none passes behind, the last place is in front
pub last_place-front : (test : Entry → Bool) (es ds : ContextEntries) → list_any test ds ≡ false → last_place test (es ++ ds) ≡ last_place test es
last_place-front test [] ds fails = last_place-none test ds fails
last_place-front test (e ∷ es) ds fails = rw (last_place-front test es ds fails) refl
