-- The candidates of a written name, step by step.
use Rattle.std.proofs.Common.{◌≡◌, ℕ, Bool, true, false, cond, ◌&&◌, ◌||◌, List, [], ◌∷◌, ◌++◌, refl, sym, ap, ◌∙◌, Option, Some, None, Ok}
use Rattle.std.specs.Prelude.{bytes_eq}
use Rattle.std.specs.Ordering.{nat_cmp}
use Rattle.std.specs.Cmp.Lexicographic.{slice_cmp, nat_list_cmp_total, nat_list_eq_equiv}
use Rattle.std.specs.List.{filter}
use Rattle.std.specs.Map.{lookup}
use Rattle.std.specs.BTreeMap.{is_at}
use Rattle.uc_base.specs.declared.place.Place.{Place}
use Rattle.uc_tree.specs.declared.target.Target.{Target}
use Rattle.uc_meaning.specs.Entries.{Entry, IsInOrder}
use Rattle.uc_meaning.specs.Candidates.{Using, Usings, is_own, shortens, is_used, own_named, used_in, used_among, named, ending_in, first_filled, candidates_of, meaning_among}
use Rattle.uc_meaning.proofs.Inserted.{put_found, found_entry, filter_or}
use Rattle.uc_meaning.specs.Meanings.{is_constructor, constructor_among}
use Rattle.uc_meaning.proofs.Names.{same_name, at_name, named_found, checked, lookup_filter}

-- ---- filters

both_kept : {X : Type 0} (a b : Bool) (p : X → Bool) (x : X) (xs : List X) → p x ≡ a → cond (a && b) (x ∷ filter p xs) (filter p xs) ≡ filter p (cond b (x ∷ xs) xs)
both_kept true true p x xs h = sym (ap (λ c. cond c (x ∷ filter p xs) (filter p xs)) h)
both_kept true false p x xs h = refl
both_kept false true p x xs h = sym (ap (λ c. cond c (x ∷ filter p xs) (filter p xs)) h)
both_kept false false p x xs h = refl

-- one test and then another
pub filter_filter : {X : Type 0} (p q : X → Bool) (xs : List X) → filter (λ x. p x && q x) xs ≡ filter p (filter q xs)
filter_filter p q [] = refl
filter_filter p q (x ∷ xs) =
    ap (λ ys. cond (p x && q x) (x ∷ ys) ys) (filter_filter p q xs) ∙ both_kept (p x) (q x) p x (filter q xs) refl

either_kept : {X : Type 0} (a b : Bool) (p q : X → Bool) (x : X) (xs ys : List X) → p x ≡ a → q x ≡ b → filter p xs ≡ filter q ys
    → filter p (cond b (x ∷ xs) xs) ≡ filter q (cond a (x ∷ ys) ys)
either_kept true true p q x xs ys h k e = ap (λ c. cond c (x ∷ filter p xs) (filter p xs)) h ∙ ap (λ l. x ∷ l) e ∙ sym (ap (λ c. cond c (x ∷ filter q ys) (filter q ys)) k)
either_kept true false p q x xs ys h k e = e ∙ sym (ap (λ c. cond c (x ∷ filter q ys) (filter q ys)) k)
either_kept false true p q x xs ys h k e = ap (λ c. cond c (x ∷ filter p xs) (filter p xs)) h ∙ e
either_kept false false p q x xs ys h k e = e

-- two tests in either order
pub filter_either : {X : Type 0} (p q : X → Bool) (xs : List X) → filter p (filter q xs) ≡ filter q (filter p xs)
filter_either p q [] = refl
filter_either p q (x ∷ xs) = either_kept (p x) (q x) p q x (filter q xs) (filter p xs) refl refl (filter_either p q xs)

-- ---- `use`

same_test : (w : List ℕ) → (λ v. bytes_eq v w) ≡ is_at (slice_cmp nat_cmp w)
same_test w = (λ i v. nat_list_eq_equiv.symm v w i) ∙ sym (at_name w)

-- one more clause that shortens the written name
pub used_more : (E : List Entry) (w : List ℕ) (u : Using) (us : List Using) → IsInOrder E → shortens u.names w ≡ true
    → used_in E w (u ∷ us) ≡ put_found (slice_cmp nat_cmp) (u.path ++ 46 ∷ w) (lookup (bytes_eq (u.path ++ 46 ∷ w)) E) (used_in E w us)
used_more E w u us s h =
    let j : List ℕ = u.path ++ 46 ∷ w in
    ap (λ b. filter (λ e. (b && bytes_eq e.0 j) || is_used us w e.0) E) h
    ∙ ap (λ (t : List ℕ → Bool). filter (λ e. t e.0 || is_used us w e.0) E) (same_test j)
    ∙ filter_or (slice_cmp nat_cmp) nat_list_cmp_total same_name (is_used us w) j E s
    ∙ ap (λ t. put_found (slice_cmp nat_cmp) j (lookup t E) (used_in E w us)) (at_name j)

-- one more that doesn't
pub unused_more : (E : List Entry) (w : List ℕ) (u : Using) (us : List Using) → shortens u.names w ≡ false → used_in E w (u ∷ us) ≡ used_in E w us
unused_more E w u us h = ap (λ b. filter (λ e. (b && bytes_eq e.0 (u.path ++ 46 ∷ w)) || is_used us w e.0) E) h

pub unused : (E : List Entry) (w : List ℕ) → used_in E w [] ≡ []
unused [] w = refl
unused (e ∷ E) w = unused E w

-- ---- the first step that has any

abbrev pub or_filled : List Entry → List Entry → List Entry
or_filled [] es = es
or_filled (x ∷ xs) es = x ∷ xs

filled_first : (es : List Entry) (steps : List (List Entry)) → first_filled (es ∷ steps) ≡ or_filled es (first_filled steps)
filled_first [] steps = refl
filled_first (e ∷ es) steps = refl

or_or : (xs ys zs : List Entry) → or_filled xs (or_filled ys zs) ≡ or_filled (or_filled xs ys) zs
or_or [] ys zs = refl
or_or (x ∷ xs) ys zs = refl

filled_append : (xs ys : List (List Entry)) → first_filled (xs ++ ys) ≡ or_filled (first_filled xs) (first_filled ys)
filled_append [] ys = refl
filled_append (x ∷ xs) ys =
    filled_first x (xs ++ ys) ∙ ap (or_filled x) (filled_append xs ys) ∙ or_or x (first_filled xs) (first_filled ys) ∙ ap (λ l. or_filled l (first_filled ys)) (sym (filled_first x xs))

or_nothing : (xs : List Entry) → or_filled xs [] ≡ xs
or_nothing [] = refl
or_nothing (x ∷ xs) = refl

abbrev pub own_entry : List ℕ → Option Target → List Entry
own_entry w None = []
own_entry w (Some t) = cond (is_own t) ((w, t) ∷ []) []

own_found : (w : List ℕ) (r : Option Target) → filter (λ e. is_own e.1) (found_entry w r) ≡ own_entry w r
own_found w None = refl
own_found w (Some t) = refl

-- the candidates by what is found under the whole name
pub by_steps : (E : List Entry) (usings : Usings) (w : List ℕ) (r : Option Target) → IsInOrder E → r ≡ lookup (bytes_eq w) E
    → candidates_of E usings w ≡ or_filled (own_entry w r) (or_filled (first_filled (used_among E w usings)) (or_filled (found_entry w r) (ending_in E w)))
by_steps E usings w r s h =
    let f : named E w ≡ found_entry w r = named_found w E s ∙ ap (found_entry w) (sym h) in
    filled_first (own_named E w) (used_among E w usings ++ (named E w ∷ ending_in E w ∷ []))
    ∙ ap (λ l. or_filled l (first_filled (used_among E w usings ++ (named E w ∷ ending_in E w ∷ []))))
    (filter_filter (λ e. is_own e.1) (λ e. bytes_eq w e.0) E ∙ ap (filter (λ e. is_own e.1)) f ∙ own_found w r)
    ∙ ap (or_filled (own_entry w r))
    (filled_append (used_among E w usings) (named E w ∷ ending_in E w ∷ [])
    ∙ ap (or_filled (first_filled (used_among E w usings)))
    (filled_first (named E w) (ending_in E w ∷ []) ∙ ap (or_filled (named E w)) (filled_first (ending_in E w) [] ∙ or_nothing (ending_in E w)) ∙ ap (λ l. or_filled l (ending_in E w)) f))

-- ---- constructors

checked_constructor : (r : Option Target) → constructor_among r ≡ checked is_constructor r
checked_constructor None = refl
checked_constructor (Some t) = refl

pub constructor_found : (w : List ℕ) (es : List Entry) → IsInOrder es → constructor_among (lookup (bytes_eq w) es) ≡ lookup (bytes_eq w) (filter (λ e. is_constructor e.1) es)
constructor_found w es s = checked_constructor (lookup (bytes_eq w) es) ∙ sym (lookup_filter w is_constructor es s)

-- ---- what a written name means

abbrev pub found_own : Option Target → Bool
found_own None = false
found_own (Some t) = is_own t

own_none : (w : List ℕ) (r : Option Target) → found_own r ≡ false → own_entry w r ≡ []
own_none w None h = refl
own_none w (Some t) h = ap (λ b. cond b ((w, t) ∷ []) []) h

module _ (E : List Entry) (usings : Usings) (p : Place) (w : List ℕ) (r : Option Target) (order : IsInOrder E) (found : r ≡ lookup (bytes_eq w) E) where
  -- a name of the file
  pub own_meaning : (t : Target) → r ≡ Some t → is_own t ≡ true → meaning_among p w (candidates_of E usings w) ≡ Ok t
  own_meaning t h o =
      ap (meaning_among p w) (by_steps E usings w r order found ∙ ap (λ q. or_filled (own_entry w q) (or_filled (first_filled (used_among E w usings)) (or_filled (found_entry w q) (ending_in E w)))) h
      ∙ ap (λ b. or_filled (cond b ((w, t) ∷ []) []) (or_filled (first_filled (used_among E w usings)) ((w, t) ∷ []))) o)

  others : found_own r ≡ false → candidates_of E usings w ≡ or_filled (first_filled (used_among E w usings)) (or_filled (found_entry w r) (ending_in E w))
  others o =
      by_steps E usings w r order found ∙ ap (λ l. or_filled l (or_filled (first_filled (used_among E w usings)) (or_filled (found_entry w r) (ending_in E w)))) (own_none w r o)

  -- what a `use` gives
  pub used_meaning : found_own r ≡ false → (es : List Entry) → es ≡ first_filled (used_among E w usings) → (es ≡ [] → ⊥) → candidates_of E usings w ≡ es
  used_meaning o es h n = others o ∙ ap (λ l. or_filled l (or_filled (found_entry w r) (ending_in E w))) (sym h) ∙ by_filled es n
    where
      by_filled : (es : List Entry) → (es ≡ [] → ⊥) → or_filled es (or_filled (found_entry w r) (ending_in E w)) ≡ es
      by_filled [] n = absurd (n refl)
      by_filled (e ∷ es) n = refl

  unused_left : found_own r ≡ false → (es : List Entry) → es ≡ first_filled (used_among E w usings) → es ≡ [] → candidates_of E usings w ≡ or_filled (found_entry w r) (ending_in E w)
  unused_left o es h n = others o ∙ ap (λ l. or_filled l (or_filled (found_entry w r) (ending_in E w))) (sym h ∙ n)

  -- the whole name
  pub whole_meaning : found_own r ≡ false → (es : List Entry) → es ≡ first_filled (used_among E w usings) → es ≡ [] → (t : Target) → r ≡ Some t → meaning_among p w (candidates_of E usings w) ≡ Ok t
  whole_meaning o es h n t k = ap (meaning_among p w) (unused_left o es h n ∙ ap (λ q. or_filled (found_entry w q) (ending_in E w)) k)

  -- the names that end in it
  pub ending_meaning : found_own r ≡ false → (es : List Entry) → es ≡ first_filled (used_among E w usings) → es ≡ [] → r ≡ None → candidates_of E usings w ≡ ending_in E w
  ending_meaning o es h n k = unused_left o es h n ∙ ap (λ q. or_filled (found_entry w q) (ending_in E w)) k
