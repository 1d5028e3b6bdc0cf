-- Names of binders in scope.
use Rattle.std.proofs.Common.{◌≡◌, ℕ, suc, ◌+◌, ◌-◌, ◌^◌, ◌<◌, Bool, true, false, cond, List, [], ◌∷◌, ◌++◌, length, refl, sym, ap, ◌∙◌, subst, Option, Some, None, arith}
use Rattle.std.specs.Prelude.{bytes_eq, Vec, reverse}
use Rattle.std.specs.declared.cmp.Ordering.{Ordering}
use Rattle.std.specs.declared.cmp.Ordering.TheVariants.{Less, Equal, Greater}
use Rattle.std.specs.Ordering.{nat_cmp, is_eq, match_ordering}
use Rattle.std.specs.Cmp.Lexicographic.{slice_cmp, nat_list_cmp_total}
use Rattle.std.specs.List.{position_from}
use Rattle.std.specs.Map.{lookup, set_value}
use Rattle.std.specs.Option.{IsSome}
use Rattle.std.specs.BTreeMap.{insert_entry, is_at}
use Rattle.std.proofs.lemmas.Slice.Eq.{bytes_eq-Decides}
use Rattle.uc_meaning.proofs.Inserted.{lookup_inserted}
use Rattle.uc_meaning.proofs.Names.{at_name, same_name}
use Rattle.std.proofs.lemmas.List.{length-append, length-reverse, length-map, reverse-append}
use Rattle.std.proofs.lemmas.Map.Text.{is_eq-slice_cmp}
use Rattle.uc_meaning.specs.ExprMeanings.{is_binder_of}
use Rattle.uc_signatures.specs.LocalViews.{last_of, names_in, names_of, hidden_by, AreLinked, places_of, noted, place_in, HasAlso, IsKept}
use Rattle.uc_signatures.specs.declared.local_names.Local.{Local}

-- what a map has at a name
pub looked_up : {A : Type 0} (w : List ℕ) (compare : Vec ℕ A → Ordering) → ((v : Vec ℕ A) → compare v ≡ slice_cmp nat_cmp w v.items) → (es : List (Vec ℕ A × Option ℕ))
    → lookup (is_at compare) es ≡ lookup (bytes_eq w) (places_of es)
looked_up w compare h [] = refl
looked_up w compare h (e ∷ es) =
    ap (λ o. cond (is_eq o) (Some e.1) (lookup (is_at compare) es)) (h e.0)
    ∙ ap (λ b. cond b (Some e.1) (lookup (is_at compare) es)) (is_eq-slice_cmp w e.0.items)
    ∙ ap (λ r. cond (bytes_eq w e.0.items) (Some e.1) r) (looked_up w compare h es)

pub length_of_names : (locals : List Local) → length (names_of locals) ≡ length locals
length_of_names locals = length-map (reverse locals) (λ l. l.name) ∙ length-reverse locals

-- a map with one more name
placed : {A : Type 0} (o : Ordering) (k : Vec ℕ A) (v : Option ℕ) (e : Vec ℕ A × Option ℕ) (es fs : List (Vec ℕ A × Option ℕ)) (gs : List (List ℕ × Option ℕ)) → places_of fs ≡ gs
    → places_of (match_ordering o ((k, v) ∷ e ∷ es) ((e.0, v) ∷ es) (e ∷ fs))
    ≡ match_ordering o ((k.items, v) ∷ (e.0.items, e.1) ∷ places_of es) ((e.0.items, v) ∷ places_of es) ((e.0.items, e.1) ∷ gs)
placed Less k v e es fs gs h = refl
placed Equal k v e es fs gs h = refl
placed Greater k v e es fs gs h = ap (λ l. (e.0.items, e.1) ∷ l) h

inserted : {A : Type 0} (cmp : Vec ℕ A → Vec ℕ A → Ordering) → ((v w : Vec ℕ A) → cmp v w ≡ slice_cmp nat_cmp v.items w.items) → (es : List (Vec ℕ A × Option ℕ)) (k : Vec ℕ A) (v : Option ℕ)
    → places_of (insert_entry cmp es k v) ≡ insert_entry (slice_cmp nat_cmp) (places_of es) k.items v
inserted cmp h [] k v = refl
inserted cmp h (e ∷ es) k v =
    placed (cmp k e.0) k v e es (insert_entry cmp es k v) (insert_entry (slice_cmp nat_cmp) (places_of es) k.items v) (inserted cmp h es k v)
    ∙ ap (λ o. match_ordering o ((k.items, v) ∷ (e.0.items, e.1) ∷ places_of es) ((e.0.items, v) ∷ places_of es) ((e.0.items, e.1) ∷ insert_entry (slice_cmp nat_cmp) (places_of es) k.items v)) (h k e.0)

noted_if : (b : Bool) (v : Option ℕ) (r : Option (Option ℕ)) → noted (cond b (Some v) r) ≡ cond b v (noted r)
noted_if true v r = refl
noted_if false v r = refl

pub put : {A : Type 0} (cmp : Vec ℕ A → Vec ℕ A → Ordering) → ((v w : Vec ℕ A) → cmp v w ≡ slice_cmp nat_cmp v.items w.items) → (es : List (Vec ℕ A × Option ℕ)) (k : Vec ℕ A) (v : Option ℕ)
    → HasAlso k.items v (places_of es) (places_of (insert_entry cmp es k v))
put cmp h es k v w =
    ap (λ l. noted (lookup (bytes_eq w) l)) (inserted cmp h es k v)
    ∙ ap noted (subst (λ t. lookup t (insert_entry (slice_cmp nat_cmp) (places_of es) k.items v) ≡ cond (t k.items) (Some v) (lookup t (places_of es))) (at_name w)
    (lookup_inserted (slice_cmp nat_cmp) nat_list_cmp_total same_name w k.items v (places_of es)))
    ∙ noted_if (bytes_eq w k.items) v (lookup (bytes_eq w) (places_of es))

-- a map with another value of a name that it has
false_is : (b : Bool) → b ≡ false → b ≡ true → ⊥
false_is b e f = let g : false ≡ true = sym e ∙ f in cc

set_step : (w text name : List ℕ) (a b c : Bool) → bytes_eq w name ≡ a → bytes_eq text name ≡ b → bytes_eq w text ≡ c → (v : Option ℕ) (old : Option ℕ) (before after : Option (Option ℕ))
    → (b ≡ false → noted after ≡ cond c v (noted before))
    → noted (cond b (cond a (Some v) before) (cond a (Some old) after)) ≡ cond c v (noted (cond a (Some old) before))
set_step w text name true true true e f g v old before after h = refl
set_step w text name true true false e f g v old before after h =
    absurd (false_is (bytes_eq w text) g ((bytes_eq-Decides w text).1 ((bytes_eq-Decides w name).0 e ∙ sym ((bytes_eq-Decides text name).0 f))))
set_step w text name false true true e f g v old before after h =
    absurd (false_is (bytes_eq w name) e ((bytes_eq-Decides w name).1 ((bytes_eq-Decides w text).0 g ∙ (bytes_eq-Decides text name).0 f)))
set_step w text name false true false e f g v old before after h = refl
set_step w text name true false true e f g v old before after h =
    absurd (false_is (bytes_eq text name) f ((bytes_eq-Decides text name).1 (sym ((bytes_eq-Decides w text).0 g) ∙ (bytes_eq-Decides w name).0 e)))
set_step w text name true false false e f g v old before after h = refl
set_step w text name false false true e f g v old before after h = h refl
set_step w text name false false false e f g v old before after h = h refl

lookup_if : (t : List ℕ → Bool) (b : Bool) (x y : List (List ℕ × Option ℕ)) → lookup t (cond b x y) ≡ cond b (lookup t x) (lookup t y)
lookup_if t true x y = refl
lookup_if t false x y = refl

some_behind : (b : Bool) (v : Option ℕ) (r : Option (Option ℕ)) → IsSome (cond b (Some v) r) → b ≡ false → IsSome r
some_behind true v r s e = let f : false ≡ true = sym e in cc
some_behind false v r s e = s

pub changed : (w text : List ℕ) (ps : List (List ℕ × Option ℕ)) (v : Option ℕ) → IsSome (lookup (bytes_eq text) ps)
    → place_in (set_value (bytes_eq text) ps v) w ≡ cond (bytes_eq w text) v (place_in ps w)
changed w text [] v s = let f : false ≡ true = s in cc
changed w text (e ∷ ps) v s =
    ap noted (lookup_if (bytes_eq w) (bytes_eq text e.0) ((e.0, v) ∷ ps) (e ∷ set_value (bytes_eq text) ps v))
    ∙ set_step w text e.0 (bytes_eq w e.0) (bytes_eq text e.0) (bytes_eq w text) refl refl refl v e.1 (lookup (bytes_eq w) ps) (lookup (bytes_eq w) (set_value (bytes_eq text) ps v))
    (λ f. changed w text ps v (some_behind (bytes_eq text e.0) e.1 (lookup (bytes_eq text) ps) s f))

places_if : {A : Type 0} (b : Bool) (x y : List (Vec ℕ A × Option ℕ)) → places_of (cond b x y) ≡ cond b (places_of x) (places_of y)
places_if true x y = refl
places_if false x y = refl

pub set_places : {A : Type 0} (text : List ℕ) (compare : Vec ℕ A → Ordering) → ((v : Vec ℕ A) → compare v ≡ slice_cmp nat_cmp text v.items) → (es : List (Vec ℕ A × Option ℕ)) (v : Option ℕ)
    → places_of (set_value (is_at compare) es v) ≡ set_value (bytes_eq text) (places_of es) v
set_places text compare h [] v = refl
set_places text compare h (e ∷ es) v =
    places_if (is_eq (compare e.0)) ((e.0, v) ∷ es) (e ∷ set_value (is_at compare) es v)
    ∙ ap (λ b. cond b ((e.0.items, v) ∷ places_of es) ((e.0.items, e.1) ∷ places_of (set_value (is_at compare) es v))) (ap is_eq (h e.0) ∙ is_eq-slice_cmp text e.0.items)
    ∙ ap (λ l. cond (bytes_eq text e.0.items) ((e.0.items, v) ∷ places_of es) ((e.0.items, e.1) ∷ l)) (set_places text compare h es v)

below_step : (b : Bool) (n i : ℕ) (rest : Option ℕ) → (rest ≡ Some i → i < n) → cond b (Some n) rest ≡ Some i → i < suc n
below_step true n i rest h e = grind (arith, e)
below_step false n i rest h e = grind (arith, h e)

-- places are below the count
pub last_below : (w : List ℕ) (bs : List (Option (List ℕ))) (i : ℕ) → last_of w bs ≡ Some i → i < length bs
last_below w [] i e = grind (arith, e)
last_below w (b ∷ bs) i e = below_step (is_binder_of w b) (length bs) i (last_of w bs) (last_below w bs i) e

none_step : (b : Bool) (k n : ℕ) (rest far : Option ℕ) → (rest ≡ None → far ≡ None) → cond b (Some n) rest ≡ None → cond b (Some k) far ≡ None
none_step true k n rest far h e = grind (arith, e)
none_step false k n rest far h e = h e

-- a name that no binder has
pub not_found : (w : List ℕ) (k : ℕ) (bs : List (Option (List ℕ))) → last_of w bs ≡ None → position_from (is_binder_of w) k bs ≡ None
not_found w k [] e = refl
not_found w k (b ∷ bs) e = none_step (is_binder_of w b) k (length bs) (last_of w bs) (position_from (is_binder_of w) (k + 1) bs) (not_found w (k + 1) bs) e

some_step : (b : Bool) (k n i : ℕ) (rest far : Option ℕ) → (rest ≡ Some i → i < n) → (rest ≡ Some i → far ≡ Some (k + 1 + (n - (i + 1)))) → cond b (Some n) rest ≡ Some i
    → cond b (Some k) far ≡ Some (k + (suc n - (i + 1)))
some_step true k n i rest far below h e = grind (arith, e)
some_step false k n i rest far below h e = grind (arith, h e, below e)

-- a name whose innermost binder has this place
pub found : (w : List ℕ) (k : ℕ) (bs : List (Option (List ℕ))) (i : ℕ) → last_of w bs ≡ Some i → position_from (is_binder_of w) k bs ≡ Some (k + (length bs - (i + 1)))
found w k [] i e = grind (arith, e)
found w k (b ∷ bs) i e =
    some_step (is_binder_of w b) k (length bs) i (last_of w bs) (position_from (is_binder_of w) (k + 1) bs) (last_below w bs i) (found w (k + 1) bs i) e

-- the place of a binder that is found
pub place_below : (w : List ℕ) (locals : List Local) (i : ℕ) → last_of w (names_of locals) ≡ Some i → i < length locals
place_below w locals i e = subst (λ n. i < n) (length_of_names locals) (last_below w (names_of locals) i e)

pub found_at : (w : List ℕ) (locals : List Local) (i : ℕ) → last_of w (names_of locals) ≡ Some i → position_from (is_binder_of w) 0 (names_of locals) ≡ Some (length locals - 1 - i)
found_at w locals i e = found w 0 (names_of locals) i e ∙ ap Some (grind (arith, length_of_names locals))

-- ---- binders entered and left

-- one more binder
entered_step : (b : Bool) (n i : ℕ) (old : Option ℕ) → n ≡ i → cond b (Some n) old ≡ cond b (Some i) old
entered_step b n i old e = ap (λ k. cond b (Some k) old) e

pub entered : {A : Type 0} (locals : List Local) (l : Local) (name : List ℕ) (before after : List (Vec ℕ A × Option ℕ)) → l.name ≡ Some name → IsKept locals before
    → l.shadowed ≡ place_in (places_of before) name → HasAlso name (Some (length locals)) (places_of before) (places_of after) → length locals + 1 < 2 ^ 32 → IsKept (locals ++ l ∷ []) after
entered locals l name before after e kept s h small = record {
  linked = subst AreLinked (sym (reverse-append locals (l ∷ []))) (s ∙ kept.indexed name ∙ sym (ap (λ o. hidden_by o (names_of locals)) e), kept.linked);
  indexed = λ w.
      h w ∙ ap (λ r. cond (bytes_eq w name) (Some (length locals)) r) (kept.indexed w)
      ∙ sym (entered_step (bytes_eq w name) (length (names_of locals)) (length locals) (last_of w (names_of locals)) (length_of_names locals))
      ∙ sym (ap (λ o. last_of w (o ∷ names_of locals)) e)
      ∙ sym (ap (λ ls. last_of w (names_in ls)) (reverse-append locals (l ∷ [])));
  count = grind (arith, length-append locals (l ∷ []));
}

-- one more that has no name
pub entered_unnamed : {A : Type 0} (locals : List Local) (l : Local) (last : List (Vec ℕ A × Option ℕ)) → l.name ≡ None → IsKept locals last
    → l.shadowed ≡ None → length locals + 1 < 2 ^ 32 → IsKept (locals ++ l ∷ []) last
entered_unnamed locals l last e kept s small = record {
  linked = subst AreLinked (sym (reverse-append locals (l ∷ []))) (s ∙ sym (ap (λ o. hidden_by o (names_of locals)) e), kept.linked);
  indexed = λ w. kept.indexed w ∙ sym (ap (λ o. last_of w (o ∷ names_of locals)) e) ∙ sym (ap (λ ls. last_of w (names_in ls)) (reverse-append locals (l ∷ [])));
  count = grind (arith, length-append locals (l ∷ []));
}

-- the innermost binder is noted
some_of : (r : Option (Option ℕ)) (n : ℕ) → noted r ≡ Some n → IsSome r
some_of None n e = cc
some_of (Some place) n e = refl

last_at : {A : Type 0} (locals : List Local) (l : Local) (last : List (Vec ℕ A × Option ℕ)) → IsKept (locals ++ l ∷ []) last
    → (w : List ℕ) → place_in (places_of last) w ≡ last_of w (l.name ∷ names_of locals)
last_at locals l last kept w = kept.indexed w ∙ ap (λ ls. last_of w (names_in ls)) (reverse-append locals (l ∷ []))

pub is_noted : {A : Type 0} (locals : List Local) (l : Local) (name : List ℕ) (last : List (Vec ℕ A × Option ℕ)) → l.name ≡ Some name → IsKept (locals ++ l ∷ []) last
    → IsSome (lookup (bytes_eq name) (places_of last))
is_noted locals l name last e kept =
    some_of (lookup (bytes_eq name) (places_of last)) (length (names_of locals))
    (last_at locals l last kept name ∙ ap (λ o. last_of name (o ∷ names_of locals)) e ∙ ap (λ b. cond b (Some (length (names_of locals))) (last_of name (names_of locals))) ((bytes_eq-Decides name name).1 refl))

left_linked : (locals : List Local) (l : Local) → AreLinked (reverse (locals ++ l ∷ [])) → AreLinked (l ∷ reverse locals)
left_linked locals l a = subst AreLinked (reverse-append locals (l ∷ [])) a

left_step : (w name : List ℕ) (b : Bool) → bytes_eq w name ≡ b → (bs : List (Option (List ℕ))) (n : ℕ) (shadowed before : Option ℕ) → shadowed ≡ last_of name bs → before ≡ cond b (Some n) (last_of w bs)
    → cond b shadowed before ≡ last_of w bs
left_step w name true e bs n shadowed before s h = s ∙ ap (λ v. last_of v bs) (sym ((bytes_eq-Decides w name).0 e))
left_step w name false e bs n shadowed before s h = h

-- one binder left
pub left : {A : Type 0} (locals : List Local) (l : Local) (name : List ℕ) (before after : List (Vec ℕ A × Option ℕ)) → l.name ≡ Some name → IsKept (locals ++ l ∷ []) before
    → HasAlso name l.shadowed (places_of before) (places_of after) → IsKept locals after
left locals l name before after e kept h = record {
  linked = (left_linked locals l kept.linked).1;
  indexed = λ w.
      h w ∙ left_step w name (bytes_eq w name) refl (names_of locals) (length (names_of locals)) l.shadowed (place_in (places_of before) w)
      ((left_linked locals l kept.linked).0 ∙ ap (λ o. hidden_by o (names_of locals)) e)
      (last_at locals l before kept w ∙ ap (λ o. last_of w (o ∷ names_of locals)) e);
  count = grind (arith, length-append locals (l ∷ []), kept.count);
}

-- one that has no name
pub left_unnamed : {A : Type 0} (locals : List Local) (l : Local) (last : List (Vec ℕ A × Option ℕ)) → l.name ≡ None → IsKept (locals ++ l ∷ []) last → IsKept locals last
left_unnamed locals l last e kept = record {
  linked = (left_linked locals l kept.linked).1;
  indexed = λ w. last_at locals l last kept w ∙ ap (λ o. last_of w (o ∷ names_of locals)) e;
  count = grind (arith, length-append locals (l ∷ []), kept.count);
}

-- ---- answers that exclude one another

pub none_is : (r : Option (Option ℕ)) → r ≡ None → IsSome r → ⊥
none_is None e s = let f : false ≡ true = s in cc
none_is (Some place) e s = cc

pub unnamed : (name : Option (List ℕ)) → ((x : List ℕ) → name ≡ Some x → ⊥) → name ≡ None
unnamed None h = refl
unnamed (Some x) h = absurd (h x refl)
