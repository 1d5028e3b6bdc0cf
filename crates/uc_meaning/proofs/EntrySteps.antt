-- Names in maps and in vectors.
use Rattle.std.proofs.Common.{◌≡◌, ℕ, Bool, cond, ◌&&◌, List, [], ◌∷◌, ◌++◌, map, refl, sym, ap, ◌∙◌, Some}
use Rattle.std.specs.Prelude.{bytes_eq, Vec}
use Rattle.std.specs.declared.cmp.Ordering.{Ordering}
use Rattle.std.specs.declared.cmp.Ordering.TheVariants.{Less, Equal, Greater}
use Rattle.std.specs.Ordering.{nat_cmp, is_eq, match_ordering}
use Rattle.std.specs.Cmp.Lexicographic.{slice_cmp}
use Rattle.std.specs.List.{list_all, AllByRecursion}
use Rattle.std.specs.List.Sorted.{IsStrictlySortedBy}
use Rattle.std.specs.Map.{lookup, keys_of}
use Rattle.std.specs.BTreeMap.{insert_entry, is_at}
use Rattle.std.proofs.lemmas.List.{map-append}
use Rattle.std.proofs.lemmas.Map.Text.{is_eq-slice_cmp}
use Rattle.uc_tree.specs.declared.target.Target.{Target}
use Rattle.uc_meaning.specs.Entries.{Entry, IsInOrder, with_entry, entries_over}
use Rattle.uc_meaning.specs.EntryViews.{entries_of}
use Rattle.uc_meaning.proofs.Names.{over_append}

module _ {A : Type 0} (cmp : Vec ℕ A → Vec ℕ A → Ordering) (by_items : (v w : Vec ℕ A) → cmp v w ≡ slice_cmp nat_cmp v.items w.items) where
  placed : (o : Ordering) (k : Vec ℕ A) (t : Target) (e : Vec ℕ A × Target) (es fs : List (Vec ℕ A × Target)) (gs : List Entry) → entries_of fs ≡ gs
      → entries_of (match_ordering o ((k, t) ∷ e ∷ es) ((e.0, t) ∷ es) (e ∷ fs))
      ≡ match_ordering o ((k.items, t) ∷ (e.0.items, e.1) ∷ entries_of es) ((e.0.items, t) ∷ entries_of es) ((e.0.items, e.1) ∷ gs)
  placed Less k t e es fs gs h = refl
  placed Equal k t e es fs gs h = refl
  placed Greater k t e es fs gs h = ap (λ l. (e.0.items, e.1) ∷ l) h

  -- a map with one more name
  pub inserted : (es : List (Vec ℕ A × Target)) (k : Vec ℕ A) (t : Target) → entries_of (insert_entry cmp es k t) ≡ with_entry (k.items, t) (entries_of es)
  inserted [] k t = refl
  inserted (e ∷ es) k t =
      placed (cmp k e.0) k t e es (insert_entry cmp es k t) (with_entry (k.items, t) (entries_of es)) (inserted es k t)
      ∙ ap (λ o. match_ordering o ((k.items, t) ∷ (e.0.items, e.1) ∷ entries_of es) ((e.0.items, t) ∷ entries_of es) ((e.0.items, e.1) ∷ with_entry (k.items, t) (entries_of es)))
      (by_items k e.0)

-- what a map has at a name
pub looked_up : {A : Type 0} (w : List ℕ) (compare : Vec ℕ A → Ordering) → ((v : Vec ℕ A) → compare v ≡ slice_cmp nat_cmp w v.items) → (es : List (Vec ℕ A × Target))
    → lookup (is_at compare) es ≡ lookup (bytes_eq w) (entries_of es)
looked_up w compare h [] = refl
looked_up w compare h (e ∷ es) =
    ap (λ o. cond (is_eq o) (Some e.1) (lookup (is_at compare) es)) (h e.0)
    ∙ ap (λ b. cond b (Some e.1) (lookup (is_at compare) es)) (is_eq-slice_cmp w e.0.items)
    ∙ ap (λ r. cond (bytes_eq w e.0.items) (Some e.1) r) (looked_up w compare h es)

below_view : {A : Type 0} (cmp : Vec ℕ A → Vec ℕ A → Ordering) → ((v w : Vec ℕ A) → cmp v w ≡ slice_cmp nat_cmp v.items w.items) → (k : Vec ℕ A) (es : List (Vec ℕ A × Target))
    → AllByRecursion (λ j. cmp k j ≡ Less) (keys_of es) → AllByRecursion (λ j. slice_cmp nat_cmp k.items j ≡ Less) (keys_of (entries_of es))
below_view cmp h k [] b = tt
below_view cmp h k (e ∷ es) b = (sym (h k e.0) ∙ b.0, below_view cmp h k es b.1)

-- the last of some names goes to its place
pub last_placed : {A : Type 0} (front : List (Vec ℕ A × Target)) (e : Vec ℕ A × Target) (es : List Entry)
    → entries_over (entries_of (front ++ e ∷ [])) es ≡ entries_over (entries_of front) (with_entry (e.0.items, e.1) es)
last_placed front e es =
    ap (λ l. entries_over l es) (map-append (λ x. (x.0.items, x.1)) front (e ∷ [])) ∙ over_append (entries_of front) ((e.0.items, e.1) ∷ []) es

-- the names that a map holds stand in order
pub in_order_view : {A : Type 0} (cmp : Vec ℕ A → Vec ℕ A → Ordering) → ((v w : Vec ℕ A) → cmp v w ≡ slice_cmp nat_cmp v.items w.items) → (es : List (Vec ℕ A × Target))
    → IsStrictlySortedBy cmp (keys_of es) → IsInOrder (entries_of es)
unfolding IsStrictlySortedBy
in_order_view cmp h [] s = tt
in_order_view cmp h (e ∷ es) s = (below_view cmp h e.0 es s.0, in_order_view cmp h es s.1)

-- a test of what names stand for
pub all_view : {A : Type 0} (p : Target → Bool) (es : List (Vec ℕ A × Target)) → list_all p (map (λ e. e.1) es) ≡ list_all (λ e. p e.1) (entries_of es)
all_view p [] = refl
all_view p (e ∷ es) = ap (λ b. p e.1 && b) (all_view p es)

pub texts_view : {A : Type 0} (es : List (Vec ℕ A × Target)) → map (λ text. text.items) (map (λ e. e.0) es) ≡ map (λ e. e.0) (entries_of es)
texts_view [] = refl
texts_view (e ∷ es) = ap (λ l. e.0.items ∷ l) (texts_view es)
