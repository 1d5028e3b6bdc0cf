-- The names of a file and then those of a head that it doesn't hide.
use Rattle.std.proofs.Common.{◌≡◌, ℕ, Bool, true, false, cond, not, List, [], ◌∷◌, refl, sym, ap, ◌∙◌, subst, Option, Some, None}
use Rattle.std.specs.Prelude.{bytes_eq, is_some}
use Rattle.std.specs.declared.cmp.Ordering.{Ordering}
use Rattle.std.specs.declared.cmp.Ordering.TheVariants.{Less, Equal, Greater}
use Rattle.std.specs.Ordering.{nat_cmp, match_ordering}
use Rattle.std.specs.Cmp.Lexicographic.{slice_cmp, nat_list_cmp_total}
use Rattle.std.specs.List.{filter, fold, AllByRecursion}
use Rattle.std.specs.List.Sorted.{IsStrictlySortedBy}
use Rattle.std.specs.Map.{lookup, keys_of}
use Rattle.std.specs.Option.{option_or}
use Rattle.std.specs.BTreeMap.{insert_entry}
use Rattle.std.proofs.lemmas.Slice.Eq.{bytes_eq-Decides}
use Rattle.uc_tree.specs.declared.target.Target.{Target}
use Rattle.uc_meaning.specs.Entries.{Entry, IsInOrder, with_entry, entries_over, unhidden}
use Rattle.uc_meaning.proofs.Inserted.{turned, tail_sorted, front, none_found, inserted_again, inserted_either, filter_inserted}
use Rattle.uc_meaning.proofs.Names.{same_name, at_name, in_order_over, over_nothing, lookup_over}

head_below : (e : Entry) (es : List Entry) → IsInOrder (e ∷ es) → AllByRecursion (λ j. slice_cmp nat_cmp e.0 j ≡ Less) (keys_of es)
unfolding IsStrictlySortedBy
head_below e es s = s.0

later : (e : Entry) (es : List Entry) → IsInOrder (e ∷ es) → IsInOrder es
later e es s = tail_sorted (slice_cmp nat_cmp) nat_list_cmp_total same_name e es s

-- whether a file has a name
abbrev has : List Entry → List ℕ → Bool
has own k = is_some (lookup (bytes_eq k) own)

-- ---- one name more in a head

-- two names that aren't one go to their places in either order
apart : (o : Ordering) (e p : Entry) (es : List Entry) → slice_cmp nat_cmp e.0 p.0 ≡ o → bytes_eq p.0 e.0 ≡ false → with_entry e (with_entry p es) ≡ with_entry p (with_entry e es)
apart Less e p es h n = inserted_either (slice_cmp nat_cmp) nat_list_cmp_total same_name es e.0 p.0 e.1 p.1 h
apart Equal e p es h n = let k : bytes_eq p.0 e.0 ≡ true = (bytes_eq-Decides p.0 e.0).1 (sym (same_name e.0 p.0 h)) in cc
apart Greater e p es h n =
    sym (inserted_either (slice_cmp nat_cmp) nat_list_cmp_total same_name es p.0 e.0 p.1 e.1 (turned (slice_cmp nat_cmp) nat_list_cmp_total same_name e.0 p.0 h))

-- a name of the file over one of the head
over_one : (b : Bool) (found : Option Target) (e p : Entry) (es : List Entry) → bytes_eq p.0 e.0 ≡ b
    → with_entry e (cond (is_some found) es (with_entry p es)) ≡ cond (is_some (cond b (Some e.1) found)) (with_entry e es) (with_entry p (with_entry e es))
over_one true (Some t) e p es h = refl
over_one true None e p es h =
    ap (λ k. with_entry e (insert_entry (slice_cmp nat_cmp) es k p.1)) ((bytes_eq-Decides p.0 e.0).0 h)
    ∙ inserted_again (slice_cmp nat_cmp) nat_list_cmp_total same_name es e.0 p.1 e.1
over_one false (Some t) e p es h = refl
over_one false None e p es h = apart (slice_cmp nat_cmp e.0 p.0) e p es refl h

-- the first name of a head goes to its place unless the file has it
over_more : (own head : List Entry) (p : Entry) → IsInOrder (p ∷ head)
    → entries_over own (p ∷ head) ≡ cond (has own p.0) (entries_over own head) (with_entry p (entries_over own head))
over_more [] head p s = sym (front (slice_cmp nat_cmp) nat_list_cmp_total same_name head p.0 p.1 (head_below p head s))
over_more (e ∷ own) head p s =
    ap (with_entry e) (over_more own head p s) ∙ over_one (bytes_eq p.0 e.0) (lookup (bytes_eq p.0) own) e p (entries_over own head) refl

-- ---- names that aren't there

missing_first : (b : Bool) (t : Target) (r : Option Target) → cond b (Some t) r ≡ None → (b ≡ false) × (r ≡ None)
missing_first true t r h = absurd (cc)
missing_first false t r h = (refl, h)

missing_kept : (c b : Bool) (w : List ℕ) (e : Entry) (es : List Entry) → bytes_eq w e.0 ≡ b → b ≡ false → lookup (bytes_eq w) es ≡ None
    → lookup (bytes_eq w) (cond c (e ∷ es) es) ≡ None
missing_kept true b w e es h n m = ap (λ a. cond a (Some e.1) (lookup (bytes_eq w) es)) (h ∙ n) ∙ m
missing_kept false b w e es h n m = m

-- what isn't there isn't among those of a sort
missing_filtered : (q : List ℕ → Bool) (w : List ℕ) (es : List Entry) → lookup (bytes_eq w) es ≡ None → lookup (bytes_eq w) (filter (λ e. q e.0) es) ≡ None
missing_filtered q w [] m = refl
missing_filtered q w (e ∷ es) m =
    let parts = missing_first (bytes_eq w e.0) e.1 (lookup (bytes_eq w) es) m in
    missing_kept (q e.0) (bytes_eq w e.0) w e (filter (λ e. q e.0) es) refl parts.0 (missing_filtered q w es parts.1)

-- the first name of a head isn't behind it
missing_behind : (own head : List Entry) (p : Entry) → IsInOrder (p ∷ head) → lookup (bytes_eq p.0) own ≡ None → lookup (bytes_eq p.0) (entries_over own head) ≡ None
missing_behind own head p s m =
    lookup_over p.0 own head ∙ ap (λ r. option_or r (lookup (bytes_eq p.0) head)) m
    ∙ subst (λ t. lookup t head ≡ None) (at_name p.0) (none_found (slice_cmp nat_cmp) nat_list_cmp_total same_name p.0 head (head_below p head s))

-- ---- walks in which the order doesn't count

module _ {M : Type 0} (step : Target → M → M) (swap : (t u : Target) (m : M) → step t (step u m) ≡ step u (step t m)) where
  abbrev walked : M → List Entry → M
  walked m es = fold (λ n e. step e.1 n) m es

  step_before : (t : Target) (m : M) (es : List Entry) → walked (step t m) es ≡ step t (walked m es)
  step_before t m [] = refl
  step_before t m (e ∷ es) = ap (λ n. walked n es) (swap e.1 t m) ∙ step_before t (step e.1 m) es

  walk_placed : (o : Ordering) (m : M) (e f : Entry) (es : List Entry) → slice_cmp nat_cmp e.0 f.0 ≡ o → bytes_eq e.0 f.0 ≡ false
      → ((n : M) → walked n (with_entry e es) ≡ walked (step e.1 n) es)
      → walked m (match_ordering o ((e.0, e.1) ∷ f ∷ es) ((f.0, e.1) ∷ es) (f ∷ with_entry e es)) ≡ walked (step e.1 m) (f ∷ es)
  walk_placed Less m e f es h n t = refl
  walk_placed Equal m e f es h n t = let k : bytes_eq e.0 f.0 ≡ true = (bytes_eq-Decides e.0 f.0).1 (same_name e.0 f.0 h) in cc
  walk_placed Greater m e f es h n t = t (step f.1 m) ∙ ap (λ k. walked k es) (swap e.1 f.1 m)

  -- a new name may come first
  walk_with : (m : M) (e : Entry) (es : List Entry) → lookup (bytes_eq e.0) es ≡ None → walked m (with_entry e es) ≡ walked (step e.1 m) es
  walk_with m e [] h = refl
  walk_with m e (f ∷ es) h =
      let parts = missing_first (bytes_eq e.0 f.0) f.1 (lookup (bytes_eq e.0) es) h in
      walk_placed (slice_cmp nat_cmp e.0 f.0) m e f es refl parts.0 (λ n. walk_with n e es parts.1)

  module _ (q : List ℕ → Bool) where
    abbrev kept : List Entry → List Entry
    kept es = filter (λ e. q e.0) es

    kept_more : (b : Bool) (m : M) (p : Entry) (own head es rest : List Entry) → lookup (bytes_eq p.0) es ≡ None
        → ((n : M) → walked n (kept es) ≡ walked (walked n (kept own)) rest)
        → walked m (cond b (with_entry p (kept es)) (kept es)) ≡ walked (walked m (kept own)) (cond b (p ∷ rest) rest)
    kept_more true m p own head es rest fresh t =
        walk_with m p (kept es) (missing_filtered q p.0 es fresh) ∙ t (step p.1 m) ∙ ap (λ n. walked n rest) (step_before p.1 m (kept own))
    kept_more false m p own head es rest fresh t = t m

    over_first : (found : Option Target) (m : M) (p : Entry) (own head : List Entry) → lookup (bytes_eq p.0) own ≡ found → IsInOrder own → IsInOrder (p ∷ head)
        → ((n : M) → walked n (kept (entries_over own head)) ≡ walked (walked n (kept own)) (kept (unhidden own head)))
        → walked m (kept (cond (is_some found) (entries_over own head) (with_entry p (entries_over own head))))
        ≡ walked (walked m (kept own)) (kept (cond (not (is_some found)) (p ∷ unhidden own head) (unhidden own head)))
    over_first (Some t) m p own head h r s w = w m
    over_first None m p own head h r s w =
        ap (walked m) (filter_inserted (slice_cmp nat_cmp) nat_list_cmp_total same_name q (entries_over own head) p.0 p.1 (in_order_over own head (later p head s)))
        ∙ kept_more (q p.0) m p own head (entries_over own head) (kept (unhidden own head)) (missing_behind own head p s h) w

    -- those of a sort: those of the file, and then those of the head that it doesn't hide
    pub walk_over : (m : M) (own head : List Entry) → IsInOrder own → IsInOrder head
        → walked m (kept (entries_over own head)) ≡ walked (walked m (kept own)) (kept (unhidden own head))
    walk_over m own [] r s = ap (λ es. walked m (kept es)) (over_nothing own r)
    walk_over m own (p ∷ head) r s =
        ap (λ es. walked m (kept es)) (over_more own head p s)
        ∙ over_first (lookup (bytes_eq p.0) own) m p own head refl r s (λ n. walk_over n own head r (later p head s))
