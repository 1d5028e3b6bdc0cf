-- Entries in the order of their keys, with one more.
use Rattle.std.proofs.Common.{◌≡◌, Bool, true, false, cond, ◌||◌, List, [], ◌∷◌, refl, sym, ap, ◌∙◌, subst, Option, Some, None}
use Rattle.std.specs.declared.cmp.Ordering.{Ordering}
use Rattle.std.specs.declared.cmp.Ordering.TheVariants.{Less, Equal, Greater}
use Rattle.std.specs.Ordering.{is_eq, match_ordering, ordering_reverse}
use Rattle.std.specs.Cmp.{IsTotalOrder}
use Rattle.std.specs.List.{filter, AllByRecursion}
use Rattle.std.specs.List.Sorted.{IsStrictlySortedBy}
use Rattle.std.specs.Map.{lookup, keys_of}
use Rattle.std.specs.BTreeMap.{insert_entry, is_at}
use Rattle.std.proofs.lemmas.Cmp.{tied_itself}

-- an entry at a key where a look-up found a value
abbrev pub put_found : {K X : Type 0} → (K → K → Ordering) → K → Option X → List (K × X) → List (K × X)
put_found R k None es = es
put_found R k (Some v) es = insert_entry R es k v

-- the entry that a look-up found
abbrev pub found_entry : {K X : Type 0} → K → Option X → List (K × X)
found_entry k None = []
found_entry k (Some v) = (k, v) ∷ []

equal_is : (o : Ordering) → is_eq o ≡ true → o ≡ Equal
equal_is Less e = cc
equal_is Equal e = refl
equal_is Greater e = cc

module _ {K : Type 0} (R : K → K → Ordering) (order : IsTotalOrder R) (same : (j k : K) → R j k ≡ Equal → j ≡ k) where
  pub turned : (j k : K) → R j k ≡ Greater → R k j ≡ Less
  turned j k h = order.antisymm k j ∙ ap ordering_reverse h

  -- a key isn't two at once
  one_key : (q k j : K) → is_at (R q) j ≡ true → is_at (R q) k ≡ true → R k j ≡ Equal
  one_key q k j a b =
      let e : q ≡ j = same q j (equal_is (R q j) a) in
      let f : q ≡ k = same q k (equal_is (R q k) b) in
      subst (λ i. R i j ≡ Equal) f (subst (λ i. R q i ≡ Equal) e (tied_itself order q))

module _ {K X : Type 0} (R : K → K → Ordering) (order : IsTotalOrder R) (same : (j k : K) → R j k ≡ Equal → j ≡ k) where
  abbrev IsBelow : K → List (K × X) → Type 0
  IsBelow k es = AllByRecursion (λ j. R k j ≡ Less) (keys_of es)

  abbrev IsSorted : List (K × X) → Type 0
  IsSorted es = IsStrictlySortedBy R (keys_of es)

  head_below : (e : K × X) (es : List (K × X)) → IsSorted (e ∷ es) → IsBelow e.0 es
  unfolding IsStrictlySortedBy
  head_below e es s = s.0

  pub tail_sorted : (e : K × X) (es : List (K × X)) → IsSorted (e ∷ es) → IsSorted es
  unfolding IsStrictlySortedBy
  tail_sorted e es s = s.1

  pub both_sorted : (e : K × X) (es : List (K × X)) → IsBelow e.0 es → IsSorted es → IsSorted (e ∷ es)
  unfolding IsStrictlySortedBy
  both_sorted e es b s = (b, s)

  below_below : (j k : K) (es : List (K × X)) → R j k ≡ Less → IsBelow k es → IsBelow j es
  below_below j k [] h b = tt
  below_below j k (e ∷ es) h b = (order.trans j k e.0 h b.0, below_below j k es h b.1)

  -- an entry before all others
  pub front : (es : List (K × X)) (k : K) (v : X) → IsBelow k es → insert_entry R es k v ≡ (k, v) ∷ es
  front [] k v b = refl
  front (e ∷ es) k v b = ap (λ o. match_ordering o ((k, v) ∷ e ∷ es) ((e.0, v) ∷ es) (e ∷ insert_entry R es k v)) b.0

  below_kept : (c : Bool) (k : K) (e : K × X) (es : List (K × X)) → R k e.0 ≡ Less → IsBelow k es → IsBelow k (cond c (e ∷ es) es)
  below_kept true k e es h b = (h, b)
  below_kept false k e es h b = b

  below_filtered : (q : K → Bool) (k : K) (es : List (K × X)) → IsBelow k es → IsBelow k (filter (λ e. q e.0) es)
  below_filtered q k [] b = tt
  below_filtered q k (e ∷ es) b = below_kept (q e.0) k e (filter (λ e. q e.0) es) b.0 (below_filtered q k es b.1)

  below_placed : (o : Ordering) (j k : K) (v : X) (e : K × X) (es fs : List (K × X)) → R j k ≡ Less → IsBelow j (e ∷ es) → IsBelow j fs
      → IsBelow j (match_ordering o ((k, v) ∷ e ∷ es) ((e.0, v) ∷ es) (e ∷ fs))
  below_placed Less j k v e es fs h b c = (h, b)
  below_placed Equal j k v e es fs h b c = (b.0, b.1)
  below_placed Greater j k v e es fs h b c = (b.0, c)

  below_inserted : (j k : K) (v : X) (es : List (K × X)) → R j k ≡ Less → IsBelow j es → IsBelow j (insert_entry R es k v)
  below_inserted j k v [] h b = (h, tt)
  below_inserted j k v (e ∷ es) h b = below_placed (R k e.0) j k v e es (insert_entry R es k v) h b (below_inserted j k v es h b.1)

  sorted_placed : (o : Ordering) (k : K) (v : X) (e : K × X) (es : List (K × X)) → R k e.0 ≡ o → IsSorted (e ∷ es) → IsSorted (insert_entry R es k v)
      → IsSorted (match_ordering o ((k, v) ∷ e ∷ es) ((e.0, v) ∷ es) (e ∷ insert_entry R es k v))
  sorted_placed Less k v e es h s t = both_sorted (k, v) (e ∷ es) (h, below_below k e.0 es h (head_below e es s)) s
  sorted_placed Equal k v e es h s t = both_sorted (e.0, v) es (head_below e es s) (tail_sorted e es s)
  sorted_placed Greater k v e es h s t = both_sorted e (insert_entry R es k v) (below_inserted e.0 k v es (turned R order same k e.0 h) (head_below e es s)) t

  -- entries with one more stand in order
  pub sorted_inserted : (es : List (K × X)) (k : K) (v : X) → IsSorted es → IsSorted (insert_entry R es k v)
  sorted_inserted [] k v s = both_sorted (k, v) [] tt s
  sorted_inserted (e ∷ es) k v s = sorted_placed (R k e.0) k v e es refl s (sorted_inserted es k v (tail_sorted e es s))

  chosen : (a b : Bool) (u v : Option X) (r : Option X) → (a ≡ true → b ≡ true → ⊥) → cond a u (cond b v r) ≡ cond b v (cond a u r)
  chosen true true u v r n = absurd (n refl refl)
  chosen true false u v r n = refl
  chosen false true u v r n = refl
  chosen false false u v r n = refl

  hidden_again : (b : Bool) (u v r : Option X) → cond b u r ≡ cond b u (cond b v r)
  hidden_again true u v r = refl
  hidden_again false u v r = refl

  lookup_placed : (o : Ordering) (q k : K) (v : X) (e : K × X) (es : List (K × X)) → R k e.0 ≡ o
      → lookup (is_at (R q)) (insert_entry R es k v) ≡ cond (is_at (R q) k) (Some v) (lookup (is_at (R q)) es)
      → lookup (is_at (R q)) (match_ordering o ((k, v) ∷ e ∷ es) ((e.0, v) ∷ es) (e ∷ insert_entry R es k v))
      ≡ cond (is_at (R q) k) (Some v) (cond (is_at (R q) e.0) (Some e.1) (lookup (is_at (R q)) es))
  lookup_placed Less q k v e es h t = refl
  lookup_placed Equal q k v e es h t =
      ap (λ j. cond (is_at (R q) j) (Some v) (lookup (is_at (R q)) es)) (sym (same k e.0 h)) ∙ hidden_again (is_at (R q) k) (Some v) (Some e.1) (lookup (is_at (R q)) es)
      ∙ ap (λ j. cond (is_at (R q) k) (Some v) (cond (is_at (R q) j) (Some e.1) (lookup (is_at (R q)) es))) (same k e.0 h)
  lookup_placed Greater q k v e es h t =
      ap (λ r. cond (is_at (R q) e.0) (Some e.1) r) t
      ∙ chosen (is_at (R q) e.0) (is_at (R q) k) (Some e.1) (Some v) (lookup (is_at (R q)) es) (λ a b. let f = one_key R order same q k e.0 a b in cc)

  -- what is found among entries with one more
  pub lookup_inserted : (q k : K) (v : X) (es : List (K × X)) → lookup (is_at (R q)) (insert_entry R es k v) ≡ cond (is_at (R q) k) (Some v) (lookup (is_at (R q)) es)
  lookup_inserted q k v [] = refl
  lookup_inserted q k v (e ∷ es) = lookup_placed (R k e.0) q k v e es refl (lookup_inserted q k v es)

  passed_first : (c : Bool) (k : K) (v : X) (es : List (K × X)) → IsBelow k es → cond c ((k, v) ∷ es) es ≡ cond c (insert_entry R es k v) es
  passed_first true k v es b = sym (front es k v b)
  passed_first false k v es b = refl

  at_kept : (a : Bool) (k : K) (v : X) (e : K × X) (es : List (K × X)) → R k e.0 ≡ Equal
      → cond a ((e.0, v) ∷ es) es ≡ cond a (insert_entry R (cond a (e ∷ es) es) k v) (cond a (e ∷ es) es)
  at_kept true k v e es h = sym (ap (λ o. match_ordering o ((k, v) ∷ e ∷ es) ((e.0, v) ∷ es) (e ∷ insert_entry R es k v)) h)
  at_kept false k v e es h = refl

  behind_kept : (a c : Bool) (k : K) (v : X) (e : K × X) (es : List (K × X)) → R k e.0 ≡ Greater
      → cond a (e ∷ cond c (insert_entry R es k v) es) (cond c (insert_entry R es k v) es) ≡ cond c (insert_entry R (cond a (e ∷ es) es) k v) (cond a (e ∷ es) es)
  behind_kept true true k v e es h = sym (ap (λ o. match_ordering o ((k, v) ∷ e ∷ es) ((e.0, v) ∷ es) (e ∷ insert_entry R es k v)) h)
  behind_kept true false k v e es h = refl
  behind_kept false true k v e es h = refl
  behind_kept false false k v e es h = refl

  module _ (q : K → Bool) where
    abbrev kept : List (K × X) → List (K × X)
    kept es = filter (λ e. q e.0) es

    filter_placed : (o : Ordering) (k : K) (v : X) (e : K × X) (es : List (K × X)) → R k e.0 ≡ o → IsSorted (e ∷ es)
        → kept (insert_entry R es k v) ≡ cond (q k) (insert_entry R (kept es) k v) (kept es)
        → kept (match_ordering o ((k, v) ∷ e ∷ es) ((e.0, v) ∷ es) (e ∷ insert_entry R es k v)) ≡ cond (q k) (insert_entry R (kept (e ∷ es)) k v) (kept (e ∷ es))
    filter_placed Less k v e es h s t = passed_first (q k) k v (kept (e ∷ es)) (below_filtered q k (e ∷ es) (h, below_below k e.0 es h (head_below e es s)))
    filter_placed Equal k v e es h s t =
        at_kept (q e.0) k v e (kept es) h ∙ ap (λ j. cond (q j) (insert_entry R (kept (e ∷ es)) k v) (kept (e ∷ es))) (sym (same k e.0 h))
    filter_placed Greater k v e es h s t = ap (λ fs. cond (q e.0) (e ∷ fs) fs) t ∙ behind_kept (q e.0) (q k) k v e (kept es) h

    -- those of a sort among entries with one more
    pub filter_inserted : (es : List (K × X)) (k : K) (v : X) → IsSorted es → kept (insert_entry R es k v) ≡ cond (q k) (insert_entry R (kept es) k v) (kept es)
    filter_inserted [] k v s = refl
    filter_inserted (e ∷ es) k v s = filter_placed (R k e.0) k v e es refl s (filter_inserted es k v (tail_sorted e es s))

  none_below : (k : K) (es : List (K × X)) → IsBelow k es → filter (λ e. is_at (R k) e.0) es ≡ []
  none_below k [] b = refl
  none_below k (e ∷ es) b = ap (λ o. cond (is_eq o) (e ∷ filter (λ e. is_at (R k) e.0) es) (filter (λ e. is_at (R k) e.0) es)) b.0 ∙ none_below k es b.1

  pub none_found : (k : K) (es : List (K × X)) → IsBelow k es → lookup (is_at (R k)) es ≡ None
  none_found k [] b = refl
  none_found k (e ∷ es) b = ap (λ o. cond (is_eq o) (Some e.1) (lookup (is_at (R k)) es)) b.0 ∙ none_found k es b.1

  filter_found : (c : Bool) (k : K) (e : K × X) (es : List (K × X)) → is_at (R k) e.0 ≡ c → IsSorted (e ∷ es)
      → filter (λ e. is_at (R k) e.0) es ≡ found_entry k (lookup (is_at (R k)) es)
      → cond c (e ∷ filter (λ e. is_at (R k) e.0) es) (filter (λ e. is_at (R k) e.0) es) ≡ found_entry k (cond c (Some e.1) (lookup (is_at (R k)) es))
  filter_found true k e es h s t =
      let f : k ≡ e.0 = same k e.0 (equal_is (R k e.0) h) in
      ap (λ fs. e ∷ fs) (none_below k es (subst (λ j. IsBelow j es) (sym f) (head_below e es s))) ∙ ap (λ j. (j, e.1) ∷ []) (sym f)
  filter_found false k e es h s t = t

  -- a look-up finds the one entry at its key
  pub filter_at : (k : K) (es : List (K × X)) → IsSorted es → filter (λ e. is_at (R k) e.0) es ≡ found_entry k (lookup (is_at (R k)) es)
  filter_at k [] s = refl
  filter_at k (e ∷ es) s = filter_found (is_at (R k) e.0) k e es refl s (filter_at k es (tail_sorted e es s))

  or_none : (q : K → Bool) (k : K) (es : List (K × X)) → IsBelow k es → filter (λ e. is_at (R k) e.0 || q e.0) es ≡ filter (λ e. q e.0) es
  or_none q k [] b = refl
  or_none q k (e ∷ es) b =
      ap (λ o. cond (is_eq o || q e.0) (e ∷ filter (λ f. is_at (R k) f.0 || q f.0) es) (filter (λ f. is_at (R k) f.0 || q f.0) es)) b.0
      ∙ ap (λ fs. cond (q e.0) (e ∷ fs) fs) (or_none q k es b.1)

  put_at : (a : Bool) (k : K) (e : K × X) (es : List (K × X)) → k ≡ e.0 → IsBelow e.0 es → e ∷ es ≡ insert_entry R (cond a (e ∷ es) es) k e.1
  put_at true k e es f b =
      sym (ap (λ j. insert_entry R (e ∷ es) j e.1) f ∙ ap (λ o. match_ordering o ((e.0, e.1) ∷ e ∷ es) ((e.0, e.1) ∷ es) (e ∷ insert_entry R es e.0 e.1)) (tied_itself order e.0))
  put_at false k e es f b = sym (ap (λ j. insert_entry R es j e.1) f ∙ front es e.0 e.1 b)

  put_behind : (a : Bool) (r : Option X) (k : K) (e : K × X) (es : List (K × X)) → R k e.0 ≡ Greater
      → cond a (e ∷ put_found R k r es) (put_found R k r es) ≡ put_found R k r (cond a (e ∷ es) es)
  put_behind a None k e es h = refl
  put_behind true (Some v) k e es h = sym (ap (λ o. match_ordering o ((k, v) ∷ e ∷ es) ((e.0, v) ∷ es) (e ∷ insert_entry R es k v)) h)
  put_behind false (Some v) k e es h = refl

  or_placed : (o : Ordering) (q : K → Bool) (k : K) (e : K × X) (es : List (K × X)) → R k e.0 ≡ o → IsSorted (e ∷ es)
      → filter (λ e. is_at (R k) e.0 || q e.0) es ≡ put_found R k (lookup (is_at (R k)) es) (filter (λ e. q e.0) es)
      → cond (is_eq o || q e.0) (e ∷ filter (λ e. is_at (R k) e.0 || q e.0) es) (filter (λ e. is_at (R k) e.0 || q e.0) es)
      ≡ put_found R k (cond (is_eq o) (Some e.1) (lookup (is_at (R k)) es)) (cond (q e.0) (e ∷ filter (λ e. q e.0) es) (filter (λ e. q e.0) es))
  or_placed Less q k e es h s t =
      let b : IsBelow k es = below_below k e.0 es h (head_below e es s) in
      ap (λ fs. cond (q e.0) (e ∷ fs) fs) (or_none q k es b) ∙ sym (ap (λ r. put_found R k r (cond (q e.0) (e ∷ filter (λ e. q e.0) es) (filter (λ e. q e.0) es))) (none_found k es b))
  or_placed Equal q k e es h s t =
      let f : k ≡ e.0 = same k e.0 h in
      let b : IsBelow k es = subst (λ j. IsBelow j es) (sym f) (head_below e es s) in
      ap (λ fs. e ∷ fs) (or_none q k es b) ∙ put_at (q e.0) k e (filter (λ e. q e.0) es) f (below_filtered q e.0 es (head_below e es s))
  or_placed Greater q k e es h s t = ap (λ fs. cond (q e.0) (e ∷ fs) fs) t ∙ put_behind (q e.0) (lookup (is_at (R k)) es) k e (filter (λ e. q e.0) es) h

  -- those at a key or of a sort: what is found at the key among those of the sort
  pub filter_or : (q : K → Bool) (k : K) (es : List (K × X)) → IsSorted es
      → filter (λ e. is_at (R k) e.0 || q e.0) es ≡ put_found R k (lookup (is_at (R k)) es) (filter (λ e. q e.0) es)
  filter_or q k [] s = refl
  filter_or q k (e ∷ es) s = or_placed (R k e.0) q k e es refl s (filter_or q k es (tail_sorted e es s))

  before : (k : K) (v : X) (e : K × X) (es : List (K × X)) → R k e.0 ≡ Less → insert_entry R (e ∷ es) k v ≡ (k, v) ∷ e ∷ es
  before k v e es h = ap (λ o. match_ordering o ((k, v) ∷ e ∷ es) ((e.0, v) ∷ es) (e ∷ insert_entry R es k v)) h

  at : (k : K) (v : X) (e : K × X) (es : List (K × X)) → R k e.0 ≡ Equal → insert_entry R (e ∷ es) k v ≡ (e.0, v) ∷ es
  at k v e es h = ap (λ o. match_ordering o ((k, v) ∷ e ∷ es) ((e.0, v) ∷ es) (e ∷ insert_entry R es k v)) h

  behind : (k : K) (v : X) (e : K × X) (es : List (K × X)) → R k e.0 ≡ Greater → insert_entry R (e ∷ es) k v ≡ e ∷ insert_entry R es k v
  behind k v e es h = ap (λ o. match_ordering o ((k, v) ∷ e ∷ es) ((e.0, v) ∷ es) (e ∷ insert_entry R es k v)) h

  over_placed : (o : Ordering) (k : K) (u v : X) (e : K × X) (es : List (K × X)) → R k e.0 ≡ o
      → insert_entry R (insert_entry R es k u) k v ≡ insert_entry R es k v
      → insert_entry R (match_ordering o ((k, u) ∷ e ∷ es) ((e.0, u) ∷ es) (e ∷ insert_entry R es k u)) k v
      ≡ match_ordering o ((k, v) ∷ e ∷ es) ((e.0, v) ∷ es) (e ∷ insert_entry R es k v)
  over_placed Less k u v e es h t = at k v (k, u) (e ∷ es) (tied_itself order k)
  over_placed Equal k u v e es h t = at k v (e.0, u) es h
  over_placed Greater k u v e es h t = behind k v e (insert_entry R es k u) h ∙ ap (λ fs. e ∷ fs) t

  -- the later of two values at one key
  pub inserted_again : (es : List (K × X)) (k : K) (u v : X) → insert_entry R (insert_entry R es k u) k v ≡ insert_entry R es k v
  inserted_again [] k u v = at k v (k, u) [] (tied_itself order k)
  inserted_again (e ∷ es) k u v = over_placed (R k e.0) k u v e es refl (inserted_again es k u v)

  -- where an entry before another goes
  two_placed : (a b : Ordering) (j k : K) (u v : X) (e : K × X) (es : List (K × X)) → R j k ≡ Less → R k e.0 ≡ a → R j e.0 ≡ b
      → insert_entry R (insert_entry R es k v) j u ≡ insert_entry R (insert_entry R es j u) k v
      → insert_entry R (match_ordering a ((k, v) ∷ e ∷ es) ((e.0, v) ∷ es) (e ∷ insert_entry R es k v)) j u
      ≡ insert_entry R (match_ordering b ((j, u) ∷ e ∷ es) ((e.0, u) ∷ es) (e ∷ insert_entry R es j u)) k v
  two_placed Less Less j k u v e es l h i t =
      before j u (k, v) (e ∷ es) l ∙ sym (behind k v (j, u) (e ∷ es) (order.antisymm k j ∙ ap ordering_reverse l) ∙ ap (λ fs. (j, u) ∷ fs) (before k v e es h))
  two_placed Less Equal j k u v e es l h i t = let f : R j e.0 ≡ Less = order.trans j k e.0 l h in cc
  two_placed Less Greater j k u v e es l h i t = let f : R j e.0 ≡ Less = order.trans j k e.0 l h in cc
  two_placed Equal Less j k u v e es l h i t =
      before j u (e.0, v) es i ∙ sym (behind k v (j, u) (e ∷ es) (order.antisymm k j ∙ ap ordering_reverse l) ∙ ap (λ fs. (j, u) ∷ fs) (at k v e es h))
  two_placed Equal Equal j k u v e es l h i t = let f : R j e.0 ≡ Less = subst (λ m. R j m ≡ Less) (same k e.0 h) l in cc
  two_placed Equal Greater j k u v e es l h i t = let f : R j e.0 ≡ Less = subst (λ m. R j m ≡ Less) (same k e.0 h) l in cc
  two_placed Greater Less j k u v e es l h i t =
      before j u e (insert_entry R es k v) i ∙ sym (behind k v (j, u) (e ∷ es) (order.antisymm k j ∙ ap ordering_reverse l) ∙ ap (λ fs. (j, u) ∷ fs) (behind k v e es h))
  two_placed Greater Equal j k u v e es l h i t = at j u e (insert_entry R es k v) i ∙ sym (behind k v (e.0, u) es h)
  two_placed Greater Greater j k u v e es l h i t = behind j u e (insert_entry R es k v) i ∙ ap (λ fs. e ∷ fs) t ∙ sym (behind k v e (insert_entry R es j u) h)

  -- two entries go to their places in either order
  pub inserted_either : (es : List (K × X)) (j k : K) (u v : X) → R j k ≡ Less → insert_entry R (insert_entry R es k v) j u ≡ insert_entry R (insert_entry R es j u) k v
  inserted_either [] j k u v l = before j u (k, v) [] l ∙ sym (behind k v (j, u) [] (order.antisymm k j ∙ ap ordering_reverse l))
  inserted_either (e ∷ es) j k u v l = two_placed (R k e.0) (R j e.0) j k u v e es l refl refl (inserted_either es j k u v l)
