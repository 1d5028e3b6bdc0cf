-- The names of a file over those of a head.
use Rattle.std.proofs.Common.{◌≡◌, ℕ, Bool, true, false, cond, List, [], ◌∷◌, ◌++◌, refl, sym, ap, ◌∙◌, subst, Option, Some, None}
use Rattle.std.specs.Prelude.{bytes_eq, nat_eq}
use Rattle.std.specs.declared.cmp.Ordering.{Ordering}
use Rattle.std.specs.declared.cmp.Ordering.TheVariants.{Less, Equal, Greater}
use Rattle.std.specs.Ordering.{nat_cmp, is_eq, match_ordering}
use Rattle.std.specs.Cmp.Lexicographic.{slice_cmp, pointwise, nat_list_cmp_total}
use Rattle.std.specs.List.{filter, AllByRecursion}
use Rattle.std.specs.List.Sorted.{IsStrictlySortedBy}
use Rattle.std.specs.Map.{lookup, keys_of}
use Rattle.std.specs.BTreeMap.{insert_entry, is_at}
use Rattle.std.specs.Option.{option_or, option_map}
use Rattle.std.proofs.lemmas.Map.Text.{is_eq-slice_cmp}
use Rattle.std.proofs.lemmas.Slice.Eq.{bytes_eq-Decides}
use Rattle.uc_base.specs.Name.{IsName}
use Rattle.uc_base.specs.declared.reference.Ref.{Ref}
use Rattle.uc_tree.specs.Lookups.{Pairs, pair_order}
use Rattle.uc_tree.specs.declared.target.Target.{Target}
use Rattle.uc_tree.specs.declared.target.Target.TheVariants.{Stored}
use Rattle.uc_meaning.specs.Entries.{Entry, IsInOrder, with_entry, head_entries, entries_over}
use Rattle.uc_meaning.specs.HeadNames.{AreNames}
use Rattle.uc_meaning.specs.Candidates.{named}
use Rattle.uc_meaning.proofs.Inserted.{found_entry, front, turned, tail_sorted, sorted_inserted, lookup_inserted, none_found, filter_inserted, filter_at, inserted_again, inserted_either}

pub same_name : (j k : List ℕ) → slice_cmp nat_cmp j k ≡ Equal → j ≡ k
same_name j k e = (bytes_eq-Decides j k).0 (sym (is_eq-slice_cmp j k) ∙ ap is_eq e)

-- the test of a map is that of a list
pub at_name : (w : List ℕ) → is_at (slice_cmp nat_cmp w) ≡ bytes_eq w
at_name w = λ i k. is_eq-slice_cmp w k i

-- ---- a file over a head

pub in_order_over : (own head : List Entry) → IsInOrder head → IsInOrder (entries_over own head)
in_order_over [] head s = s
in_order_over (e ∷ own) head s = sorted_inserted (slice_cmp nat_cmp) nat_list_cmp_total same_name (entries_over own head) e.0 e.1 (in_order_over own head s)

over_placed : (o : Ordering) (e f : Entry) (own head : List Entry) → slice_cmp nat_cmp e.0 f.0 ≡ o → entries_over (with_entry e own) head ≡ with_entry e (entries_over own head)
    → entries_over (match_ordering o ((e.0, e.1) ∷ f ∷ own) ((f.0, e.1) ∷ own) (f ∷ with_entry e own)) head ≡ with_entry e (with_entry f (entries_over own head))
over_placed Less e f own head h t = refl
over_placed Equal e f own head h t =
    sym (ap (λ k. insert_entry (slice_cmp nat_cmp) (with_entry f (entries_over own head)) k e.1) (same_name e.0 f.0 h)
    ∙ inserted_again (slice_cmp nat_cmp) nat_list_cmp_total same_name (entries_over own head) f.0 f.1 e.1)
over_placed Greater e f own head h t =
    ap (with_entry f) t
    ∙ inserted_either (slice_cmp nat_cmp) nat_list_cmp_total same_name (entries_over own head) f.0 e.0 f.1 e.1 (turned (slice_cmp nat_cmp) nat_list_cmp_total same_name e.0 f.0 h)

pub over_with : (e : Entry) (own head : List Entry) → entries_over (with_entry e own) head ≡ with_entry e (entries_over own head)
over_with e [] head = refl
over_with e (f ∷ own) head = over_placed (slice_cmp nat_cmp e.0 f.0) e f own head refl (over_with e own head)

-- names in order over a head
pub over_over : (own head : List Entry) → entries_over (entries_over own []) head ≡ entries_over own head
over_over [] head = refl
over_over (e ∷ own) head = over_with e (entries_over own []) head ∙ ap (with_entry e) (over_over own head)

pub over_append : (xs ys head : List Entry) → entries_over (xs ++ ys) head ≡ entries_over xs (entries_over ys head)
over_append [] ys head = refl
over_append (x ∷ xs) ys head = ap (with_entry x) (over_append xs ys head)

head_below : (e : Entry) (es : List Entry) → IsInOrder (e ∷ es) → AllByRecursion (λ j. slice_cmp nat_cmp e.0 j ≡ Less) (keys_of es)
unfolding IsStrictlySortedBy
head_below e es s = s.0

-- names that stand in order already
pub over_nothing : (es : List Entry) → IsInOrder es → entries_over es [] ≡ es
over_nothing [] s = refl
over_nothing (e ∷ es) s =
    ap (with_entry e) (over_nothing es (tail_sorted (slice_cmp nat_cmp) nat_list_cmp_total same_name e es s))
    ∙ front (slice_cmp nat_cmp) nat_list_cmp_total same_name es e.0 e.1 (head_below e es s)

first_kept : (c : Bool) (e : Entry) (own head : List Entry) → cond c (with_entry e (entries_over own head)) (entries_over own head) ≡ entries_over (cond c (e ∷ own) own) head
first_kept true e own head = refl
first_kept false e own head = refl

-- those of a sort of names
pub filter_over : (q : List ℕ → Bool) (own head : List Entry) → IsInOrder head
    → filter (λ e. q e.0) (entries_over own head) ≡ entries_over (filter (λ e. q e.0) own) (filter (λ e. q e.0) head)
filter_over q [] head s = refl
filter_over q (e ∷ own) head s =
    filter_inserted (slice_cmp nat_cmp) nat_list_cmp_total same_name q (entries_over own head) e.0 e.1 (in_order_over own head s)
    ∙ ap (λ es. cond (q e.0) (with_entry e es) es) (filter_over q own head s)
    ∙ first_kept (q e.0) e (filter (λ e. q e.0) own) (filter (λ e. q e.0) head)

below_kept : (c : Bool) (k : List ℕ) (e : Entry) (es : List Entry) → slice_cmp nat_cmp k e.0 ≡ Less → AllByRecursion (λ j. slice_cmp nat_cmp k j ≡ Less) (keys_of es)
    → AllByRecursion (λ j. slice_cmp nat_cmp k j ≡ Less) (keys_of (cond c (e ∷ es) es))
below_kept true k e es h b = (h, b)
below_kept false k e es h b = b

below_filtered : (p : Entry → Bool) (k : List ℕ) (es : List Entry) → AllByRecursion (λ j. slice_cmp nat_cmp k j ≡ Less) (keys_of es)
    → AllByRecursion (λ j. slice_cmp nat_cmp k j ≡ Less) (keys_of (filter p es))
below_filtered p k [] b = tt
below_filtered p k (e ∷ es) b = below_kept (p e) k e (filter p es) b.0 (below_filtered p k es b.1)

order_kept : (c : Bool) (e : Entry) (es : List Entry) → AllByRecursion (λ j. slice_cmp nat_cmp e.0 j ≡ Less) (keys_of es) → IsInOrder es → IsInOrder (cond c (e ∷ es) es)
unfolding IsStrictlySortedBy
order_kept true e es b s = (b, s)
order_kept false e es b s = s

pub in_order_filtered : (p : Entry → Bool) (es : List Entry) → IsInOrder es → IsInOrder (filter p es)
in_order_filtered p [] s = s
in_order_filtered p (e ∷ es) s =
    order_kept (p e) e (filter p es) (below_filtered p e.0 es (head_below e es s)) (in_order_filtered p es (tail_sorted (slice_cmp nat_cmp) nat_list_cmp_total same_name e es s))

-- ---- look-ups

found_first : (b : Bool) (v : Target) (l h : Option Target) → cond b (Some v) (option_or l h) ≡ option_or (cond b (Some v) l) h
found_first true v l h = refl
found_first false v l h = refl

lookup_with : (w : List ℕ) (e : Entry) (es : List Entry) → lookup (bytes_eq w) (with_entry e es) ≡ cond (bytes_eq w e.0) (Some e.1) (lookup (bytes_eq w) es)
lookup_with w e es =
    subst (λ t. lookup t (with_entry e es) ≡ cond (t e.0) (Some e.1) (lookup t es)) (at_name w) (lookup_inserted (slice_cmp nat_cmp) nat_list_cmp_total same_name w e.0 e.1 es)

pub lookup_over : (w : List ℕ) (own head : List Entry) → lookup (bytes_eq w) (entries_over own head) ≡ option_or (lookup (bytes_eq w) own) (lookup (bytes_eq w) head)
lookup_over w [] head = refl
lookup_over w (e ∷ own) head =
    lookup_with w e (entries_over own head) ∙ ap (λ r. cond (bytes_eq w e.0) (Some e.1) r) (lookup_over w own head)
    ∙ found_first (bytes_eq w e.0) e.1 (lookup (bytes_eq w) own) (lookup (bytes_eq w) head)

pub named_found : (w : List ℕ) (es : List Entry) → IsInOrder es → named es w ≡ found_entry w (lookup (bytes_eq w) es)
named_found w es s =
    subst (λ t. filter (λ e. t e.0) es ≡ found_entry w (lookup t es)) (at_name w) (filter_at (slice_cmp nat_cmp) nat_list_cmp_total same_name w es s)

-- ---- names of a head

stored_found : (b : Bool) (p : Target) (r s : Option Target) → r ≡ s → cond b (Some p) r ≡ cond b (Some p) s
stored_found b p r s e = ap (λ x. cond b (Some p) x) e

below_head : (w : List ℕ) (ps : Pairs) → AllByRecursion (λ q. slice_cmp nat_cmp w q.0 ≡ Less) ps → AllByRecursion (λ j. slice_cmp nat_cmp w j ≡ Less) (keys_of (head_entries ps))
below_head w [] b = tt
below_head w (p ∷ ps) b = (b.0, below_head w ps b.1)

pub in_order_head : (ps : Pairs) → IsStrictlySortedBy pair_order ps → IsInOrder (head_entries ps)
unfolding IsStrictlySortedBy
in_order_head [] s = tt
in_order_head (p ∷ ps) s = (below_head p.0 ps s.0, in_order_head ps s.1)

not_it : (w v : List ℕ) → IsName v → (IsName w → ⊥) → bytes_eq w v ≡ false
not_it w v n m = by (bytes_eq w v) (λ e. m (subst IsName (sym ((bytes_eq-Decides w v).0 e)) n))
  where
    by : (b : Bool) → (b ≡ true → ⊥) → b ≡ false
    by true f = absurd (f refl)
    by false f = refl

-- what isn't a name isn't there
pub no_name : (w : List ℕ) (ps : Pairs) → AreNames ps → (IsName w → ⊥) → lookup (bytes_eq w) (head_entries ps) ≡ None
no_name w [] a m = refl
no_name w (p ∷ ps) a m = ap (λ b. cond b (Some (Stored p.1)) (lookup (bytes_eq w) (head_entries ps))) (not_it w p.0 a.0 m) ∙ no_name w ps a.1 m

mapped_first : (b : Bool) (r : Ref) (o : Option Ref) → cond b (Some (Stored r)) (option_map Stored o) ≡ option_map Stored (cond b (Some r) o)
mapped_first true r o = refl
mapped_first false r o = refl

pub lookup_head : (w : List ℕ) (ps : Pairs) → lookup (bytes_eq w) (head_entries ps) ≡ option_map Stored (lookup (pointwise nat_eq w) ps)
lookup_head w [] = refl
lookup_head w (p ∷ ps) =
    ap (λ r. cond (bytes_eq w p.0) (Some (Stored p.1)) r) (lookup_head w ps) ∙ mapped_first (bytes_eq w p.0) p.1 (lookup (pointwise nat_eq w) ps)

-- ---- what passes a test

abbrev pub checked : (Target → Bool) → Option Target → Option Target
checked p None = None
checked p (Some t) = cond (p t) (Some t) None

none_behind : (w : List ℕ) (e : Entry) (es : List Entry) → bytes_eq w e.0 ≡ true → IsInOrder (e ∷ es) → lookup (bytes_eq w) es ≡ None
none_behind w e es h s =
    let f : w ≡ e.0 = (bytes_eq-Decides w e.0).0 h in
    subst (λ t. lookup t es ≡ None) (at_name w)
    (none_found (slice_cmp nat_cmp) nat_list_cmp_total same_name w es (subst (λ k. AllByRecursion (λ j. slice_cmp nat_cmp k j ≡ Less) (keys_of es)) (sym f) (head_below e es s)))

checked_first : (b c : Bool) (w : List ℕ) (p : Target → Bool) (e : Entry) (es : List Entry) → bytes_eq w e.0 ≡ b → p e.1 ≡ c → IsInOrder (e ∷ es)
    → lookup (bytes_eq w) (filter (λ f. p f.1) es) ≡ checked p (lookup (bytes_eq w) es)
    → lookup (bytes_eq w) (cond c (e ∷ filter (λ f. p f.1) es) (filter (λ f. p f.1) es)) ≡ checked p (cond b (Some e.1) (lookup (bytes_eq w) es))
checked_first true true w p e es h k s t =
    ap (λ b. cond b (Some e.1) (lookup (bytes_eq w) (filter (λ f. p f.1) es))) h ∙ sym (ap (λ c. cond c (Some e.1) None) k)
checked_first true false w p e es h k s t = t ∙ ap (checked p) (none_behind w e es h s) ∙ sym (ap (λ c. cond c (Some e.1) None) k)
checked_first false true w p e es h k s t = ap (λ b. cond b (Some e.1) (lookup (bytes_eq w) (filter (λ f. p f.1) es))) h ∙ t
checked_first false false w p e es h k s t = t

-- what is found among those that pass a test by what they stand for
pub lookup_filter : (w : List ℕ) (p : Target → Bool) (es : List Entry) → IsInOrder es → lookup (bytes_eq w) (filter (λ e. p e.1) es) ≡ checked p (lookup (bytes_eq w) es)
lookup_filter w p [] s = refl
lookup_filter w p (e ∷ es) s =
    checked_first (bytes_eq w e.0) (p e.1) w p e es refl refl s (lookup_filter w p es (tail_sorted (slice_cmp nat_cmp) nat_list_cmp_total same_name e es s))
