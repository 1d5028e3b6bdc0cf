-- Direct references ascend.
use Rattle.std.specs.Prelude.{◌≡◌, true, false, List, [], ◌∷◌, Option, Some, None, refl}
use Rattle.std.proofs.Common.{ap, ◌∙◌}
use Rattle.std.specs.List.{AllByRecursion}
use Rattle.std.specs.List.Sorted.{IsStrictlySortedBy}
use Rattle.std.specs.Option.{option_map_or}
use Rattle.std.specs.Ordering.{is_eq, is_lt, ordering_reverse}
use Rattle.std.specs.declared.cmp.Ordering.{Ordering}
use Rattle.std.specs.declared.cmp.Ordering.TheVariants.{Less, Equal, Greater}
use Rattle.uc_base.specs.declared.reference.Ref.{Ref}
use Rattle.uc_base.specs.contracts.reference.RefOrd.TheImpl.Laws as ord
use Rattle.uc_tree.specs.References.{ref_order, is_same_ref, stored_among}
use Rattle.uc_tree.specs.Targets.{targets_of}
use Rattle.uc_tree.proofs.Refs.{same_ref}
use Rattle.uc_store.specs.declared.stored.Stored.{Stored as StoredItem}
use Rattle.uc_store.specs.Entries.{with_ref, in_order, refs_in}
use Rattle.uc_store.specs.Table.{Table, direct_in, stored_at}

turned : (r s : Ref) → ref_order r s ≡ Less → ref_order s r ≡ Greater
turned r s e = (ord.total-law).antisymm s r ∙ ap ordering_reverse e

turned_back : (r s : Ref) → ref_order r s ≡ Greater → ref_order s r ≡ Less
turned_back r s e = (ord.total-law).antisymm s r ∙ ap ordering_reverse e

pub not_itself : (r : Ref) → ref_order r r ≡ Less → ⊥
not_itself r e = let g : ref_order r r ≡ Greater = turned r r e in cc

-- ---- ascending

all_below : (r s : Ref) (refs : List Ref) → ref_order r s ≡ Less → AllByRecursion (λ q. ref_order s q ≡ Less) refs → AllByRecursion (λ q. ref_order r q ≡ Less) refs
all_below r s [] l a = a
all_below r s (q ∷ refs) l a = ((ord.total-law).trans r s q l a.0, all_below r s refs l a.1)

-- where a reference stands beside the first of ascending ones
pub data Side : Ref → Ref → Type 0 where
  before : {r s : Ref} → ref_order r s ≡ Less → is_lt (ref_order r s) ≡ true → Side r s
  same : {r s : Ref} → r ≡ s → is_lt (ref_order r s) ≡ false → is_same_ref r s ≡ true → Side r s
  after : {r s : Ref} → ref_order s r ≡ Less → is_lt (ref_order r s) ≡ false → is_same_ref r s ≡ false → Side r s

pub side : (r s : Ref) → Side r s
side r s = go (ref_order r s) refl
  where
    go : (o : Ordering) → ref_order r s ≡ o → Side r s
    go Less e = before e (ap is_lt e)
    go Equal e = same (same_ref r s (ap is_eq e)) (ap is_lt e) (ap is_eq e)
    go Greater e = after (turned_back r s e) (ap is_lt e) (ap is_eq e)

all_with_ref : (P : Ref → Type 0) (r : Ref) (refs : List Ref) → AllByRecursion P refs → P r → AllByRecursion P (with_ref r refs)
all_with_ref P r [] a p = (p, a)
all_with_ref P r (s ∷ refs) a p = go (all_with_ref P r refs a.1 p) (side r s)
  where
    go : AllByRecursion P (with_ref r refs) → Side r s → AllByRecursion P (with_ref r (s ∷ refs))
    go rest (before l t) = rw t (p, a)
    go rest (same e t u) = rw (t, u) a
    go rest (after l t u) = rw (t, u) (a.0, rest)

sorted_with_ref : (r : Ref) (refs : List Ref) → IsStrictlySortedBy ref_order refs → IsStrictlySortedBy ref_order (with_ref r refs)
unfolding IsStrictlySortedBy
sorted_with_ref r [] s = (s, s)
sorted_with_ref r (q ∷ refs) s = go (sorted_with_ref r refs s.1) (side r q)
  where
    go : IsStrictlySortedBy ref_order (with_ref r refs) → Side r q → IsStrictlySortedBy ref_order (with_ref r (q ∷ refs))
    go rest (before l t) = rw t ((l, all_below r q refs l s.0), s)
    go rest (same e t u) = rw (t, u) s
    go rest (after l t u) = rw (t, u) (all_with_ref (λ x. ref_order q x ≡ Less) r refs s.0 l, rest)

pub in_order_sorted : (refs : List Ref) → IsStrictlySortedBy ref_order (in_order refs)
unfolding IsStrictlySortedBy
in_order_sorted [] = tt
in_order_sorted (r ∷ refs) = sorted_with_ref r (in_order refs) (in_order_sorted refs)

found_in_order : (o : Option StoredItem) → IsStrictlySortedBy ref_order (option_map_or (λ s. refs_in s.item) o [])
unfolding IsStrictlySortedBy
found_in_order None = tt
found_in_order (Some s) = in_order_sorted (stored_among (targets_of s.item))

pub direct_in_order : (t : Table) (r : Ref) → IsStrictlySortedBy ref_order (direct_in t r)
direct_in_order t r = found_in_order (stored_at t r)
