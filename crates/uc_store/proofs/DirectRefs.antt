-- The direct references of an item are just its stored references.
use Rattle.std.proofs.Common.{◌≡◌, ◌⊎◌, inl, inr, ℕ, zero, suc, ◌<◌, List, [], ◌∷◌, length, get_or, arith, refl, sym, subst, ◌∙◌}
use Rattle.std.specs.Prelude.{◌↔◌}
use Rattle.std.specs.List.{AllByRecursion, Contains}
use Rattle.std.specs.List.Sorted.{IsStrictlySortedBy}
use Rattle.std.specs.declared.cmp.Ordering.TheVariants.{Less}
use Rattle.uc_base.specs.declared.reference.Ref.{Ref}
use Rattle.uc_base.specs.contracts.reference.RefOrd.TheImpl.Laws as ord
use Rattle.uc_tree.specs.declared.item.Item.{Item}
use Rattle.uc_tree.specs.References.{ref_order, stored_among}
use Rattle.uc_tree.specs.Targets.{targets_of, IsRefOf}
use Rattle.uc_tree.proofs.Refs.{from_stored_among, to_stored_among}
use Rattle.uc_store.specs.Direct.{Side, before, same, after, side, not_itself, in_order_sorted}
use Rattle.uc_store.specs.Entries.{with_ref, in_order, refs_in}

-- ---- which references

abbrev Among : Ref → List Ref → Type 0
Among q [] = ⊥
Among q (r ∷ refs) = (q ≡ r) ⊎ Among q refs

from_contains : (q : Ref) (refs : List Ref) (k : ℕ) → k < length refs → get_or refs k q ≡ q → Among q refs
from_contains q [] k l e = absurd (omega arith)
from_contains q (r ∷ refs) zero l e = inl (sym e)
from_contains q (r ∷ refs) (suc k) l e = inr (from_contains q refs k (omega arith) e)

to_contains : (q : Ref) (refs : List Ref) → Among q refs → Contains refs q
to_contains q [] a = elim a [ ]
to_contains q (r ∷ refs) (inl e) = (zero, omega arith, sym e)
to_contains q (r ∷ refs) (inr a) = let c = to_contains q refs a in (suc c.0, omega (arith, c.1), c.2)

from_with_ref : (q r : Ref) (refs : List Ref) → Among q (with_ref r refs) → (q ≡ r) ⊎ Among q refs
from_with_ref q r [] a = a
from_with_ref q r (s ∷ refs) a = go (from_with_ref q r refs) (side r s)
  where
    later : (Among q (with_ref r refs) → (q ≡ r) ⊎ Among q refs) → (q ≡ s) ⊎ Among q (with_ref r refs) → (q ≡ r) ⊎ Among q (s ∷ refs)
    later rest (inl e) = inr (inl e)
    later rest (inr b) = elim (rest b) [ inl e ↦ inl e | inr c ↦ inr (inr c) ]

    go : (Among q (with_ref r refs) → (q ≡ r) ⊎ Among q refs) → Side r s → (q ≡ r) ⊎ Among q (s ∷ refs)
    go rest (before l t) = rw t at a
    go rest (same e t u) = inr (rw (t, u) at a)
    go rest (after l t u) = later rest (rw (t, u) at a)

to_with_ref : (q r : Ref) (refs : List Ref) → (q ≡ r) ⊎ Among q refs → Among q (with_ref r refs)
to_with_ref q r [] a = a
to_with_ref q r (s ∷ refs) a = go (to_with_ref q r refs) (side r s)
  where
    kept : r ≡ s → (q ≡ r) ⊎ Among q (s ∷ refs) → Among q (s ∷ refs)
    kept e (inl f) = inl (f ∙ e)
    kept e (inr b) = b

    later : ((q ≡ r) ⊎ Among q refs → Among q (with_ref r refs)) → (q ≡ r) ⊎ Among q (s ∷ refs) → (q ≡ s) ⊎ Among q (with_ref r refs)
    later rest (inl e) = inr (rest (inl e))
    later rest (inr (inl e)) = inl e
    later rest (inr (inr b)) = inr (rest (inr b))

    go : ((q ≡ r) ⊎ Among q refs → Among q (with_ref r refs)) → Side r s → Among q (with_ref r (s ∷ refs))
    go rest (before l t) = rw t a
    go rest (same e t u) = rw (t, u) (kept e a)
    go rest (after l t u) = rw (t, u) (later rest a)

from_in_order : (q : Ref) (refs : List Ref) → Among q (in_order refs) → Among q refs
from_in_order q [] a = a
from_in_order q (r ∷ refs) a = elim (from_with_ref q r (in_order refs) a) [ inl e ↦ inl e | inr b ↦ inr (from_in_order q refs b) ]

to_in_order : (q : Ref) (refs : List Ref) → Among q refs → Among q (in_order refs)
to_in_order q [] a = elim a [ ]
to_in_order q (r ∷ refs) (inl e) = to_with_ref q r (in_order refs) (inl e)
to_in_order q (r ∷ refs) (inr a) = to_with_ref q r (in_order refs) (inr (to_in_order q refs a))

-- ---- ascending references are told by which they are

below_all : (r q : Ref) (refs : List Ref) → AllByRecursion (λ x. ref_order r x ≡ Less) refs → Among q refs → ref_order r q ≡ Less
below_all r q [] a m = elim m [ ]
below_all r q (s ∷ refs) a (inl e) = let P : Ref → Type 0 = λ x. ref_order r x ≡ Less in subst P (sym e) a.0
below_all r q (s ∷ refs) a (inr b) = below_all r q refs a.1 b

firsts_same : (r s : Ref) (rs ss : List Ref) → AllByRecursion (λ x. ref_order r x ≡ Less) rs → AllByRecursion (λ x. ref_order s x ≡ Less) ss
    → (r ≡ s) ⊎ Among r ss → (s ≡ r) ⊎ Among s rs → r ≡ s
firsts_same r s rs ss a b (inl e) d = e
firsts_same r s rs ss a b (inr c) (inl e) = sym e
firsts_same r s rs ss a b (inr c) (inr d) =
    absurd (not_itself r ((ord.total-law).trans r s r (below_all r s rs a d) (below_all s r ss b c)))

in_rest : (r q : Ref) (rs ss : List Ref) → AllByRecursion (λ x. ref_order r x ≡ Less) rs → Among q rs → (q ≡ r) ⊎ Among q ss → Among q ss
in_rest r q rs ss a m (inl e) = absurd (not_itself r (let P : Ref → Type 0 = λ x. ref_order r x ≡ Less in subst P e (below_all r q rs a m)))
in_rest r q rs ss a m (inr b) = b

pub same_members : (rs ss : List Ref) → IsStrictlySortedBy ref_order rs → IsStrictlySortedBy ref_order ss → ((q : Ref) → Among q rs → Among q ss) → ((q : Ref) → Among q ss → Among q rs) → rs ≡ ss
unfolding IsStrictlySortedBy
same_members [] [] a b f g = refl
same_members [] (s ∷ ss) a b f g = absurd (g s (inl refl))
same_members (r ∷ rs) [] a b f g = absurd (f r (inl refl))
same_members (r ∷ rs) (s ∷ ss) a b f g =
    let e : r ≡ s = firsts_same r s rs ss a.0 b.0 (f r (inl refl)) (g s (inl refl)) in
    let rest : rs ≡ ss = same_members rs ss a.1 b.1
    (λ q m. in_rest r q rs ss a.0 m (elim (f q (inr m)) [ inl i ↦ inl (i ∙ sym e) | inr j ↦ inr j ]))
    (λ q m. in_rest s q ss rs b.0 m (elim (g q (inr m)) [ inl i ↦ inl (i ∙ e) | inr j ↦ inr j ])) in
    cc

-- what lists the stored references of an item in order, each once, is that list
pub is_refs_in : (refs : List Ref) (i : Item) → IsStrictlySortedBy ref_order refs → ((r : Ref) → Contains refs r ↔ IsRefOf r i) → refs ≡ refs_in i
is_refs_in refs i s m = same_members refs (refs_in i) s (in_order_sorted (stored_among (targets_of i)))
    (λ q a. to_in_order q (stored_among (targets_of i)) (let c = to_stored_among (targets_of i) q ((m q).0 (to_contains q refs a)) in from_contains q (stored_among (targets_of i)) c.0 c.1 c.2))
    (λ q a. let c = (m q).1 (from_stored_among (targets_of i) q (to_contains q (stored_among (targets_of i)) (from_in_order q (stored_among (targets_of i)) a))) in from_contains q refs c.0 c.1 c.2)
