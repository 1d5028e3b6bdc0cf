-- Halving the places at which a hash may stand.
use Rattle.std.proofs.Common.{◌≡◌, ◌⊎◌, inl, inr, ℕ, zero, suc, ◌+◌, ◌<◌, ◌≤◌, [], ◌∷◌, length, Some, arith, refl, sym, ap, subst, ◌∙◌}
use Rattle.std.specs.Prelude.{slice_get}
use Rattle.std.specs.List.Sorted.{IsStrictlySortedBy}
use Rattle.std.proofs.lemmas.Option.{slice_get_within}
use Rattle.std.specs.declared.cmp.Ordering.TheVariants.{Less}
use Rattle.uc_base.specs.declared.hash.Hash.{Hash}
use Rattle.uc_store.specs.Entries.{Entry}
use Rattle.uc_store.specs.Hashes.{hash_order}
use Rattle.uc_store.specs.Places.{IsPlaceBehind}
use Rattle.uc_store.specs.Table.{Table, IsTable}
use Rattle.uc_store.proofs.HashOrder.{less_trans}
use Rattle.uc_store.proofs.Tables.{all_at}

-- the place behind a hash is one of these
pub record IsBetween (hash : Hash) (table : Table) (low high : ℕ) : Type 0 where
  pub span : low ≤ high
  pub bound : high ≤ length table
  pub before : (k : ℕ) (e : Entry) → slice_get table k ≡ Some e → k < low → hash_order hash e.hash ≡ Less → ⊥
  pub from : (k : ℕ) (e : Entry) → slice_get table k ≡ Some e → high ≤ k → hash_order hash e.hash ≡ Less

le_cases : (a b : ℕ) → a ≤ b → (a ≡ b) ⊎ (a < b)
le_cases zero zero l = inl refl
le_cases zero (suc b) l = inr (omega arith)
le_cases (suc a) zero l = absurd (omega arith)
le_cases (suc a) (suc b) l = elim (le_cases a b (omega arith)) [ inl e ↦ inl (ap (λ n. suc n) e) | inr m ↦ inr (omega arith) ]

ascends : (t : Table) (i j : ℕ) (a b : Entry) → IsTable t → slice_get t i ≡ Some a → slice_get t j ≡ Some b → i < j → hash_order a.hash b.hash ≡ Less
unfolding IsStrictlySortedBy
ascends [] i j a b s p q l = absurd cc
ascends (f ∷ t) zero zero a b s p q l = absurd (omega arith)
ascends (f ∷ t) zero (suc j) a b s p q l =
    let same : f ≡ a = cc in
    let P : Entry → Type 0 = λ x. hash_order x.hash b.hash ≡ Less in
    subst P same (all_at (λ k. hash_order f.hash k ≡ Less) t j b s.0 q)
ascends (f ∷ t) (suc i) zero a b s p q l = absurd (omega arith)
ascends (f ∷ t) (suc i) (suc j) a b s p q l = ascends t i j a b s.1 p q (omega arith)

same_at : (t : Table) (k : ℕ) (a b : Entry) → slice_get t k ≡ Some a → slice_get t k ≡ Some b → a ≡ b
same_at t k a b p q = cc

pub between_all : (h : Hash) (t : Table) → IsBetween h t 0 (length t)
between_all h t = record {
  span = omega arith;
  bound = omega arith;
  before = λ k e s l. absurd (omega arith);
  from = λ k e s l. absurd (let w = slice_get_within t k e s in omega arith);
}

pub go_down : (h : Hash) (t : Table) (low middle high : ℕ) (m : Entry) → IsTable t → IsBetween h t low high → low ≤ middle → middle < high → slice_get t middle ≡ Some m
    → hash_order h m.hash ≡ Less → IsBetween h t low middle
go_down h t low middle high m s b l u at less = record {
  span = l;
  bound = omega (arith, b.bound);
  before = b.before;
  from = λ k e p q. from k e p (le_cases middle k q);
}
  where
    from : (k : ℕ) (e : Entry) → slice_get t k ≡ Some e → (middle ≡ k) ⊎ (middle < k) → hash_order h e.hash ≡ Less
    from k e p (inl q) =
        let at_k : slice_get t k ≡ Some m = ap (λ n. slice_get t n) (sym q) ∙ at in
        let P : Entry → Type 0 = λ x. hash_order h x.hash ≡ Less in
        subst P (same_at t k m e at_k p) less
    from k e p (inr q) = less_trans h m.hash e.hash less (ascends t middle k m e s at p q)

pub go_up : (h : Hash) (t : Table) (low middle high : ℕ) (m : Entry) → IsTable t → IsBetween h t low high → low ≤ middle → middle < high → slice_get t middle ≡ Some m
    → (hash_order h m.hash ≡ Less → ⊥) → IsBetween h t (middle + 1) high
go_up h t low middle high m s b l u at above = record {
  span = omega arith;
  bound = b.bound;
  before = λ k e p q. before k e p (le_cases k middle (omega arith));
  from = b.from;
}
  where
    before : (k : ℕ) (e : Entry) → slice_get t k ≡ Some e → (k ≡ middle) ⊎ (k < middle) → hash_order h e.hash ≡ Less → ⊥
    before k e p (inl q) less =
        let at_k : slice_get t k ≡ Some m = ap (λ n. slice_get t n) q ∙ at in
        let P : Entry → Type 0 = λ x. hash_order h x.hash ≡ Less in
        above (subst P (same_at t k e m p at_k) less)
    before k e p (inr q) less = above (less_trans h e.hash m.hash less (ascends t k middle e m s p at q))

pub behind : (h : Hash) (t : Table) (low high : ℕ) → IsBetween h t low high → high ≤ low → IsPlaceBehind h t low
behind h t low high b l = record {
  bound = omega (arith, b.span, b.bound);
  before = b.before;
  from = λ k e p q. b.from k e p (omega (arith, b.span));
}
