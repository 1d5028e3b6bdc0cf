-- The order of hashes is total, and hashes that are equal in it are the same.
use Rattle.std.proofs.Common.{◌≡◌, true, false, rules, refl, ap, ◌∙◌}
use Rattle.std.specs.Cmp.{IsTotalOrder}
use Rattle.std.specs.Ordering.{is_eq, is_lt, ordering_reverse}
use Rattle.std.specs.declared.cmp.Ordering.{Ordering}
use Rattle.std.specs.declared.cmp.Ordering.TheVariants.{Less, Equal, Greater}
use Rattle.uc_base.specs.declared.hash.Hash.{Hash}
use Rattle.uc_base.specs.contracts.hash.HashPartialEq.TheImpl as eq
use Rattle.uc_base.specs.contracts.hash.HashOrd.TheImpl.Laws as ord
use Rattle.uc_store.specs.Hashes.{hash_order, is_same_hash}

pub hash_order-total : IsTotalOrder hash_order
unfolding hash_order
hash_order-total = ord.total-law

same_hashes : (h k : Hash) → (eq.ghosts).eq h k ≡ true → h ≡ k
same_hashes h k e = search rules

pub same_hash : (h k : Hash) → is_same_hash h k ≡ true → h ≡ k
unfolding hash_order
same_hash h k e = same_hashes h k (ord.matches_eq-law h k ∙ e)

-- ---- tests

pub lt_yes : (o : Ordering) → o ≡ Less → is_lt o ≡ true
lt_yes o e = ap is_lt e

pub lt_no : (o : Ordering) → (o ≡ Less → ⊥) → is_lt o ≡ false
lt_no Less h = absurd (h refl)
lt_no Equal h = refl
lt_no Greater h = refl

pub lt_is : (o : Ordering) → is_lt o ≡ true → o ≡ Less
lt_is Less e = refl
lt_is Equal e = absurd cc
lt_is Greater e = absurd cc

pub lt_isnt : (o : Ordering) → is_lt o ≡ false → o ≡ Less → ⊥
lt_isnt o e l = cc

pub eq_is : (o : Ordering) → is_eq o ≡ true → o ≡ Equal
eq_is Less e = absurd cc
eq_is Equal e = refl
eq_is Greater e = absurd cc

pub less_no_eq : (o : Ordering) → o ≡ Less → is_eq o ≡ false
less_no_eq o e = ap is_eq e

pub greater_no_eq : (o : Ordering) → o ≡ Greater → is_eq o ≡ false
greater_no_eq o e = ap is_eq e

-- ---- the order

pub turned : (h k : Hash) → hash_order h k ≡ Less → hash_order k h ≡ Greater
turned h k e = (hash_order-total).antisymm k h ∙ ap ordering_reverse e

pub turned_back : (h k : Hash) → hash_order h k ≡ Greater → hash_order k h ≡ Less
turned_back h k e = (hash_order-total).antisymm k h ∙ ap ordering_reverse e

pub same_order : (h : Hash) → hash_order h h ≡ Equal
same_order h = go (hash_order h h) refl
  where
    go : (o : Ordering) → hash_order h h ≡ o → hash_order h h ≡ Equal
    go Less e = absurd (let g : hash_order h h ≡ Greater = turned h h e in cc)
    go Equal e = e
    go Greater e = absurd (let g : hash_order h h ≡ Less = turned_back h h e in cc)

pub is_same : (h : Hash) → is_same_hash h h ≡ true
is_same h = ap is_eq (same_order h)

pub less_trans : (h k l : Hash) → hash_order h k ≡ Less → hash_order k l ≡ Less → hash_order h l ≡ Less
less_trans h k l = (hash_order-total).trans h k l

pub less_apart : (h k : Hash) → hash_order h k ≡ Less → is_same_hash h k ≡ false
less_apart h k e = ap is_eq e

pub greater_apart : (h k : Hash) → hash_order h k ≡ Less → is_same_hash k h ≡ false
greater_apart h k e = ap is_eq (turned h k e)

-- neither before the other: they are the same
pub not_less_cases : (h k : Hash) → is_lt (hash_order h k) ≡ false → is_same_hash h k ≡ false → hash_order k h ≡ Less
not_less_cases h k n s = go (hash_order h k) refl
  where
    go : (o : Ordering) → hash_order h k ≡ o → hash_order k h ≡ Less
    go Less e = absurd (let t : is_lt (hash_order h k) ≡ true = ap is_lt e in cc)
    go Equal e = absurd (let t : is_same_hash h k ≡ true = ap is_eq e in cc)
    go Greater e = turned_back h k e

-- what isn't below a hash isn't below a lesser one
pub not_below_lesser : (h k l : Hash) → (hash_order h l ≡ Less → ⊥) → hash_order k l ≡ Less → hash_order h k ≡ Less → ⊥
not_below_lesser h k l n a b = n (less_trans h k l b a)
