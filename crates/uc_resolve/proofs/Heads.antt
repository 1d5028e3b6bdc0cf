-- Tests: texts that begin with digits, and names in order.
use Rattle.std.proofs.Common.{◌≡◌, ℕ, ◌<◌, Bool, true, false, List, [], ◌∷◌, length, get_or, take, drop, nat_eq, refl, subst, arith}
use Rattle.std.specs.Cmp.Lexicographic.{pointwise}
use Rattle.std.specs.List.{AllByRecursion}
use Rattle.std.specs.List.Sorted.{IsStrictlySortedBy}
use Rattle.std.specs.declared.cmp.Ordering.TheVariants.{Less}
use Rattle.uc_base.specs.declared.reference.Ref.{Ref}
use Rattle.uc_tree.specs.Lookups.{Pairs, pair_order, begins_with}

pub begins_as : (ds text : List ℕ) → pointwise nat_eq ds (take (length ds) text) ≡ begins_with ds text
begins_as [] text = refl
begins_as (d ∷ ds) [] = refl
begins_as (d ∷ ds) (c ∷ text) = by (begins_as ds text) (nat_eq d c) refl
  where
    by : pointwise nat_eq ds (take (length ds) text) ≡ begins_with ds text → (b : Bool) → nat_eq d c ≡ b → pointwise nat_eq (d ∷ ds) (take (length (d ∷ ds)) (c ∷ text)) ≡ begins_with (d ∷ ds) (c ∷ text)
    by rest true e = rw e rest
    by rest false e = rw e refl

pub none_in_order : (ps : Pairs) → length ps < 1 → IsStrictlySortedBy pair_order ps
unfolding IsStrictlySortedBy
none_in_order [] h = tt
none_in_order (p ∷ ps) h = absurd (omega arith)

-- a pair before others that stand in order
pub more_in_order : (ps : Pairs) (p : List ℕ × Ref) → 0 < length ps → p ≡ get_or ps 0 p → AllByRecursion (λ q. pair_order p q ≡ Less) (drop 1 ps) → IsStrictlySortedBy pair_order (drop 1 ps)
    → IsStrictlySortedBy pair_order ps
unfolding IsStrictlySortedBy
more_in_order [] p h e a s = absurd (omega arith)
more_in_order (q ∷ ps) p h e a s = (subst (λ (r : List ℕ × Ref). AllByRecursion (λ o. pair_order r o ≡ Less) ps) e a, s)
