-- Where a name stands in a list in name order, or would go.
use Rattle.std.specs.Prelude.{◌≡◌, ℕ, ◌<◌, ◌≤◌, suc, take, drop, length, List}
use Rattle.std.specs.List.{All, HoldsAt}
use Rattle.std.specs.declared.cmp.Ordering.TheVariants.{Less, Greater}
use Rattle.uc_branch.specs.Pairs.{name_order}

-- the name stands at a place, behind lesser names and before greater ones
pub record IsPlace {X : Type 0} (key : X → List ℕ) (name : List ℕ) (xs : List X) (at : ℕ) : Type 0 where
  pub in_range : at < length xs
  pub before : All (λ x. name_order (key x) name ≡ Less) (take at xs)
  pub here : HoldsAt (λ x. key x ≡ name) xs at
  pub after : All (λ x. name_order (key x) name ≡ Greater) (drop (suc at) xs)

-- the name would go to a place, behind lesser names and before greater ones
pub record IsGap {X : Type 0} (key : X → List ℕ) (name : List ℕ) (xs : List X) (at : ℕ) : Type 0 where
  pub in_range : at ≤ length xs
  pub before : All (λ x. name_order (key x) name ≡ Less) (take at xs)
  pub after : All (λ x. name_order (key x) name ≡ Greater) (drop at xs)
