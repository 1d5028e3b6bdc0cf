-- What a loop over parts has counted at its end.
use Rattle.std.proofs.Common.{◌≡◌, ℕ, ◌+◌, ◌≤◌, List, [], length, drop, min, max, arith, ap, ◌∙◌}
use Rattle.std.proofs.lemmas.List.{drop_all}

module _ {A : Type 0} (all : List A → ℕ) (xs : List A) (i n most : ℕ) where
  none_left : all [] ≡ 0 → length xs ≤ i → all (drop i xs) ≡ 0
  none_left nothing h = ap all (drop_all i xs h) ∙ nothing

  pub in_all : all [] ≡ 0 → length xs ≤ i → n ≤ most → min (n + all (drop i xs)) most ≡ min (all xs) most → n ≡ min (all xs) most
  in_all nothing h k so_far = omega (arith, so_far, none_left nothing h)

  pub deepest : all [] ≡ 0 → length xs ≤ i → n ≤ most → min (max n (all (drop i xs))) most ≡ min (all xs) most → n ≡ min (all xs) most
  deepest nothing h k so_far = omega (arith, so_far, none_left nothing h)
