-- Loops that walk one part after the other.
use Rattle.std.proofs.Common.{◌≡◌, ℕ, suc, ◌+◌, ◌<◌, ◌≤◌, List, [], ◌∷◌, ◌++◌, length, get_or, drop, Option, Result, Ok, Err, refl, sym, ap, ◌∙◌, add-one, arith, length-append}
use Rattle.std.proofs.Math.Seq.{drop-cons}
use Rattle.std.proofs.lemmas.List.{drop_all}
use Rattle.uc_kinds.specs.declared.flaw.Flaw.{Flaw}
use Rattle.uc_kinds.specs.declared.flaw.Flawed.{Flawed}
use Rattle.uc_kinds.specs.Walks.{walked}
use Rattle.uc_kinds.proofs.Walking.{goes_on, stops, passed}

-- what parts bring with them, at the place of one of them
module _ {X Y : Type 0} (one : X → List Y) (all : List X → List Y) (split : (x : X) (xs : List X) → all (x ∷ xs) ≡ one x ++ all xs)
    (xs : List X) (i : ℕ) (x : X) (below : i < length xs) (is : x ≡ get_or xs i x) where
  pub front : all (drop i xs) ≡ one x ++ all (drop (i + 1) xs)
  front =
      let parts : drop i xs ≡ x ∷ drop (suc i) xs = rw (drop-cons xs i x) (ap (λ (z : X). z ∷ drop (suc i) xs) (sym is)) in
      rw add-one (ap all parts ∙ split x (drop (suc i) xs))

  pub lengths : length (all (drop i xs)) ≡ length (one x) + length (all (drop (i + 1) xs))
  lengths = ap length front ∙ length-append (one x) (all (drop (i + 1) xs))

  -- there is room for the nodes of this part
  pub room : (n total most : ℕ) → n + length (all (drop i xs)) ≡ total → total < most → n + length (one x) < most
  room n total most counted small = omega (arith, lengths)

-- parts with their flaws
module _ {X : Type 0} (one : X → List (Option Flaw)) (all : List X → List (Option Flaw)) (split : (x : X) (xs : List X) → all (x ∷ xs) ≡ one x ++ all xs)
    (xs : List X) (i : ℕ) (x : X) (below : i < length xs) (is : x ≡ get_or xs i x) where
  ahead : all (drop i xs) ≡ one x ++ all (drop (i + 1) xs)
  ahead = front one all split xs i x below is

  -- this part is passed
  pub passes : (n m total : ℕ) (whole : Result ℕ Flawed) → Ok m ≡ walked n (one x) → walked n (all (drop i xs)) ≡ whole → n + length (all (drop i xs)) ≡ total
      → (walked m (all (drop (i + 1) xs)) ≡ whole) × (m + length (all (drop (i + 1) xs)) ≡ total)
  passes n m total whole ok so_far counted =
      (sym (goes_on n m (one x) (all (drop (i + 1) xs)) (sym ok)) ∙ sym (ap (walked n) ahead) ∙ so_far, omega (arith, lengths one all split xs i x below is, passed n m (one x) (sym ok)))

  -- this part has the first flaw
  pub fails : (n : ℕ) (flawed : Flawed) (whole : Result ℕ Flawed) → Err flawed ≡ walked n (one x) → walked n (all (drop i xs)) ≡ whole → Err flawed ≡ whole
  fails n flawed whole err so_far = sym (stops n flawed (one x) (all (drop (i + 1) xs)) (sym err)) ∙ sym (ap (walked n) ahead) ∙ so_far
