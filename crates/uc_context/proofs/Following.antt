-- Following solutions from the front of a type.
use Rattle.std.proofs.Common.{◌≡◌, ℕ, suc, ◌<◌, ◌≤◌, true, false, ◌∷◌, length, take, drop, Option, Some, None, arith, refl, sym, ap, ◌∙◌}
use Rattle.std.specs.List.{list_any}
use Rattle.std.proofs.lemmas.Bool.{or_from, eq-eqb}
use Rattle.std.proofs.lemmas.List.{length-take-le}
use Rattle.uc_context.specs.declared.entry.Entry.TheVariants.{Solved}
use Rattle.uc_context.specs.Opens.{Open, bound, rigid, existential, quantified, arrow, unit, tuple, applied}
use Rattle.uc_context.specs.Applying.{front_solution}
use Rattle.uc_context.specs.Contexts.{IsContext, type_under}
use Rattle.uc_context.specs.Entries.{ContextEntries, is_variable}
use Rattle.uc_context.specs.Index.{last_place}
use Rattle.uc_context.specs.Variables.{mentions}
use Rattle.uc_context.proofs.LastPlaces.{last_place-within, last_place-front}
use Rattle.uc_context.proofs.Solutions.{SolvedIn, solved_somewhere, mentioned_right, mentioned_other, under_solved}

-- where the variable of a number stands, counted from 1, or 0
abbrev pub place_from_one : Option ℕ → ℕ
place_from_one None = 0
place_from_one (Some k) = suc k

-- where the existential stands that a type is, counted from 1, or 0
abbrev pub front_place : ContextEntries → Open → ℕ
front_place es (bound i) = 0
front_place es (rigid x) = 0
front_place es (existential x) = place_from_one (last_place (is_variable x) es)
front_place es (quantified t) = 0
front_place es (arrow a b) = 0
front_place es unit = 0
front_place es (tuple ts) = 0
front_place es (applied h ts) = 0

module _ (es : ContextEntries) (order : IsContext es) where
  -- the front of a solution stands before what it solves
  falls_to : (x : ℕ) (s t : Open) (k : ℕ) → k < length es → SolvedIn x s es (take k es) (drop (suc k) es) → ((y : ℕ) → t ≡ existential y → mentions y s ≡ true) → front_place es t ≤ k
  falls_to x s (bound i) k within h m = omega arith
  falls_to x s (rigid y) k within h m = omega arith
  falls_to x s (existential y) k within h m = go (last_place (is_variable y) (take k es)) refl
    where
      stands : mentions y s ≡ true
      stands = m y refl

      behind : list_any (is_variable y) (Solved x s ∷ drop (suc k) es) ≡ false
      behind = or_from (is_variable y (Solved x s)) (list_any (is_variable y) (drop (suc k) es)) (mentioned_other x s es (take k es) (drop (suc k) es) h y stands) (mentioned_right x s es (take k es) (drop (suc k) es) h y stands)

      in_front : last_place (is_variable y) es ≡ last_place (is_variable y) (take k es)
      in_front = ap (last_place (is_variable y)) h.whole ∙ last_place-front (is_variable y) (take k es) (Solved x s ∷ drop (suc k) es) behind

      go : (o : Option ℕ) → last_place (is_variable y) (take k es) ≡ o → place_from_one (last_place (is_variable y) es) ≤ k
      go None at = rw (in_front, at) (omega arith)
      go (Some j) at = rw (in_front, at) (omega (arith, last_place-within (is_variable y) (take k es) j at, length-take-le k es))
  falls_to x s (quantified t) k within h m = omega arith
  falls_to x s (arrow a b) k within h m = omega arith
  falls_to x s unit k within h m = omega arith
  falls_to x s (tuple ts) k within h m = omega arith
  falls_to x s (applied g ts) k within h m = omega arith

  pub front_falls : (t s : Open) → front_solution es t ≡ Some s → front_place es s < front_place es t
  front_falls (bound i) s is = absurd cc
  front_falls (rigid x) s is = absurd cc
  front_falls (existential x) s is =
      let p = solved_somewhere x s es order is in
      rw p.2 (omega (arith, falls_to x s s p.0 p.1 p.3 (λ y same. ap (mentions y) same ∙ eq-eqb y y refl)))
  front_falls (quantified t) s is = absurd cc
  front_falls (arrow a b) s is = absurd cc
  front_falls unit s is = absurd cc
  front_falls (tuple ts) s is = absurd cc
  front_falls (applied h ts) s is = absurd cc

  pub front_stands_for : (t s : Open) → front_solution es t ≡ Some s → type_under es s ≡ type_under es t
  front_stands_for (bound i) s is = absurd cc
  front_stands_for (rigid x) s is = absurd cc
  front_stands_for (existential x) s is = let p = solved_somewhere x s es order is in sym (under_solved x s es (take p.0 es) (drop (suc p.0) es) p.3)
  front_stands_for (quantified t) s is = absurd cc
  front_stands_for (arrow a b) s is = absurd cc
  front_stands_for unit s is = absurd cc
  front_stands_for (tuple ts) s is = absurd cc
  front_stands_for (applied h ts) s is = absurd cc
