-- Types without free variables, as types of the checker.
use Rattle.std.proofs.Common.{◌≡◌, ℕ, zero, suc, ◌+◌, ◌<◌, max, true, List, [], ◌∷◌, map, length, get_or, refl, ap, arith}
use Rattle.std.proofs.lemmas.Bool.{and_parts}
use Rattle.uc_tree.specs.Counts.{node_count, tys_node_count, ty_levels, tys_levels}
use Rattle.uc_tree.specs.Types.{Ty, variable, quantified, arrow, unit, tuple, applied, Tys, none, more, tys_of}
use Rattle.uc_tree.proofs.Sizes.{type_at}
use Rattle.uc_context.specs.Closing.{open_from, opens_from, is_closed, are_closed}
use Rattle.uc_context.specs.Counts.{open_node_count, opens_node_count, levels_of_open, levels_of_opens}
use Rattle.uc_context.specs.Opens as opens
use Rattle.uc_context.specs.Opens.{Open, opens_of}
use Rattle.uc_context.proofs.Sizes.{open_at}

-- nodes stay
mutual
  pub nodes_from : (t : Ty) → open_node_count (open_from t) ≡ node_count t
  nodes_from (variable i) = refl
  nodes_from (quantified t) = omega (arith, nodes_from t)
  nodes_from (arrow a b) = omega (arith, nodes_from a, nodes_from b)
  nodes_from unit = refl
  nodes_from (tuple ts) = omega (arith, all_nodes_from ts)
  nodes_from (applied x ts) = omega (arith, all_nodes_from ts)

  all_nodes_from : (ts : Tys) → opens_node_count (opens_from ts) ≡ tys_node_count ts
  all_nodes_from none = refl
  all_nodes_from (more t ts) = omega (arith, nodes_from t, all_nodes_from ts)

-- levels stay
mutual
  pub levels_from : (t : Ty) → levels_of_open (open_from t) ≡ ty_levels t
  levels_from (variable i) = refl
  levels_from (quantified t) = omega (arith, levels_from t)
  levels_from (arrow a b) = omega (arith, levels_from a, levels_from b)
  levels_from unit = refl
  levels_from (tuple ts) = omega (arith, all_levels_from ts)
  levels_from (applied x ts) = omega (arith, all_levels_from ts)

  all_levels_from : (ts : Tys) → levels_of_opens (opens_from ts) ≡ tys_levels ts
  all_levels_from none = refl
  all_levels_from (more t ts) = omega (arith, levels_from t, all_levels_from ts)

-- a list of types, one by one
pub opens_from-tys_of : (ts : List Ty) → opens_of (map open_from ts) ≡ opens_from (tys_of ts)
opens_from-tys_of [] = refl
opens_from-tys_of (t ∷ ts) = ap (opens.more (open_from t)) (opens_from-tys_of ts)

-- a type of a list without free variables has none
pub closed_at : (ts : List Open) (k : ℕ) (t : Open) → k < length ts → are_closed (opens_of ts) ≡ true → is_closed (get_or ts k t) ≡ true
closed_at [] k t within h = absurd (omega arith)
closed_at (u ∷ us) zero t within h = (and_parts (is_closed u) (are_closed (opens_of us)) h).0
closed_at (u ∷ us) (suc k) t within h = closed_at us k t (omega arith) (and_parts (is_closed u) (are_closed (opens_of us)) h).1

-- what a walk over a written type uses to end
pub ruleset from_types = (type_at)

-- what a walk over a type without free variables uses
pub ruleset closed_parts = (open_at, closed_at)

-- how large a type is that has no free variables
pub ruleset sizes_from = (nodes_from, levels_from)
