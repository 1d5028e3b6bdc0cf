-- How many nodes and levels written types have.
use Rattle.std.proofs.Common.{◌≡◌, ℕ, zero, suc, ◌+◌, ◌-◌, ◌<◌, ◌≤◌, ◌^◌, min, List, [], ◌∷◌, length, get_or, map, refl, sym, ap, subst, arith, length-append}
use Rattle.uc_tree.specs.Counts.{node_count, tys_node_count, ty_levels, tys_levels}
use Rattle.uc_tree.specs.Nodes.{ty_nodes, tys_nodes}
use Rattle.uc_tree.specs.Types.{Ty, Tys, tys_of, ty_size, tys_size}
use Rattle.uc_tree.proofs.Sizes.{type_at}
use Rattle.uc_tree.specs.Types as types
use Rattle.uc_context.specs.Opens.{more, opens_of}
use Rattle.uc_typing.specs.WrittenTypes.{written_under, all_written_under}

mutual
  pub nodes_counted : (t : Ty) → length (ty_nodes t) ≡ node_count t
  nodes_counted (types.variable i) = refl
  nodes_counted (types.quantified t) = omega (arith, nodes_counted t)
  nodes_counted (types.arrow a b) = omega (arith, length-append (ty_nodes a) (ty_nodes b), nodes_counted a, nodes_counted b)
  nodes_counted types.unit = refl
  nodes_counted (types.tuple ts) = omega (arith, all_nodes_counted ts)
  nodes_counted (types.applied x ts) = omega (arith, all_nodes_counted ts)

  pub all_nodes_counted : (ts : Tys) → length (tys_nodes ts) ≡ tys_node_count ts
  all_nodes_counted types.none = refl
  all_nodes_counted (types.more t ts) = omega (arith, length-append (ty_nodes t) (tys_nodes ts), nodes_counted t, all_nodes_counted ts)

-- each level has a node
mutual
  pub levels_below : (t : Ty) → ty_levels t ≤ length (ty_nodes t)
  levels_below (types.variable i) = omega arith
  levels_below (types.quantified t) = omega (arith, levels_below t)
  levels_below (types.arrow a b) = omega (arith, length-append (ty_nodes a) (ty_nodes b), levels_below a, levels_below b)
  levels_below types.unit = omega arith
  levels_below (types.tuple ts) = omega (arith, all_levels_below ts)
  levels_below (types.applied x ts) = omega (arith, all_levels_below ts)

  pub all_levels_below : (ts : Tys) → tys_levels ts ≤ length (tys_nodes ts)
  all_levels_below types.none = omega arith
  all_levels_below (types.more t ts) = omega (arith, length-append (ty_nodes t) (tys_nodes ts), levels_below t, all_levels_below ts)

-- the levels of a part of a list
pub levels_at : (ts : List Ty) (k : ℕ) (t : Ty) → k < length ts → ty_levels (get_or ts k t) ≤ tys_levels (tys_of ts)
levels_at [] k t h = absurd (omega arith)
levels_at (u ∷ ts) zero t h = omega arith
levels_at (u ∷ ts) (suc k) t h = omega (arith, levels_at ts k t (omega arith))

-- a list of written types, one by one
pub all_written_one_by_one : (seen : List ℕ) (depth : ℕ) (ts : List Ty) → opens_of (map (written_under seen depth) ts) ≡ all_written_under seen depth (tys_of ts)
all_written_one_by_one seen depth [] = refl
all_written_one_by_one seen depth (t ∷ ts) = ap (more (written_under seen depth t)) (all_written_one_by_one seen depth ts)

-- so many nodes that they are counted
pub few_nodes : (t : Ty) (k n : ℕ) → n ≡ min (node_count t) (2 ^ 64 - 1) → k + length (ty_nodes t) < 2 ^ 32 → n ≡ length (ty_nodes t)
few_nodes t k n is few = omega (arith, is, nodes_counted t, few)

pub ty_part : (ts : List Ty) (k : ℕ) (t : Ty) → k < length ts → t ≡ get_or ts k t → ty_size t < tys_size (tys_of ts)
ty_part ts k t within is = subst (λ (u : Ty). ty_size u < tys_size (tys_of ts)) (sym is) (type_at ts k t within)

pub levels_part : (ts : List Ty) (k : ℕ) (t : Ty) → k < length ts → t ≡ get_or ts k t → ty_levels t ≤ tys_levels (tys_of ts)
levels_part ts k t within is = subst (λ (u : Ty). ty_levels u ≤ tys_levels (tys_of ts)) (sym is) (levels_at ts k t within)
