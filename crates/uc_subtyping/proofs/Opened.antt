-- A type opened by a variable is as large as before.
use Rattle.std.proofs.Common.{◌≡◌, ℕ, suc, ◌+◌, ◌≤◌, Bool, true, false, cond, eqb, max, arith, refl, ap}
use Rattle.uc_context.specs.Opens.{Open, bound, rigid, existential, quantified, arrow, unit, tuple, applied, Opens, none, more, open_size, opens_size}
use Rattle.uc_context.specs.Counts.{open_node_count, opens_node_count, levels_of_open, levels_of_opens}
use Rattle.uc_context.specs.Variables.{opened_at, opened_all_at}

module _ (by : Open) (leaf : open_node_count by ≡ 1) where
  mutual
    pub nodes-opened : (k : ℕ) (t : Open) → open_node_count (opened_at k by t) ≡ open_node_count t
    nodes-opened k (bound i) = go (eqb i k)
      where
        go : (b : Bool) → open_node_count (cond b by (bound i)) ≡ 1
        go true = leaf
        go false = refl
    nodes-opened k (rigid y) = refl
    nodes-opened k (existential y) = refl
    nodes-opened k (quantified t) = omega (arith, nodes-opened (suc k) t)
    nodes-opened k (arrow a b) = omega (arith, nodes-opened k a, nodes-opened k b)
    nodes-opened k unit = refl
    nodes-opened k (tuple ts) = omega (arith, all_nodes-opened k ts)
    nodes-opened k (applied h ts) = omega (arith, all_nodes-opened k ts)

    all_nodes-opened : (k : ℕ) (ts : Opens) → opens_node_count (opened_all_at k by ts) ≡ opens_node_count ts
    all_nodes-opened k none = refl
    all_nodes-opened k (more t ts) = omega (arith, nodes-opened k t, all_nodes-opened k ts)

module _ (by : Open) (leaf : levels_of_open by ≡ 1) where
  mutual
    pub levels-opened : (k : ℕ) (t : Open) → levels_of_open (opened_at k by t) ≡ levels_of_open t
    levels-opened k (bound i) = go (eqb i k)
      where
        go : (b : Bool) → levels_of_open (cond b by (bound i)) ≡ 1
        go true = leaf
        go false = refl
    levels-opened k (rigid y) = refl
    levels-opened k (existential y) = refl
    levels-opened k (quantified t) = ap (λ (n : ℕ). n + 1) (levels-opened (suc k) t)
    levels-opened k (arrow a b) = rw (levels-opened k a, levels-opened k b) refl
    levels-opened k unit = refl
    levels-opened k (tuple ts) = ap (λ (n : ℕ). n + 1) (all_levels-opened k ts)
    levels-opened k (applied h ts) = ap (λ (n : ℕ). n + 1) (all_levels-opened k ts)

    all_levels-opened : (k : ℕ) (ts : Opens) → levels_of_opens (opened_all_at k by ts) ≡ levels_of_opens ts
    all_levels-opened k none = refl
    all_levels-opened k (more t ts) = rw (levels-opened k t, all_levels-opened k ts) refl

module _ (by : Open) (leaf : open_size by ≡ 1) where
  mutual
    pub size-opened : (k : ℕ) (t : Open) → open_size (opened_at k by t) ≡ open_size t
    size-opened k (bound i) = go (eqb i k)
      where
        go : (b : Bool) → open_size (cond b by (bound i)) ≡ 1
        go true = leaf
        go false = refl
    size-opened k (rigid y) = refl
    size-opened k (existential y) = refl
    size-opened k (quantified t) = omega (arith, size-opened (suc k) t)
    size-opened k (arrow a b) = omega (arith, size-opened k a, size-opened k b)
    size-opened k unit = refl
    size-opened k (tuple ts) = omega (arith, all_size-opened k ts)
    size-opened k (applied h ts) = omega (arith, all_size-opened k ts)

    all_size-opened : (k : ℕ) (ts : Opens) → opens_size (opened_all_at k by ts) ≡ opens_size ts
    all_size-opened k none = refl
    all_size-opened k (more t ts) = omega (arith, size-opened k t, all_size-opened k ts)
