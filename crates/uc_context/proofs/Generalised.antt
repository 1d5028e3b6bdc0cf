-- How large types are that are generalised.
use Rattle.std.proofs.Common.{◌≡◌, ℕ, suc, ◌+◌, max, cond, eqb, true, false, List, [], ◌∷◌, length, refl, arith}
use Rattle.uc_context.specs.Opens.{Open, bound, rigid, existential, quantified, arrow, unit, tuple, applied, Opens, none, more}
use Rattle.uc_context.specs.Counts.{open_node_count, opens_node_count, levels_of_open, levels_of_opens}
use Rattle.uc_context.specs.Generalising.{bound_by, all_bound_at, each_bound_at, behind_quantifiers, generalised}

-- what stands for an existential is one node
bound_by-node : (xs : List ℕ) (k x : ℕ) → open_node_count (bound_by xs k x) ≡ 1
bound_by-node [] k x = refl
bound_by-node (y ∷ ys) k x = elim (eqb y x) as (λ b. open_node_count (cond b (bound (length ys + k)) (bound_by ys k x)) ≡ 1) [ true ↦ refl | false ↦ bound_by-node ys k x ]

bound_by-level : (xs : List ℕ) (k x : ℕ) → levels_of_open (bound_by xs k x) ≡ 1
bound_by-level [] k x = refl
bound_by-level (y ∷ ys) k x = elim (eqb y x) as (λ b. levels_of_open (cond b (bound (length ys + k)) (bound_by ys k x)) ≡ 1) [ true ↦ refl | false ↦ bound_by-level ys k x ]

-- nodes stay where existentials are bound
mutual
  bound-nodes : (xs : List ℕ) (k : ℕ) (t : Open) → open_node_count (all_bound_at xs k t) ≡ open_node_count t
  bound-nodes xs k (bound i) = refl
  bound-nodes xs k (rigid y) = refl
  bound-nodes xs k (existential y) = bound_by-node xs k y
  bound-nodes xs k (quantified t) = omega (arith, bound-nodes xs (suc k) t)
  bound-nodes xs k (arrow a b) = omega (arith, bound-nodes xs k a, bound-nodes xs k b)
  bound-nodes xs k unit = refl
  bound-nodes xs k (tuple ts) = omega (arith, all_bound-nodes xs k ts)
  bound-nodes xs k (applied h ts) = omega (arith, all_bound-nodes xs k ts)

  all_bound-nodes : (xs : List ℕ) (k : ℕ) (ts : Opens) → opens_node_count (each_bound_at xs k ts) ≡ opens_node_count ts
  all_bound-nodes xs k none = refl
  all_bound-nodes xs k (more t ts) = omega (arith, bound-nodes xs k t, all_bound-nodes xs k ts)

-- levels stay
mutual
  bound-levels : (xs : List ℕ) (k : ℕ) (t : Open) → levels_of_open (all_bound_at xs k t) ≡ levels_of_open t
  bound-levels xs k (bound i) = refl
  bound-levels xs k (rigid y) = refl
  bound-levels xs k (existential y) = bound_by-level xs k y
  bound-levels xs k (quantified t) = omega (arith, bound-levels xs (suc k) t)
  bound-levels xs k (arrow a b) = omega (arith, bound-levels xs k a, bound-levels xs k b)
  bound-levels xs k unit = refl
  bound-levels xs k (tuple ts) = omega (arith, all_bound-levels xs k ts)
  bound-levels xs k (applied h ts) = omega (arith, all_bound-levels xs k ts)

  all_bound-levels : (xs : List ℕ) (k : ℕ) (ts : Opens) → levels_of_opens (each_bound_at xs k ts) ≡ levels_of_opens ts
  all_bound-levels xs k none = refl
  all_bound-levels xs k (more t ts) = omega (arith, bound-levels xs k t, all_bound-levels xs k ts)

-- each quantifier in front is a node and a level more
behind-nodes : (xs : List ℕ) (t : Open) → open_node_count (behind_quantifiers xs t) ≡ length xs + open_node_count t
behind-nodes [] t = omega arith
behind-nodes (x ∷ xs) t = omega (arith, behind-nodes xs t)

behind-levels : (xs : List ℕ) (t : Open) → levels_of_open (behind_quantifiers xs t) ≡ length xs + levels_of_open t
behind-levels [] t = omega arith
behind-levels (x ∷ xs) t = omega (arith, behind-levels xs t)

pub generalised-nodes : (xs : List ℕ) (t : Open) → open_node_count (generalised xs t) ≡ length xs + open_node_count t
generalised-nodes xs t = omega (arith, behind-nodes xs (all_bound_at xs 0 t), bound-nodes xs 0 t)

pub generalised-levels : (xs : List ℕ) (t : Open) → levels_of_open (generalised xs t) ≡ length xs + levels_of_open t
generalised-levels xs t = omega (arith, behind-levels xs (all_bound_at xs 0 t), bound-levels xs 0 t)

-- how large a generalised type is
pub ruleset sizes = (generalised-nodes, generalised-levels)
