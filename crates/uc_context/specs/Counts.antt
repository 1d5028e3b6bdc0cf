-- How large types with free variables are, and how large a type in the checker may be.
use Rattle.std.specs.Prelude.{ℕ, ◌+◌, ◌≤◌, max}
use Rattle.uc_context.specs.Opens.{Open, bound, rigid, existential, quantified, arrow, unit, tuple, applied, Opens, none, more}
use Rattle.uc_context.specs.declared.counting.TheConstants.{TYPE_NODE_LIMIT, TYPE_LEVEL_LIMIT}

abbrev mutual
  -- how many nodes a type has
  pub open_node_count : Open → ℕ
  open_node_count (bound i) = 1
  open_node_count (rigid x) = 1
  open_node_count (existential x) = 1
  open_node_count (quantified t) = open_node_count t + 1
  open_node_count (arrow a b) = open_node_count a + open_node_count b + 1
  open_node_count unit = 1
  open_node_count (tuple ts) = opens_node_count ts + 1
  open_node_count (applied x ts) = opens_node_count ts + 1

  pub opens_node_count : Opens → ℕ
  opens_node_count none = 0
  opens_node_count (more t ts) = open_node_count t + opens_node_count ts

abbrev mutual
  -- the levels of a type: a node is one, and its parts stand below it
  pub levels_of_open : Open → ℕ
  levels_of_open (bound i) = 1
  levels_of_open (rigid x) = 1
  levels_of_open (existential x) = 1
  levels_of_open (quantified t) = levels_of_open t + 1
  levels_of_open (arrow a b) = max (levels_of_open a) (levels_of_open b) + 1
  levels_of_open unit = 1
  levels_of_open (tuple ts) = levels_of_opens ts + 1
  levels_of_open (applied x ts) = levels_of_opens ts + 1

  pub levels_of_opens : Opens → ℕ
  levels_of_opens none = 0
  levels_of_opens (more t ts) = max (levels_of_open t) (levels_of_opens ts)

-- within the limits of a type in the checker
pub record IsSmall (t : Open) : Type 0 where
  pub nodes : open_node_count t ≤ TYPE_NODE_LIMIT
  pub levels : levels_of_open t ≤ TYPE_LEVEL_LIMIT
