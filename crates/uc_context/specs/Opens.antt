-- Types with free variables as plain trees.
use Rattle.std.specs.Prelude.{ℕ, ◌+◌, List, [], ◌∷◌}
use Rattle.uc_tree.specs.declared.target.Target.{Target}

mutual
  -- a type: a bound variable, a rigid variable, an existential, a quantifier, an arrow, the unit, a tuple, or a declared type at its arguments
  pub data Open : Type 0 where
    bound : ℕ → Open
    rigid : ℕ → Open
    existential : ℕ → Open
    quantified : Open → Open
    arrow : Open → Open → Open
    unit : Open
    tuple : Opens → Open
    applied : Target → Opens → Open

  -- a list of types
  pub data Opens : Type 0 where
    none : Opens
    more : Open → Opens → Opens

-- the types of a list
abbrev pub opens_of : List Open → Opens
opens_of [] = none
opens_of (t ∷ ts) = more t (opens_of ts)

abbrev mutual
  -- what falls in a walk over a type: its nodes, and one for each place in a list
  pub open_size : Open → ℕ
  open_size (bound i) = 1
  open_size (rigid x) = 1
  open_size (existential x) = 1
  open_size (quantified t) = open_size t + 1
  open_size (arrow a b) = open_size a + open_size b + 1
  open_size unit = 1
  open_size (tuple ts) = opens_size ts + 1
  open_size (applied x ts) = opens_size ts + 1

  pub opens_size : Opens → ℕ
  opens_size none = 0
  opens_size (more t ts) = open_size t + opens_size ts + 1
