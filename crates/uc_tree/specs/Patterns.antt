-- Patterns as plain trees.
use Rattle.std.specs.Prelude.{ℕ, ◌+◌, List, [], ◌∷◌}
use Rattle.uc_tree.specs.declared.target.Target.{Target}
use Rattle.uc_tree.specs.declared.literal.Literal.{Literal}

mutual
  pub data Pattern : Type 0 where
    any : Pattern
    variable : Pattern
    alias : Pattern → Pattern
    literal : Literal → Pattern
    unit : Pattern
    tuple : Patterns → Pattern
    list : Patterns → Pattern
    constructor : Target → Patterns → Pattern
    cons : Pattern → Pattern → Pattern
    snoc : Pattern → Pattern → Pattern

  pub data Patterns : Type 0 where
    none : Patterns
    more : Pattern → Patterns → Patterns

abbrev pub patterns_of : List Pattern → Patterns
patterns_of [] = none
patterns_of (p ∷ ps) = more p (patterns_of ps)

abbrev mutual
  pub pattern_size : Pattern → ℕ
  pattern_size any = 1
  pattern_size variable = 1
  pattern_size (alias p) = pattern_size p + 1
  pattern_size (literal l) = 1
  pattern_size unit = 1
  pattern_size (tuple ps) = patterns_size ps + 1
  pattern_size (list ps) = patterns_size ps + 1
  pattern_size (constructor x ps) = patterns_size ps + 1
  pattern_size (cons p q) = pattern_size p + pattern_size q + 1
  pattern_size (snoc p q) = pattern_size p + pattern_size q + 1

  pub patterns_size : Patterns → ℕ
  patterns_size none = 0
  patterns_size (more p ps) = pattern_size p + patterns_size ps + 1
