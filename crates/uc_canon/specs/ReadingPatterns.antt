-- Reading patterns.
use Rattle.std.specs.Prelude.{ℕ, zero, suc, List, [], ◌∷◌, Some, None, ◌==◌, if◌then◌else◌}
use Rattle.uc_tree.specs.Patterns.{Pattern, any, variable, alias, literal, unit, tuple, list, constructor, cons, snoc, patterns_of}
use Rattle.uc_canon.specs.Reading.{Read, ◌>>=◌, counted_at, literal_by}
use Rattle.uc_canon.specs.ReadingTypes.{constructor_at}

-- the literal of a kind
unfoldable pub literal_pattern_at : ℕ → List ℕ → Read Pattern
literal_pattern_at kind bytes = do
  l ← literal_by kind bytes
  Some (literal l.0, l.1)

module _ (next : List ℕ → Read Pattern) where
  unfoldable pub alias_at : List ℕ → Read Pattern
  alias_at bytes = do
    p ← next bytes
    Some (alias p.0, p.1)

  unfoldable pub tuple_pattern_at : List ℕ → Read Pattern
  tuple_pattern_at bytes = do
    ps ← counted_at next 2 bytes
    Some (tuple (patterns_of ps.0), ps.1)

  unfoldable pub list_pattern_at : List ℕ → Read Pattern
  list_pattern_at bytes = do
    ps ← counted_at next 0 bytes
    Some (list (patterns_of ps.0), ps.1)

  unfoldable pub constructor_pattern_at : List ℕ → Read Pattern
  constructor_pattern_at bytes = do
    x ← constructor_at bytes
    ps ← counted_at next 0 x.1
    Some (constructor x.0 (patterns_of ps.0), ps.1)

  unfoldable pub cons_at : List ℕ → Read Pattern
  cons_at bytes = do
    p ← next bytes
    q ← next p.1
    Some (cons p.0 q.0, q.1)

  unfoldable pub snoc_at : List ℕ → Read Pattern
  snoc_at bytes = do
    p ← next bytes
    q ← next p.1
    Some (snoc p.0 q.0, q.1)

  unfoldable pub pattern_by : List ℕ → Read Pattern
  pattern_by [] = None
  pattern_by (c ∷ rest) =
      if c == 95 then Some (any, rest)
      else (if c == 118 then Some (variable, rest)
      else (if c == 64 then alias_at rest
      else (if c == 101 then Some (unit, rest)
      else (if c == 112 then tuple_pattern_at rest
      else (if c == 103 then list_pattern_at rest
      else (if c == 107 then constructor_pattern_at rest
      else (if c == 60 then cons_at rest
      else (if c == 62 then snoc_at rest else literal_pattern_at c rest))))))))

-- of at most so many levels
abbrev pub pattern_at : ℕ → List ℕ → Read Pattern
pattern_at zero bytes = None
pattern_at (suc depth) bytes = pattern_by (pattern_at depth) bytes
