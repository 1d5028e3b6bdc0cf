-- The pattern that a node stands for.
use Rattle.uc_tree.specs.Patterns.{Pattern, any, variable, alias, literal, unit, tuple, list, constructor, cons, snoc, patterns_of}
use Rattle.uc_tree.specs.declared.pattern.PatternNode.{PatternNode}
use Rattle.uc_tree.specs.declared.pattern.PatternNode.TheVariants as node

abbrev pub pattern_of : PatternNode → Pattern
pattern_of node.Any = any
pattern_of node.Var = variable
pattern_of (node.As p) = alias p.value
pattern_of (node.Literal l) = literal l
pattern_of node.Unit = unit
pattern_of (node.Tuple ps) = tuple (patterns_of ps.items)
pattern_of (node.List ps) = list (patterns_of ps.items)
pattern_of (node.Ctor x ps) = constructor x (patterns_of ps.items)
pattern_of (node.Cons p q) = cons p.value q.value
pattern_of (node.Snoc p q) = snoc p.value q.value
