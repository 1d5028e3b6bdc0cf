-- Each part of a pattern has fewer nodes than the pattern.
use Rattle.std.specs.Prelude.{◌+◌, ◌≤◌, max, List, [], ◌∷◌}
use Rattle.std.proofs.Common.{arith}
use denote.Param.Weighed.{most}
use Rattle.uc_tree.specs.declared.pattern.PatternNode.{PatternNode}
use Rattle.uc_tree.specs.declared.pattern.PatternNode.TheVariants as node
use Rattle.uc_tree.specs.declared.pattern.Pattern.TheDeep.{deep-PatternNode}
use Rattle.uc_tree.specs.Patterns.{Pattern, patterns_of, pattern_size, patterns_size}
use Rattle.uc_tree.specs.PatternViews.{pattern_of}

some_nodes : (ps : List Pattern) → most (λ p. pattern_size p + 1) ps ≤ patterns_size (patterns_of ps) + 1
some_nodes [] = omega arith
some_nodes (p ∷ ps) = omega (arith, some_nodes ps)

pub falls : (n : PatternNode) → max (deep-PatternNode n) 0 ≤ pattern_size (pattern_of n)
falls node.Any = omega arith
falls node.Var = omega arith
falls (node.As p) = omega arith
falls (node.Literal l) = omega arith
falls node.Unit = omega arith
falls (node.Tuple ps) = omega (arith, some_nodes ps.items)
falls (node.List ps) = omega (arith, some_nodes ps.items)
falls (node.Ctor x ps) = omega (arith, some_nodes ps.items)
falls (node.Cons p q) = omega arith
falls (node.Snoc p q) = omega arith
