use Rattle.std.proofs.Common.{arith, refl, List}
use Rattle.uc_tree.specs.Patterns.{Pattern, patterns_of}
use Rattle.uc_tree.specs.Nodes.{pattern_nodes, patterns_nodes}
use Rattle.uc_tree.proofs.Sizes.{pattern_at}
use Rattle.uc_kinds.proofs.Loops.{room}
use Rattle.uc_kinds.proofs.walk_patterns.+walk_pattern.Goals as goal

pub walk_patterns-walk_pattern-passed-requires : goal.walk_patterns-walk_pattern-passed-requires
walk_patterns-walk_pattern-passed-requires t c = (
  grind (arith, pattern_at),
  room pattern_nodes (λ (ps : List Pattern). patterns_nodes (patterns_of ps)) (λ x xs. refl)
      c.args.ps.now c.loop-p.p-index c.p-item.result c.loop-p-test.true c.p-item.is c.loop-p.passed _ _ c.loop-p.invariant c.requires,
)
