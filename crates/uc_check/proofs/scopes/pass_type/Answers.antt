use Rattle.std.proofs.Common.{arith, ap, ◌∙◌}
use Rattle.uc_patterns.specs.Spots.{passed}
use Rattle.uc_check.proofs.WrittenNodes.{nodes_counted, few_nodes}
use Rattle.uc_check.proofs.scopes.pass_type.Goals as goal

pub overflow_cast-type_nodes : goal.overflow_cast-type_nodes
overflow_cast-type_nodes c = omega (arith, c.type_nodes.ensures, nodes_counted c.args.ty.now, c.requires)

pub advance-requires : goal.advance-requires
advance-requires c = omega (arith, c.type_nodes.ensures, nodes_counted c.args.ty.now, c.requires)

pub returns : goal.returns
returns c = c.advance.ensures ∙ ap (passed c.args.spot.now) (few_nodes c.args.ty.now c.args.spot.now.node c.type_nodes.result c.type_nodes.ensures c.requires)
