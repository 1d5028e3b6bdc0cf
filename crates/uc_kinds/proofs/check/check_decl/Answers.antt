use Rattle.std.proofs.Common.{arith, sym, ap, ◌∙◌}
use Rattle.std.specs.Prelude.{Some}
use Rattle.uc_tree.specs.declared.item.Item.TheVariants as item
use Rattle.uc_kinds.proofs.Faultless.{accepted, refused}
use Rattle.uc_kinds.proofs.NodeCounts.{item_count}
use Rattle.uc_kinds.proofs.check.check_decl.Goals as goal

pub walk_decl-requires : goal.walk_decl-requires
walk_decl-requires g c = omega (arith, item_count (g.A.Arities.arity_of c.args.arities.now) (item.Kind c.args.of.now))

pub returns-in-Ok : goal.returns-in-Ok
returns-in-Ok g c = accepted (g.A.Arities.arity_of c.args.arities.now) c.args.member c.in-Ok.field-0 (item.Kind c.args.of.now) c.in-Ok.ensures

pub returns-in-Err : goal.returns-in-Err
returns-in-Err g c = refused (g.A.Arities.arity_of c.args.arities.now) c.args.member c.in-Err.flawed (item.Kind c.args.of.now) c.in-Err.ensures ∙ ap Some (sym c.fault.ensures)
