use Rattle.std.proofs.Common.{◌≡◌, arith, refl, sym, ap, ◌∙◌}
use Rattle.std.specs.Prelude.{Some, None}
use Rattle.uc_tree.specs.declared.item.Item.TheVariants as item
use Rattle.uc_kinds.proofs.Faultless.{accepted, apart, refused, no_item_fault, well_formed_without}
use Rattle.uc_kinds.proofs.NodeCounts.{item_count}
use Rattle.uc_kinds.proofs.check.check_definition.Goals as goal

pub walk_definition-requires : goal.walk_definition-requires
walk_definition-requires g c = omega (arith, item_count (g.A.Arities.arity_of c.args.known.now) (item.Term c.args.of.now))

pub returns-in-Ok-clause-fault : goal.returns-in-Ok-clause-fault
returns-in-Ok-clause-fault g c = accepted (g.A.Arities.arity_of c.args.known.now) 0 c.in-Ok.field-0 (item.Term c.args.of.now) c.in-Ok.ensures

pub returns-in-Ok-clause-well_formed : goal.returns-in-Ok-clause-well_formed
returns-in-Ok-clause-well_formed g c = (λ _. well_formed_without (g.A.Arities.arity_of c.args.known.now) 0 (item.Term c.args.of.now) (accepted (g.A.Arities.arity_of c.args.known.now) 0 c.in-Ok.field-0 (item.Term c.args.of.now) c.in-Ok.ensures), λ _. refl)

pub returns-in-Err-clause-fault : goal.returns-in-Err-clause-fault
returns-in-Err-clause-fault g c = refused (g.A.Arities.arity_of c.args.known.now) 0 c.in-Err.flawed (item.Term c.args.of.now) c.in-Err.ensures ∙ ap Some (sym c.fault.ensures)

pub returns-in-Err-clause-well_formed : goal.returns-in-Err-clause-well_formed
returns-in-Err-clause-well_formed g c =
    (λ h. cc, λ w. absurd (apart _ _ (refused (g.A.Arities.arity_of c.args.known.now) 0 c.in-Err.flawed (item.Term c.args.of.now) c.in-Err.ensures) (no_item_fault (g.A.Arities.arity_of c.args.known.now) 0 (item.Term c.args.of.now) w)))
