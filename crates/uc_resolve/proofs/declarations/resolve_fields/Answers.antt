use Rattle.std.proofs.Common.{[], sym, ap, ◌∙◌}
use Rattle.uc_scratch.specs.TypeViews.{type_atoms}
use Rattle.uc_meaning.specs.TypeMeanings.{type_atoms_meaning}
use Rattle.uc_meaning.specs.ExprMeanings.{Scope}
use Rattle.uc_resolve.proofs.DeclarationSteps.{fields_step}
use Rattle.uc_resolve.proofs.declarations.resolve_fields.Goals as goal

pub loop-constructor-preserved : goal.loop-constructor-preserved
loop-constructor-preserved g c =
    let scope : Scope = record { binders = []; variables = c.args.variables.now; usings = c.args.usings.now } in
    let known = g.M.Meanings.known c.args.meanings.now in
    let fields = ap (λ l. type_atoms_meaning known c.args.usings.now c.loop-constructor.variables (type_atoms l)) (sym c.deref.ensures.value) ∙ c.in_ok-types.ensures.value in
    record {
      kept = c.in_ok-types.ensures.kept ∙ c.loop-constructor.invariant.kept;
      collected = fields_step known scope c.args.constructors.now c.loop-constructor.constructor-index c.constructor-item.result
          c.loop-constructor.variables c.loop-constructor.fields.items c.push.new.self.items c.loop-constructor.places c.append.new.self c.in_ok-types.types.tree c.in_ok-types.types.places _
          c.loop-constructor-test.true c.constructor-item.is c.loop-constructor.invariant.kept fields c.in_ok-push.ensures.items c.in_ok-append.ensures
          c.loop-constructor.invariant.collected;
    }
