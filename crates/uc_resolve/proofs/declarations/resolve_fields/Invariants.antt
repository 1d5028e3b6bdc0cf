use Rattle.std.proofs.Common.{◌≡◌, [], drop}
use Rattle.uc_tree.specs.Declarations.{fields_of}
use Rattle.uc_scratch.specs.FileViews.{constructors_of}
use Rattle.uc_meaning.specs.ExprMeanings.{Scope}
use Rattle.uc_meaning.specs.Programs.{fields_meaning}
use Rattle.uc_resolve.specs.Collected.{after_fields}
use Rattle.uc_resolve.proofs.declarations.resolve_fields.Given as goal

abbrev pub invariant-loop-constructor : goal.invariant-loop-constructor
invariant-loop-constructor g l =
    let scope : Scope = record { binders = []; variables = l.initial.variables; usings = l.usings } in
    record {
      kept : l.variables ≡ l.initial.variables;
      collected : after_fields (fields_of l.fields.items, l.places) (fields_meaning (g.M.Meanings.known l.meanings) scope (constructors_of (drop l.constructor-index l.constructors)))
          ≡ fields_meaning (g.M.Meanings.known l.meanings) scope (constructors_of l.constructors);
    }
