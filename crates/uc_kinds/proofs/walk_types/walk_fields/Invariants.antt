use Rattle.std.proofs.Common.{◌≡◌, ◌+◌, ◌*◌, length, drop}
use Rattle.uc_tree.specs.Declarations.{fields_of}
use Rattle.uc_kinds.specs.Flaws.{fields_flaws}
use Rattle.uc_kinds.specs.Walks.{walked}
use Rattle.uc_kinds.proofs.walk_types.walk_fields.Given as goal

abbrev pub invariant-loop-fields : goal.invariant-loop-fields
invariant-loop-fields g l = (walked l.passed (fields_flaws (g.A.Arities.arity_of l.arities) (fields_of (drop l.fields-index l.ctors))) ≡ walked l.fn.before (fields_flaws (g.A.Arities.arity_of l.arities) (fields_of l.ctors))) × (l.passed + length (fields_flaws (g.A.Arities.arity_of l.arities) (fields_of (drop l.fields-index l.ctors))) ≡ l.fn.before + length (fields_flaws (g.A.Arities.arity_of l.arities) (fields_of l.ctors)))
