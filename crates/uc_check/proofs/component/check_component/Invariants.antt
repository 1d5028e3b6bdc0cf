use Rattle.uc_typing.specs.Components.{with_members}
use Rattle.uc_check.specs.Answers.{known_by}
use Rattle.uc_check.proofs.ComponentRules.{PendingMembers}
use Rattle.uc_check.proofs.component.check_component.Given as goal

abbrev pub invariant-loop-number : goal.invariant-loop-number
invariant-loop-number g l = PendingMembers (with_members (known_by (g.E.Arities.arity_of l.fn.env) (g.E.Env.type_at l.fn.env)) l.fn.members) l.fn.members l.number l.types.items
