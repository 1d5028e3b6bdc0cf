use Rattle.std.proofs.Common.{refl, subst}
use Rattle.uc_meaning.specs.Entries.{IsInOrder}
use Rattle.uc_meaning.proofs.EntrySteps.{in_order_view}
use Rattle.uc_meaning.proofs.entries.Entries.add_to.Goals as goal

pub returns-clause-order : goal.returns-clause-order
returns-clause-order c = subst IsInOrder c.self.view_is (in_order_view _ (λ v w. refl) c.self.inside.targets.entries c.iter-name-items.ensures.ordered)
