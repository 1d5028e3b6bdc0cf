use Rattle.uc_context.proofs.Tournament.{least_is_unused, below_least_is_used}
use Rattle.uc_context.proofs.numbers.Numbers.least_unused.Goals as goal

pub returns-clause-unused : goal.returns-clause-unused
returns-clause-unused c = least_is_unused c.self.inside.tallies.items c.deref.result.now c.args.self.now c.least_at.result c.self.view_is c.self.invariant c.deref.ensures.value c.least_at.ensures

pub returns-clause-least : goal.returns-clause-least
returns-clause-least c = below_least_is_used c.self.inside.tallies.items c.deref.result.now c.args.self.now c.least_at.result c.self.view_is c.self.invariant c.deref.ensures.value c.least_at.ensures
