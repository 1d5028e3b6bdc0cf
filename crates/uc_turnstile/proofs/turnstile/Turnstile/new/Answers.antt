use Rattle.uc_turnstile.specs.Rule.{pass_view}
use Rattle.uc_turnstile.proofs.turnstile.Turnstile.new.Goals as goal

pub returns-in-Ok-open-clause-each : goal.returns-in-Ok-open-clause-each
returns-in-Ok-open-clause-each g c k p at = λ i. pass_view ((c.deal.ensures.each _ c.in-Ok-open.ensures.ok.1 k p at) i).0
