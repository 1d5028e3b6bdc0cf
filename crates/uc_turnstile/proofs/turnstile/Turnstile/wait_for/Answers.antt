use Rattle.std.proofs.Common.{rules, subst, ◌∙◌}
use Rattle.uc_turnstile.specs.Rule.{IsServed}
use Rattle.uc_turnstile.proofs.Keeps.{looks_keep}
use Rattle.uc_turnstile.proofs.turnstile.Turnstile.wait_for.Goals as goal

pub load-requires : goal.load-requires
load-requires g c = (search rules, search rules, looks_keep _ _ _ _ _ _ _ _ _ c.args.ticket (search rules) (search rules))

pub returns-then-load-ticket-clause-served : goal.returns-then-load-ticket-clause-served
returns-then-load-ticket-clause-served g c = subst (λ m. IsServed g.S.Worked.entries g.S.Worked.faults m.0 c.args.ticket c.load.new.seat.me) c.loop.invariant.1 ((c.load.ensures.2 c.args.ticket (search rules)).0 c.if-load-ticket.true)

pub loop-preserved : goal.loop-preserved
loop-preserved g c = (
  search rules,
  (c.load.ensures.2 c.args.ticket (search rules)).1 c.if-load-ticket.false ∙ c.loop.invariant.1,
)
