use Rattle.std.proofs.Common.{rules, subst, length, ◌∙◌}
use Rattle.uc_turnstile.specs.Passes.{Meets}
use Rattle.uc_turnstile.specs.Rule.{is_idle, pass_view}
use Rattle.uc_turnstile.proofs.Keeps.{empty_of, idle_of}
use Rattle.uc_turnstile.proofs.Splits.{joins_keep, tells_keep, meets}
use Rattle.uc_turnstile.proofs.turnstile.Turnstile.meet.Goals as goal

pub join_seat-requires : goal.join_seat-requires
join_seat-requires g c = let e = c.into_seat-seat.ensures in (
  c.requires.own.0,
  (λ i. (e i).table_id) ∙ c.requires.own.1,
  empty_of _ ((λ i. length (e i).me.1) ∙ c.args.other.empty),
  search rules,
  joins_keep _ _ _ _ _ _ _ _ _ (idle_of _ c.args.pass.now.idle) (idle_of _ ((λ i. is_idle (e i).me.0.stage) ∙ c.args.other.idle)),
)

pub load-requires : goal.load-requires
load-requires g c = (search rules, search rules, tells_keep _ _ _ _ _ _ _ _ (idle_of _ ((λ i. is_idle (c.join_seat.ensures.2 i).0.stage) ∙ c.args.pass.now.idle)))

pub returns-clause-met : goal.returns-clause-met
returns-clause-met g c = let e = c.into_seat-seat.ensures in
    subst (λ s. Meets (pass_view c.args.pass.now.seat.me.0) (pass_view s.me.0) (pass_view c.load.new.seat.me.0)) e
    (meets c.args.pass.now.seat.me.0 c.into_seat-seat.result.me.0 _ c.join_seat.new.seat.me.0 (idle_of _ c.args.pass.now.idle) (λ i. (c.join_seat.ensures.2 i).0) (λ i. (c.load.ensures.2.0 i).0) c.load.ensures.2.1 c.load.ensures.2.2)
