use Rattle.std.proofs.Common.{◌≡◌, ap, sym, subst, ◌∙◌}
use Rattle.uc_turnstile.specs.Passes.{IsComplete, HoldsAllPasses}
use Rattle.uc_turnstile.proofs.Keeps.{idle_of}
use Rattle.uc_turnstile.proofs.Closes.{closes, taken_is}
use Rattle.uc_turnstile.proofs.turnstile.Turnstile.close.Goals as goal
use Rattle.uc_turnstile.specs.Rule.{pass_view}

pub unreachable-requires : goal.unreachable-requires
unreachable-requires g c =
    let e = c.into_seat-seat.ensures in
    let t = (closes _ _ g.S.Worked.entries c.args.self.table.shared.key.passes _ _ c.into_seat-seat.result.me.0 _ _ ((λ i. (e i).me.0.stage) ∙ idle_of _ c.args.last.idle) (subst (λ s. HoldsAllPasses c.args.self.table.shared.key.passes (pass_view s.me.0)) (sym e) c.requires.all) c.close_with-closed.ensures.values.2).1 in
    c.in_default.not-Some t.0 (taken_is _ t.0 _ t.1 c.take-place.ensures.value)

pub returns-clause-state : goal.returns-clause-state
returns-clause-state g c =
    let e = c.into_seat-seat.ensures in
    let t = (closes _ _ g.S.Worked.entries c.args.self.table.shared.key.passes _ _ c.into_seat-seat.result.me.0 _ _ ((λ i. (e i).me.0.stage) ∙ idle_of _ c.args.last.idle) (subst (λ s. HoldsAllPasses c.args.self.table.shared.key.passes (pass_view s.me.0)) (sym e) c.requires.all) c.close_with-closed.ensures.values.2).1 in
    let same : c.in-Some.state ≡ t.0 = cc (c.in-Some.is, taken_is _ t.0 _ t.1 c.take-place.ensures.value) in
    ap g.S.Worked.entries same ∙ (t.2 ∙ (λ i. (e i).me.0.seen))

pub returns-clause-complete : goal.returns-clause-complete
returns-clause-complete g c =
    let e = c.into_seat-seat.ensures in
    subst (λ s. IsComplete (g.S.Worked.entries c.args.self.table.shared.key.state.value) (pass_view s.me.0)) e (closes _ _ g.S.Worked.entries c.args.self.table.shared.key.passes _ _ c.into_seat-seat.result.me.0 _ _ ((λ i. (e i).me.0.stage) ∙ idle_of _ c.args.last.idle) (subst (λ s. HoldsAllPasses c.args.self.table.shared.key.passes (pass_view s.me.0)) (sym e) c.requires.all) c.close_with-closed.ensures.values.2).0
