use Rattle.std.proofs.Common.{rules, ◌≡◌, ℕ, length, ◌<◌, ◌≤◌, ◌-◌, ◌+◌, arith, get_or, take, sym, ◌∙◌, subst, Bool, true, false}
use Rattle.std.proofs.lemmas.Result.{IfOk-weaker}
use Rattle.uc_components.specs.Searched.{state_of, State}
use Rattle.uc_components.proofs.Looks.{leave_shut, leave_plain, shut_grows}
use Rattle.uc_components.proofs.search.leave.Goals as goal

pub returns-then-index-from-clause-good : goal.returns-then-index-from-clause-good
returns-then-index-from-clause-good c =
    let ne : c.len.result ≡ length c.args.search.now.bounds.items = omega (arith, c.len.ensures, c.args.search.now.bounds.ok) in
    IfOk-weaker c.close.result _ _ (λ x h. leave_shut _ _ _ _ _ _ _ _ _ c.requires c.index-from.ensures ne c.index-3.ensures c.if-index-from.true h) c.close.ensures

pub returns-clause-good : goal.returns-clause-good
returns-clause-good c =
    let ne : c.len.result ≡ length c.args.search.now.bounds.items = omega (arith, c.len.ensures, c.args.search.now.bounds.ok) in
    let pe : c.args.search.now.path.len ≡ length c.args.search.now.path.items = omega (arith, c.args.search.now.path.ok) in
    let xe : c.args.search.now.nexts.len ≡ length c.args.search.now.nexts.items = omega (arith, c.args.search.now.nexts.ok) in
    leave_plain _ _ _ _ _ _ _ _ _ _ c.requires c.index-from.ensures ne c.index-3.ensures c.if-index-from.false pe xe c.pop.ensures.rest c.pop-2.ensures.rest

pub returns-then-index-from-clause-grows : goal.returns-then-index-from-clause-grows
returns-then-index-from-clause-grows c = IfOk-weaker c.close.result _ _ (λ x h. shut_grows (state_of c.args.search.now) _ _ _ _ h.1) c.close.ensures
