use Rattle.std.proofs.Common.{rules, ◌≡◌, ℕ, length, ◌<◌, ◌≤◌, ◌-◌, ◌+◌, arith, get_or, take, sym, ◌∙◌, subst, Bool, true, false}
use Rattle.std.proofs.lemmas.Result.{IfOk-weaker}
use Rattle.uc_components.specs.Searched.{state_of, State, target, Looked}
use Rattle.uc_components.proofs.Looks.{target_at, target_in, flag_at, low_at, enter_grows, look_enter, look_closed, look_merging}
use Rattle.uc_components.proofs.search.look.Goals as goal

pub index-requires-4 : goal.index-requires-4
index-requires-4 c =
    let e : c.reference-target.result ≡ target c.args.graph.now (state_of c.args.search.now) c.args.top = target_at _ _ _ _ _ _ _ c.requires.looking c.index.ensures c.index-2.ensures c.index-3.ensures c.reference-target.ensures in
    let lt : c.reference-target.result < length c.args.graph.now = target_in _ _ _ _ c.requires.range c.requires.looking e in
    omega (arith, c.requires.looking.good.seen_len)

pub enter-requires-clause-seen : goal.enter-requires-clause-seen
enter-requires-clause-seen c =
    let e : c.reference-target.result ≡ target c.args.graph.now (state_of c.args.search.now) c.args.top = target_at _ _ _ _ _ _ _ c.requires.looking c.index.ensures c.index-2.ensures c.index-3.ensures c.reference-target.ensures in
    let lt : c.reference-target.result < length c.args.graph.now = target_in _ _ _ _ c.requires.range c.requires.looking e in
    omega (arith, c.requires.looking.good.seen_len)

pub enter-requires-clause-index : goal.enter-requires-clause-index
enter-requires-clause-index c =
    let e : c.reference-target.result ≡ target c.args.graph.now (state_of c.args.search.now) c.args.top = target_at _ _ _ _ _ _ _ c.requires.looking c.index.ensures c.index-2.ensures c.index-3.ensures c.reference-target.ensures in
    let lt : c.reference-target.result < length c.args.graph.now = target_in _ _ _ _ c.requires.range c.requires.looking e in
    omega (arith, c.requires.looking.good.index_len)

pub returns-then-not-index-clause-looked : goal.returns-then-not-index-clause-looked
returns-then-not-index-clause-looked c =
    let e : c.reference-target.result ≡ target c.args.graph.now (state_of c.args.search.now) c.args.top = target_at _ _ _ _ _ _ _ c.requires.looking c.index.ensures c.index-2.ensures c.index-3.ensures c.reference-target.ensures in
    let lt : c.reference-target.result < length c.args.graph.now = target_in _ _ _ _ c.requires.range c.requires.looking e in
    let sl : c.reference-target.result < length c.args.search.now.seen.items = omega (arith, c.requires.looking.good.seen_len) in
    IfOk-weaker c.enter.result _ _ (λ x h. look_enter _ _ _ _ _ c.requires.range c.requires.looking e (flag_at _ _ _ _ sl c.index-4.ensures c.if-not-index.true) h) c.enter.ensures

pub index-requires-5 : goal.index-requires-5
index-requires-5 c =
    let e : c.reference-target.result ≡ target c.args.graph.now (state_of c.args.search.now) c.args.top = target_at _ _ _ _ _ _ _ c.requires.looking c.index.ensures c.index-2.ensures c.index-3.ensures c.reference-target.ensures in
    let lt : c.reference-target.result < length c.args.graph.now = target_in _ _ _ _ c.requires.range c.requires.looking e in
    omega (arith, c.requires.looking.good.closed_len)

pub returns-then-index-clause-looked : goal.returns-then-index-clause-looked
returns-then-index-clause-looked c =
    let e : c.reference-target.result ≡ target c.args.graph.now (state_of c.args.search.now) c.args.top = target_at _ _ _ _ _ _ _ c.requires.looking c.index.ensures c.index-2.ensures c.index-3.ensures c.reference-target.ensures in
    let lt : c.reference-target.result < length c.args.graph.now = target_in _ _ _ _ c.requires.range c.requires.looking e in
    let cl : c.reference-target.result < length c.args.search.now.closed.items = omega (arith, c.requires.looking.good.closed_len) in
    look_closed _ _ _ _ c.requires.looking e (flag_at _ _ _ _ cl c.index-5.ensures c.if-index.true)

pub index-low-requires : goal.index-low-requires
index-low-requires c =
    let e : c.reference-target.result ≡ target c.args.graph.now (state_of c.args.search.now) c.args.top = target_at _ _ _ _ _ _ _ c.requires.looking c.index.ensures c.index-2.ensures c.index-3.ensures c.reference-target.ensures in
    let lt : c.reference-target.result < length c.args.graph.now = target_in _ _ _ _ c.requires.range c.requires.looking e in
    omega (arith, c.requires.looking.good.index_len)

pub merge-requires-clause-merging : goal.merge-requires-clause-merging
merge-requires-clause-merging c =
    let e : c.reference-target.result ≡ target c.args.graph.now (state_of c.args.search.now) c.args.top = target_at _ _ _ _ _ _ _ c.requires.looking c.index.ensures c.index-2.ensures c.index-3.ensures c.reference-target.ensures in
    let lt : c.reference-target.result < length c.args.graph.now = target_in _ _ _ _ c.requires.range c.requires.looking e in
    let sl : c.reference-target.result < length c.args.search.now.seen.items = omega (arith, c.requires.looking.good.seen_len) in
    let cl : c.reference-target.result < length c.args.search.now.closed.items = omega (arith, c.requires.looking.good.closed_len) in
    look_merging _ _ _ _ c.requires.looking e (flag_at _ _ _ _ sl c.index-4.ensures c.if-not-index.false) (flag_at _ _ _ _ cl c.index-5.ensures c.if-index.false)

pub merge-requires-clause-low : goal.merge-requires-clause-low
merge-requires-clause-low c =
    let e : c.reference-target.result ≡ target c.args.graph.now (state_of c.args.search.now) c.args.top = target_at _ _ _ _ _ _ _ c.requires.looking c.index.ensures c.index-2.ensures c.index-3.ensures c.reference-target.ensures in
    let lt : c.reference-target.result < length c.args.graph.now = target_in _ _ _ _ c.requires.range c.requires.looking e in
    let il : c.reference-target.result < length c.args.search.now.index.items = omega (arith, c.requires.looking.good.index_len) in
    low_at c.args.graph.now (state_of c.args.search.now) c.args.top _ _ il c.index-low.ensures e

pub returns-then-not-index-clause-grows : goal.returns-then-not-index-clause-grows
returns-then-not-index-clause-grows c =
    let e : c.reference-target.result ≡ target c.args.graph.now (state_of c.args.search.now) c.args.top = target_at _ _ _ _ _ _ _ c.requires.looking c.index.ensures c.index-2.ensures c.index-3.ensures c.reference-target.ensures in
    let lt : c.reference-target.result < length c.args.graph.now = target_in _ _ _ _ c.requires.range c.requires.looking e in
    let sl : c.reference-target.result < length c.args.search.now.seen.items = omega (arith, c.requires.looking.good.seen_len) in
    IfOk-weaker c.enter.result _ _ (λ x h. enter_grows _ _ _ sl h) c.enter.ensures
