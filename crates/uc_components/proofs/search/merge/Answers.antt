use Rattle.std.proofs.Common.{rules, ◌≡◌, ℕ, length, ◌<◌, ◌≤◌, ◌-◌, ◌+◌, arith, get_or, take, sym, ◌∙◌, subst}
use Rattle.uc_components.specs.Searched.{state_of, State, merged, Merging, target}
use Rattle.uc_components.proofs.Looks.{merge_more, merge_done, bounds_some}
use Rattle.uc_components.proofs.search.merge.Goals as goal

pub loop-search-preserved : goal.loop-search-preserved
loop-search-preserved c =
    let ne : c.len.result ≡ length c.loop-search.search.bounds.items = omega (arith, c.len.ensures, c.loop-search.search.bounds.ok) in
    let me : c.loop-search.search.bounds.len ≡ length c.loop-search.search.bounds.items = omega (arith, c.loop-search.search.bounds.ok) in
    let m : Merging c.args._graph.now (state_of record c.loop-search.search { bounds = c.pop.new.self }) c.args._top × (c.args.low ≡ get_or c.loop-search.search.index.items (target c.args._graph.now (state_of c.loop-search.search) c.args._top) 0) =
    merge_more _ _ _ _ _ _ _ _ c.loop-search.invariant.0.0 c.loop-search.invariant.0.1 ne c.index.ensures c.loop-search-test.true me c.pop.ensures.rest in (m, c.loop-search.invariant.1)

pub returns-clause-looked : goal.returns-clause-looked
returns-clause-looked c =
    let ne : c.len.result ≡ length c.loop-search.search.bounds.items = omega (arith, c.len.ensures, c.loop-search.search.bounds.ok) in
    merge_done _ _ _ _ _ _ c.loop-search.invariant.0.0 c.loop-search.invariant.0.1 ne c.index.ensures c.loop-search-test.false
