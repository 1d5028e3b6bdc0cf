use Rattle.std.proofs.Common.{◌≡◌, length, arith}
use Rattle.uc_components.specs.Searched.{state_of}
use Rattle.uc_components.proofs.Finished.{found}
use Rattle.uc_components.proofs.search.find_homes.Goals as goal

pub returns : goal.returns
returns c =
    let ne : c.len-count.result ≡ length c.in_ok-search.search.heads.items = omega (arith, c.len-count.ensures, c.in_ok-search.search.heads.ok) in
    found c.args.graph.now (state_of c.in_ok-search.search) _ c.in_ok-search.ensures c.requires ne
