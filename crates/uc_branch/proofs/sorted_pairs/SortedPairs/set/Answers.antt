use Rattle.std.proofs.Common.{ap, ◌∙◌}
use Rattle.uc_tree.specs.Lookups.{Pairs}
use Rattle.uc_branch.specs.Pairs.{pair_name, put}
use Rattle.uc_branch.specs.Places.{IsPlace, IsGap}
use Rattle.uc_branch.proofs.PairEdits.{put_at, put_no, sorted_put}
use Rattle.uc_branch.proofs.sorted_pairs.SortedPairs.set.Goals as goal

pub invariant_of-self : goal.invariant_of-self
invariant_of-self c =
    let items = c.self.inside.pairs.items in
    let place : IsPlace pair_name c.args.name items c.in-Ok.at = rw c.self.view_is c.in-Ok.ensures.found in
    rw (put_at c.args.name c.args.target items c.in-Ok.at c.index_mut.result.now place c.index_mut.ensures.value) (sorted_put c.args.name c.args.target items c.self.invariant)

pub invariant_of-self-in-Err : goal.invariant_of-self-in-Err
invariant_of-self-in-Err c =
    let items = c.self.inside.pairs.items in
    let gap : IsGap pair_name c.args.name items c.in-Err.at = rw c.self.view_is c.in-Err.ensures.absent in
    rw (c.in_ok-insert-in-Err.ensures.items ∙ put_no c.args.name c.args.target items c.in-Err.at gap) (sorted_put c.args.name c.args.target items c.self.invariant)

pub returns-in-Ok-clause-ok : goal.returns-in-Ok-clause-ok
returns-in-Ok-clause-ok c =
    let items = c.self.inside.pairs.items in
    let place : IsPlace pair_name c.args.name items c.in-Ok.at = rw c.self.view_is c.in-Ok.ensures.found in
    put_at c.args.name c.args.target items c.in-Ok.at c.index_mut.result.now place c.index_mut.ensures.value ∙ ap (λ (ps : Pairs). put c.args.name c.args.target ps) c.self.view_is

pub returns-in_ok-insert-in-Err-clause-ok : goal.returns-in_ok-insert-in-Err-clause-ok
returns-in_ok-insert-in-Err-clause-ok c =
    let items = c.self.inside.pairs.items in
    let gap : IsGap pair_name c.args.name items c.in-Err.at = rw c.self.view_is c.in-Err.ensures.absent in
    c.in_ok-insert-in-Err.ensures.items ∙ (put_no c.args.name c.args.target items c.in-Err.at gap ∙ ap (λ (ps : Pairs). put c.args.name c.args.target ps) c.self.view_is)
