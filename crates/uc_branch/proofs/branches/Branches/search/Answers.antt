use Rattle.std.proofs.Common.{rules}
use Rattle.std.proofs.lemmas.Fn.{always_returns_same}
use Rattle.uc_branch.specs.Pairs.{name_order}
use Rattle.uc_branch.specs.Branches.{branch_name}
use Rattle.uc_branch.proofs.Searched.{searched}
use Rattle.uc_branch.proofs.branches.Branches.search.Goals as goal

pub returns-clause-found : goal.returns-clause-found
returns-clause-found c =
    let facts = c.binary_search_by.ensures in
    let by_name = facts.position (λ b. name_order (branch_name b) c.args.name.now) (always_returns_same _ _ _ (λ a r g called. (search rules, search rules))) in
    rw (← c.self.view_is, ← c.deref.ensures.value) ((searched branch_name c.deref.result.now (rw c.deref.ensures.value c.self.invariant.0.in_order) c.args.name.now c.binary_search_by.result facts.bound by_name).found)

pub returns-clause-absent : goal.returns-clause-absent
returns-clause-absent c =
    let facts = c.binary_search_by.ensures in
    let by_name = facts.position (λ b. name_order (branch_name b) c.args.name.now) (always_returns_same _ _ _ (λ a r g called. (search rules, search rules))) in
    rw (← c.self.view_is, ← c.deref.ensures.value) ((searched branch_name c.deref.result.now (rw c.deref.ensures.value c.self.invariant.0.in_order) c.args.name.now c.binary_search_by.result facts.bound by_name).absent)
