use Rattle.std.proofs.Common.{◌≡◌, ◌<◌, ◌≤◌, ◌+◌, ◌++◌, ◌∷◌, [], List, ℕ, length, get_or, sym, ◌∙◌, subst, arith}
use Rattle.std.proofs.lemmas.List.{length-set}
use Rattle.uc_base.specs.Graph.{row}
use Rattle.uc_components.specs.Rows.{lists, pushed}
use Rattle.uc_components.proofs.Members.{IsGathered, gathered_more, gathered_all}
use Rattle.uc_components.proofs.order.gathered.Goals as goal

pub loop-vertex-preserved : goal.loop-vertex-preserved
loop-vertex-preserved c =
    let lt : get_or c.args.home.now c.loop-vertex.vertex 0 < c.args.count = c.requires.below c.loop-vertex.vertex c.loop-vertex-test.true in
    let P : List (List ℕ) → Type 0 = λ x. IsGathered c.args.home.now c.args.count (c.loop-vertex.vertex + 1) x in
    subst P (sym c.in_ok-push_at.ensures) (gathered_more c.args.home.now c.args.count c.loop-vertex.vertex (lists c.loop-vertex.parts) lt c.loop-vertex.invariant
    (length-set (lists c.loop-vertex.parts) (get_or c.args.home.now c.loop-vertex.vertex 0) (row (lists c.loop-vertex.parts) (get_or c.args.home.now c.loop-vertex.vertex 0) ++ c.loop-vertex.vertex ∷ []) ∙ c.loop-vertex.invariant.len))

pub returns-clause-members : goal.returns-clause-members
returns-clause-members c = gathered_all c.args.home.now c.args.count c.loop-vertex.vertex (lists c.loop-vertex.parts) c.loop-vertex-test.false (omega (arith, c.loop-vertex.auto)) c.loop-vertex.invariant
