use Rattle.std.proofs.Common.{◌≡◌, ◌<◌, ℕ, length, sym, subst, inl, inr, arith}
use Rattle.std.proofs.lemmas.Bool.{cases_lt}
use Rattle.uc_base.specs.Graph.{Edge}
use Rattle.uc_components.proofs.Stages.{edge_in}
use Rattle.uc_components.proofs.graph.Graph.is_in_range.Goals as goal

pub loop-vertex-preserved : goal.loop-vertex-preserved
loop-vertex-preserved c = λ u v lt ed. elim (cases_lt u c.loop-vertex.vertex) [
  | inl l ↦ c.loop-vertex.invariant u v l ed
  | inr ge ↦
      let q : u ≡ c.loop-vertex.vertex = omega arith in
      let P : ℕ → Type 0 = λ x. Edge c.args.self.now x v in
      c.is_row_in_range.ensures.yes c.if-not-is_row_in_range.false v (subst P q ed)
]

pub returns-clause-yes : goal.returns-clause-yes
returns-clause-yes c = λ e u v ed. c.loop-vertex.invariant u v (omega (arith, edge_in c.args.self.now u v ed, c.loop-vertex-test.false, c.len-vertex-end.ensures)) ed
