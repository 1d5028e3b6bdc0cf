use Rattle.std.proofs.Common.{◌≡◌, ◌<◌, ◌≤◌, ℕ, length, get_or, ◌∙◌, arith}
use Rattle.std.proofs.lemmas.List.{get_or_default}
use Rattle.uc_base.specs.Graph.{row}
use Rattle.uc_components.proofs.Linking.{edge_here}
use Rattle.uc_components.proofs.graph.Graph.is_row_in_range.Goals as goal

pub returns-then-reference-len-clause-no : goal.returns-then-reference-len-clause-no
returns-then-reference-len-clause-no c = λ e range.
    let lt : c.loop-at.at < length (row c.args.self.now c.args.vertex) = omega (arith, c.loop-at-test.true, c.degree-at-end.ensures) in
    omega (arith, range c.args.vertex c.reference.result (edge_here _ c.loop-at.at _ lt c.reference.ensures), c.if-reference-len.true, c.len.ensures)

pub returns-clause-yes : goal.returns-clause-yes
returns-clause-yes c = λ e v ed.
    let le : length (row c.args.self.now c.args.vertex) ≤ c.loop-at.at = omega (arith, c.loop-at-test.false, c.degree-at-end.ensures) in
    let q : get_or (row c.args.self.now c.args.vertex) ed.0 0 ≡ v = get_or_default _ ed.0 0 v ed.1 ∙ ed.2 in
    omega (arith, c.loop-at.invariant ed.0 (omega (arith, ed.1)))
