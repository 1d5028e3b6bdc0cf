use Rattle.std.proofs.Common.{◌≡◌, ◌∙◌, ℕ, List, ap, sym, subst, length, map, arith}
use Rattle.std.proofs.lemmas.Bool.{eqb-true, eq-eqb}
use Rattle.std.proofs.lemmas.List.{length-map}
use Rattle.uc_base.specs.Graph.{InRange, IsComponentOrder}
use Rattle.uc_components.specs.Rows.{lists}
use Rattle.uc_canon.specs.Members.{members_of}
use Rattle.uc_canon.specs.Numbering.{links_of, rows_of}
use Rattle.uc_canon.proofs.OneComponent.{is_one, has_one}
use Rattle.uc_canon.proofs.links.is_one_component.Goals as goal

pub returns-then-not-is_in_range-clause-yes : goal.returns-then-not-is_in_range-clause-yes
returns-then-not-is_in_range-clause-yes c =
    let m = members_of c.args.of.now in
    let rows : c.in_ok-graph.graph ≡ rows_of m = c.in_ok-graph.ensures.graph ∙ ap (map links_of) (c.deref.ensures.value ∙ c.in_ok-items.ensures) in
    (λ e. absurd cc, λ w. absurd (c.is_in_range.ensures.no c.if-not-is_in_range.true (subst InRange (sym rows) w.closed)))

pub components-requires-clause-range : goal.components-requires-clause-range
components-requires-clause-range c = c.is_in_range.ensures.yes c.if-not-is_in_range.false

pub returns-clause-yes : goal.returns-clause-yes
returns-clause-yes c =
    let m = members_of c.args.of.now in
    let rows : c.in_ok-graph.graph ≡ rows_of m = c.in_ok-graph.ensures.graph ∙ ap (map links_of) (c.deref.ensures.value ∙ c.in_ok-items.ensures) in
    let cs = lists c.in_ok-components.components in
    let P : List (List ℕ) → Type 0 = λ g. IsComponentOrder g cs in
    let order : IsComponentOrder (rows_of m) cs = subst P rows c.in_ok-components.ensures.order in
    let range : InRange (rows_of m) = subst InRange rows (c.is_in_range.ensures.yes c.if-not-is_in_range.false) in
    let n : length cs ≡ c.len-2.result = omega (arith, length-map c.in_ok-components.components.items (λ row. row.items), c.len-2.ensures) in (
      λ e. is_one m cs range order (n ∙ eqb-true c.len-2.result 1 e),
      λ w. eq-eqb c.len-2.result 1 (sym n ∙ has_one m cs order w),
    )
