use Rattle.std.proofs.Common.{◌≡◌, ◌∙◌, ◌+◌, ℕ, List, ap, sym, subst, length, map, arith}
use Rattle.uc_canon.specs.Members.{members_of, count_of}
use Rattle.uc_canon.specs.Numbering.{links_of, rows_of, order_from}
use Rattle.uc_canon.specs.Starts.{IsTable, text_in, ComesBefore}
use Rattle.uc_canon.proofs.LeastText.{IsLeastSoFar, least_taken, least_kept, least_text, numbering, length-rows_of}
use Rattle.uc_canon.proofs.numbering.least_start.Goals as goal
use Rattle.uc_canon.proofs.numbering.least_start.Goals.{in-Some+in_ok-order, in_default}

pub loop-start-init : goal.loop-start-init
loop-start-init c =
    let m = members_of c.args.of.now in
    let rows : c.in_ok-graph.graph ≡ rows_of m = c.in_ok-graph.ensures.graph ∙ ap (map links_of) (c.deref.ensures.value ∙ c.in_ok-items.ensures) in
    let n : length c.in_ok-graph.graph ≡ count_of m = ap (λ (g : List (List ℕ)). length g) rows ∙ length-rows_of m in
    let new = c.in_ok-reach.reach in
    let P : ℕ → Type 0 = λ k. IsTable k new.start new.starts.items new.numbers.items in
    (record { none = λ e. c.none-least.ensures; some = λ lt. absurd (omega arith) }, c.in_ok-reach.ensures.start, subst P (c.len.ensures ∙ n) c.in_ok-reach.ensures.table)

pub text_before-requires-clause-number : goal.text_before-requires-clause-number
text_before-requires-clause-number c = c.loop-start.invariant.1

pub text_before-requires-clause-table : goal.text_before-requires-clause-table
text_before-requires-clause-table c =
    let m = members_of c.args.of.now in
    let rows : c.in_ok-graph.graph ≡ rows_of m = c.in_ok-graph.ensures.graph ∙ ap (map links_of) (c.deref.ensures.value ∙ c.in_ok-items.ensures) in
    let n : length c.in_ok-graph.graph ≡ count_of m = ap (λ (g : List (List ℕ)). length g) rows ∙ length-rows_of m in
    let old = c.loop-start.reach in
    let P : ℕ → Type 0 = λ k. IsTable k old.start old.starts.items old.numbers.items in
    subst P (sym n) c.loop-start.invariant.2

pub loop-start-preserved : goal.loop-start-preserved
loop-start-preserved c =
    let m = members_of c.args.of.now in
    let rows : c.in_ok-graph.graph ≡ rows_of m = c.in_ok-graph.ensures.graph ∙ ap (map links_of) (c.deref.ensures.value ∙ c.in_ok-items.ensures) in
    let n : length c.in_ok-graph.graph ≡ count_of m = ap (λ (g : List (List ℕ)). length g) rows ∙ length-rows_of m in
    let k = c.loop-start.start in
    let old = c.loop-start.least in
    let new = c.text_before.new.reach in
    let T : ℕ → Type 0 = λ count. IsTable count new.start new.starts.items new.numbers.items in
    let table : IsTable (count_of m) new.start new.starts.items new.numbers.items = subst T n c.in_ok-text.ensures.table in
    elim c.match-branch-5.branch [
      | in-Some+in_ok-order w ↦
          let is : w.in-Some.text.items ≡ text_in (order_from m k) m = rw w.in-Some.is at c.in_ok-text.ensures.some in
          let order : new.order.items ≡ order_from m k = rw w.in-Some.is at c.in_ok-text.ensures.order in
          let comes : ComesBefore c.against-known.result w.in-Some.text.items = rw w.in-Some.is at c.in_ok-text.ensures.before in
          let made : w.in_ok-order.order.items ≡ order_from m k = w.in_ok-order.ensures.items_if_clones_equal (λ x y e. e) ∙ w.deref-in-Some.ensures.value ∙ order in
          let P : List ℕ → Type 0 = λ xs. IsLeastSoFar m (k + 1) xs w.in-Some.text.items in
          rw w.least-is (
            subst P (sym made) (least_taken m k old.order.items old.text.items w.in-Some.text.items c.loop-start.invariant.0 is ((c.against-known.ensures w.in-Some.text.items).0 comes)),
            c.text_before.ensures.number,
            table,
          )
      | in_default w ↦
          let T = text_in (order_from m k) m in
          let none : ComesBefore c.against-known.result T → ⊥ = rw w.in_default.is at c.in_ok-text.ensures.none in
          rw w.least-is (
            least_kept m k old.order.items old.text.items c.loop-start.invariant.0 (λ h. none ((c.against-known.ensures T).1 h)),
            c.text_before.ensures.number,
            table,
          )
    ]

pub returns-clause-numbering : goal.returns-clause-numbering
returns-clause-numbering c =
    let m = members_of c.args.of.now in
    let rows : c.in_ok-graph.graph ≡ rows_of m = c.in_ok-graph.ensures.graph ∙ ap (map links_of) (c.deref.ensures.value ∙ c.in_ok-items.ensures) in
    let n : length c.in_ok-graph.graph ≡ count_of m = ap (λ (g : List (List ℕ)). length g) rows ∙ length-rows_of m in
    let P : ℕ → Type 0 = λ k. IsLeastSoFar m k c.loop-start.least.order.items c.loop-start.least.text.items in
    let all : c.loop-start.start ≡ count_of m = omega (arith, n) in
    numbering m c.loop-start.least.order.items c.loop-start.least.text.items c.requires.one.closed ((subst P all c.loop-start.invariant.0).some c.requires.one.filled)

pub returns-clause-text : goal.returns-clause-text
returns-clause-text c =
    let m = members_of c.args.of.now in
    let rows : c.in_ok-graph.graph ≡ rows_of m = c.in_ok-graph.ensures.graph ∙ ap (map links_of) (c.deref.ensures.value ∙ c.in_ok-items.ensures) in
    let n : length c.in_ok-graph.graph ≡ count_of m = ap (λ (g : List (List ℕ)). length g) rows ∙ length-rows_of m in
    let P : ℕ → Type 0 = λ k. IsLeastSoFar m k c.loop-start.least.order.items c.loop-start.least.text.items in
    let all : c.loop-start.start ≡ count_of m = omega (arith, n) in
    least_text m c.loop-start.least.order.items c.loop-start.least.text.items c.requires.one.closed ((subst P all c.loop-start.invariant.0).some c.requires.one.filled)
