use Rattle.std.proofs.Common.{◌≡◌, ◌↔◌, ◌++◌, ◌+◌, ◌<◌, ℕ, List, [], length, get_or, drop, ap, subst, sym, ◌∙◌, arith}
use Rattle.std.specs.Option.{option_map_or}
use Rattle.std.proofs.lemmas.List.{get_or_default}
use Rattle.uc_base.specs.Graph.{row, InRange}
use Rattle.uc_tree.specs.declared.item.Item.{Item}
use Rattle.uc_tree.specs.declared.target.Target.{Target}
use Rattle.uc_tree.specs.Replacing.{by_members, replaced}
use Rattle.uc_canon.specs.Members.{members_of, count_of}
use Rattle.uc_canon.specs.Numbering.{rows_of, added, reached, order_from}
use Rattle.uc_canon.specs.Starts.{AreReached, head_text, item_text, moved_text, moved_texts, text_in, ComesBefore}
use Rattle.uc_canon.specs.declared.standing.Standing.{Standing}
use Rattle.uc_canon.proofs.Complete.{order_arranged}
use Rattle.uc_canon.proofs.LeastText.{length-rows_of}
use Rattle.uc_canon.proofs.Orders.{reached_more}
use Rattle.uc_canon.proofs.ReachTexts.{next_reached, number_stays, part_of_reached, text_done, stands_at_end, before_some, before_none}
use Rattle.uc_canon.proofs.StartTexts.{text_step, standing_step, whole_stands}
use Rattle.uc_canon.proofs.numbering.text_before.Goals as goal
use Rattle.uc_canon.proofs.numbering.text_before.Goals.{in_default-standing-via-in-Same+else-not-is_empty, in_default-standing-via-in_default-standing}

pub loop-place-init : goal.loop-place-init
loop-place-init c =
    let m = members_of c.args.of.now in
    let full = order_from m c.args.start in
    let n : length c.args.graph.now ≡ count_of m = ap (λ (g : List (List ℕ)). length g) c.requires.graph ∙ length-rows_of m in
    let whole : length full ≡ count_of m = (order_arranged m c.args.start c.requires.one (omega (arith, n))).size in
    let text = c.write_head.new.out.items in
    let t : text ≡ head_text m (length full) = c.in_ok-write_head.ensures ∙ ap (λ (xs : List ℕ). xs ++ head_text m c.len-2.result) c.new-text.ensures.items ∙ ap (head_text m) (c.len-2.ensures ∙ n ∙ sym whole) in
    let Q : ℕ → Type 0 = λ k. AreReached k c.begin.new.self.start c.begin.new.self.starts.items c.begin.new.self.numbers.items c.begin.new.self.order.items in (
      ap (λ (xs : List ℕ). xs ++ moved_texts full m full) t,
      λ rest. let P : List ℕ → Type 0 = λ xs. ComesBefore c.args.known (xs ++ rest) ↔ ComesBefore c.with_part-standing.result rest in subst P c.deref.ensures.value (c.with_part-standing.ensures rest),
      c.in_ok-begin.ensures.order,
      c.in_ok-begin.ensures.start ∙ ap (λ k. k + 1) c.requires.number,
      subst Q c.len.ensures c.in_ok-begin.ensures.reached,
    )

pub index-requires : goal.index-requires
index-requires c =
    let m = members_of c.args.of.now in
    let n : length c.args.graph.now ≡ count_of m = ap (λ (g : List (List ℕ)). length g) c.requires.graph ∙ length-rows_of m in
    omega (arith, next_reached m c.args.start c.requires.one (omega (arith, n)) c.loop-place.place (omega (arith, n)), ap (λ (xs : List ℕ). length xs) c.loop-place.invariant.2)

pub add_links-requires-clause-range : goal.add_links-requires-clause-range
add_links-requires-clause-range c = subst InRange (sym c.requires.graph) c.requires.one.closed

pub add_links-requires-clause-member : goal.add_links-requires-clause-member
add_links-requires-clause-member c =
    let m = members_of c.args.of.now in
    let n : length c.args.graph.now ≡ count_of m = ap (λ (g : List (List ℕ)). length g) c.requires.graph ∙ length-rows_of m in
    let order = c.loop-place.reach.order.items in
    let u = c.index.result.now in
    let l : c.loop-place.place < length order = omega (arith, next_reached m c.args.start c.requires.one (omega (arith, n)) c.loop-place.place (omega (arith, n)), ap (λ (xs : List ℕ). length xs) c.loop-place.invariant.2) in
    let e : get_or order c.loop-place.place 0 ≡ u = get_or_default order c.loop-place.place 0 u l ∙ sym c.index.ensures in
    omega (arith, c.loop-place.invariant.4.below c.loop-place.place l, e)

pub bounds-items-member : goal.bounds-items-member
bounds-items-member c =
    let m = members_of c.args.of.now in
    let n : length c.args.graph.now ≡ count_of m = ap (λ (g : List (List ℕ)). length g) c.requires.graph ∙ length-rows_of m in
    let order = c.loop-place.reach.order.items in
    let u = c.index.result.now in
    let l : c.loop-place.place < length order = omega (arith, next_reached m c.args.start c.requires.one (omega (arith, n)) c.loop-place.place (omega (arith, n)), ap (λ (xs : List ℕ). length xs) c.loop-place.invariant.2) in
    let e : get_or order c.loop-place.place 0 ≡ u = get_or_default order c.loop-place.place 0 u l ∙ sym c.index.ensures in
    omega (arith, c.loop-place.invariant.4.below c.loop-place.place l, e, n, ap (λ (xs : List Item). length xs) c.requires.items)

pub returns-in-Less-clause-some : goal.returns-in-Less-clause-some
returns-in-Less-clause-some c =
    let m = members_of c.args.of.now in
    let full = order_from m c.args.start in
    let n : length c.args.graph.now ≡ count_of m = ap (λ (g : List (List ℕ)). length g) c.requires.graph ∙ length-rows_of m in
    let whole : length full ≡ count_of m = (order_arranged m c.args.start c.requires.one (omega (arith, n))).size in
    text_done full m c.loop-place.text.items (text_in full m) c.loop-place.place (omega (arith, n, whole)) c.loop-place.invariant.0

pub returns-in-Same-clause-some : goal.returns-in-Same-clause-some
returns-in-Same-clause-some c =
    let m = members_of c.args.of.now in
    let full = order_from m c.args.start in
    let n : length c.args.graph.now ≡ count_of m = ap (λ (g : List (List ℕ)). length g) c.requires.graph ∙ length-rows_of m in
    let whole : length full ≡ count_of m = (order_arranged m c.args.start c.requires.one (omega (arith, n))).size in
    text_done full m c.loop-place.text.items (text_in full m) c.loop-place.place (omega (arith, n, whole)) c.loop-place.invariant.0

pub returns-in-Less-clause-before : goal.returns-in-Less-clause-before
returns-in-Less-clause-before c =
    let P : Standing → Type 0 = λ z. ComesBefore z [] in
    (stands_at_end c.args.known c.loop-place.standing c.loop-place.text.items c.loop-place.invariant.1).1 (subst P (sym c.in-Less.is) tt)

pub returns-in-Same-clause-before : goal.returns-in-Same-clause-before
returns-in-Same-clause-before c =
    let P : Standing → Type 0 = λ z. ComesBefore z [] in
    (stands_at_end c.args.known c.loop-place.standing c.loop-place.text.items c.loop-place.invariant.1).1
    (subst P (sym c.in-Same.is) (before_some c.in-Same.rest.now (sym c.is_empty.ensures ∙ c.if-not-is_empty.true)))

pub loop-place-preserved : goal.loop-place-preserved
loop-place-preserved c =
    let m = members_of c.args.of.now in
    let start = c.args.start in
    let full = order_from m start in
    let n : length c.args.graph.now ≡ count_of m = ap (λ (g : List (List ℕ)). length g) c.requires.graph ∙ length-rows_of m in
    let below : start < count_of m = omega (arith, n) in
    let whole : length full ≡ count_of m = (order_arranged m start c.requires.one below).size in
    let k = c.loop-place.place in
    let kl : k < count_of m = omega (arith, n) in
    let u = c.index.result.now in
    let old = c.loop-place.reach in
    let new = c.add_links.new.self in
    let l : k < length old.order.items = omega (arith, next_reached m start c.requires.one below k kl, ap (λ (xs : List ℕ). length xs) c.loop-place.invariant.2) in
    let e : get_or old.order.items k 0 ≡ u = get_or_default old.order.items k 0 u l ∙ sym c.index.ensures in
    let ul : u < count_of m = omega (arith, c.loop-place.invariant.4.below k l, e, n) in
    let is : new.order.items ≡ added old.order.items (row (rows_of m) u) = c.in_ok-add_links.ensures.order ∙ ap (λ (g : List (List ℕ)). added old.order.items (row g u)) c.requires.graph in
    let next : new.order.items ≡ reached (rows_of m) start (k + 1) = is ∙ reached_more (rows_of m) start k u old.order.items c.loop-place.invariant.2 l c.index.ensures in
    let Q : ℕ → Type 0 = λ x. AreReached x new.start new.starts.items new.numbers.items new.order.items in
    let r : AreReached (count_of m) new.start new.starts.items new.numbers.items new.order.items = subst Q n c.in_ok-add_links.ensures.reached in
    let text = c.loop-place.text.items in
    let part = c.deref-in-loop-place-2.result.now in
    let same : c.deref-in-loop-place-3.result.now ≡ part = c.deref-in-loop-place-3.ensures.value ∙ sym c.deref-in-loop-place-2.ensures.value in
    let written = c.in_ok-part.ensures.text ∙ ap (λ (ns : List Target). option_map_or item_text (replaced (by_members ns) c.index-items-member.result) []) c.deref-in-loop-place.ensures.value in
    let at : part ≡ moved_text full m u = c.deref-in-loop-place-2.ensures.value
    ∙ part_of_reached m start c.requires.one below new.start k u old.order.items new.order.items new.starts.items new.numbers.items c.args.items.now c.index-items-member.result c.in_ok-part.part.items kl c.loop-place.invariant.2 is next r ul c.requires.items c.index-items-member.is written in
    let stays : get_or full k 0 ≡ u = number_stays m start c.requires.one below k u old.order.items kl c.loop-place.invariant.2 c.index.ensures in
    let t : (text ++ part) ++ moved_texts full m (drop (k + 1) full) ≡ text_in full m = text_step full m text part (text_in full m) k (omega (arith, whole)) (at ∙ ap (moved_text full m) (sym stays)) c.loop-place.invariant.0 in
    rw (c.in_ok-extend_from_slice.ensures.items, same) (
      t,
      standing_step c.args.known c.loop-place.standing c.with_part-standing-in-loop-place.result text part c.loop-place.invariant.1 c.with_part-standing-in-loop-place.ensures,
      next,
      c.in_ok-add_links.ensures.start ∙ c.loop-place.invariant.3,
      c.in_ok-add_links.ensures.reached,
    )

pub returns-in-Greater-clause-none : goal.returns-in-Greater-clause-none
returns-in-Greater-clause-none c =
    let m = members_of c.args.of.now in
    let start = c.args.start in
    let full = order_from m start in
    let n : length c.args.graph.now ≡ count_of m = ap (λ (g : List (List ℕ)). length g) c.requires.graph ∙ length-rows_of m in
    let below : start < count_of m = omega (arith, n) in
    let whole : length full ≡ count_of m = (order_arranged m start c.requires.one below).size in
    let k = c.loop-place.place in
    let kl : k < count_of m = omega (arith, n) in
    let u = c.index.result.now in
    let old = c.loop-place.reach in
    let new = c.add_links.new.self in
    let l : k < length old.order.items = omega (arith, next_reached m start c.requires.one below k kl, ap (λ (xs : List ℕ). length xs) c.loop-place.invariant.2) in
    let e : get_or old.order.items k 0 ≡ u = get_or_default old.order.items k 0 u l ∙ sym c.index.ensures in
    let ul : u < count_of m = omega (arith, c.loop-place.invariant.4.below k l, e, n) in
    let is : new.order.items ≡ added old.order.items (row (rows_of m) u) = c.in_ok-add_links.ensures.order ∙ ap (λ (g : List (List ℕ)). added old.order.items (row g u)) c.requires.graph in
    let next : new.order.items ≡ reached (rows_of m) start (k + 1) = is ∙ reached_more (rows_of m) start k u old.order.items c.loop-place.invariant.2 l c.index.ensures in
    let Q : ℕ → Type 0 = λ x. AreReached x new.start new.starts.items new.numbers.items new.order.items in
    let r : AreReached (count_of m) new.start new.starts.items new.numbers.items new.order.items = subst Q n c.in_ok-add_links.ensures.reached in
    let text = c.loop-place.text.items in
    let part = c.deref-in-loop-place-2.result.now in
    let written = c.in_ok-part.ensures.text ∙ ap (λ (ns : List Target). option_map_or item_text (replaced (by_members ns) c.index-items-member.result) []) c.deref-in-loop-place.ensures.value in
    let at : part ≡ moved_text full m u = c.deref-in-loop-place-2.ensures.value
    ∙ part_of_reached m start c.requires.one below new.start k u old.order.items new.order.items new.starts.items new.numbers.items c.args.items.now c.index-items-member.result c.in_ok-part.part.items kl c.loop-place.invariant.2 is next r ul c.requires.items c.index-items-member.is written in
    let stays : get_or full k 0 ≡ u = number_stays m start c.requires.one below k u old.order.items kl c.loop-place.invariant.2 c.index.ensures in
    let rest = moved_texts full m (drop (k + 1) full) in
    let t : (text ++ part) ++ rest ≡ text_in full m = text_step full m text part (text_in full m) k (omega (arith, whole)) (at ∙ ap (moved_text full m) (sym stays)) c.loop-place.invariant.0 in
    let s = standing_step c.args.known c.loop-place.standing c.with_part-standing-in-loop-place.result text part c.loop-place.invariant.1 c.with_part-standing-in-loop-place.ensures in
    let w = whole_stands c.args.known c.with_part-standing-in-loop-place.result (text ++ part) rest (text_in full m) t s in
    let P : Standing → Type 0 = λ z. ComesBefore z rest in
    λ x. subst P c.in-Greater.is (w.0 x)

pub returns-in_default-standing-clause-none : goal.returns-in_default-standing-clause-none
returns-in_default-standing-clause-none c =
    let m = members_of c.args.of.now in
    let full = order_from m c.args.start in
    let n : length c.args.graph.now ≡ count_of m = ap (λ (g : List (List ℕ)). length g) c.requires.graph ∙ length-rows_of m in
    let whole : length full ≡ count_of m = (order_arranged m c.args.start c.requires.one (omega (arith, n))).size in
    let t = text_done full m c.loop-place.text.items (text_in full m) c.loop-place.place (omega (arith, n, whole)) c.loop-place.invariant.0 in
    let s = stands_at_end c.args.known c.loop-place.standing c.loop-place.text.items c.loop-place.invariant.1 in
    let P : Standing → Type 0 = λ z. ComesBefore z [] in
    let Q : List ℕ → Type 0 = λ xs. ComesBefore c.args.known xs in
    λ x.
    let y : ComesBefore c.loop-place.standing [] = s.0 (subst Q (sym t) x) in
    elim c.in_default-standing.branch [
      | in_default-standing-via-in-Same+else-not-is_empty w ↦ before_none w.in-Same.rest.now (sym w.is_empty.ensures ∙ w.if-not-is_empty.false) (subst P w.in-Same.is y)
      | in_default-standing-via-in_default-standing w ↦ subst P w.in_default-standing.is y
    ]
