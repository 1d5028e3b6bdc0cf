use Rattle.std.proofs.Common.{◌≡◌, ◌<◌, ◌≤◌, ℕ, List, Bool, length, get_or, sym, ◌∙◌, ap, subst, arith}
use Rattle.std.proofs.lemmas.List.{get_or_read}
use Rattle.uc_components.specs.Rows.{lists}
use Rattle.uc_components.specs.Order.{stage_of}
use Rattle.uc_components.proofs.Stages.{pass_in, pass_stage, past_stage, past_keeps}
use Rattle.uc_components.proofs.order.advance.Goals as goal

pub first_unplaced-cursor-requires : goal.first_unplaced-cursor-requires
first_unplaced-cursor-requires c = pass_in (lists c.args.links.now.references) (stage_of c.args.queue.now) c.args.part _ _ c.requires.stage c.row_at-references.ensures c.as_slice.ensures.value

pub returns-then-cursor-references-clause-stage : goal.returns-then-cursor-references-clause-stage
returns-then-cursor-references-clause-stage c =
    let cl : c.args.part < length c.args.queue.now.cursors.items = omega (arith, c.requires.part, c.requires.stage.cursors_len) in
    pass_stage (lists c.args.links.now.references) (stage_of c.args.queue.now) c.args.part c.index.result.now c.first_unplaced-cursor.result c.row_at-references.result.now c.as_slice.result.now c.requires.stage c.requires.part
    (record {
      row_is = c.row_at-references.ensures;
      placed_is = c.as_slice.ensures.value;
      from_is = get_or_read c.args.queue.now.cursors.items c.args.part _ cl c.index.ensures 0;
      passed = c.first_unplaced-cursor.ensures.passed;
      stops = c.first_unplaced-cursor.ensures.stops;
    })

pub returns-clause-stage : goal.returns-clause-stage
returns-clause-stage c =
    let cl : c.args.part < length c.args.queue.now.cursors.items = omega (arith, c.requires.part, c.requires.stage.cursors_len) in
    past_stage (lists c.args.links.now.references) (stage_of c.args.queue.now) c.args.part c.index.result.now c.first_unplaced-cursor.result (get_or c.row_at.result.now 0 0) c.row_at-references.result.now c.add_ready.new.ready.keys c.as_slice.result.now
    c.requires.stage c.requires.part c.requires.new
    (record {
      row_is = c.row_at-references.ensures;
      placed_is = c.as_slice.ensures.value;
      from_is = get_or_read c.args.queue.now.cursors.items c.args.part _ cl c.index.ensures 0;
      passed = c.first_unplaced-cursor.ensures.passed;
      stops = c.first_unplaced-cursor.ensures.stops;
    })
    c.if-cursor-references.false (ap (λ xs. get_or xs 0 0) c.row_at.ensures) c.in_ok-add_ready.ensures.cases

pub returns-clause-keeps : goal.returns-clause-keeps
returns-clause-keeps c = λ d old. past_keeps (lists c.args.links.now.references) (stage_of c.args.queue.now) c.args.part c.first_unplaced-cursor.result (get_or c.row_at.result.now 0 0) d c.add_ready.new.ready.keys
    (ap (λ xs. get_or xs 0 0) c.row_at.ensures) c.in_ok-add_ready.ensures.has c.in_ok-add_ready.ensures.keeps old
