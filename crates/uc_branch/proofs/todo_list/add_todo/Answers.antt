use Rattle.std.proofs.Common.{◌++◌, append-nil, sym, ap, ◌∙◌}
use Rattle.uc_tree.specs.Lookups.{Pairs}
use Rattle.uc_branch.specs.Reaches.{is_among}
use Rattle.uc_branch.proofs.Agreeing.{at_def, at_other, todo_step}
use Rattle.uc_branch.proofs.todo_list.add_todo.Goals as goal
use Rattle.uc_branch.proofs.todo_list.add_todo.Goals.{then-is_def+in_ok-add_unnamed, else-is_def}

pub loop-pair-preserved : goal.loop-pair-preserved
loop-pair-preserved g c =
    let direct = g.K.Known.direct c.args.known.now in
    let p = c.pair-item.result in
    let more = todo_step direct (λ r. is_among r c.args.named.now) c.args.pairs.now c.loop-pair.pair-index p c.args.out.now.items c.loop-pair.out.items c.loop-pair-test.true c.pair-item.is c.loop-pair.invariant in
    elim c.if-is_def.branch [
      | then-is_def+in_ok-add_unnamed w ↦
          rw w.out-is (rw (w.in_ok-add_unnamed.ensures, w.refs.ensures) (ap (λ (l : Pairs). c.loop-pair.out.items ++ l) (at_def direct (λ r. is_among r c.args.named.now) p (sym c.is_def.ensures ∙ w.if-is_def.true)) ∙ more))
      | else-is_def w ↦
          rw w.out-is (sym (append-nil c.loop-pair.out.items) ∙ (ap (λ (l : Pairs). c.loop-pair.out.items ++ l) (at_other direct (λ r. is_among r c.args.named.now) p (sym c.is_def.ensures ∙ w.if-is_def.false)) ∙ more))
    ]
