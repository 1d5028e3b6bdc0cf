use Rattle.std.proofs.Common.{List, take, arith, ap, sym, ◌∙◌, length-take}
use Rattle.std.proofs.lemmas.List.{take_more}
use Rattle.uc_outside.specs.Call.{calls_of}
use Rattle.uc_outside.specs.Image.{settled}
use Rattle.uc_outside.specs.declared.done.Done.{Done}
use Rattle.uc_outside.specs.declared.done.Done.TheVariants as done
use Rattle.uc_outside.proofs.image.settled_calls.Goals as goal

pub loop-i-preserved : goal.loop-i-preserved
loop-i-preserved c =
    let more = take_more c.args.done.now c.loop-i.i (done.Wrote 0 0) c.loop-i-test.true in
    record {
      count = λ log. c.settled_after-count.ensures.count log (take c.loop-i.i c.args.done.now) (omega (arith, c.loop-i-test.true, length-take c.loop-i.i c.args.done.now)) (c.loop-i.invariant.count log)
          ∙ ap (λ (l : List Done). settled (calls_of log l)) (sym more);
      within = c.settled_after-count.ensures.within;
    }
