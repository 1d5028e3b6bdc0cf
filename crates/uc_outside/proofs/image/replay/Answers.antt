use Rattle.std.proofs.Common.{◌+◌, take, arith}
use Rattle.std.proofs.lemmas.List.{take_more}
use Rattle.uc_outside.specs.declared.done.Done.TheVariants as done
use Rattle.uc_outside.proofs.Images.{logged-take, step_file, step_used, step_size, step_within, within_front}
use Rattle.uc_outside.proofs.image.replay.Goals as goal

pub redo-requires-clause-size : goal.redo-requires-clause-size
redo-requires-clause-size c =
    let d = c.args.done.now in
    let i = c.loop-i.invariant in
    let more = take_more d c.loop-i.i (done.Wrote 0 0) c.loop-i-test.true in
    step_size c.args.first.now c.args.log.now (take c.loop-i.i d) _ (take (c.loop-i.i + 1) d) more c.loop-i.used i.used c.loop-i.file.items i.file (omega (arith, logged-take (c.loop-i.i + 1) d, c.requires.size))

pub redo-requires-clause-within : goal.redo-requires-clause-within
redo-requires-clause-within c =
    let d = c.args.done.now in
    let i = c.loop-i.invariant in
    let more = take_more d c.loop-i.i (done.Wrote 0 0) c.loop-i-test.true in
    step_within c.args.first.now c.args.log.now (take c.loop-i.i d) _ (take (c.loop-i.i + 1) d) more c.loop-i.used i.used c.loop-i.file.items i.file (within_front (c.loop-i.i + 1) c.args.first.now c.args.log.now d c.requires.within)

pub loop-i-preserved : goal.loop-i-preserved
loop-i-preserved c =
    let d = c.args.done.now in
    let i = c.loop-i.invariant in
    let e = c.in_ok-used.ensures in
    let more = take_more d c.loop-i.i (done.Wrote 0 0) c.loop-i-test.true in
    record {
      file = step_file c.args.first.now c.args.log.now (take c.loop-i.i d) _ (take (c.loop-i.i + 1) d) more c.loop-i.used i.used c.loop-i.file.items i.file c.redo.new.file.items e.file;
      used = step_used c.args.first.now c.args.log.now (take c.loop-i.i d) _ (take (c.loop-i.i + 1) d) more c.loop-i.used i.used c.loop-i.file.items i.file _ e.used;
    }
