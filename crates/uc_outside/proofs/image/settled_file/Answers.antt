use Rattle.std.proofs.Common.{ℕ, List, take, arith, ap, sym, ◌∙◌}
use Rattle.std.proofs.lemmas.Result.{IfOk-weaker}
use Rattle.uc_outside.specs.Call.{Call, calls_of}
use Rattle.uc_outside.specs.Replay.{contents}
use Rattle.uc_outside.proofs.Images.{logged-take, within_front, calls_of-take}
use Rattle.uc_outside.proofs.image.settled_file.Goals as goal

pub replay-requires-clause-size : goal.replay-requires-clause-size
replay-requires-clause-size c = omega (arith, logged-take c.settled_calls.result c.args.done.now, c.requires.size)

pub replay-requires-clause-within : goal.replay-requires-clause-within
replay-requires-clause-within c = within_front c.settled_calls.result c.args.first.now c.args.log.now c.args.done.now c.requires.within

pub returns : goal.returns
returns c =
    let log = c.args.log.now in
    let done = c.args.done.now in
    IfOk-weaker c.replay.result _ _
    (λ file is. is ∙ ap (λ (l : List Call). contents c.args.first.now l) (sym (calls_of-take c.settled_calls.result done log) ∙ ap (λ (k : ℕ). take k (calls_of log done)) (c.settled_calls.ensures.count log)))
    c.replay.ensures
