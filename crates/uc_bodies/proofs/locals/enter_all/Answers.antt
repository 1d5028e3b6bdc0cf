use Rattle.std.proofs.Common.{add-one, ap, ◌∙◌, ◌<◌, length, arith}
use Rattle.std.specs.Option.{option_map, option_copied}
use Rattle.uc_bodies.proofs.Scopes.{names_more}
use Rattle.uc_bodies.proofs.locals.enter_all.Goals as goal

pub loop-number-preserved : goal.loop-number-preserved
loop-number-preserved c =
    let within : c.loop-number.number < length c.args.names.now = omega (arith, c.len-number-end.ensures) in
    rw add-one (names_more c.args.names.now c.loop-number.number (option_copied c.text_of.result) c.loop-number.binders c.push.new.self _ within
    (c.text_of.ensures ∙ ap (option_map (λ w. w.text)) c.get.ensures) c.in_ok-push.ensures.entered c.loop-number.invariant)
