use Rattle.std.proofs.Common.{drop, sym, ◌∙◌, arith, length-drop}
use Rattle.uc_scratch.proofs.ItemRooms.{fits_enough}
use Rattle.uc_scratch.proofs.rooms.fits.Goals as goal

pub returns-then-tokens-i : goal.returns-then-tokens-i
returns-then-tokens-i c =
    let ts = c.args.tokens.now in
    sym (fits_enough c.loop-i.left (drop c.loop-i.i ts) (omega (arith, length-drop c.loop-i.i ts, c.if-tokens-i.true))) ∙ c.loop-i.invariant
