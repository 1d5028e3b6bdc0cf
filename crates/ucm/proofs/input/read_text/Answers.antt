use Rattle.ucm.proofs.Streams.{consumed_on}
use Rattle.ucm.proofs.input.read_text.Goals as goal

pub returns-in_err-read_piece-clause-taken : goal.returns-in_err-read_piece-clause-taken
returns-in_err-read_piece-clause-taken g c = λ t.
    consumed_on _ (g.I.Source.left c.loop-text.input) _ c.loop-text.text.items c.loop-text.invariant.short (c.loop-text.invariant.read t) (c.in_err-read_piece.ensures.taken t)
