use Rattle.uc_canon.proofs.numbering.tests.numbered.Goals as goal

pub reordered-requires-clause-closed : goal.reordered-requires-clause-closed
reordered-requires-clause-closed g c = (c.in_ok-one.ensures.yes.0 c.if-assert.false).closed
