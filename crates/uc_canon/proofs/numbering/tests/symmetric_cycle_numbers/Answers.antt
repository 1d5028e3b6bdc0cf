use Rattle.uc_canon.proofs.numbering.tests.symmetric_cycle_numbers.Goals as goal

pub open_component-requires : goal.open_component-requires
open_component-requires g c = (c.in_ok-one.ensures.yes.0 c.if-assert.false).closed
