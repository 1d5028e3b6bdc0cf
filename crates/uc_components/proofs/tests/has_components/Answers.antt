use Rattle.uc_components.proofs.tests.has_components.Goals as goal

pub components-requires-clause-range : goal.components-requires-clause-range
components-requires-clause-range c = c.is_in_range.ensures.yes c.if-not-is_in_range.false
