use Rattle.uc_base.specs.contracts.reference.RefOrd.TheImpl.Laws as ord
use Rattle.uc_meaning.proofs.senses.are_same_refs.Goals as goal
use Rattle.std.proofs.Common.{◌∙◌}

pub returns : goal.returns
returns c = c.eq.ensures ∙ ord.matches_eq-law c.args.r.now c.args.s.now
