use Rattle.uc_base.specs.contracts.reference.RefOrd.TheImpl.Laws as ord
use Rattle.uc_branch.proofs.ref_set.is_same.Goals as goal
use Rattle.std.proofs.Common.{◌∙◌}

pub returns : goal.returns
returns c = c.eq.ensures ∙ ord.matches_eq-law c.args.one.now c.args.other.now
