use Rattle.std.proofs.lemmas.Bool.Decides.{same_from_decides}
use Rattle.uc_branch.proofs.Prefixes.{below_decides}
use Rattle.uc_branch.proofs.reach.stands_below.Goals as goal

pub returns : goal.returns
returns c = same_from_decides c.is_below.result _ (c.is_below.ensures.0, c.is_below.ensures.1) (below_decides c.args.prefix.now c.args.name.now)
