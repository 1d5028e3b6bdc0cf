use Rattle.uc_branch.specs.Reaches.{reaches}
use Rattle.uc_branch.proofs.RefSets.{lost_is}
use Rattle.uc_branch.proofs.deleting.Loss.new.Goals as goal

pub returns : goal.returns
returns c = λ r. lost_is r (reaches c.args.reach.now) c.in_ok-gone.gone c.in_ok-kept.kept c.args.before.now c.args.after.now c.requires (c.in_ok-gone.ensures r) (c.in_ok-kept.ensures r)
