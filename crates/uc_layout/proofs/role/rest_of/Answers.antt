use Rattle.uc_layout.proofs.Rests.{seen_rest}
use Rattle.uc_layout.proofs.role.rest_of.Goals as goal

pub returns : goal.returns
returns c = seen_rest c.args.count c.args.tokens.now
