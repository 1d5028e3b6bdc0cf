use Rattle.uc_context.proofs.Tournament.{same_uses}
use Rattle.uc_context.proofs.numbers.Numbers.make_room.Goals as goal

pub returns-clause-kept : goal.returns-clause-kept
returns-clause-kept c = same_uses c.self.inside.tallies.items c.lengthen.new.tallies.items c.args.self.now c.self.view_is c.lengthen.ensures.kept
