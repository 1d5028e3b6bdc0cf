use Rattle.uc_typing.specs.Fronts.{front_count}
use Rattle.uc_patterns.proofs.declaring.+open_front.Given as goal

abbrev pub decreases-open_front : goal.decreases-open_front
decreases-open_front l = front_count l.of.now
