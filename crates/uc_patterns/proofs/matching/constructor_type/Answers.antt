use Rattle.std.proofs.Common.{sym}
use Rattle.uc_patterns.proofs.FrontParts.{known_levels}
use Rattle.uc_patterns.proofs.matching.constructor_type.Goals as goal

pub open_front-requires : goal.open_front-requires
open_front-requires g c =
    known_levels (g.K.TargetTypes.known c.args.known.now) c.args.target.now c.in-Some.ty.now c.in_ok-closed-in-Some.closed c.requires.known (sym c.in-Some.ensures) c.in_ok-closed-in-Some.ensures
