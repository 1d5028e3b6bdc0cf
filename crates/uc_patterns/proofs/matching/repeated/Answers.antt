use Rattle.std.proofs.Common.{◌≡◌, [], ◌∷◌, ◌++◌, rules}
use Rattle.uc_patterns.proofs.FrontParts.{repeated_more}
use Rattle.uc_patterns.proofs.matching.repeated.Goals as goal

pub loop-preserved : goal.loop-preserved
loop-preserved c =
    let pushed : c.push.new.self.items ≡ c.loop.types.items ++ c.in_ok-copy.field-0 ∷ [] = search rules in
    repeated_more c.loop.counter c.args.of.now c.in_ok-copy.field-0 c.loop.types.items c.push.new.self.items c.loop.invariant pushed c.in_ok-copy.ensures
