use Rattle.std.proofs.Common.{◌≡◌, ℕ, [], ◌∷◌, ◌++◌, rules}
use Rattle.uc_patterns.proofs.FrontParts.{taken_next, declared_next}
use Rattle.uc_patterns.proofs.declaring.declare_all.Goals as goal

pub loop-preserved : goal.loop-preserved
loop-preserved c =
    let n : ℕ = c.in_ok-number.number in
    let pushed : c.push.new.self.items ≡ c.loop.numbers.items ++ n ∷ [] = search rules in (
      taken_next c.loop.counter n c.args.context.now c.loop.context c.declare.new.context c.loop.numbers.items c.push.new.self.items c.loop.invariant.0 c.loop.invariant.1 c.in_ok-number.ensures.number pushed,
      declared_next c.loop.counter n c.args.context.now c.loop.context c.declare.new.context c.loop.numbers.items c.push.new.self.items c.loop.invariant.0 c.loop.invariant.1 c.in_ok-number.ensures.number pushed c.in_ok-number.ensures.ok,
    )
