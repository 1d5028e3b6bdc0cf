use Rattle.std.proofs.Common.{◌≡◌, ◌⊎◌, inl, inr, ◌+◌, ◌≤◌, length, arith, refl}
use Rattle.std.proofs.lemmas.Bool.{cases_lt}
use Rattle.uc_outside.proofs.Filled.{filled_step, filled_end}
use Rattle.uc_outside.proofs.image.fill_range.Goals as goal

pub loop-i-preserved : goal.loop-i-preserved
loop-i-preserved c =
    let i = c.loop-i.invariant in (
      i.0 + 1,
      omega (arith, i.1),
      omega (arith, i.1, c.loop-i-test.true),
      filled_step c.args.fill.now c.args.at i.0 c.args.image.now c.loop-i.image c.loop-i.i _ i.3 i.1 (omega (arith, c.loop-i-test.true, i.3.same_length)) refl,
    )

pub returns : goal.returns
returns c =
    let i = c.loop-i.invariant in
    let end : (i.0 ≡ c.args.len) ⊎ (length c.args.image.now ≤ c.args.at + i.0) = elim (cases_lt i.0 c.args.len) [
      | inl short ↦ inr (omega (arith, i.1, c.loop-i-test.false))
      | inr full ↦ inl (omega (arith, i.2))
    ] in
    filled_end c.args.fill.now c.args.at i.0 c.args.len c.args.image.now c.loop-i.image i.3 i.2 end
