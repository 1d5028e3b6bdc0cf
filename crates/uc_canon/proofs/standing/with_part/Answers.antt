use Rattle.std.proofs.Common.{◌≡◌, ◌++◌, sym, ◌∙◌}
use Rattle.std.specs.Ordering.{nat_cmp}
use Rattle.std.specs.Cmp.Lexicographic.{slice_cmp}
use Rattle.std.specs.declared.cmp.Ordering.TheVariants.{Less}
use Rattle.uc_canon.proofs.TextOrder.{slice_cmp-append, slice_cmp-cut, front_of, less_told, not_less_told}
use Rattle.uc_canon.proofs.standing.with_part.Goals as goal

pub returns-in-Some : goal.returns-in-Some
returns-in-Some c = λ rest.
    let e : c.in-Same.known.now ≡ c.args.part.now ++ c.in-Some.rest.now = front_of _ _ _ c.in-Some.ensures.cases.0 c.in-Some.ensures.cases.1 in
    rw (c.in-Same.is, e, slice_cmp-append c.args.part.now rest c.in-Some.rest.now) (λ h. h, λ h. h)

pub returns-in-None : goal.returns-in-None
returns-in-None c = λ rest.
    let e : slice_cmp nat_cmp (c.args.part.now ++ rest) c.in-Same.known.now ≡ Less = slice_cmp-cut c.args.part.now rest c.in-Same.known.now c.in-None.ensures.cases ∙ less_told c.args.part.now c.in-Same.known.now c.lt.result c.if-lt.true c.lt.ensures in
    rw c.in-Same.is (λ _. tt, λ _. e)

pub returns-in-None-2 : goal.returns-in-None-2
returns-in-None-2 c = λ rest.
    rw c.in-Same.is (
      λ h. not_less_told c.args.part.now c.in-Same.known.now c.lt.result c.if-lt.false c.lt.ensures (sym (slice_cmp-cut c.args.part.now rest c.in-Same.known.now c.in-None.ensures.cases) ∙ h),
      λ h. absurd h,
    )
