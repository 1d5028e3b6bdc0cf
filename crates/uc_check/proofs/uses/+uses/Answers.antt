use Rattle.std.proofs.Common.{arith, ap}
use Rattle.uc_check.proofs.UsesBelow.{guard_count, guard_room, binders_below, term_part, term_part_nodes, case_part, case_part_nodes}
use Rattle.uc_check.proofs.uses.+uses.Goals as goal

pub some_case_uses-binders_in-requires : goal.some_case_uses-binders_in-requires
some_case_uses-binders_in-requires t c = omega (arith, case_part_nodes c.args.cases.now c.loop-case.case-index c.case-item.result c.loop-case-test.true c.case-item.is, c.requires)

pub some_case_uses-overflow_add-inner : goal.some_case_uses-overflow_add-inner
some_case_uses-overflow_add-inner t c =
    omega (arith, case_part_nodes c.args.cases.now c.loop-case.case-index c.case-item.result c.loop-case-test.true c.case-item.is, c.requires, c.binders_in.ensures, binders_below c.case-item.result.pattern)

pub some_case_uses-uses-requires : goal.some_case_uses-uses-requires
some_case_uses-uses-requires t c = (
  omega (arith, case_part c.args.cases.now c.loop-case.case-index c.case-item.result c.loop-case-test.true c.case-item.is, guard_room c.case-item.result.guard c.in-Some.guard c.in-Some.is),
  omega (arith, case_part_nodes c.args.cases.now c.loop-case.case-index c.case-item.result c.loop-case-test.true c.case-item.is, c.requires, c.binders_in.ensures, binders_below c.case-item.result.pattern, ap guard_count c.in-Some.is),
)

pub some_case_uses-uses-requires-in-loop-case : goal.some_case_uses-uses-requires-in-loop-case
some_case_uses-uses-requires-in-loop-case t c = (
  omega (arith, case_part c.args.cases.now c.loop-case.case-index c.case-item.result c.loop-case-test.true c.case-item.is),
  omega (arith, case_part_nodes c.args.cases.now c.loop-case.case-index c.case-item.result c.loop-case-test.true c.case-item.is, c.requires, c.binders_in.ensures, binders_below c.case-item.result.pattern),
)

pub some_uses-uses-requires : goal.some_uses-uses-requires
some_uses-uses-requires t c = (
  omega (arith, term_part c.args.terms.now c.loop-term.term-index c.term-item.result c.loop-term-test.true c.term-item.is),
  omega (arith, term_part_nodes c.args.terms.now c.loop-term.term-index c.term-item.result c.loop-term-test.true c.term-item.is, c.requires),
)
