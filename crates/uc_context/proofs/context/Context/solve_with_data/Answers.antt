use Rattle.uc_context.proofs.SolvedWith.{declared_data, new_numbers}
use Rattle.uc_context.proofs.context.Context.solve_with_data.Goals as goal

pub solve_with-requires-clause-new : goal.solve_with-requires-clause-new
solve_with-requires-clause-new c = new_numbers c.args.self.now c.args.count c.in_ok-numbers.numbers.items c.deref-2.result.now c.in_ok-numbers.ensures c.deref-2.ensures.value

pub solve_with-requires-clause-declared : goal.solve_with-requires-clause-declared
solve_with-requires-clause-declared c =
    declared_data c.in_ok-numbers.numbers.items c.deref.result.now c.deref-2.result.now c.in_ok-existentials.field-0.items c.deref.ensures.value c.in_ok-existentials.ensures c.data-with.result c.deref-2.ensures.value c.args.head.now c.data-with.ensures
