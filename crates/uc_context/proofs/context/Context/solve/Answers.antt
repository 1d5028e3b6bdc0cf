use Rattle.std.proofs.Common.{arith}
use Rattle.uc_context.proofs.Solved.{unsolved_within, solve_gives, solve_keeps}
use Rattle.uc_context.proofs.context.Context.solve.Goals as goal

pub set_entry-requires : goal.set_entry-requires
set_entry-requires c =
    omega (arith, unsolved_within c.args.which c.place_of_unsolved-place.result c.self.inside.entries.items c.args.self.now c.self.view_is c.self.invariant.in_order c.place_of_unsolved-place.ensures)

pub invariant_of-self : goal.invariant_of-self
invariant_of-self c =
    solve_keeps c.args.which c.place_of_unsolved-place.result c.self.inside.entries.items c.args.self.now c.self.view_is c.self.invariant.in_order c.place_of_unsolved-place.ensures
    c.args.with _ c.set_entry.ensures c.self.inside.index c.self.invariant.indexed c.requires.declared

pub returns-clause-solved : goal.returns-clause-solved
returns-clause-solved c =
    solve_gives c.args.which c.place_of_unsolved-place.result c.self.inside.entries.items c.args.self.now c.self.view_is c.self.invariant.in_order c.place_of_unsolved-place.ensures c.args.with _ c.set_entry.ensures
