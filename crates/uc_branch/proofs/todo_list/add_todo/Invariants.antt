use Rattle.std.proofs.Common.{◌≡◌, ◌++◌, take}
use Rattle.uc_branch.specs.Todo.{todo_in}
use Rattle.uc_branch.specs.Reaches.{is_among}
use Rattle.uc_branch.proofs.todo_list.add_todo.Given as goal

abbrev pub invariant-loop-pair : goal.invariant-loop-pair
invariant-loop-pair g l = l.out.items ≡ l.initial.out.items ++ todo_in (g.K.Known.direct l.known) (λ r. is_among r l.named) (take l.pair-index l.pairs)
