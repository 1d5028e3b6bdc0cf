use Rattle.std.proofs.Common.{◌≡◌, ◌++◌, map, not, take}
use Rattle.std.specs.List.{filter}
use Rattle.uc_branch.specs.Reaches.{is_among}
use Rattle.uc_branch.proofs.todo_list.add_unnamed.Given as goal

abbrev pub invariant-loop-r : goal.invariant-loop-r
invariant-loop-r l = l.out.items ≡ l.initial.out.items ++ map (λ r. (l.name, r)) (filter (λ r. not (is_among r l.named)) (take l.r-index l.refs))
