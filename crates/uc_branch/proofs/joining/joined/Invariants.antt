use Rattle.std.proofs.Common.{◌≡◌, ◌+◌, ◌++◌, length}
use Rattle.std.specs.List.Sorted.{IsStrictlySortedBy}
use Rattle.uc_tree.specs.Lookups.{pair_order}
use Rattle.uc_branch.specs.Pairs.{put_all}
use Rattle.uc_branch.proofs.joining.joined.Given as goal

abbrev pub invariant-loop-pair : goal.invariant-loop-pair
invariant-loop-pair l = record {
  joins : put_all l.initial.new.items l.initial.old.items ≡ l.pairs.items ++ put_all l.new.items l.old.items;
  old_in_order : IsStrictlySortedBy pair_order l.old.items;
  new_in_order : IsStrictlySortedBy pair_order l.new.items;
}

abbrev pub decreases-loop-pair : goal.decreases-loop-pair
decreases-loop-pair l = length l.old.items + length l.new.items
