use Rattle.std.proofs.Common.{◌≡◌, drop}
use Rattle.std.specs.List.{list_any}
use Rattle.uc_tree.specs.Targets.{term_targets}
use Rattle.uc_typing.specs.Components.{is_own}
use Rattle.uc_check.proofs.component.refers_to_members.Given as goal

abbrev pub invariant-loop-target : goal.invariant-loop-target
invariant-loop-target l = list_any is_own (drop l.target-index l.target-items) ≡ list_any is_own (term_targets l.fn.body)
