use Rattle.std.proofs.Common.{◌≡◌}
use Rattle.std.specs.List.{list_all}
use Rattle.uc_meaning.specs.Candidates.{is_same_target}
use Rattle.uc_meaning.proofs.entries.Entries.all_stand_for.Given as goal

abbrev pub invariant-loop-t : goal.invariant-loop-t
invariant-loop-t l = list_all (λ t. is_same_target t l.target) l.t-iterator ≡ list_all (λ e. is_same_target e.1 l.target) l.self
