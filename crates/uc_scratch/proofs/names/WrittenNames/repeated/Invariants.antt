use Rattle.std.proofs.Common.{◌≡◌, [], map, drop}
use Rattle.uc_scratch.specs.NameFaults.{repeated_among}
use Rattle.uc_scratch.proofs.names.WrittenNames.repeated.Given as goal

abbrev pub invariant-loop-name : goal.invariant-loop-name
invariant-loop-name l = repeated_among l.before (map (λ x. x.now) (drop l.name-index l.name-items)) ≡ repeated_among [] l.self
