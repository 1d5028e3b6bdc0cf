use Rattle.std.proofs.Common.{◌≡◌, ◌++◌, drop}
use Rattle.uc_scratch.specs.TypeLevels.{texts_of}
use Rattle.uc_scratch.proofs.scope.Scope.push_all.Given as goal

abbrev pub invariant-loop-name : goal.invariant-loop-name
invariant-loop-name l = l.self ++ texts_of (drop l.name-index l.names) ≡ l.initial.self ++ texts_of l.names
