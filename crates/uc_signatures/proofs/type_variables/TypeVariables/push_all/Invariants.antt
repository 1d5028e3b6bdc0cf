use Rattle.std.proofs.Common.{◌≡◌, ◌++◌, take}
use Rattle.std.specs.Prelude.{reverse}
use Rattle.uc_scratch.specs.TypeLevels.{texts_of}
use Rattle.uc_signatures.proofs.type_variables.TypeVariables.push_all.Given as goal

abbrev pub invariant-loop-name : goal.invariant-loop-name
invariant-loop-name l = l.self ≡ reverse (texts_of (take l.name-index l.names)) ++ l.initial.self
