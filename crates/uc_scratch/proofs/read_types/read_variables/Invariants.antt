use Rattle.std.proofs.Common.{List, ◌++◌, length}
use Rattle.uc_scratch.specs.declared.written.Written.{Written}
use Rattle.uc_scratch.specs.declared.terminal.Terminal.{Terminal}
use Rattle.uc_scratch.specs.TypeGrammar.{ReadsVariables}
use Rattle.uc_scratch.proofs.read_types.read_variables.Given as goal

abbrev pub invariant-variables : goal.invariant-variables
invariant-variables l =
    (ws : List Written) (us : List Terminal) → ReadsVariables l.rest ws us → ReadsVariables l.tokens (l.variables.items ++ ws) us

abbrev pub decreases-variables : goal.decreases-variables
decreases-variables l = length l.rest
