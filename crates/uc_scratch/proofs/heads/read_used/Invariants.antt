use Rattle.std.proofs.Common.{List, ◌++◌, length}
use Rattle.uc_scratch.specs.declared.written.Written.{Written}
use Rattle.uc_scratch.specs.declared.terminal.Terminal.{Terminal}
use Rattle.uc_scratch.specs.ExprGrammar.{ReadsUsed}
use Rattle.uc_scratch.proofs.heads.read_used.Given as goal

abbrev pub invariant-names : goal.invariant-names
invariant-names l = (ws : List Written) (us : List Terminal) → ReadsUsed l.rest ws us → ReadsUsed l.tokens (l.names.items ++ ws) us

abbrev pub decreases-names : goal.decreases-names
decreases-names l = length l.rest
