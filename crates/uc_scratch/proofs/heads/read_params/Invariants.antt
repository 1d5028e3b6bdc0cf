use Rattle.std.proofs.Common.{List, ◌++◌, length}
use Rattle.uc_scratch.specs.declared.written.Param.{Param}
use Rattle.uc_scratch.specs.declared.terminal.Terminal.{Terminal}
use Rattle.uc_scratch.specs.ExprGrammar.{ReadsParams}
use Rattle.uc_scratch.proofs.heads.read_params.Given as goal

abbrev pub invariant-params : goal.invariant-params
invariant-params l = (ps : List Param) (us : List Terminal) → ReadsParams l.rest ps us → ReadsParams l.tokens (l.params.items ++ ps) us

abbrev pub decreases-params : goal.decreases-params
decreases-params l = length l.rest
