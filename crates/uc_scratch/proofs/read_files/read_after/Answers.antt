use Rattle.std.proofs.Common.{sym, ◌∙◌, refl, inr}
use borrow.Author.Tests.{ltb-true}
use Rattle.uc_scratch.proofs.FileSteps.{bad_syntax, too_deep}
use Rattle.uc_scratch.proofs.read_files.read_after.Goals as goal

pub returns-in-Err-Absent-clause-fault : goal.returns-in-Err-Absent-clause-fault
returns-in-Err-Absent-clause-fault c =
    inr (bad_syntax _ _ _ c.requires.some ((rw c.in-Err-Absent.field-0-is at c.in-Err-Absent.ensures.none) refl))

pub returns-then-branch-clause-fault : goal.returns-then-branch-clause-fault
returns-then-branch-clause-fault c =
    inr (too_deep _ _ _ _ c.requires.some c.in-Ok.ensures.found (ltb-true _ _ (sym c.in_ok-is_too_deep.ensures ∙ c.if-branch.true)))
