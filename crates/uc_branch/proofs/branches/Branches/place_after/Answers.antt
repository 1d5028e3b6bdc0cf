use Rattle.uc_branch.proofs.BranchEdits.{next_branch_first, next_branch_at, next_branch_no}
use Rattle.uc_branch.proofs.branches.Branches.place_after.Goals as goal

pub returns-in-None : goal.returns-in-None
returns-in-None c = rw c.in-None.is (next_branch_first c.args.self.now)

pub returns-in-Ok : goal.returns-in-Ok
returns-in-Ok c = rw c.in-Some.is (next_branch_at c.in-Some.name.now c.args.self.now c.in-Ok.at c.in-Ok.ensures.found)

pub returns-in-Err : goal.returns-in-Err
returns-in-Err c = rw c.in-Some.is (next_branch_no c.in-Some.name.now c.args.self.now c.in-Err.at c.in-Err.ensures.absent)
