use Rattle.std.proofs.Common.{inl, ap}
use Rattle.uc_base.specs.declared.fault.Fault.TheVariants.{NoSuchBranch}
use Rattle.uc_branch.proofs.BranchEdits.{branch_missing}
use Rattle.uc_branch.proofs.branches.Branches.place_of.Goals as goal

pub returns-in_ok-copy-in-Err-clause-absent : goal.returns-in_ok-copy-in-Err-clause-absent
returns-in_ok-copy-in-Err-clause-absent c = inl (ap NoSuchBranch c.in_ok-copy-in-Err.ensures, branch_missing c.args.name.now c.args.self.now c.in-Err.field-0 c.in-Err.ensures.absent)
