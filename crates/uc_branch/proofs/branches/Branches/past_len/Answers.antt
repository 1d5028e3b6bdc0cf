use Rattle.std.proofs.Common.{sym, ap, ◌∙◌, length, Some}
use Rattle.std.specs.Option.{option_map}
use Rattle.uc_branch.specs.Branches.{BranchState}
use Rattle.uc_branch.proofs.BranchEdits.{branch_found, branch_missing}
use Rattle.uc_branch.proofs.branches.Branches.past_len.Goals as goal

pub returns-in-Ok : goal.returns-in-Ok
returns-in-Ok c =
    ap Some (ap length c.past.ensures.value) ∙ (ap (λ (b : BranchState). Some (length b.past)) c.branch-self.ensures ∙ sym (ap (option_map (λ (b : BranchState). length b.past)) (branch_found c.args.branch.now c.args.self.now c.in-Ok.at c.branch-self.result.now c.in-Ok.ensures.found)))

pub returns-in-Err : goal.returns-in-Err
returns-in-Err c = sym (ap (option_map (λ (b : BranchState). length b.past)) (branch_missing c.args.branch.now c.args.self.now c.in-Err.field-0 c.in-Err.ensures.absent))
