use Rattle.std.proofs.Common.{arith}
use Rattle.ucm.proofs.Endings.{replied, reply_cut, refused_so}
use Rattle.ucm.proofs.run.run.Goals as goal

pub returns-in-Ok-clause-done : goal.returns-in-Ok-clause-done
returns-in-Ok-clause-done g c = λ ti to not5 not6.
    replied _ _ _ _ _ c.in-Ok.text 0 to (c.in-Ok.ensures.reply ti) (rw c.as_slice.ensures at c.conclude.ensures.ends) not5

pub returns-in-Ok-clause-fault_text : goal.returns-in-Ok-clause-fault_text
returns-in-Ok-clause-fault_text g c = λ ti to five.
    reply_cut _ _ _ _ _ c.in-Ok.text 0 to (c.in-Ok.ensures.reply ti) (λ e. omega (arith, e)) (rw c.as_slice.ensures at c.conclude.ensures.ends) five

pub returns-in-Err-clause-fault_text : goal.returns-in-Err-clause-fault_text
returns-in-Err-clause-fault_text g c = λ ti to five.
    refused_so _ _ _ _ _ c.in-Err.fault to ti c.in-Err.ensures.refusal c.refuse.ensures.ends five
