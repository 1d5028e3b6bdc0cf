use Rattle.uc_journal.proofs.Refusals.{reads, aliens, damages}
use Rattle.uc_journal.proofs.tail.Tail.open.Goals as goal

pub returns-clause-reads : goal.returns-clause-reads
returns-clause-reads g c told ps file = reads _ (λ o. o.1.items) _ c.start.result (record { holds = c.start.ensures.file told; fault = c.start.ensures.fault; alien = c.start.ensures.alien told; damaged = c.start.ensures.damaged told }) ps file

pub returns-clause-alien : goal.returns-clause-alien
returns-clause-alien g c told alien = aliens _ (λ o. o.1.items) _ c.start.result (record { holds = c.start.ensures.file told; fault = c.start.ensures.fault; alien = c.start.ensures.alien told; damaged = c.start.ensures.damaged told }) alien

pub returns-clause-damaged : goal.returns-clause-damaged
returns-clause-damaged g c told at damaged = damages _ (λ o. o.1.items) _ c.start.result (record { holds = c.start.ensures.file told; fault = c.start.ensures.fault; alien = c.start.ensures.alien told; damaged = c.start.ensures.damaged told }) at damaged
