use Rattle.uc_scratch.proofs.ItemReadings.{reading_unique, fault_unique, reading_no_fault}
use Rattle.uc_scratch.proofs.reading.reading_law.Goals as goal

pub returns : goal.returns
returns c = record { reading = reading_unique; fault = fault_unique; either = reading_no_fault }
