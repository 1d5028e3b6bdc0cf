use Rattle.uc_layout.proofs.Slices.{tokens_are_slices}
use Rattle.uc_layout.proofs.Unmarked.{tokens_kept}
use Rattle.uc_layout.proofs.Whole.{layout_unique, fault_unique, no_fault}
use Rattle.uc_layout.proofs.text.layout_law.Goals as goal

pub returns : goal.returns
returns c = record { layout = layout_unique; fault = fault_unique; either = no_fault; slices = tokens_are_slices; kept = tokens_kept }
