use Rattle.uc_scratch.proofs.PatternSteps.{path_con, reference_con_front, not_con_front, no_con_front}
use Rattle.uc_scratch.proofs.atom_front.con_front.Goals as goal

pub returns-in_ok-copy-in-Path : goal.returns-in_ok-copy-in-Path
returns-in_ok-copy-in-Path c = path_con _ _ _ _ c.in-Path.ensures c.in_ok-copy-in-Path.ensures

pub returns-in_ok-copy-in-Reference : goal.returns-in_ok-copy-in-Reference
returns-in_ok-copy-in-Reference c = reference_con_front _ _ _ _ c.in-Reference.ensures c.in_ok-copy-in-Reference.ensures

pub returns-in_default : goal.returns-in_default
returns-in_default c =
    no_con_front _ c.atom_front.result c.atom_front.ensures (not_con_front _ c.in_default.not-Path c.in_default.not-Reference)
