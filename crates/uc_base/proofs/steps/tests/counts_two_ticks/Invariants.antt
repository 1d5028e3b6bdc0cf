use Rattle.uc_base.proofs.steps.tests.counts_two_ticks.Given as goal

abbrev pub ghosts-two_ticks : goal.ghosts-two_ticks
ghosts-two_ticks g a = record { name = a.blank.name; parts = a.blank.parts }
