use Rattle.uc_context.proofs.numbers.+mend.Given as goal

abbrev pub decreases-mend : goal.decreases-mend
decreases-mend l = l.at
