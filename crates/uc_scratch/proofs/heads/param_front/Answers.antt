use Rattle.std.proofs.Common.{sym, ◌∙◌}
use Rattle.uc_scratch.proofs.Named.{no_param_ends, param_there}
use Rattle.uc_scratch.proofs.heads.param_front.Goals as goal

pub returns-in-None-found : goal.returns-in-None-found
returns-in-None-found c = no_param_ends _ _ _ c.in-Some.ensures (sym c.in_ok-found-in-Some.ensures ∙ c.in-None-found.is)

pub returns-in-Some-found : goal.returns-in-Some-found
returns-in-Some-found c = param_there _ _ _ _ c.in-Some.ensures (sym c.in-Some-found.is ∙ c.in_ok-found-in-Some.ensures)
