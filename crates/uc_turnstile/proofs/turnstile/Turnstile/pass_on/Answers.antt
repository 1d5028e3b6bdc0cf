use Rattle.std.proofs.Common.{rules}
use Rattle.uc_turnstile.proofs.Keeps.{passes_keep}
use Rattle.uc_turnstile.proofs.turnstile.Turnstile.pass_on.Goals as goal

pub fetch_add-requires : goal.fetch_add-requires
fetch_add-requires g c = let may = c.requires.worked in
    (c.requires.own, search rules, passes_keep _ _ _ _ _ _ _ _ _ may.ticket may.faults may.kept _ _ _ may.stage may.out c.requires.call may.more)
