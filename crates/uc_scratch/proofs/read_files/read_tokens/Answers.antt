use Rattle.std.proofs.Common.{sym, ◌∙◌}
use Rattle.uc_scratch.proofs.ItemRooms.{no_reading}
use Rattle.uc_scratch.proofs.read_files.read_tokens.Goals as goal

pub returns-then-not-fits-clause-none : goal.returns-then-not-fits-clause-none
returns-then-not-fits-clause-none c =
    λ _. no_reading _ _ (c.as_slice.ensures.value ∙ c.in_ok-terminals.ensures) c.requires (sym c.fits.ensures ∙ c.if-not-fits.true)
