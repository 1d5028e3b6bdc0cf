use Rattle.std.proofs.Common.{ap}
use Rattle.uc_layout.proofs.Regions.{lays}
use Rattle.uc_layout.proofs.plain.lay_plainly.Goals as goal

pub returns : goal.returns
returns c = lays _ _ _ _ _ c.new-out.ensures.items c.the_file.ensures (c.in_ok-mark_region.ensures.file (ap (λ x. x.container) c.the_file.ensures)) c.in_ok-mark_region.ensures.marks
