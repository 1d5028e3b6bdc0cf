use Rattle.std.proofs.Common.{sym, ap, ◌∙◌}
use Rattle.uc_scratch.specs.Terminals.{last_of}
use Rattle.uc_scratch.proofs.Segments.{last_of_rest}
use Rattle.uc_scratch.proofs.terminal.last_segment.Goals as goal

pub segments-preserved : goal.segments-preserved
segments-preserved c =
    sym (last_of_rest c.in-Some.field-0-0.now c.in-Some.after.now) ∙ ap last_of (sym c.in-Some.ensures.segments) ∙ c.segments.invariant
