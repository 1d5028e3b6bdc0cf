use Rattle.std.proofs.Common.{◌∙◌, sym}
use Rattle.uc_base.proofs.Segments.{not_word, word}
use Rattle.uc_base.proofs.name.are_segments.Goals as goal

pub returns-then-not-is_word : goal.returns-then-not-is_word
returns-then-not-is_word c = sym (not_word c.segments.rest.now c.in-Some.segment.now c.in-Some.after.now c.in-Some.ensures.segments (sym c.if-not-is_word.ensures)) ∙ c.segments.invariant

pub segments-preserved : goal.segments-preserved
segments-preserved c = sym (word c.segments.rest.now c.in-Some.segment.now c.in-Some.after.now c.in-Some.ensures.segments (sym c.if-not-is_word.ensures)) ∙ c.segments.invariant
