use Rattle.std.proofs.Common.{sym}
use Rattle.uc_layout.proofs.Regions.{word_marks, hollow_marks, bracket_marks, open_bracket_marks, block_marks, item_marks, no_tokens, ended_tokens}
use Rattle.uc_layout.proofs.plain.+mark_region.Goals as goal

pub mark_word-returns-clause-marks : goal.mark_word-returns-clause-marks
mark_word-returns-clause-marks t c = word_marks _ _ _ _ _ _ _ _ c.in_ok-push.ensures.items c.in_ok-next.ensures c.in_ok-rest.ensures.marks

pub mark_bracket-returns-in-None-clause-marks : goal.mark_bracket-returns-in-None-clause-marks
mark_bracket-returns-in-None-clause-marks t c = open_bracket_marks _ _ _ _ _ _ _ _ c.in_ok-push.ensures.items c.inside_bracket.ensures c.in-None.ensures c.in_ok-held.ensures.marks

pub mark_bracket-returns-in_ok-rest-in-Some-clause-marks : goal.mark_bracket-returns-in_ok-rest-in-Some-clause-marks
mark_bracket-returns-in_ok-rest-in-Some-clause-marks t c = bracket_marks _ _ _ _ _ _ _ _ _ _ _ _ _ c.in_ok-push.ensures.items c.inside_bracket.ensures c.in_ok-held.ensures.marks c.in-Some.ensures c.in_ok-push-in-Some.ensures.items c.in_ok-rest-in-Some.ensures.marks

pub mark_block-returns-in_ok-rest-in-None-clause-marks : goal.mark_block-returns-in_ok-rest-in-None-clause-marks
mark_block-returns-in_ok-rest-in-None-clause-marks t c = hollow_marks _ _ _ _ _ _ _ _ _ _ c.in_ok-push.ensures.items c.in_ok-push-2.ensures.items c.in_ok-next.ensures c.in-None.ensures.is c.in_ok-push-in-None.ensures.items c.in_ok-rest-in-None.ensures.marks

pub mark_block-returns-in_ok-rest-in-Some-clause-marks : goal.mark_block-returns-in_ok-rest-in-Some-clause-marks
mark_block-returns-in_ok-rest-in-Some-clause-marks t c = block_marks _ _ _ _ _ _ _ _ _ _ _ _ _ c.in_ok-push.ensures.items c.in_ok-push-2.ensures.items c.in_ok-next.ensures c.in-Some.ensures.is c.in_ok-held-in-Some.ensures.marks c.in_ok-push-in-Some.ensures.items c.in_ok-rest-in-Some.ensures.marks

pub mark_item-returns-clause-marks : goal.mark_item-returns-clause-marks
mark_item-returns-clause-marks t c = item_marks _ _ _ _ _ _ _ _ c.in_ok-push.ensures.items c.at_start.ensures c.in_ok-rest.ensures.marks

pub mark_region-returns-in_default-clause-marks : goal.mark_region-returns-in_default-clause-marks
mark_region-returns-in_default-clause-marks t c = no_tokens _ _ _ _ c.in_default.ensures

pub mark_region-returns-then-is_ended-clause-marks : goal.mark_region-returns-then-is_ended-clause-marks
mark_region-returns-then-is_ended-clause-marks t c = ended_tokens _ _ _ _ _ _ c.in-Some.ensures c.if-fresh.false (sym c.if-is_ended.ensures)
