use Rattle.std.proofs.Common.{length, ◌+◌, ◌*◌}
use Rattle.uc_layout.proofs.plain.+mark_region.Given as goal

abbrev pub decreases-mark_region : goal.decreases-mark_region
decreases-mark_region l = 4 * length l.pieces.now

abbrev pub decreases-mark_item : goal.decreases-mark_item
decreases-mark_item l = 4 * length l.after.now + 3

abbrev pub decreases-mark_token : goal.decreases-mark_token
decreases-mark_token l = 4 * length l.after.now + 2

abbrev pub decreases-mark_word : goal.decreases-mark_word
decreases-mark_word l = 4 * length l.after.now + 1

abbrev pub decreases-mark_bracket : goal.decreases-mark_bracket
decreases-mark_bracket l = 4 * length l.after.now + 1

abbrev pub decreases-mark_block : goal.decreases-mark_block
decreases-mark_block l = 4 * length l.after.now + 1
