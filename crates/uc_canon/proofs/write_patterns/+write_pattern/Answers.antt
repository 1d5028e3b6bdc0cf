use Rattle.std.proofs.Common.{append_assoc, refl}
use Rattle.uc_canon.proofs.Counts.{patterns_count-patterns_of}
use Rattle.uc_canon.proofs.write_patterns.+write_pattern.Goals as goal

pub write_patterns-loop-pattern-init : goal.write_patterns-loop-pattern-init
write_patterns-loop-pattern-init t c = rw (c.in_ok-write_number.ensures, patterns_count-patterns_of, append_assoc) refl
