use Rattle.std.proofs.Common.{append_assoc, refl}
use Rattle.uc_canon.proofs.Counts.{types_count-tys_of}
use Rattle.uc_canon.proofs.write_types.+write_type.Goals as goal

pub write_types-loop-ty-init : goal.write_types-loop-ty-init
write_types-loop-ty-init t c = rw (c.in_ok-write_number.ensures, types_count-tys_of, append_assoc) refl
