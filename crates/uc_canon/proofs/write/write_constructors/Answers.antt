use Rattle.std.proofs.Common.{append_assoc, refl}
use Rattle.uc_canon.proofs.Counts.{length-fields_of}
use Rattle.uc_canon.proofs.write.write_constructors.Goals as goal

pub loop-fields-init : goal.loop-fields-init
loop-fields-init c = rw (c.in_ok-write_number.ensures, length-fields_of, append_assoc) refl
