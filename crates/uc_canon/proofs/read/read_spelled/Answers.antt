use Rattle.std.proofs.Common.{ap, length, arith}
use Rattle.uc_canon.proofs.MemberReading.{whole_read, nothing_behind, nothing_read}
use Rattle.uc_canon.proofs.read.read_spelled.Goals as goal

pub returns-in-Ok-default-empty-clause-found : goal.returns-in-Ok-default-empty-clause-found
returns-in-Ok-default-empty-clause-found c = whole_read c.args.bytes.now _ _ c.in-Ok-default-empty.ensures c.in-Ok-default-empty.len_below

pub returns-in-Ok-default-len1-up-clause-none : goal.returns-in-Ok-default-len1-up-clause-none
returns-in-Ok-default-len1-up-clause-none c =
    λ m fits e. let none = nothing_behind c.args.bytes.now _ _ c.in-Ok-default-len1-up.ensures m fits e in
    absurd (omega (arith, ap length none))

pub returns-in-Err-Absent-clause-none : goal.returns-in-Err-Absent-clause-none
returns-in-Err-Absent-clause-none c = nothing_read c.args.bytes.now (rw c.in-Err-Absent.field-0-is at c.in-Err-Absent.ensures)
