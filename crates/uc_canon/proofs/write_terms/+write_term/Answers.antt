use Rattle.std.proofs.Common.{append_assoc, refl}
use Rattle.uc_canon.proofs.Counts.{terms_count-terms_of, cases_count-cases_of}
use Rattle.uc_canon.proofs.write_terms.+write_term.Goals as goal

pub write_terms-loop-term-init : goal.write_terms-loop-term-init
write_terms-loop-term-init t c = rw (c.in_ok-write_number.ensures, terms_count-terms_of, append_assoc) refl

pub write_cases-loop-case-init : goal.write_cases-loop-case-init
write_cases-loop-case-init t c = rw (c.in_ok-write_number.ensures, cases_count-cases_of, append_assoc) refl
