use Rattle.std.proofs.Common.{◌≡◌, ◌+◌, ◌*◌, take}
use Rattle.uc_tree.specs.Terms.{term_size, terms_size, cases_size, terms_of}
use Rattle.uc_tree.specs.TermViews.{cases_of}
use Rattle.uc_tree.proofs.Sizes.{guard_size, case_size}
use Rattle.uc_tree.proofs.equality.+same_term.Given as goal

abbrev pub decreases-same_term : goal.decreases-same_term
decreases-same_term l = 2 * term_size l.t.now

abbrev pub decreases-same_terms : goal.decreases-same_terms
decreases-same_terms l = 2 * terms_size (terms_of l.ts.now)

abbrev pub decreases-same_guard : goal.decreases-same_guard
decreases-same_guard l = 2 * guard_size l.g.now

abbrev pub decreases-same_case : goal.decreases-same_case
decreases-same_case l = 2 * case_size l.c.now

abbrev pub decreases-same_cases : goal.decreases-same_cases
decreases-same_cases l = 2 * cases_size (cases_of l.cs.now) + 1

abbrev pub invariant-same_terms-loop-i : goal.invariant-same_terms-loop-i
invariant-same_terms-loop-i l = take l.i l.ts ≡ take l.i l.us

abbrev pub invariant-same_cases-loop-i : goal.invariant-same_cases-loop-i
invariant-same_cases-loop-i l = take l.i l.cs ≡ take l.i l.ds
