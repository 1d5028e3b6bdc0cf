use Rattle.std.proofs.Common.{◌≡◌, ◌++◌, ◌+◌, ◌*◌, drop}
use Rattle.uc_tree.specs.Terms.{term_size, terms_size, cases_size, terms_of}
use Rattle.uc_tree.specs.TermViews.{cases_of}
use Rattle.uc_tree.specs.Targets.{terms_targets, cases_targets}
use Rattle.uc_tree.proofs.Sizes.{guard_size, case_size}
use Rattle.uc_tree.proofs.targets.+add_term.Given as goal

abbrev pub decreases-add_term : goal.decreases-add_term
decreases-add_term l = 2 * term_size l.t.now

abbrev pub decreases-add_terms : goal.decreases-add_terms
decreases-add_terms l = 2 * terms_size (terms_of l.ts.now)

abbrev pub decreases-add_guard : goal.decreases-add_guard
decreases-add_guard l = 2 * guard_size l.guard.now

abbrev pub decreases-add_case : goal.decreases-add_case
decreases-add_case l = 2 * case_size l.c.now

abbrev pub decreases-add_cases : goal.decreases-add_cases
decreases-add_cases l = 2 * cases_size (cases_of l.cs.now) + 1

abbrev pub invariant-add_terms-loop-t : goal.invariant-add_terms-loop-t
invariant-add_terms-loop-t l = l.out.items ++ terms_targets (terms_of (drop l.t-index l.ts)) ≡ l.initial.out.items ++ terms_targets (terms_of l.ts)

abbrev pub invariant-add_cases-loop-c : goal.invariant-add_cases-loop-c
invariant-add_cases-loop-c l = l.out.items ++ cases_targets (cases_of (drop l.c-index l.cs)) ≡ l.initial.out.items ++ cases_targets (cases_of l.cs)
