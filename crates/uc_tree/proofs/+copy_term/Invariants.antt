use Rattle.std.proofs.Common.{◌≡◌, ◌+◌, ◌*◌, take}
use Rattle.uc_tree.specs.Terms.{term_size, terms_size, cases_size, terms_of}
use Rattle.uc_tree.specs.TermViews.{cases_of, term_of}
use Rattle.uc_tree.proofs.Sizes.{guard_size, case_size}
use Rattle.uc_tree.proofs.+copy_term.Given as goal

abbrev pub decreases-term::Term::copy : goal.decreases-term::Term::copy
decreases-term::Term::copy l = 3 * term_size l.self.now + 1

abbrev pub decreases-copying::copy_node : goal.decreases-copying::copy_node
decreases-copying::copy_node l = 3 * term_size (term_of l.node.now)

abbrev pub decreases-copying::copy_box : goal.decreases-copying::copy_box
decreases-copying::copy_box l = 3 * term_size l.t.now + 2

abbrev pub decreases-copying::copy_terms : goal.decreases-copying::copy_terms
decreases-copying::copy_terms l = 3 * terms_size (terms_of l.terms.now)

abbrev pub decreases-copying::copy_guard : goal.decreases-copying::copy_guard
decreases-copying::copy_guard l = 3 * guard_size l.guard.now

abbrev pub decreases-term::Case::copy : goal.decreases-term::Case::copy
decreases-term::Case::copy l = 3 * case_size l.self.now

abbrev pub decreases-copying::copy_cases : goal.decreases-copying::copy_cases
decreases-copying::copy_cases l = 3 * cases_size (cases_of l.cases.now) + 1

abbrev pub invariant-copying::copy_terms-loop-t : goal.invariant-copying::copy_terms-loop-t
invariant-copying::copy_terms-loop-t l = l.copied.items ≡ take l.t-index l.terms

abbrev pub invariant-copying::copy_cases-loop-c : goal.invariant-copying::copy_cases-loop-c
invariant-copying::copy_cases-loop-c l = l.copied.items ≡ take l.c-index l.cases
