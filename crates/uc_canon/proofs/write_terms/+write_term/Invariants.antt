use Rattle.std.proofs.Common.{◌≡◌, ◌+◌, ◌*◌, ◌++◌, drop}
use Rattle.uc_tree.specs.Terms.{term_size, terms_size, cases_size, terms_of}
use Rattle.uc_tree.specs.TermViews.{cases_of}
use Rattle.uc_tree.proofs.Sizes.{case_size}
use Rattle.uc_canon.specs.Spelling.{terms_text, counted_terms, cases_text, counted_cases}
use Rattle.uc_canon.proofs.write_terms.+write_term.Given as goal

abbrev pub decreases-write_term : goal.decreases-write_term
decreases-write_term l = 2 * term_size l.term.now

abbrev pub decreases-write_tagged : goal.decreases-write_tagged
decreases-write_tagged l = 2 * term_size l.term.now + 1

abbrev pub decreases-write_pair : goal.decreases-write_pair
decreases-write_pair l = 2 * (term_size l.first.now + term_size l.second.now) + 1

abbrev pub decreases-write_listed : goal.decreases-write_listed
decreases-write_listed l = 2 * terms_size (terms_of l.terms.now) + 1

abbrev pub decreases-write_terms : goal.decreases-write_terms
decreases-write_terms l = 2 * terms_size (terms_of l.terms.now)

abbrev pub decreases-write_case : goal.decreases-write_case
decreases-write_case l = 2 * case_size l.case.now

abbrev pub decreases-write_cases : goal.decreases-write_cases
decreases-write_cases l = 2 * cases_size (cases_of l.cases.now) + 1

abbrev pub invariant-write_terms-loop-term : goal.invariant-write_terms-loop-term
invariant-write_terms-loop-term l = l.out.items ++ terms_text (terms_of (drop l.term-index l.terms)) ≡ l.fn.out.items ++ counted_terms (terms_of l.terms)

abbrev pub invariant-write_cases-loop-case : goal.invariant-write_cases-loop-case
invariant-write_cases-loop-case l = l.out.items ++ cases_text (cases_of (drop l.case-index l.cases)) ≡ l.fn.out.items ++ counted_cases (cases_of l.cases)
