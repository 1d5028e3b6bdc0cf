use Rattle.std.proofs.Common.{◌+◌, ◌*◌}
use Rattle.uc_tree.proofs.Sizes.{case_size}
use Rattle.uc_tree.specs.Terms.{term_size, terms_size, cases_size, terms_of}
use Rattle.uc_tree.specs.TermViews.{cases_of}
use Rattle.uc_check.proofs.tests.counted.+counted_terms.Given as goal

abbrev pub decreases-term_nodes : goal.decreases-term_nodes
decreases-term_nodes l = 2 * term_size l.term.now

abbrev pub decreases-terms_nodes : goal.decreases-terms_nodes
decreases-terms_nodes l = 2 * terms_size (terms_of l.terms.now)

abbrev pub decreases-case_nodes : goal.decreases-case_nodes
decreases-case_nodes l = 2 * case_size l.case.now

abbrev pub decreases-cases_nodes : goal.decreases-cases_nodes
decreases-cases_nodes l = 2 * cases_size (cases_of l.cases.now) + 1
