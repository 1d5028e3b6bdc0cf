use Rattle.std.proofs.Common.{◌+◌, ◌*◌}
use Rattle.uc_tree.proofs.Sizes.{case_size}
use Rattle.uc_tree.specs.Terms.{term_size, terms_size, cases_size, terms_of}
use Rattle.uc_tree.specs.TermViews.{cases_of}
use Rattle.uc_check.proofs.tests.formed.+asked_terms.Given as goal

abbrev pub decreases-is_formed : goal.decreases-is_formed
decreases-is_formed g l = 2 * term_size l.term.now

abbrev pub decreases-is_formed_binding : goal.decreases-is_formed_binding
decreases-is_formed_binding g l = 2 * (term_size l.bound.now + term_size l.body.now) + 1

abbrev pub decreases-are_formed : goal.decreases-are_formed
decreases-are_formed g l = 2 * terms_size (terms_of l.terms.now)

abbrev pub decreases-is_formed_case : goal.decreases-is_formed_case
decreases-is_formed_case g l = 2 * case_size l.case.now

abbrev pub decreases-are_formed_cases : goal.decreases-are_formed_cases
decreases-are_formed_cases g l = 2 * cases_size (cases_of l.cases.now) + 1
