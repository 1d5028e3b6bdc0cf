use Rattle.std.proofs.Common.{◌≡◌, ◌+◌, ◌*◌, drop}
use Rattle.std.specs.Prelude.{option_map}
use Rattle.uc_tree.specs.Terms.{term_size, terms_size, cases_size, terms_of}
use Rattle.uc_tree.specs.TermViews.{cases_of, term_of}
use Rattle.uc_tree.specs.Stops.{replacement_of}
use Rattle.uc_tree.specs.Replacing.{replaced_terms, replaced_cases}
use Rattle.uc_tree.proofs.Joins.{terms_before, cases_before}
use Rattle.uc_tree.proofs.Sizes.{guard_size, case_size}
use Rattle.uc_tree.proofs.replacing.+replace_term.Given as goal

abbrev pub decreases-replace_term : goal.decreases-replace_term
decreases-replace_term l = 5 * term_size l.t.now + 1

abbrev pub decreases-replace_node : goal.decreases-replace_node
decreases-replace_node l = 5 * term_size (term_of l.node.now)

abbrev pub decreases-replace_let : goal.decreases-replace_let
decreases-replace_let l = 5 * (term_size l.t.now + term_size l.u.now) + 4

abbrev pub decreases-replace_box : goal.decreases-replace_box
decreases-replace_box l = 5 * term_size l.t.now + 2

abbrev pub decreases-replace_two : goal.decreases-replace_two
decreases-replace_two l = 5 * (term_size l.t.now + term_size l.u.now) + 3

abbrev pub decreases-replace_terms : goal.decreases-replace_terms
decreases-replace_terms l = 5 * terms_size (terms_of l.ts.now)

abbrev pub decreases-replace_guard : goal.decreases-replace_guard
decreases-replace_guard l = 5 * guard_size l.guard.now

abbrev pub decreases-replace_case : goal.decreases-replace_case
decreases-replace_case l = 5 * case_size l.c.now

abbrev pub decreases-replace_cases : goal.decreases-replace_cases
decreases-replace_cases l = 5 * cases_size (cases_of l.cs.now) + 1

abbrev pub invariant-replace_terms-loop-t : goal.invariant-replace_terms-loop-t
invariant-replace_terms-loop-t l =
    option_map (terms_before l.replaced.items) (replaced_terms (replacement_of l.standing) (terms_of (drop l.t-index l.ts))) ≡ replaced_terms (replacement_of l.standing) (terms_of l.ts)

abbrev pub invariant-replace_cases-loop-c : goal.invariant-replace_cases-loop-c
invariant-replace_cases-loop-c l =
    option_map (cases_before l.replaced.items) (replaced_cases (replacement_of l.standing) (cases_of (drop l.c-index l.cs))) ≡ replaced_cases (replacement_of l.standing) (cases_of l.cs)
