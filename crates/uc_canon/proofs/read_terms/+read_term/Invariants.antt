use Rattle.std.proofs.Common.{◌≡◌, ◌+◌, ◌*◌, ◌-◌, []}
use Rattle.uc_canon.specs.Reading.{items_from}
use Rattle.uc_canon.specs.ReadingTerms.{term_at, case_at}
use Rattle.uc_canon.proofs.read_terms.+read_term.Given as goal

abbrev pub decreases-read_term : goal.decreases-read_term
decreases-read_term l = 8 * l.levels

abbrev pub decreases-read_term_by : goal.decreases-read_term_by
decreases-read_term_by l = 8 * l.levels + 7

abbrev pub decreases-read_lambda : goal.decreases-read_lambda
decreases-read_lambda l = 8 * l.levels + 6

abbrev pub decreases-read_apply : goal.decreases-read_apply
decreases-read_apply l = 8 * l.levels + 6

abbrev pub decreases-read_and : goal.decreases-read_and
decreases-read_and l = 8 * l.levels + 6

abbrev pub decreases-read_or : goal.decreases-read_or
decreases-read_or l = 8 * l.levels + 6

abbrev pub decreases-read_annotated : goal.decreases-read_annotated
decreases-read_annotated l = 8 * l.levels + 6

abbrev pub decreases-read_tuple_term : goal.decreases-read_tuple_term
decreases-read_tuple_term l = 8 * l.levels + 6

abbrev pub decreases-read_list_term : goal.decreases-read_list_term
decreases-read_list_term l = 8 * l.levels + 6

abbrev pub decreases-read_conditional : goal.decreases-read_conditional
decreases-read_conditional l = 8 * l.levels + 6

abbrev pub decreases-read_binding : goal.decreases-read_binding
decreases-read_binding l = 8 * l.levels + 6

abbrev pub decreases-read_match : goal.decreases-read_match
decreases-read_match l = 8 * l.levels + 6

abbrev pub decreases-read_two : goal.decreases-read_two
decreases-read_two l = 8 * l.levels + 1

abbrev pub decreases-read_terms : goal.decreases-read_terms
decreases-read_terms l = 8 * l.levels + 2

abbrev pub decreases-read_each_term : goal.decreases-read_each_term
decreases-read_each_term l = 8 * l.levels + 1

abbrev pub decreases-read_guard : goal.decreases-read_guard
decreases-read_guard l = 8 * l.levels + 1

abbrev pub decreases-read_case : goal.decreases-read_case
decreases-read_case l = 8 * l.levels + 2

abbrev pub decreases-read_cases : goal.decreases-read_cases
decreases-read_cases l = 8 * l.levels + 4

abbrev pub decreases-read_each_case : goal.decreases-read_each_case
decreases-read_each_case l = 8 * l.levels + 3

abbrev pub invariant-read_each_term-loop : goal.invariant-read_each_term-loop
invariant-read_each_term-loop l = items_from (term_at l.levels l.scope) l.terms.items (l.count - l.counter) l.rest ≡ items_from (term_at l.levels l.scope) [] l.count l.bytes

abbrev pub invariant-read_each_case-loop : goal.invariant-read_each_case-loop
invariant-read_each_case-loop l = items_from (case_at l.levels (term_at l.levels) l.scope) l.cases.items (l.count - l.counter) l.rest ≡ items_from (case_at l.levels (term_at l.levels) l.scope) [] l.count l.bytes
