-- What falls in the cycle of the checker, and what its loops keep.
use Rattle.std.proofs.Common.{◌+◌, ◌*◌, ◌^◌, min, length, ◌-◌}
use Rattle.uc_context.specs.Opens.{opens_of}
use Rattle.uc_tree.specs.Nodes.{terms_nodes, cases_nodes}
use Rattle.uc_tree.specs.Terms.{term_size, terms_size, terms_of, cases_size}
use Rattle.uc_tree.specs.TermViews.{cases_of}
use Rattle.uc_typing.specs.Fronts.{front_count, repeated}
use Rattle.uc_check.specs.Walks.{case_terms, ChecksAllIn, ChecksCasesIn}
use Rattle.uc_check.proofs.CaseArms.{PendingCases, cases_left}
use Rattle.uc_check.proofs.CheckMeasures.{step_rank}
use Rattle.uc_check.proofs.ListPending.{PendingTerms, terms_left, types_left}
use Rattle.uc_check.proofs.+terms.Given as goal

abbrev pub decreases-checking::check : goal.decreases-checking::check
decreases-checking::check g l = step_rank (term_size l.term.now) (2 ^ 15 + 4000)

abbrev pub decreases-checking::check_against : goal.decreases-checking::check_against
decreases-checking::check_against g l = step_rank (term_size l.term.now) (2 ^ 15 + 2 * front_count l.against.now + 1)

abbrev pub decreases-checking::check_quantified : goal.decreases-checking::check_quantified
decreases-checking::check_quantified g l = step_rank (term_size l.term.now) (2 ^ 15 + 2 * front_count l.body.now + 2)

abbrev pub decreases-checking::check_by_subtype : goal.decreases-checking::check_by_subtype
decreases-checking::check_by_subtype g l = step_rank (term_size l.term.now) 40

abbrev pub decreases-checking::check_by_form : goal.decreases-checking::check_by_form
decreases-checking::check_by_form g l = step_rank (term_size l.term.now) 10

abbrev pub decreases-checking::check_lambda : goal.decreases-checking::check_lambda
decreases-checking::check_lambda g l = step_rank (term_size l.body.now + 1) 5

abbrev pub decreases-checking::check_tuple : goal.decreases-checking::check_tuple
decreases-checking::check_tuple g l = step_rank (terms_size (terms_of l.parts.now) + 1) 5

abbrev pub decreases-checking::check_list : goal.decreases-checking::check_list
decreases-checking::check_list g l = step_rank (terms_size (terms_of l.elements.now) + 1) 5

abbrev pub decreases-checking::check_conditional : goal.decreases-checking::check_conditional
decreases-checking::check_conditional g l = step_rank (term_size l.condition.now + term_size l.consequent.now + term_size l.alternative.now + 1) 5

abbrev pub decreases-checking::check_signed : goal.decreases-checking::check_signed
decreases-checking::check_signed g l = step_rank (term_size l.bound.now + term_size l.body.now + 1) 5

abbrev pub decreases-checking::check_unsigned : goal.decreases-checking::check_unsigned
decreases-checking::check_unsigned g l = step_rank (term_size l.bound.now + term_size l.body.now + 1) 5

abbrev pub decreases-checking::synthesize_unbound : goal.decreases-checking::synthesize_unbound
decreases-checking::synthesize_unbound g l = step_rank (term_size l.bound.now) 31

abbrev pub decreases-checking::check_match : goal.decreases-checking::check_match
decreases-checking::check_match g l = step_rank (term_size l.subject.now + cases_size (cases_of l.cases.now) + 1) 5

abbrev pub decreases-checking::meet : goal.decreases-checking::meet
decreases-checking::meet g l = step_rank (term_size l.term.now) (2 ^ 15 + 8000 + 2 * min (front_count l.signature.now) 1000 + 1)

abbrev pub decreases-checking::meet_quantified : goal.decreases-checking::meet_quantified
decreases-checking::meet_quantified g l = step_rank (term_size l.term.now) (2 ^ 15 + 8000 + 2 * front_count l.body.now + 2)

abbrev pub decreases-lists::check_each : goal.decreases-lists::check_each
decreases-lists::check_each g l = step_rank (terms_size (terms_of l.terms.now)) 2

abbrev pub decreases-lists::check_all_against : goal.decreases-lists::check_all_against
decreases-lists::check_all_against g l = step_rank (terms_size (terms_of l.terms.now)) 2

abbrev pub decreases-cases::check_cases : goal.decreases-cases::check_cases
decreases-cases::check_cases g l = step_rank (cases_size (cases_of l.cases.now)) 4

abbrev pub decreases-cases::check_case : goal.decreases-cases::check_case
decreases-cases::check_case g l = step_rank (terms_size (case_terms l.case.now.guard l.case.now.body)) 3

abbrev pub decreases-cases::check_guarded : goal.decreases-cases::check_guarded
decreases-cases::check_guarded g l = step_rank (terms_size (case_terms l.guard.now l.body.now)) 2

abbrev pub decreases-finding::synthesize : goal.decreases-finding::synthesize
decreases-finding::synthesize g l = step_rank (term_size l.term.now) 30

abbrev pub decreases-finding::find : goal.decreases-finding::find
decreases-finding::find g l = step_rank (term_size l.term.now) 20

abbrev pub decreases-finding::find_lambda : goal.decreases-finding::find_lambda
decreases-finding::find_lambda g l = step_rank (term_size l.body.now + 1) 15

abbrev pub decreases-finding::find_annotated : goal.decreases-finding::find_annotated
decreases-finding::find_annotated g l = step_rank (term_size l.inside.now + 1) 15

abbrev pub decreases-finding::find_tuple : goal.decreases-finding::find_tuple
decreases-finding::find_tuple g l = step_rank (terms_size (terms_of l.parts.now) + 1) 15

abbrev pub decreases-finding::find_list : goal.decreases-finding::find_list
decreases-finding::find_list g l = step_rank (terms_size (terms_of l.elements.now) + 1) 15

abbrev pub decreases-finding::find_both : goal.decreases-finding::find_both
decreases-finding::find_both g l = step_rank (term_size l.first.now + term_size l.second.now + 1) 15

abbrev pub decreases-finding::find_conditional : goal.decreases-finding::find_conditional
decreases-finding::find_conditional g l = step_rank (term_size l.condition.now + term_size l.consequent.now + term_size l.alternative.now + 1) 15

abbrev pub decreases-finding::find_by_form : goal.decreases-finding::find_by_form
decreases-finding::find_by_form g l = step_rank (term_size l.term.now) 15

abbrev pub decreases-applying::find_application : goal.decreases-applying::find_application
decreases-applying::find_application g l = step_rank (term_size l.function.now + term_size l.argument.now + 1) 15

abbrev pub decreases-applying::apply_function : goal.decreases-applying::apply_function
decreases-applying::apply_function g l = step_rank (term_size l.argument.now) (2 ^ 15 + 8000 + 2 * front_count l.function.now + 1)

abbrev pub decreases-applying::apply_quantified : goal.decreases-applying::apply_quantified
decreases-applying::apply_quantified g l = step_rank (term_size l.argument.now) (2 ^ 15 + 8000 + 2 * front_count l.body.now + 2)

abbrev pub decreases-applying::apply_existential : goal.decreases-applying::apply_existential
decreases-applying::apply_existential g l = step_rank (term_size l.argument.now) (2 ^ 15 + 8000)

abbrev pub invariant-lists::check_each-loop-at : goal.invariant-lists::check_each-loop-at
invariant-lists::check_each-loop-at g l =
    PendingTerms (g.K.TargetTypes.known l.known) (ChecksAllIn (g.K.TargetTypes.known l.known) l.initial.state (terms_of l.terms) (opens_of l.types)) l.initial.state l.state (length (terms_nodes (terms_of l.terms))) (terms_left l.terms l.at) (types_left l.types l.at)

abbrev pub invariant-lists::check_all_against-loop-term : goal.invariant-lists::check_all_against-loop-term
invariant-lists::check_all_against-loop-term g l =
    PendingTerms (g.K.TargetTypes.known l.known) (ChecksAllIn (g.K.TargetTypes.known l.known) l.initial.state (terms_of l.terms) (repeated (length l.terms) l.against)) l.initial.state l.state (length (terms_nodes (terms_of l.terms)))
    (terms_left l.terms l.term-index) (repeated (length l.terms - l.term-index) l.against)

abbrev pub invariant-cases::check_cases-loop-case : goal.invariant-cases::check_cases-loop-case
invariant-cases::check_cases-loop-case g l =
    PendingCases (g.K.TargetTypes.known l.known) (ChecksCasesIn (g.K.TargetTypes.known l.known) l.initial.state (cases_of l.cases) l.matched l.against) l.initial.state l.state (length (cases_nodes (cases_of l.cases)))
    (cases_left l.cases l.case-index) l.matched l.against
