use Rattle.std.proofs.Common.{◌≡◌, drop}
use Rattle.uc_kinds.specs.Typing.{some_uses, some_case_uses}
use Rattle.uc_tree.specs.TermViews.{cases_of}
use Rattle.uc_tree.specs.Terms.{terms_of, term_size, terms_size, cases_size}
use Rattle.uc_check.proofs.uses.+uses.Given as goal

abbrev pub decreases-uses : goal.decreases-uses
decreases-uses l = term_size l.term.now

abbrev pub decreases-some_uses : goal.decreases-some_uses
decreases-some_uses l = terms_size (terms_of l.terms.now)

abbrev pub decreases-some_case_uses : goal.decreases-some_case_uses
decreases-some_case_uses l = cases_size (cases_of l.cases.now)

abbrev pub invariant-some_case_uses-loop-case : goal.invariant-some_case_uses-loop-case
invariant-some_case_uses-loop-case l = some_case_uses l.variable (cases_of (drop l.case-index l.cases)) ≡ some_case_uses l.variable (cases_of l.cases)

abbrev pub invariant-some_uses-loop-term : goal.invariant-some_uses-loop-term
invariant-some_uses-loop-term l = some_uses l.variable (terms_of (drop l.term-index l.terms)) ≡ some_uses l.variable (terms_of l.terms)
