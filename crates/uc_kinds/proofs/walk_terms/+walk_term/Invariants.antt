use Rattle.std.proofs.Common.{◌≡◌, ◌+◌, ◌*◌, length, drop}
use Rattle.uc_tree.specs.Terms.{term_size, terms_size, cases_size, terms_of}
use Rattle.uc_tree.specs.TermViews.{cases_of}
use Rattle.uc_tree.proofs.Sizes.{guard_size, case_size}
use Rattle.uc_kinds.specs.Flaws.{terms_flaws, cases_flaws}
use Rattle.uc_kinds.specs.Walks.{walked}
use Rattle.uc_kinds.proofs.walk_terms.+walk_term.Given as goal

abbrev pub decreases-walk_term : goal.decreases-walk_term
decreases-walk_term g l = 2 * term_size l.t.now

abbrev pub decreases-walk_terms : goal.decreases-walk_terms
decreases-walk_terms g l = 2 * terms_size (terms_of l.ts.now)

abbrev pub decreases-walk_guard : goal.decreases-walk_guard
decreases-walk_guard g l = 2 * guard_size l.guard.now

abbrev pub decreases-walk_case : goal.decreases-walk_case
decreases-walk_case g l = 2 * case_size l.c.now

abbrev pub decreases-walk_cases : goal.decreases-walk_cases
decreases-walk_cases g l = 2 * cases_size (cases_of l.cs.now) + 1

abbrev pub invariant-walk_terms-loop-t : goal.invariant-walk_terms-loop-t
invariant-walk_terms-loop-t g l = (walked l.passed (terms_flaws (g.A.Arities.arity_of l.arities) (terms_of (drop l.t-index l.ts))) ≡ walked l.fn.before (terms_flaws (g.A.Arities.arity_of l.arities) (terms_of l.ts))) × (l.passed + length (terms_flaws (g.A.Arities.arity_of l.arities) (terms_of (drop l.t-index l.ts))) ≡ l.fn.before + length (terms_flaws (g.A.Arities.arity_of l.arities) (terms_of l.ts)))

abbrev pub invariant-walk_cases-loop-c : goal.invariant-walk_cases-loop-c
invariant-walk_cases-loop-c g l = (walked l.passed (cases_flaws (g.A.Arities.arity_of l.arities) (cases_of (drop l.c-index l.cs))) ≡ walked l.fn.before (cases_flaws (g.A.Arities.arity_of l.arities) (cases_of l.cs))) × (l.passed + length (cases_flaws (g.A.Arities.arity_of l.arities) (cases_of (drop l.c-index l.cs))) ≡ l.fn.before + length (cases_flaws (g.A.Arities.arity_of l.arities) (cases_of l.cs)))
