use Rattle.std.proofs.Common.{◌≡◌, ◌<◌, ◌+◌, ◌*◌, ◌-◌, ◌^◌, min, max, drop}
use Rattle.uc_tree.specs.Terms.{term_size, terms_size, cases_size, terms_of}
use Rattle.uc_tree.specs.TermViews.{cases_of}
use Rattle.uc_tree.specs.Counts.{terms_levels, cases_levels}
use Rattle.uc_tree.proofs.Sizes.{guard_size, case_size}
use Rattle.uc_tree.proofs.counting.+term_levels.Given as goal

abbrev pub decreases-term_levels : goal.decreases-term_levels
decreases-term_levels l = 2 * term_size l.t.now

abbrev pub decreases-terms_levels : goal.decreases-terms_levels
decreases-terms_levels l = 2 * terms_size (terms_of l.ts.now)

abbrev pub decreases-guard_levels : goal.decreases-guard_levels
decreases-guard_levels l = 2 * guard_size l.guard.now

abbrev pub decreases-case_levels : goal.decreases-case_levels
decreases-case_levels l = 2 * case_size l.c.now

abbrev pub decreases-cases_levels : goal.decreases-cases_levels
decreases-cases_levels l = 2 * cases_size (cases_of l.cs.now) + 1

abbrev pub invariant-terms_levels-loop-t : goal.invariant-terms_levels-loop-t
invariant-terms_levels-loop-t l = (l.levels < 2 ^ 32) × (min (max l.levels (terms_levels (terms_of (drop l.t-index l.ts)))) (2 ^ 32 - 1) ≡ min (terms_levels (terms_of l.ts)) (2 ^ 32 - 1))

abbrev pub invariant-cases_levels-loop-c : goal.invariant-cases_levels-loop-c
invariant-cases_levels-loop-c l = (l.levels < 2 ^ 32) × (min (max l.levels (cases_levels (cases_of (drop l.c-index l.cs)))) (2 ^ 32 - 1) ≡ min (cases_levels (cases_of l.cs)) (2 ^ 32 - 1))
