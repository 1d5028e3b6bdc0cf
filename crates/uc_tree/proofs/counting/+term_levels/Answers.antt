use Rattle.std.proofs.Common.{arith, refl, List}
use Rattle.uc_tree.specs.declared.term.Case.{Case}
use Rattle.uc_tree.specs.Terms.{Term, terms_of}
use Rattle.uc_tree.specs.TermViews.{cases_of}
use Rattle.uc_tree.specs.Counts.{terms_levels, cases_levels}
use Rattle.uc_tree.proofs.Ends.{deepest}
use Rattle.uc_tree.proofs.counting.+term_levels.Goals as goal

pub terms_levels-returns : goal.terms_levels-returns
terms_levels-returns t c = deepest (λ (ts : List Term). terms_levels (terms_of ts)) c.args.ts.now c.loop-t.t-index c.loop-t.levels _ refl c.loop-t-test.false (omega (arith, c.loop-t.invariant.0)) c.loop-t.invariant.1

pub cases_levels-returns : goal.cases_levels-returns
cases_levels-returns t c = deepest (λ (cs : List Case). cases_levels (cases_of cs)) c.args.cs.now c.loop-c.c-index c.loop-c.levels _ refl c.loop-c-test.false (omega (arith, c.loop-c.invariant.0)) c.loop-c.invariant.1
