use Rattle.std.proofs.Common.{sym, ap, ◌∙◌}
use Rattle.uc_meaning.specs.Candidates.{used_in}
use Rattle.uc_meaning.specs.SortNames.{indexed_wanted}
use Rattle.uc_meaning.proofs.UsingSteps.{clauses_more}
use Rattle.uc_meaning.proofs.CandidateSteps.{unused}
use Rattle.uc_meaning.proofs.lookup.Lookup.used_in.Goals as goal

pub loop-clause-init : goal.loop-clause-init
loop-clause-init g c = c.new-entries.ensures ∙ sym (unused (indexed_wanted c.args.self.now.kinds c.args.self.now.terms c.args.wanted) c.args.text.now)

pub loop-clause-preserved : goal.loop-clause-preserved
loop-clause-preserved g c =
    c.in_ok-use_clause.ensures.used _ c.loop-clause.invariant
    ∙ ap (used_in (indexed_wanted c.args.self.now.kinds c.args.self.now.terms c.args.wanted) c.args.text.now)
    (sym (clauses_more c.args.block.now c.loop-clause.clause-index c.clause-item.result c.loop-clause-test.true c.clause-item.is))
