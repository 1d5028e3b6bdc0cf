use Rattle.std.proofs.Common.{◌≡◌, take}
use Rattle.uc_meaning.specs.Candidates as spec
use Rattle.uc_meaning.specs.SortNames.{indexed_wanted}
use Rattle.uc_meaning.specs.UsingViews.{block_usings}
use Rattle.uc_meaning.proofs.lookup.Lookup.used_in.Given as goal

abbrev pub invariant-loop-clause : goal.invariant-loop-clause
invariant-loop-clause g l =
    l.entries ≡ spec.used_in (indexed_wanted l.self.kinds l.self.terms l.wanted) l.text (block_usings (take l.clause-index l.block))
