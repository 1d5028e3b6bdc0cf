use Rattle.std.proofs.Common.{◌≡◌, ℕ, List, length}
use Rattle.uc_meaning.specs.Candidates.{ending_in}
use Rattle.uc_meaning.specs.Entries.{head_entries, unhidden}
use Rattle.uc_meaning.specs.HeadNames.{AreNames}
use Rattle.uc_meaning.specs.Suffixes.{ending_at, told_all}
use Rattle.uc_meaning.proofs.sort_names.add_head.Given as goal

abbrev pub invariant-head : goal.invariant-head
invariant-head g l = record {
  told : (w : List ℕ)
      → told_all (ending_in (unhidden l.own (head_entries l.head)) w) (ending_at l.suffixes w)
      ≡ told_all (ending_in (unhidden l.own (head_entries (g.N.Names.pairs l.names l.fn.sort))) w) (ending_at l.initial.suffixes w);
  names : AreNames l.head → AreNames (g.N.Names.pairs l.names l.fn.sort);
}

abbrev pub decreases-head : goal.decreases-head
decreases-head g l = length l.head
