use Rattle.std.proofs.Common.{◌≡◌, ◌≤◌, length, take}
use Rattle.uc_meaning.specs.Candidates as spec
use Rattle.uc_meaning.specs.SortNames.{indexed_wanted}
use Rattle.uc_meaning.specs.UsingViews.{usings_of}
use Rattle.uc_meaning.proofs.lookup.Lookup.used.Given as goal

abbrev pub invariant-loop-depth : goal.invariant-loop-depth
invariant-loop-depth g l = record {
  within : l.depth ≤ length l.blocks;
  outwards :
      spec.first_filled (spec.used_among (indexed_wanted l.self.kinds l.self.terms l.wanted) l.text (usings_of (take l.depth l.blocks)))
      ≡ spec.first_filled (spec.used_among (indexed_wanted l.self.kinds l.self.terms l.wanted) l.text l.usings);
}

abbrev pub decreases-loop-depth : goal.decreases-loop-depth
decreases-loop-depth g l = l.depth
