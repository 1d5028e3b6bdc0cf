use Rattle.std.proofs.Common.{◌≡◌, drop}
use Rattle.uc_context.specs.Occurring.{found_behind, all_occurrences}
use Rattle.uc_context.specs.Opens.{open_size, opens_size, opens_of}
use Rattle.uc_context.proofs.+add_existentials.Given as goal

abbrev pub decreases-open::Open::add_existentials : goal.decreases-open::Open::add_existentials
decreases-open::Open::add_existentials l = open_size l.self.now

abbrev pub decreases-occurring::add_existentials_of : goal.decreases-occurring::add_existentials_of
decreases-occurring::add_existentials_of l = opens_size (opens_of l.ts.now)

abbrev pub invariant-occurring::add_existentials_of-loop-t : goal.invariant-occurring::add_existentials_of-loop-t
invariant-occurring::add_existentials_of-loop-t l =
    found_behind l.found (all_occurrences (opens_of (drop l.t-index l.ts))) ≡ found_behind l.initial.found (all_occurrences (opens_of l.ts))
