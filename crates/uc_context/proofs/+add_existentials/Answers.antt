use Rattle.std.proofs.Common.{ℕ, ◌+◌, List, drop, arith, sym, ap, ◌∙◌}
use Rattle.uc_context.specs.Occurring.{found_behind, all_occurrences}
use Rattle.uc_context.specs.Opens.{opens_of}
use Rattle.uc_context.proofs.FoundInOrder.{found_at}
use Rattle.uc_context.proofs.+add_existentials.Goals as goal

pub occurring::add_existentials_of-loop-t-preserved : goal.occurring::add_existentials_of-loop-t-preserved
occurring::add_existentials_of-loop-t-preserved t c =
    ap (λ (found : List ℕ). found_behind found (all_occurrences (opens_of (drop (c.loop-t.t-index + 1) c.args.ts.now)))) c.in_ok-add_existentials.ensures
    ∙ sym (found_at c.loop-t.found c.args.ts.now c.loop-t.t-index c.t-item.result (omega arith) c.t-item.is)
    ∙ c.loop-t.invariant
