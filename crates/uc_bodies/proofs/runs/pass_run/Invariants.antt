use Rattle.std.proofs.Common.{◌≡◌, ◌≤◌, None, length}
use Rattle.std.specs.Option.{option_map}
use Rattle.uc_scratch.specs.Exprs.{Expr, block_size}
use Rattle.uc_scratch.specs.ExprViews.{block_of}
use Rattle.uc_meaning.specs.ExprMeanings.{block_meaning}
use Rattle.uc_bodies.specs.BodyViews.{signed_of, without_block}
use Rattle.uc_bodies.proofs.runs.pass_run.Given as goal

abbrev pub invariant-loop-rest : goal.invariant-loop-rest
invariant-loop-rest g l = record {
  passed :
      (last : Expr)
      → block_meaning (g.M.Meanings.known l.meanings) l.initial.locals None (block_of l.entries last)
      ≡ block_meaning (g.M.Meanings.known l.meanings) l.locals (option_map signed_of l.signed) (block_of l.rest last);
  smaller : (last : Expr) → block_size (block_of l.rest last) ≤ block_size (block_of l.entries last);
  kept : without_block l.locals ≡ without_block l.initial.locals;
}

abbrev pub decreases-loop-rest : goal.decreases-loop-rest
decreases-loop-rest g l = length l.rest
