use Rattle.std.proofs.Common.{◌≡◌, take, map}
use Rattle.uc_tree.specs.Types.{tys_of, ty_size, tys_size}
use Rattle.uc_typing.specs.WrittenTypes.{written_under}
use Rattle.uc_check.proofs.written.+written.Given as goal

abbrev pub decreases-written_under : goal.decreases-written_under
decreases-written_under l = ty_size l.ty.now

abbrev pub decreases-all_written_under : goal.decreases-all_written_under
decreases-all_written_under l = tys_size (tys_of l.types.now)

abbrev pub invariant-all_written_under-loop-ty : goal.invariant-all_written_under-loop-ty
invariant-all_written_under-loop-ty l = l.written.items ≡ map (written_under l.sight.seen l.depth) (take l.ty-index l.types)
