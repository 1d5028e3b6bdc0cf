use Rattle.std.proofs.Common.{arith, ap, ◌∙◌, map}
use Rattle.std.proofs.lemmas.List.{take_all}
use Rattle.uc_context.specs.Opens.{opens_of}
use Rattle.uc_typing.specs.WrittenTypes.{written_under}
use Rattle.uc_check.proofs.WrittenNodes.{ty_part, levels_part, all_written_one_by_one}
use Rattle.uc_check.proofs.written.+written.Goals as goal

pub all_written_under-written_under-requires : goal.all_written_under-written_under-requires
all_written_under-written_under-requires t c = (
  omega (arith, ty_part c.args.types.now c.loop-ty.ty-index c.ty-item.result c.loop-ty-test.true c.ty-item.is),
  omega (arith, levels_part c.args.types.now c.loop-ty.ty-index c.ty-item.result c.loop-ty-test.true c.ty-item.is, c.requires),
)

pub all_written_under-returns : goal.all_written_under-returns
all_written_under-returns t c =
    ap opens_of (c.loop-ty.invariant ∙ ap (map (written_under c.args.sight.now.seen c.args.depth)) (take_all c.loop-ty.ty-index c.args.types.now (omega arith)))
    ∙ all_written_one_by_one c.args.sight.now.seen c.args.depth c.args.types.now
