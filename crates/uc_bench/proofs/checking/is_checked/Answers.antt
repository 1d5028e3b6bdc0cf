use Rattle.uc_bench.proofs.CodeFormed.{code_checkable}
use Rattle.uc_bench.proofs.checking.is_checked.Goals as goal

pub has_type-requires : goal.has_type-requires
has_type-requires c = code_checkable c.args.request.kind c.args.request.count c.in_ok-code.code c.requires c.in_ok-code.ensures
