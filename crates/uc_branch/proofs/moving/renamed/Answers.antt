use Rattle.uc_branch.proofs.Renaming.{moved_longer}
use Rattle.uc_branch.proofs.moving.renamed.Goals as goal

pub split_at-requires : goal.split_at-requires
split_at-requires c = rw (c.text-3.ensures.value, c.text-2.ensures.value) (moved_longer c.args.from.now c.args.name.now c.requires)
