use Rattle.uc_store.proofs.tests.put.Goals as goal

pub prepare-requires : goal.prepare-requires
prepare-requires c = rw c.in_ok-components.ensures (c.requires c.args.store.now, tt)
