use Rattle.uc_store.specs.Growth.{with_entries}
use Rattle.uc_store.specs.Places.{boxed}
use Rattle.uc_store.specs.Table.{IsTable}
use Rattle.uc_store.proofs.Growing.{extends_entries}
use Rattle.uc_store.proofs.store.Store.commit.Goals as goal

pub returns-clause-kept : goal.returns-clause-kept
returns-clause-kept g c =
    let ordered : IsTable (with_entries (boxed c.prepared.inside.fresh.items) (boxed c.self.inside.entries.items)) = rw (← c.prepared.view_is, ← c.self.view_is) at c.requires.ordered in
    rw (c.put_in.ensures, ← c.self.view_is) (extends_entries (boxed c.prepared.inside.fresh.items) (boxed c.self.inside.entries.items) ordered)
