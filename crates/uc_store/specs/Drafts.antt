-- New entries on their way into a table.
use Rattle.std.specs.Prelude.{◌≡◌, ◌-◌, ◌^◌, min}
use Rattle.uc_store.specs.declared.counts.Counts.{Counts}
use Rattle.uc_store.specs.declared.draft.Draft.{Draft}
use Rattle.uc_store.specs.Growth.{with_entries}
use Rattle.uc_store.specs.Places.{boxed}
use Rattle.uc_store.specs.Table.{Table, IsTable, member_count, byte_count, type_node_count}

-- the table with the new entries
abbrev pub drafted : Table → Draft → Table
drafted table d = with_entries (boxed d.fresh.items) table

-- the counts of a table, up to the greatest number that they hold
pub record AreCounts (table : Table) (counts : Counts) : Type 0 where
  pub members : counts.members ≡ min (member_count table) (2 ^ 64 - 1)
  pub bytes : counts.bytes ≡ min (byte_count table) (2 ^ 64 - 1)
  pub type_nodes : counts.type_nodes ≡ min (type_node_count table) (2 ^ 64 - 1)

-- the new entries ascend, by themselves and with the table, and the counts are those of both
pub record IsDraft (table : Table) (d : Draft) : Type 0 where
  pub fresh : IsTable (boxed d.fresh.items)
  pub ordered : IsTable (drafted table d)
  pub counted : AreCounts (drafted table d) d.counts
