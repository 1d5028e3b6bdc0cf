-- What stands ready to be put into a table.
use Rattle.std.specs.Prelude.{◌≡◌, ◌+◌, ◌≤◌, ℕ, List, length, false, refl}
use Rattle.std.specs.Coded.{Coded, code_by, coded×, coded_ℕ, coded_list}
use Rattle.uc_store.specs.contracts.counts.Counts as counts
use Rattle.uc_store.specs.declared.counts.Counts.{Counts}
use Rattle.uc_store.specs.Entries.{Entry, coded_entry}
use Rattle.uc_store.specs.Growth.{Digest, with_entries, is_past_limits}
use Rattle.uc_store.specs.Storable.{IsMade}
use Rattle.uc_store.specs.Table.{Table, IsTable, member_count, byte_count, type_node_count}

-- new entries, how many entries there is room for, and the counts of the table that they make
pub record Prepared : Type 0 where
  pub fresh : List Entry
  pub room : ℕ
  pub counts : Counts

-- how the logic stores it
abbrev pub coded_prepared : Coded Prepared
coded_prepared = code_by (List Entry × (ℕ × Counts)) (coded× (coded_list coded_entry) (coded× coded_ℕ (counts.the_row).coded))
    (λ p. (p.fresh, (p.room, p.counts))) (λ p. record { fresh = p.0; room = p.1.0; counts = p.1.1 }) (λ _. refl)

-- the counts of a table
abbrev pub counts_of : Table → Counts
counts_of table = record { members = member_count table; bytes = byte_count table; type_nodes = type_node_count table }

-- the table once it is put in
abbrev pub table_after : Table → Prepared → Table
table_after table p = with_entries p.fresh table

-- it was made for this table: there is room, and with the new entries the table is one of storable components within the limits
pub record IsPreparedFor (digest : Digest) (table : Table) (p : Prepared) : Type 0 where
  pub room : length p.fresh + length table ≤ p.room
  pub ordered : IsTable (table_after table p)
  pub made : IsMade digest (table_after table p)
  pub counted : p.counts ≡ counts_of (table_after table p)
  pub within : is_past_limits (table_after table p) ≡ false
