-- What a store keeps true.
use Rattle.std.specs.Prelude.{◌≡◌, List, false}
use Rattle.uc_store.specs.declared.counts.Counts.{Counts}
use Rattle.uc_tree.specs.Types.{Ty}
use Rattle.uc_store.specs.Builtins.{AreBuiltinTypes}
use Rattle.uc_store.specs.Growth.{Digest, is_past_limits}
use Rattle.uc_store.specs.Prepared.{counts_of}
use Rattle.uc_store.specs.Storable.{IsMade}
use Rattle.uc_store.specs.Table.{Table, IsTable}

-- it has the types of the builtins, its hashes ascend, its table was made of storable components, and its counts are those of the
-- table, which is within the limits
pub record IsSound (digest : Digest) (builtins : List Ty) (table : Table) (counts : Counts) : Type 0 where
  pub builtin_types : AreBuiltinTypes builtins
  pub ordered : IsTable table
  pub made : IsMade digest table
  pub counted : counts ≡ counts_of table
  pub within : is_past_limits table ≡ false
