-- Places among ascending entries.
use Rattle.std.specs.Prelude.{◌≡◌, ℕ, ◌<◌, ◌≤◌, List, length, map, Some, slice_get}
use Rattle.std.specs.declared.boxed.Box.{Box}
use Rattle.std.specs.declared.cmp.Ordering.TheVariants.{Less}
use Rattle.uc_base.specs.declared.hash.Hash.{Hash}
use Rattle.uc_store.specs.Entries.{Entry}
use Rattle.uc_store.specs.Hashes.{hash_order}
use Rattle.uc_store.specs.Table.{Table}

-- the entries that boxes hold
abbrev pub boxed : {A : Type 0} → List (Box Entry A) → Table
boxed entries = map (λ b. b.value) entries

-- the entries before a place have a hash that is at most this one, and those from it on a greater one
pub record IsPlaceBehind (hash : Hash) (table : Table) (place : ℕ) : Type 0 where
  pub bound : place ≤ length table
  pub before : (k : ℕ) (e : Entry) → slice_get table k ≡ Some e → k < place → hash_order hash e.hash ≡ Less → ⊥
  pub from : (k : ℕ) (e : Entry) → slice_get table k ≡ Some e → place ≤ k → hash_order hash e.hash ≡ Less
