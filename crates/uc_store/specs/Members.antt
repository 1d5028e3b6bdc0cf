-- The members of an entry with what is kept beside them.
use Rattle.std.specs.Prelude.{◌≡◌, ℕ, List, map, Some, slice_get}
use Rattle.uc_base.specs.declared.hash.Hash.{Hash}
use Rattle.uc_store.specs.declared.member.Member.{Member}
use Rattle.uc_store.specs.declared.stored.Stored.{Stored}
use Rattle.uc_store.specs.Entries.{refs_in, constructor_types}

-- what is stored for each member
abbrev pub stored_of : List Member → List Stored
stored_of members = map (λ m. m.stored) members

-- a member with its direct references and the types of its constructors
pub record IsKept (hash : Hash) (number : ℕ) (m : Member) : Type 0 where
  pub refs : m.refs.items ≡ refs_in m.stored.item
  pub ctors : m.ctors.items ≡ constructor_types hash number m.stored.item

-- each member with what is kept beside it
abbrev pub AreKept : Hash → List Member → Type 0
AreKept hash members = (k : ℕ) (m : Member) → slice_get members k ≡ Some m → IsKept hash k m
