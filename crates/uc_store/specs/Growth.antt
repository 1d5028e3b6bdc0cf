-- How the table grows.
use Rattle.std.specs.Prelude.{◌≡◌, ℕ, Bool, ◌||◌, nat_lt, List, [], ◌∷◌, map, drop, Option, Some, None, unwrap_or, slice_get, slice_index_or, if◌then◌else◌}
use Rattle.std.specs.Option.{option_or}
use Rattle.std.specs.Ordering.{is_lt}
use Rattle.std.specs.Str.{bytes_eq}
use Rattle.uc_base.specs.declared.hash.Hash.{Hash}
use Rattle.uc_base.specs.declared.fault.Fault.{Fault}
use Rattle.uc_base.specs.declared.fault.Fault.TheVariants.{Collision, StoreFull}
use Rattle.uc_tree.specs.declared.item.Item.{Item}
use Rattle.uc_tree.specs.Replacing.{by_members, replaced}
use Rattle.uc_tree.specs.Types.{Ty}
use Rattle.uc_canon.specs.Members.{items_of, count_of, text_of}
use Rattle.uc_canon.specs.Opening.{stored_members}
use Rattle.uc_store.specs.declared.stored.Stored.{Stored}
use Rattle.uc_store.specs.Checked.{Checked}
use Rattle.uc_store.specs.Entries.{Entry}
use Rattle.uc_store.specs.Hashes.{hash_order}
use Rattle.uc_store.specs.Table.{Table, entry_under, member_count, byte_count, type_node_count}

-- what computes the hash that a text stands under
abbrev pub Digest : Type 0
Digest = List ℕ → Hash

-- ---- one component

-- the hash of a component
abbrev pub hash_of : Digest → Checked → Hash
hash_of digest c = digest (text_of c.members)

-- a member as it is stored under a hash among so many: references to the component's hash in place of its own targets
abbrev pub opened : Hash → ℕ → Item → Item
opened hash count i = unwrap_or (replaced (by_members (stored_members hash count)) i) i

-- the items in order, each with its type, where there is one, and its hints
abbrev pub stored_from : List Item → List Ty → List (List (List ℕ)) → List Stored
stored_from [] types hints = []
stored_from (i ∷ items) types hints =
    record { item = i; type_of = slice_get types 0; hints = slice_index_or hints 0 [] ∷ [] } ∷ stored_from items (drop 1 types) (drop 1 hints)

-- the entry of a component under a hash
abbrev pub entry_at : Hash → Checked → Entry
entry_at hash c = record { hash = hash; text = text_of c.members; members = stored_from (map (opened hash (count_of c.members)) (items_of c.members)) c.types c.hints }

-- the entry of a component
abbrev pub entry_of : Digest → Checked → Entry
entry_of digest c = entry_at (hash_of digest c) c

-- ---- growth

-- an entry at its place in the order
abbrev pub with_entry : Entry → Table → Table
with_entry e [] = e ∷ []
with_entry e (f ∷ table) = if is_lt (hash_order e.hash f.hash) then e ∷ f ∷ table else f ∷ with_entry e table

-- an entry, unless its hash is stored
abbrev pub with_new : Entry → Table → Option Entry → Table
with_new e table None = with_entry e table
with_new e table (Some f) = table

-- a component that isn't stored is added; one that is stored adds nothing
abbrev pub with_component : Digest → Table → Checked → Table
with_component digest table c = with_new (entry_of digest c) table (entry_under (hash_of digest c) table)

-- components one after another
abbrev pub with_components : Digest → Table → List Checked → Table
with_components digest table [] = table
with_components digest table (c ∷ new) = with_components digest (with_component digest table c) new

-- entries put in, the last first
abbrev pub with_entries : List Entry → Table → Table
with_entries [] table = table
with_entries (e ∷ entries) table = with_entry e (with_entries entries table)

-- what is stored stays as it is
abbrev pub Extends : Table → Table → Type 0
Extends old new = (hash : Hash) (e : Entry) → entry_under hash old ≡ Some e → entry_under hash new ≡ Some e

-- ---- refusals

-- another text under the hash of a text
abbrev pub collision_with : Hash → List ℕ → Option Entry → Option Fault
collision_with hash text None = None
collision_with hash text (Some e) = if bytes_eq e.text text then None else Some (Collision hash e.text text)

-- the first component whose text differs from a stored or earlier one of the same hash: the hash, the stored or earlier text, and its own
abbrev pub collision_in : Digest → Table → List Checked → Option Fault
collision_in digest table [] = None
collision_in digest table (c ∷ new) =
    option_or (collision_with (hash_of digest c) (text_of c.members) (entry_under (hash_of digest c) table)) (collision_in digest (with_component digest table c) new)

-- a table past a limit: 400,000 members, 67,108,864 bytes of canonical texts, 20,000,000 nodes of stored types
abbrev pub is_past_limits : Table → Bool
is_past_limits table = nat_lt 400000 (member_count table) || (nat_lt 67108864 (byte_count table) || nat_lt 20000000 (type_node_count table))

-- the refusal of new components: a collision, else a limit that would be passed
abbrev pub store_fault : Digest → Table → List Checked → Option Fault
store_fault digest table new =
    option_or (collision_in digest table new) (if is_past_limits (with_components digest table new) then Some StoreFull else None)
