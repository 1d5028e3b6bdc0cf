-- The table of definitions, and what is looked up in it.
use Rattle.std.specs.Prelude.{ℕ, List, [], ◌∷◌, length, map, sum_by, Option, Some, None, option_and_then, slice_get, if◌then◌else◌}
use Rattle.std.specs.Option.{option_map_or}
use Rattle.std.specs.List.Sorted.{IsStrictlySortedBy}
use Rattle.uc_base.specs.declared.hash.Hash.{Hash}
use Rattle.uc_base.specs.declared.reference.Ref.{Ref}
use Rattle.uc_base.specs.declared.reference.Ref.TheVariants.{Def, Ctor, Builtin}
use Rattle.uc_tree.specs.declared.target.Target.{Target}
use Rattle.uc_tree.specs.declared.target.Target.TheVariants as target
use Rattle.uc_tree.specs.declared.item.Item.{Item}
use Rattle.uc_tree.specs.declared.item.Item.TheVariants as item
use Rattle.uc_tree.specs.Counts.{node_count}
use Rattle.uc_tree.specs.Types.{Ty}
use Rattle.uc_store.specs.declared.stored.Stored.{Stored}
use Rattle.uc_store.specs.Builtins.{builtin_type, builtin_arity}
use Rattle.uc_store.specs.Entries.{Entry, refs_in, constructor_types}
use Rattle.uc_store.specs.Hashes.{hash_order, is_same_hash}

-- what is stored, in the order of the hashes
abbrev pub Table : Type 0
Table = List Entry

-- the hashes of a table
abbrev pub hashes_of : Table → List Hash
hashes_of table = map (λ e. e.hash) table

-- each hash is stored once, in byte order
abbrev pub IsTable : Table → Type 0
IsTable table = IsStrictlySortedBy hash_order (hashes_of table)

-- the entry under a hash
abbrev pub entry_under : Hash → Table → Option Entry
entry_under hash [] = None
entry_under hash (e ∷ table) = if is_same_hash hash e.hash then Some e else entry_under hash table

-- the definition or declaration of a reference; a constructor and a builtin have none
abbrev pub stored_at : Table → Ref → Option Stored
stored_at table (Def hash member) = option_and_then (λ e. slice_get e.members member) (entry_under hash table)
stored_at table (Ctor hash member ctor) = None
stored_at table (Builtin number) = None

-- the type of a reference: of a builtin that of the table of builtins, of a definition its stored type, and of a constructor that of its declaration
abbrev pub type_of_ref : Table → Ref → Option Ty
type_of_ref table (Def hash member) = option_and_then (λ s. s.type_of) (stored_at table (Def hash member))
type_of_ref table (Ctor hash member ctor) = option_and_then (λ s. slice_get (constructor_types hash member s.item) ctor) (stored_at table (Def hash member))
type_of_ref table (Builtin number) = builtin_type number

-- how many parameters a declaration has; a definition has no arity
abbrev pub arity_of_item : Item → Option ℕ
arity_of_item (item.Term d) = None
arity_of_item (item.Kind d) = Some d.params

-- how many arguments a type takes: a builtin type, or a stored declaration
abbrev pub arity_in : Table → Target → Option ℕ
arity_in table (target.Stored (Builtin number)) = builtin_arity number
arity_in table (target.Stored (Def hash member)) = option_and_then (λ s. arity_of_item s.item) (stored_at table (Def hash member))
arity_in table (target.Stored (Ctor hash member ctor)) = None
arity_in table (target.Own member) = None
arity_in table (target.OwnCtor member ctor) = None

-- the direct references of a reference in reference order; none where nothing is stored for it
abbrev pub direct_in : Table → Ref → List Ref
direct_in table r = option_map_or (λ s. refs_in s.item) (stored_at table r) []

-- the stored members
abbrev pub member_count : Table → ℕ
member_count table = sum_by (λ e. length e.members) table

-- the bytes of canonical texts
abbrev pub byte_count : Table → ℕ
byte_count table = sum_by (λ e. length e.text) table

-- the nodes of the stored types of an entry; the types of constructors aren't stored
abbrev pub nodes_of_entry : Entry → ℕ
nodes_of_entry e = sum_by (λ s. option_map_or node_count s.type_of 0) e.members

-- the nodes of stored types
abbrev pub type_node_count : Table → ℕ
type_node_count table = sum_by nodes_of_entry table
