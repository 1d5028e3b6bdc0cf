-- The order of hashes.
use Rattle.std.specs.Prelude.{Bool, List, [], ◌∷◌, Option, Some, None, if◌then◌else◌}
use Rattle.std.specs.Ordering.{is_eq, is_lt}
use Rattle.std.specs.declared.cmp.Ordering.{Ordering}
use Rattle.uc_base.specs.declared.hash.Hash.{Hash}
use Rattle.uc_base.specs.contracts.hash.HashOrd.TheImpl as ord

-- the order of hashes, by bytes
unfoldable pub hash_order : Hash → Hash → Ordering
hash_order = (ord.ghosts).cmp

-- whether two hashes are the same
abbrev pub is_same_hash : Hash → Hash → Bool
is_same_hash h k = is_eq (hash_order h k)

-- the first of some ascending hashes behind another, or the first of all
abbrev pub next_hash : Option Hash → List Hash → Option Hash
next_hash after [] = None
next_hash None (h ∷ hashes) = Some h
next_hash (Some k) (h ∷ hashes) = if is_lt (hash_order k h) then Some h else next_hash (Some k) hashes
