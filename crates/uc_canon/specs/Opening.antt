-- The members of a component as stored items: their own targets become references to the component's hash.
use Rattle.std.specs.Prelude.{◌≡◌, ℕ, List, Some, map}
use Rattle.std.specs.List.{range_with_len}
use Rattle.uc_base.specs.declared.hash.Hash.{Hash}
use Rattle.uc_base.specs.declared.reference.Ref.{Ref}
use Rattle.uc_base.specs.declared.reference.Ref.TheVariants.{Def}
use Rattle.uc_tree.specs.declared.target.Target.{Target}
use Rattle.uc_tree.specs.declared.target.Target.TheVariants.{Stored}
use Rattle.uc_tree.specs.declared.item.Item.{Item}
use Rattle.uc_tree.specs.Replacing.{by_members, by_references, replaced}
use Rattle.uc_canon.specs.Members.{Members, items_of, count_of}

-- what stands for each of so many members: the reference with its number
abbrev pub stored_members : Hash → ℕ → List Target
stored_members hash count = map (λ n. Stored (Def hash n)) (range_with_len 0 count)

-- the items are the members in their order, with stored references in place of own targets
abbrev pub IsOpened : Hash → Members → List Item → Type 0
IsOpened hash m items = map Some items ≡ map (replaced (by_members (stored_members hash (count_of m)))) (items_of m)

-- the items are definitions alone, or declarations alone
abbrev pub AreMembers : List Item → Type 0
AreMembers items = (m : Members) × (items ≡ items_of m)

-- the members are the items in their order, with own targets in place of the references of a list
abbrev pub Closes : List Ref → List Item → Members → Type 0
Closes own items m = map Some (items_of m) ≡ map (replaced (by_references own)) items
