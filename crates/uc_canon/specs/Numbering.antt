-- The numbering of the members of a component: by first reach from the start that gives the least text.
use Rattle.std.specs.Prelude.{◌≡◌, ◌≢◌, ℕ, zero, suc, ◌<◌, ◌==◌, if◌then◌else◌, List, [], ◌∷◌, ◌++◌, Option, length, map, option_and_then, slice_get, slice_index}
use Rattle.std.specs.Cmp.Lexicographic.{slice_cmp}
use Rattle.std.specs.declared.cmp.Ordering.TheVariants.{Less}
use Rattle.std.specs.List.{list_any, range_with_len}
use Rattle.std.specs.Option.{option_map_or}
use Rattle.std.specs.Ordering.{nat_cmp}
use Rattle.uc_base.specs.Graph.{row, InRange, Together}
use Rattle.uc_tree.specs.declared.target.Target.{Target}
use Rattle.uc_tree.specs.declared.target.Target.TheVariants.{Stored, Own, OwnCtor}
use Rattle.uc_tree.specs.declared.item.Item.{Item}
use Rattle.uc_tree.specs.Targets.{targets_of}
use Rattle.uc_tree.specs.Replacing.{by_members, replaced}
use Rattle.uc_canon.specs.Members.{Members, items_of, count_of, text_of, SameKind}

-- ---- which member refers to which

-- the members to which targets lead, a constructor to its declaration
abbrev pub members_among : List Target → List ℕ
members_among [] = []
members_among (Stored r ∷ xs) = members_among xs
members_among (Own member ∷ xs) = member ∷ members_among xs
members_among (OwnCtor member ctor ∷ xs) = member ∷ members_among xs

-- the members to which an item refers, in the order of its text
abbrev pub links_of : Item → List ℕ
links_of i = members_among (targets_of i)

-- the graph of the members
abbrev pub rows_of : Members → List (List ℕ)
rows_of m = map links_of (items_of m)

-- each reference to a member is to one that there is
abbrev pub IsClosed : Members → Type 0
IsClosed m = InRange (rows_of m)

-- one component: at least one member, each reference is to a member, and the members reach one another
pub record IsOneComponent (m : Members) : Type 0 where
  pub filled : 0 < count_of m
  pub closed : IsClosed m
  pub together : (u v : ℕ) → u < count_of m → v < count_of m → Together (rows_of m) u v

-- ---- first reach

-- the list, and behind it those numbers of another that it doesn't hold yet, in their order
abbrev pub added : List ℕ → List ℕ → List ℕ
added seen [] = seen
added seen (x ∷ xs) = if list_any (λ y. y == x) seen then added seen xs else added (seen ++ x ∷ []) xs

-- the members that have a number once the member with the number k is written too; the same ones, if none has that number
abbrev pub reached_after : List (List ℕ) → ℕ → List ℕ → List ℕ
reached_after rows k seen = added seen (option_map_or (row rows) (slice_get seen k) [])

-- the members that have a number when so many are written, in the order in which they are first reached
abbrev pub reached : List (List ℕ) → ℕ → ℕ → List ℕ
reached rows start zero = start ∷ []
reached rows start (suc k) = reached_after rows k (reached rows start k)

-- the order in which the members are first reached from a start
abbrev pub order_from : Members → ℕ → List ℕ
order_from m start = reached (rows_of m) start (count_of m)

-- ---- members in an order

-- the numbers below a count, each once
pub record IsArrangement (count : ℕ) (order : List ℕ) : Type 0 where
  pub size : length order ≡ count
  pub below : (k : ℕ) → k < length order → slice_index order k < count
  pub distinct : (j k : ℕ) → j < k → k < length order → slice_index order j ≢ slice_index order k

-- the first place of a number in a list; the length of the list, if the number isn't in it
abbrev pub place_in : List ℕ → ℕ → ℕ
place_in [] u = 0
place_in (x ∷ xs) u = if x == u then 0 else suc (place_in xs u)

-- what stands for each of so many members: the member with the number of its place in an order
abbrev pub renumbering : List ℕ → ℕ → List Target
renumbering order count = map (λ u. Own (place_in order u)) (range_with_len 0 count)

-- the member with the number u as it stands in an order, its own targets renumbered
abbrev pub moved : List ℕ → Members → ℕ → Option Item
moved order m u = option_and_then (replaced (by_members (renumbering order (count_of m)))) (slice_get (items_of m) u)

-- n has at each place the member of m that the order has there, renumbered
pub record IsReordered (order : List ℕ) (m n : Members) : Type 0 where
  pub kind : SameKind m n
  pub size : count_of n ≡ length order
  pub items : (k : ℕ) → k < length order → slice_get (items_of n) k ≡ moved order m (slice_index order k)

-- ---- the least text

-- the text with the members numbered by first reach from a start
pub record IsTextFrom (m : Members) (start : ℕ) (text : List ℕ) : Type 0 where
  pub renumbered : Members
  pub reordered : IsReordered (order_from m start) m renumbered
  pub spelled : text ≡ text_of renumbered

-- the order of texts, by bytes
abbrev pub IsBefore : List ℕ → List ℕ → Type 0
IsBefore text other = slice_cmp nat_cmp text other ≡ Less

-- a start gives the text, and no start gives one before it
pub record IsLeastText (m : Members) (text : List ℕ) : Type 0 where
  pub start : ℕ
  pub below : start < count_of m
  pub given : IsTextFrom m start text
  pub least : (other : ℕ) (t : List ℕ) → other < count_of m → IsTextFrom m other t → IsBefore t text → ⊥

-- the order of first reach from the first start that gives the least text
pub record IsNumbering (m : Members) (order : List ℕ) : Type 0 where
  pub start : ℕ
  pub text : List ℕ
  pub least : IsLeastText m text
  pub below : start < count_of m
  pub given : IsTextFrom m start text
  pub first : (other : ℕ) → other < start → IsTextFrom m other text → ⊥
  pub ordered : order ≡ order_from m start
