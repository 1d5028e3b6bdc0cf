-- The reading of a scratch file, and the first fault of a text that has none.
use Rattle.std.specs.Prelude.{◌≡◌, ℕ, ◌<◌, ◌≤◌, List, [], ◌∷◌, Option, Some, None}
use Rattle.uc_base.specs.declared.place.Place.{Place}
use Rattle.uc_base.specs.declared.fault.Fault.{Fault}
use Rattle.uc_base.specs.declared.fault.Fault.TheVariants.{BadSyntax, TooDeep}
use Rattle.uc_layout.specs.Tokens.{Seen}
use Rattle.uc_scratch.specs.Files.{Item}
use Rattle.uc_scratch.specs.Terminals.{terminals_of}
use Rattle.uc_scratch.specs.ItemGrammar.{ReadsItem, items_among}
use Rattle.uc_scratch.specs.Nesting.{too_deep_place}
use Rattle.uc_scratch.specs.ExprLevels.{Signed}
use Rattle.uc_scratch.specs.FileLevels.{item_levels, signed_behind, AreShallow}
use Rattle.uc_scratch.specs.NameFaults.{name_fault}

-- tokens that are read as one item
abbrev pub ReadsTokens : List Seen → Item → Type 0
ReadsTokens ts i = ReadsItem (terminals_of ts) i

-- file = item*
pub data ReadsItems : List (List Seen) → List Item → Type 0 where
  no_items : ReadsItems [] []
  more_items : {ts : List Seen} {tss : List (List Seen)} {i : Item} {is : List Item}
      → ReadsTokens ts i → ReadsItems tss is → ReadsItems (ts ∷ tss) (i ∷ is)

-- These items are the reading of a text with these tokens and marks.
pub record Reads (blocks : List Seen) (file : List Item) : Type 0 where
  pub nested : too_deep_place blocks ≡ None
  pub items : ReadsItems (items_among blocks) file
  pub shallow : AreShallow None file
  pub named : name_fault file ≡ None

-- The first of some items, behind a signature or none, that has no reading, or whose trees have more than 512 levels, has
-- this fault, at its first token. A mark has the place of the token behind it.
pub data IsItemsFault : Option Signed → List (List Seen) → Fault → Type 0 where
  no_reading : {signed : Option Signed} {t : Seen} {ts : List Seen} {tss : List (List Seen)}
      → ((i : Item) → ReadsTokens (t ∷ ts) i → ⊥) → IsItemsFault signed ((t ∷ ts) ∷ tss) (BadSyntax t.place)
  too_many_levels : {signed : Option Signed} {t : Seen} {ts : List Seen} {tss : List (List Seen)} {i : Item}
      → ReadsTokens (t ∷ ts) i → 512 < item_levels signed i → IsItemsFault signed ((t ∷ ts) ∷ tss) (TooDeep t.place)
  later : {signed : Option Signed} {ts : List Seen} {tss : List (List Seen)} {i : Item} {fault : Fault}
      → ReadsTokens ts i → item_levels signed i ≤ 512 → IsItemsFault (signed_behind i) tss fault → IsItemsFault signed (ts ∷ tss) fault

-- This is the first fault of a text: of how it nests, then of its items one by one, then of its names.
pub data IsFileFault : List Seen → Fault → Type 0 where
  nests_too_deep : {blocks : List Seen} {p : Place} → too_deep_place blocks ≡ Some p → IsFileFault blocks (TooDeep p)
  at_item : {blocks : List Seen} {fault : Fault}
      → too_deep_place blocks ≡ None → IsItemsFault None (items_among blocks) fault → IsFileFault blocks fault
  at_name : {blocks : List Seen} {file : List Item} {fault : Fault}
      → too_deep_place blocks ≡ None → ReadsItems (items_among blocks) file → AreShallow None file → name_fault file ≡ Some fault
      → IsFileFault blocks fault

-- A text has at most one reading.
abbrev pub ReadingIsUnique : Type 0
ReadingIsUnique = (blocks : List Seen) (a b : List Item) → Reads blocks a → Reads blocks b → a ≡ b

-- A text has at most one first fault.
abbrev pub FaultIsUnique : Type 0
FaultIsUnique = (blocks : List Seen) (a b : Fault) → IsFileFault blocks a → IsFileFault blocks b → a ≡ b

-- A text with a reading has no fault.
abbrev pub ReadingHasNoFault : Type 0
ReadingHasNoFault = (blocks : List Seen) (file : List Item) (fault : Fault) → Reads blocks file → IsFileFault blocks fault → ⊥
