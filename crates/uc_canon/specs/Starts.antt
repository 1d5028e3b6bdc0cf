-- The members that are reached from a start, its text member by member, and how it stands to the least text so far.
use Rattle.std.specs.Prelude.{◌≡◌, ◌≢◌, ℕ, ◌<◌, ◌≤◌, ◌==◌, true, List, [], ◌∷◌, ◌++◌, Option, length, option_and_then, slice_get, slice_index, slice_index_or}
use Rattle.std.specs.List.{list_any}
use Rattle.std.specs.Option.{option_map_or}
use Rattle.uc_tree.specs.declared.target.Target.{Target}
use Rattle.uc_tree.specs.declared.target.Target.TheVariants.{Own}
use Rattle.uc_tree.specs.declared.definition.Definition.{Definition}
use Rattle.uc_tree.specs.declared.item.Item.{Item}
use Rattle.uc_tree.specs.declared.item.Item.TheVariants as item
use Rattle.uc_tree.specs.Declarations.{Decl}
use Rattle.uc_tree.specs.Replacing.{by_members, replaced_definition, replaced_declaration}
use Rattle.uc_canon.specs.Spelling.{number_text, definition_text, declaration_text}
use Rattle.uc_canon.specs.Members.{Members, terms, kinds}
use Rattle.uc_canon.specs.Numbering.{place_in, moved, IsBefore}
use Rattle.uc_canon.specs.declared.standing.Standing.{Standing}
use Rattle.uc_canon.specs.declared.standing.Standing.TheVariants.{Less, Same, Greater}

-- The table of so many members tells for each the number of the start that reached it last, which is at most this one,
-- and what stands for it.
pub record IsTable (count start : ℕ) (starts : List ℕ) (numbers : List Target) : Type 0 where
  pub starts_size : length starts ≡ count
  pub numbers_size : length numbers ≡ count
  pub reached_before : (u : ℕ) → u < count → slice_index_or starts u 0 ≤ start

-- These different members are what is reached from the start with this number: the table says so, and has the place of each.
pub record AreReached (count start : ℕ) (starts : List ℕ) (numbers : List Target) (order : List ℕ) : Type 0 where
  pub table : IsTable count start starts numbers
  pub below : (k : ℕ) → k < length order → slice_index order k < count
  pub distinct : (j k : ℕ) → j < k → k < length order → slice_index order j ≢ slice_index order k
  pub marked : (u : ℕ) → u < count → (slice_index_or starts u 0 == start) ≡ list_any (λ y. y == u) order
  pub placed : (u : ℕ) → u < count → list_any (λ y. y == u) order ≡ true → slice_index_or numbers u (Own 0) ≡ Own (place_in order u)

-- a definition of several, with its targets replaced
abbrev pub definition_at : List Target → List Definition → ℕ → Option Definition
definition_at numbers ds u = option_and_then (replaced_definition (by_members numbers)) (slice_get ds u)

-- a declaration of several
abbrev pub declaration_at : List Target → List Decl → ℕ → Option Decl
declaration_at numbers ds u = option_and_then (replaced_declaration (by_members numbers)) (slice_get ds u)

-- ---- texts in an order

-- the text of a member
abbrev pub item_text : Item → List ℕ
item_text (item.Term definition) = definition_text definition
item_text (item.Kind declaration) = declaration_text declaration

-- `T` or `D`, and the number of members
abbrev pub head_text : Members → ℕ → List ℕ
head_text (terms ds) count = 84 ∷ number_text count
head_text (kinds ds) count = 68 ∷ number_text count

-- the text of the member u as it stands in an order; nothing, if nothing stands there
abbrev pub moved_text : List ℕ → Members → ℕ → List ℕ
moved_text order m u = option_map_or item_text (moved order m u) []

-- the texts of several members, one after the other
abbrev pub moved_texts : List ℕ → Members → List ℕ → List ℕ
moved_texts order m [] = []
moved_texts order m (u ∷ us) = moved_text order m u ++ moved_texts order m us

-- the text with the members in an order
abbrev pub text_in : List ℕ → Members → List ℕ
text_in order m = head_text m (length order) ++ moved_texts order m order

-- ---- a text against the least one so far

-- the text comes before the least one, where this is what is to come
abbrev pub ComesBefore : Standing → List ℕ → Type 0
ComesBefore Less rest = Unit {0}
ComesBefore (Same known) rest = IsBefore rest known.now
ComesBefore Greater rest = ⊥
