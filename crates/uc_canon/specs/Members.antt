-- The members of a component as plain data: definitions or declarations.
use Rattle.std.specs.Prelude.{ℕ, List, length, map}
use Rattle.uc_tree.specs.declared.definition.Definition.{Definition}
use Rattle.uc_tree.specs.declared.item.Item.{Item}
use Rattle.uc_tree.specs.declared.item.Item.TheVariants as item
use Rattle.uc_tree.specs.Declarations.{Decl}
use Rattle.uc_canon.specs.Spelling.{terms_component_text, kinds_component_text}
use Rattle.uc_canon.specs.declared.component.Component.{Component}
use Rattle.uc_canon.specs.declared.component.Component.TheVariants.{Terms, Kinds}

-- definitions, or declarations; no name stands in them
pub data Members : Type 0 where
  terms : List Definition → Members
  kinds : List Decl → Members

-- the members of a component
abbrev pub members_of : Component → Members
members_of (Terms members) = terms members.items
members_of (Kinds members) = kinds members.items

-- the canonical spelling, with the members in the given order
abbrev pub text_of : Members → List ℕ
text_of (terms definitions) = terms_component_text definitions
text_of (kinds declarations) = kinds_component_text declarations

-- the members one by one
abbrev pub items_of : Members → List Item
items_of (terms definitions) = map item.Term definitions
items_of (kinds declarations) = map item.Kind declarations

-- how many members
abbrev pub count_of : Members → ℕ
count_of m = length (items_of m)

-- both are definitions, or both are declarations
abbrev pub SameKind : Members → Members → Type 0
SameKind (terms ds) (terms es) = Unit {0}
SameKind (kinds ds) (kinds es) = Unit {0}
SameKind (terms ds) (kinds es) = ⊥
SameKind (kinds ds) (terms es) = ⊥
