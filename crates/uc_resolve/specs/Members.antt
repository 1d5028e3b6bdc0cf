-- The members of a program, with the places of their nodes.
use Rattle.std.specs.Prelude.{◌≡◌, ◌+◌, ◌<◌, ◌≤◌, List, [], map, length, Option, slice_get}
use Rattle.std.specs.List.{slice_index_or}
use Rattle.uc_base.specs.declared.place.Place.{Place}
use Rattle.uc_base.specs.declared.place.Spot.{Spot}
use Rattle.uc_tree.specs.declared.item.Item.TheVariants as item
use Rattle.uc_tree.specs.Nodes.{Node, term_nodes, nodes_of}
use Rattle.uc_meaning.specs.Programs.{PlacesOf, Meaning}
use Rattle.uc_resolve.specs.declared.places.Listed.{Listed}
use Rattle.uc_resolve.specs.declared.places.Listed.TheVariants.{Kinds, Terms, Watches}

-- the nodes of the members of a list
abbrev pub member_nodes : Meaning → Listed → List (List Node)
member_nodes m Kinds = map (λ d. nodes_of (item.Kind d.1)) m.kinds
member_nodes m Terms = map (λ d. nodes_of (item.Term d.1)) m.terms
member_nodes m Watches = map term_nodes m.watches

-- the places of the members of a list
abbrev pub member_places : PlacesOf → Listed → List (List Place)
member_places p Kinds = p.kinds
member_places p Terms = p.terms
member_places p Watches = p.watches

-- each member has one place more than nodes: that of its name, or of the mark of a watch
abbrev pub IsPlaced : Meaning → Type 0
IsPlaced m = (list : Listed) → map length (member_places m.places list) ≡ map (λ nodes. length nodes + 1) (member_nodes m list)

-- a program has a node: node 0 is the name
abbrev pub HasNode : Meaning → Listed → Spot → Type 0
HasNode m list spot = (spot.member < length (member_nodes m list)) × (spot.node ≤ length (slice_index_or (member_nodes m list) spot.member []))

-- the place of a node, where there is one
abbrev pub place_at : PlacesOf → Listed → Spot → Option Place
place_at p list spot = slice_get (slice_index_or (member_places p list) spot.member []) spot.node

-- there is a place for a node
abbrev pub HasPlace : PlacesOf → Listed → Spot → Type 0
HasPlace p list spot = (spot.member < length (member_places p list)) × (spot.node < length (slice_index_or (member_places p list) spot.member []))
