-- Trees with the places of their nodes.
use Rattle.std.specs.Prelude.{List, [], ◌∷◌}
use Rattle.uc_base.specs.declared.place.Place.{Place}

-- a tree, or a list of trees, and the places of its nodes in the order of canonical text
abbrev pub Placed : Type 0 → Type 0
Placed A = A × List Place

-- the place of the first node; that of a text's first character where there is none
abbrev pub first_place : List Place → Place
first_place [] = record { line = 1; column = 1 }
first_place (p ∷ ps) = p
