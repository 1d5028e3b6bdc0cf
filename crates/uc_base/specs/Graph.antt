-- Graphs of numbers: a graph is the list of its rows, and row u holds the vertices to which vertex u refers.
use Rattle.std.specs.Prelude.{◌≡◌, ℕ, ◌<◌, ◌≤◌, ◌⊎◌, List, [], ◌∷◌, ◌++◌, length, slice_index_or, slice_index}
use Rattle.std.specs.List.{Contains}

-- the references of a vertex; none, if the graph has no such vertex
abbrev pub row : List (List ℕ) → ℕ → List ℕ
row rows u = slice_index_or rows u []

-- u refers to v
abbrev pub Edge : List (List ℕ) → ℕ → ℕ → Type 0
Edge rows u v = Contains (row rows u) v

-- each reference is to a vertex
abbrev pub InRange : List (List ℕ) → Type 0
InRange rows = (u v : ℕ) → Edge rows u v → v < length rows

-- a path of one or more edges leads from u to v
pub data Reaches : List (List ℕ) → ℕ → ℕ → Type 0 where
  one : {rows : List (List ℕ)} {u v : ℕ} → Edge rows u v → Reaches rows u v
  more : {rows : List (List ℕ)} {u v w : ℕ} → Edge rows u v → Reaches rows v w → Reaches rows u w

-- u and v are in one component: they are one vertex, or reach each other
abbrev pub Together : List (List ℕ) → ℕ → ℕ → Type 0
Together rows u v = (u ≡ v) ⊎ (Reaches rows u v × Reaches rows v u)

-- strictly ascending
abbrev pub IsAscending : List ℕ → Type 0
IsAscending [] = Unit {0}
IsAscending (x ∷ xs) = ((y : ℕ) → Contains xs y → x < y) × IsAscending xs

-- the members are those of u's component, ascending
pub record IsComponent (rows : List (List ℕ)) (u : ℕ) (members : List ℕ) : Type 0 where
  pub ascending : IsAscending members
  pub sound : (v : ℕ) → Contains members v → Together rows u v
  pub complete : (v : ℕ) → Together rows u v → Contains members v

-- u is a vertex that isn't placed, and each reference of its component leads into it or to a placed vertex
pub record IsReady (rows : List (List ℕ)) (placed : List ℕ) (u : ℕ) : Type 0 where
  pub vertex : u < length rows
  pub free : Contains placed u → ⊥
  pub referred : (v w : ℕ) → Together rows u v → Edge rows v w → Together rows u w ⊎ Contains placed w

-- the members are the component that comes after the placed vertices: of those that are ready, the one with the least member, u
pub record IsNext (rows : List (List ℕ)) (placed : List ℕ) (u : ℕ) (members : List ℕ) : Type 0 where
  pub ready : IsReady rows placed u
  pub least : (v : ℕ) → IsReady rows placed v → u ≤ v
  pub component : IsComponent rows u members

-- the components of the vertices that aren't placed yet, each the next one at its place
abbrev pub IsOrderFrom : List (List ℕ) → List ℕ → List (List ℕ) → Type 0
IsOrderFrom rows placed [] = (u : ℕ) → u < length rows → Contains placed u
IsOrderFrom rows placed (members ∷ rest) = ((u : ℕ) × IsNext rows placed u members) × IsOrderFrom rows (placed ++ members) rest

-- all components: at each place stands, among those whose references all stand before it, the one with the least member
abbrev pub IsComponentOrder : List (List ℕ) → List (List ℕ) → Type 0
IsComponentOrder rows components = IsOrderFrom rows [] components

-- a graph has at most one such order
abbrev pub OrderIsUnique : Type 0
OrderIsUnique = (rows components others : List (List ℕ)) → IsComponentOrder rows components → IsComponentOrder rows others → components ≡ others

-- inner is the graph of a part of outer's vertices: the part ascends and holds every end of its members' edges, inner's vertex i
-- stands for the part's vertex at i, and inner has the part's edges and no others
pub record IsPart (outer : List (List ℕ)) (part : List ℕ) (inner : List (List ℕ)) : Type 0 where
  pub size : length inner ≡ length part
  pub ascending : (i j : ℕ) → i < j → j < length part → slice_index part i < slice_index part j
  pub within : (i : ℕ) → i < length part → slice_index part i < length outer
  pub closed : (i v : ℕ) → i < length part → Edge outer (slice_index part i) v → Contains part v
  pub edges : (i j : ℕ) → i < length part → j < length part → Edge outer (slice_index part i) (slice_index part j) → Edge inner i j
  pub only : (i j : ℕ) → Edge inner i j → (i < length part) × (j < length part) × Edge outer (slice_index part i) (slice_index part j)

-- the vertices of the whole for which vertices of the part's graph stand
abbrev pub named : List ℕ → List ℕ → List ℕ
named part [] = []
named part (i ∷ is) = slice_index part i ∷ named part is

-- the same in each of several lists
abbrev pub all_named : List ℕ → List (List ℕ) → List (List ℕ)
all_named part [] = []
all_named part (members ∷ rest) = named part members ∷ all_named part rest

-- the second list has, in their order, those lists of the first whose members are in the part; the others have no member there
pub data Kept : List ℕ → List (List ℕ) → List (List ℕ) → Type 0 where
  none : {part : List ℕ} → Kept part [] []
  keep : {part members : List ℕ} {all kept : List (List ℕ)} → ((v : ℕ) → Contains members v → Contains part v) → Kept part all kept → Kept part (members ∷ all) (members ∷ kept)
  skip : {part members : List ℕ} {all kept : List (List ℕ)} → ((v : ℕ) → Contains members v → Contains part v → ⊥) → Kept part all kept → Kept part (members ∷ all) kept

-- the components of a part are those of the whole that lie in it, in the same order
abbrev pub PartsAgree : Type 0
PartsAgree = (outer inner : List (List ℕ)) (part : List ℕ) (all own : List (List ℕ)) → IsPart outer part inner → IsComponentOrder outer all → IsComponentOrder inner own → Kept part all (all_named part own)
