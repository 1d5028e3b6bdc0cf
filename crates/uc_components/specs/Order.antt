-- The components by their numbers, as they are put in order.
use Rattle.std.specs.Prelude.{◌≡◌, ℕ, ◌<◌, ◌≤◌, ◌⊎◌, List, [], ◌∷◌, ◌++◌, Bool, true, false, length, slice_index, slice_set}
use Rattle.std.specs.List.{Contains}
use Rattle.uc_base.specs.Graph.{row, Edge, IsAscending, IsNext}
use Rattle.uc_components.specs.Rows.{lists}
use Rattle.uc_components.specs.Searched.{flag}
use Rattle.uc_components.specs.declared.order.Queue.{Queue}

-- the members of the component with the number c, ascending
pub record IsMembers (home : List ℕ) (c : ℕ) (members : List ℕ) : Type 0 where
  pub ascending : IsAscending members
  pub sound : (v : ℕ) → Contains members v → (v < length home) × (slice_index home v ≡ c)
  pub complete : (v : ℕ) → v < length home → slice_index home v ≡ c → Contains members v

-- x is the least of the first list, and the second has the others
pub record TakesLeast (before : List ℕ) (x : ℕ) (after : List ℕ) : Type 0 where
  pub has : Contains before x
  pub least : (y : ℕ) → Contains before y → x ≤ y
  pub others : (y : ℕ) → Contains before y → (y ≡ x → ⊥) → Contains after y
  pub without : (y : ℕ) → Contains after y → Contains before y × (y ≡ x → ⊥)

-- what is placed, and what waits
pub record Stage : Type 0 where
  -- the number of each vertex's component
  pub home : List ℕ
  -- the members of each component that isn't placed
  pub parts : List (List ℕ)
  -- which components are placed
  pub placed : List Bool
  -- how many of each component's references are known to lead to placed ones
  pub cursors : List ℕ
  -- the least members of the components that are ready
  pub ready : List ℕ

abbrev pub stage_of : Queue → Stage
stage_of q = record { home = q.home.items; parts = lists q.parts; placed = q.placed.items; cursors = q.cursors.items; ready = q.ready.keys }

-- each reference of c leads to a placed component
abbrev pub IsFree : List (List ℕ) → List Bool → ℕ → Type 0
IsFree references placed c = (d : ℕ) → Edge references c d → flag placed d ≡ true

-- x is the least member of a component that can be placed next
pub record IsFront (references : List (List ℕ)) (s : Stage) (x : ℕ) : Type 0 where
  pub vertex : x < length s.home
  pub new : flag s.placed (slice_index s.home x) ≡ false
  pub free : IsFree references s.placed (slice_index s.home x)
  pub least : slice_index (row s.parts (slice_index s.home x)) 0 ≡ x

pub record IsStage (references : List (List ℕ)) (s : Stage) : Type 0 where
  pub len : length references ≡ length s.placed
  pub parts_len : length s.parts ≡ length s.placed
  pub cursors_len : length s.cursors ≡ length s.placed
  pub home_in : (v : ℕ) → v < length s.home → slice_index s.home v < length s.placed
  pub descends : (c d : ℕ) → Edge references c d → d < c
  pub parts : (c : ℕ) → c < length s.placed → flag s.placed c ≡ false → IsMembers s.home c (row s.parts c) × (0 < length (row s.parts c))
  pub passed : (c k : ℕ) → k < slice_index s.cursors c → k < length (row references c) → flag s.placed (slice_index (row references c) k) ≡ true
  pub ready : (x : ℕ) → Contains s.ready x → IsFront references s x
  pub closed : (c : ℕ) → flag s.placed c ≡ true → IsFree references s.placed c

-- the reference at c's cursor leads to a component that isn't placed
abbrev pub IsWaiting : List (List ℕ) → Stage → ℕ → Type 0
IsWaiting references s c = (slice_index s.cursors c < length (row references c)) × (flag s.placed (slice_index (row references c) (slice_index s.cursors c)) ≡ false)

-- c is ready, or waits
abbrev pub IsKnown : List (List ℕ) → Stage → ℕ → Type 0
IsKnown references s c = Contains s.ready (slice_index (row s.parts c) 0) ⊎ IsWaiting references s c

-- so does each component that isn't placed
abbrev pub AllKnown : List (List ℕ) → Stage → Type 0
AllKnown references s = (c : ℕ) → c < length s.placed → flag s.placed c ≡ false → IsKnown references s c

-- the component c is placed
abbrev pub placed_at : Stage → ℕ → Stage
placed_at s c = record s { placed = slice_set s.placed c true; parts = slice_set s.parts c [] }

-- from the stage s to t one component more is placed: of those that can be, the one with the least member
pub record IsTaken (references : List (List ℕ)) (s t : Stage) (members : List ℕ) : Type 0 where
  pub part : ℕ
  pub below : part < length s.placed
  pub new : flag s.placed part ≡ false
  pub free : IsFree references s.placed part
  pub is_part : IsMembers s.home part members
  pub filled : 0 < length members
  pub least : (v : ℕ) → v < length s.home → flag s.placed (slice_index s.home v) ≡ false → IsFree references s.placed (slice_index s.home v) → slice_index members 0 ≤ v
  pub placed : t.placed ≡ slice_set s.placed part true
  pub home : t.home ≡ s.home
  pub stage : IsStage references t
  pub known : AllKnown references t

-- the vertices so far are those of the components that are placed
pub record ArePlaced (home : List ℕ) (placed : List Bool) (before : List ℕ) : Type 0 where
  pub to : (v : ℕ) → v < length home → Contains before v → flag placed (slice_index home v) ≡ true
  pub from : (v : ℕ) → v < length home → flag placed (slice_index home v) ≡ true → Contains before v

-- the components so far, each the next one at its place, whose vertices and those before them are the last list
abbrev pub IsOrderUpTo : List (List ℕ) → List ℕ → List (List ℕ) → List ℕ → Type 0
IsOrderUpTo g before [] after = before ≡ after
IsOrderUpTo g before (members ∷ rest) after = ((u : ℕ) × IsNext g before u members) × IsOrderUpTo g (before ++ members) rest after
