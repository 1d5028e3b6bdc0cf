-- What the search for components keeps.
use Rattle.std.specs.Prelude.{◌≡◌, ℕ, ◌<◌, ◌≤◌, ◌+◌, ◌-◌, ◌⊎◌, List, [], ◌∷◌, ◌++◌, Bool, true, false, length, slice_index_or, slice_index, slice_set, take}
use Rattle.uc_base.specs.Graph.{row, Edge, Reaches, Together}
use Rattle.uc_components.specs.declared.search.Search.{Search}

-- a path of no edges or more leads from u to v
abbrev pub Comes : List (List ℕ) → ℕ → ℕ → Type 0
Comes g u v = (u ≡ v) ⊎ Reaches g u v

-- the state of the search
pub record State : Type 0 where
  pub seen : List Bool
  pub closed : List Bool
  pub index : List ℕ
  pub home : List ℕ
  -- the vertices that are met and in no component yet, in the order in which they were met
  pub opened : List ℕ
  -- where in `opened` a part begins whose members all reach each other
  pub bounds : List ℕ
  -- where in `opened` the vertices of the path stand, and how many references of each were looked at
  pub path : List ℕ
  pub nexts : List ℕ
  -- a member of each component
  pub heads : List ℕ

abbrev pub state_of : Search → State
state_of s = record { seen = s.seen.items; closed = s.closed.items; index = s.index.items; home = s.home.items; opened = s.opened.items; bounds = s.bounds.items; path = s.path.items; nexts = s.nexts.items; heads = s.heads.items }

abbrev pub flag : List Bool → ℕ → Bool
flag xs v = slice_index_or xs v false

-- y was met, and if it is still open, no bound parts it from the place i
abbrev pub Known : State → ℕ → ℕ → Type 0
Known s i y = (flag s.seen y ≡ true) × (flag s.closed y ≡ false → (k : ℕ) → k < length s.bounds → slice_index s.bounds k ≤ i → slice_index s.bounds k ≤ slice_index s.index y)

pub record Good (g : List (List ℕ)) (s : State) : Type 0 where
  pub seen_len : length s.seen ≡ length g
  pub closed_len : length s.closed ≡ length g
  pub index_len : length s.index ≡ length g
  pub home_len : length s.home ≡ length g
  pub nexts_len : length s.nexts ≡ length s.path
  pub open_in : (i : ℕ) → i < length s.opened → slice_index s.opened i < length g
  pub open_seen : (i : ℕ) → i < length s.opened → flag s.seen (slice_index s.opened i) ≡ true
  pub open_index : (i : ℕ) → i < length s.opened → slice_index s.index (slice_index s.opened i) ≡ i
  pub open_free : (i : ℕ) → i < length s.opened → flag s.closed (slice_index s.opened i) ≡ false
  pub seen_open : (v : ℕ) → flag s.seen v ≡ true → flag s.closed v ≡ false → (slice_index s.index v < length s.opened) × (slice_index s.opened (slice_index s.index v) ≡ v)
  pub closed_seen : (v : ℕ) → flag s.closed v ≡ true → flag s.seen v ≡ true
  pub bounds_in : (k : ℕ) → k < length s.bounds → slice_index s.bounds k < length s.opened
  pub bounds_up : (k l : ℕ) → k < l → l < length s.bounds → slice_index s.bounds k < slice_index s.bounds l
  pub bounds_first : 0 < length s.opened → (0 < length s.bounds) × (slice_index s.bounds 0 ≡ 0)
  pub path_in : (j : ℕ) → j < length s.path → slice_index s.path j < length s.opened
  pub path_up : (j l : ℕ) → j < l → l < length s.path → slice_index s.path j < slice_index s.path l
  pub bounds_path : (k : ℕ) → k < length s.bounds → (j : ℕ) × (j < length s.path) × (slice_index s.path j ≡ slice_index s.bounds k)
  pub forth : (k i : ℕ) → k < length s.bounds → slice_index s.bounds k ≤ i → i < length s.opened → Comes g (slice_index s.opened (slice_index s.bounds k)) (slice_index s.opened i)
  pub back : (k i : ℕ) → k < length s.bounds → slice_index s.bounds k ≤ i → i < length s.opened → (k + 1 < length s.bounds → i < slice_index s.bounds (k + 1)) → Comes g (slice_index s.opened i) (slice_index s.opened (slice_index s.bounds k))
  pub done : (i y : ℕ) → i < length s.opened → ((j : ℕ) → j < length s.path → slice_index s.path j ≡ i → ⊥) → Edge g (slice_index s.opened i) y → Known s i y
  pub tried : (j e : ℕ) → j < length s.path → e < slice_index s.nexts j → Known s (slice_index s.path j) (slice_index (row g (slice_index s.opened (slice_index s.path j))) e)
  pub closed_edges : (v y : ℕ) → flag s.closed v ≡ true → Edge g v y → (flag s.closed y ≡ true) × (slice_index s.home y ≤ slice_index s.home v)
  pub closed_together : (u v : ℕ) → flag s.closed u ≡ true → flag s.closed v ≡ true → slice_index s.home u ≡ slice_index s.home v → Together g u v
  pub closed_home : (v : ℕ) → flag s.closed v ≡ true → slice_index s.home v < length s.heads
  pub heads_closed : (c : ℕ) → c < length s.heads → (flag s.closed (slice_index s.heads c) ≡ true) × (slice_index s.home (slice_index s.heads c) ≡ c)

-- v is met, from the top of the path
abbrev pub entered : State → ℕ → State
entered s v = record s {
  opened = s.opened ++ v ∷ [];
  bounds = s.bounds ++ length s.opened ∷ [];
  path = s.path ++ length s.opened ∷ [];
  nexts = s.nexts ++ 0 ∷ [];
  seen = slice_set s.seen v true;
  index = slice_set s.index v (length s.opened);
}

-- one more reference was looked at
abbrev pub counted : State → ℕ → State
counted s j = record s { nexts = slice_set s.nexts j (slice_index s.nexts j + 1) }

abbrev pub without_last : List ℕ → List ℕ
without_last xs = take (length xs - 1) xs

-- the last two parts are one
abbrev pub merged : State → State
merged s = record s { bounds = without_last s.bounds }

-- the path goes back one
abbrev pub left : State → State
left s = record s { path = without_last s.path; nexts = without_last s.nexts }

-- what `closed` and `home` are once the vertices at from, .., to - 1 of `opened` are closed as component c
pub record Closes (s : State) (from to c : ℕ) (closed : List Bool) (home : List ℕ) : Type 0 where
  pub closed_len : length closed ≡ length s.closed
  pub home_len : length home ≡ length s.home
  pub inside : (i : ℕ) → from ≤ i → i < to → (flag closed (slice_index s.opened i) ≡ true) × (slice_index home (slice_index s.opened i) ≡ c)
  pub outside : (v : ℕ) → ((i : ℕ) → from ≤ i → i < to → slice_index s.opened i ≡ v → ⊥) → (flag closed v ≡ flag s.closed v) × (slice_index home v ≡ slice_index s.home v)

-- the path goes back one, and the last part is closed
abbrev pub shut : State → ℕ → List Bool → List ℕ → State
shut s from closed home = record s {
  closed = closed;
  home = home;
  opened = take from s.opened;
  bounds = without_last s.bounds;
  path = without_last s.path;
  nexts = without_last s.nexts;
  heads = s.heads ++ slice_index s.opened from ∷ [];
}

-- the vertex to which the reference at hand leads
abbrev pub target : List (List ℕ) → State → ℕ → ℕ
target g s t = slice_index (row g (slice_index s.opened (slice_index s.path t))) (slice_index s.nexts t)

-- the path's top, at t, has a reference at hand
pub record Looking (g : List (List ℕ)) (s : State) (t : ℕ) : Type 0 where
  pub good : Good g s
  pub top : t + 1 ≡ length s.path
  pub next : slice_index s.nexts t < length (row g (slice_index s.opened (slice_index s.path t)))

-- it leads to a vertex that is open
pub record Merging (g : List (List ℕ)) (s : State) (t : ℕ) : Type 0 where
  pub looking : Looking g s t
  pub seen : flag s.seen (target g s t) ≡ true
  pub free : flag s.closed (target g s t) ≡ false

-- it was looked at
pub record Looked (g : List (List ℕ)) (s : State) (t : ℕ) : Type 0 where
  pub good : Good g s
  pub top : t < length s.path
  pub known : Known s (slice_index s.path t) (target g s t)
  pub next : slice_index s.nexts t < length (row g (slice_index s.opened (slice_index s.path t)))

-- every reference of the top was looked at
pub record Leaving (g : List (List ℕ)) (s : State) (t : ℕ) : Type 0 where
  pub good : Good g s
  pub top : t + 1 ≡ length s.path
  pub all : length (row g (slice_index s.opened (slice_index s.path t))) ≤ slice_index s.nexts t

-- every vertex is in a component
pub record IsSearched (g : List (List ℕ)) (s : State) : Type 0 where
  pub good : Good g s
  pub all : (v : ℕ) → v < length g → flag s.closed v ≡ true

-- what was met stays met
abbrev pub Grows : State → State → Type 0
Grows s t = (v : ℕ) → flag s.seen v ≡ true → flag t.seen v ≡ true

-- home numbers the components: two vertices have one number if and only if they are in one component, each number below count
-- is used, and no reference leads to a greater number
pub record IsHome (g : List (List ℕ)) (home : List ℕ) (count : ℕ) : Type 0 where
  pub len : length home ≡ length g
  pub below : (v : ℕ) → v < length g → slice_index home v < count
  pub used : (c : ℕ) → c < count → (v : ℕ) × (v < length g) × (slice_index home v ≡ c)
  pub sound : (u v : ℕ) → u < length g → v < length g → slice_index home u ≡ slice_index home v → Together g u v
  pub complete : (u v : ℕ) → u < length g → Together g u v → slice_index home u ≡ slice_index home v
  pub edges : (u v : ℕ) → u < length g → Edge g u v → slice_index home v ≤ slice_index home u
