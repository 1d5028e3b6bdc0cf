-- Types with solutions put in, within limits.
use Rattle.std.specs.Prelude.{◌≡◌, ℕ, ◌+◌, ◌<◌, ◌≤◌, ◌⊎◌, Option, None}
use Rattle.uc_base.specs.declared.fault.Fault.{Fault}
use Rattle.uc_base.specs.declared.fault.Fault.TheVariants.{Memory, TypeTooLarge}
use Rattle.uc_base.specs.declared.place.At.TheVariants.{Nowhere}
use Rattle.uc_context.specs.Contexts.{solution_of}
use Rattle.uc_context.specs.Counts.{open_node_count, levels_of_open, opens_node_count, levels_of_opens}
use Rattle.uc_context.specs.Entries.{ContextEntries}
use Rattle.uc_context.specs.Opens.{Open, bound, rigid, existential, quantified, arrow, unit, tuple, applied, Opens}

-- what a type stands for that is a solved existential
abbrev pub front_solution : ContextEntries → Open → Option Open
front_solution es (bound i) = None
front_solution es (rigid x) = None
front_solution es (existential x) = solution_of es x
front_solution es (quantified t) = None
front_solution es (arrow a b) = None
front_solution es unit = None
front_solution es (tuple ts) = None
front_solution es (applied h ts) = None

-- a type is no solved existential
abbrev pub IsSettled : ContextEntries → Open → Type 0
IsSettled es t = front_solution es t ≡ None

-- a type has no more than so many levels, and in a room for so many nodes it leaves these
abbrev pub IsWithin : ℕ → ℕ → ℕ → Open → Type 0
IsWithin levels room left t = (left + open_node_count t ≡ room) × (levels_of_open t ≤ levels)

-- the same of a list of types
abbrev pub AreWithin : ℕ → ℕ → ℕ → Opens → Type 0
AreWithin levels room left ts = (left + opens_node_count ts ≡ room) × (levels_of_opens ts ≤ levels)

-- a fault is want of memory, or that a type has more levels or more nodes than there is room for
abbrev pub IsPast : ℕ → ℕ → Open → Fault → Type 0
IsPast levels room t fault = (fault ≡ Memory) ⊎ ((fault ≡ TypeTooLarge Nowhere) × ((levels < levels_of_open t) ⊎ (room < open_node_count t)))

-- the same of a list of types
abbrev pub ArePast : ℕ → ℕ → Opens → Fault → Type 0
ArePast levels room ts fault = (fault ≡ Memory) ⊎ ((fault ≡ TypeTooLarge Nowhere) × ((levels < levels_of_opens ts) ⊎ (room < opens_node_count ts)))
