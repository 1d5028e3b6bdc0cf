-- Where stops stand, and their faults.
use Rattle.std.specs.Prelude.{◌≡◌, ℕ, ◌+◌, ◌⊎◌}
use Rattle.uc_base.specs.declared.fault.Fault.{Fault}
use Rattle.uc_base.specs.declared.fault.Fault.TheVariants.{Memory, NeedsSignature, IllTyped, TypeTooLarge}
use Rattle.uc_base.specs.declared.place.At.{At}
use Rattle.uc_base.specs.declared.place.At.TheVariants as at
use Rattle.uc_base.specs.declared.place.Spot.{Spot}
use Rattle.uc_typing.specs.Stops.{Stop, needs_signature, ill_typed, too_large}

-- a spot so many nodes further
abbrev pub passed : Spot → ℕ → Spot
passed spot nodes = record { member = spot.member; node = spot.node + nodes }

-- a node of a member
abbrev pub at_node : ℕ → ℕ → At
at_node member n = at.Spot (record { member = member; node = n })

-- the fault of a stop of a member
abbrev pub fault_at : ℕ → Stop → Fault
fault_at member (needs_signature n) = NeedsSignature (at_node member n)
fault_at member (ill_typed n) = IllTyped (at_node member n)
fault_at member (too_large n) = TypeTooLarge (at_node member n)

-- a fault is want of memory, or that of a stop of a member
abbrev pub IsStopped : ℕ → (Stop → Type 0) → Fault → Type 0
IsStopped member judged fault = (fault ≡ Memory) ⊎ ((stop : Stop) × (fault ≡ fault_at member stop) × judged stop)

-- a refusal that has no place yet, at a spot
abbrev pub placed_at : Spot → Fault → Fault
placed_at spot (IllTyped at.Nowhere) = IllTyped (at.Spot spot)
placed_at spot (TypeTooLarge at.Nowhere) = TypeTooLarge (at.Spot spot)
placed_at spot fault = fault
