-- Why a file is not opened.
use Rattle.std.specs.Prelude.{◌≡◌, ◌⊎◌, ℕ}
use Rattle.uc_base.specs.declared.fault.Fault.{Fault}
use Rattle.uc_base.specs.declared.fault.Fault.TheVariants.{NotACodebase, Damaged, Memory, JournalFault}

-- a fault of what was read, or want of memory
abbrev pub ReadFault : Fault → Type 0
ReadFault fault = (fault ≡ NotACodebase) ⊎ ((at : ℕ) × (fault ≡ Damaged at)) ⊎ (fault ≡ Memory)

-- a failed call of the disk, or want of memory
abbrev pub OutsideFault : Fault → Type 0
OutsideFault fault = (fault ≡ JournalFault) ⊎ (fault ≡ Memory)
