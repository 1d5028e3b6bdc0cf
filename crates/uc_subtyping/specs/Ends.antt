-- What a call answers for a judgement.
use Rattle.std.specs.Prelude.{◌≡◌, ◌⊎◌}
use Rattle.uc_base.specs.declared.fault.Fault.{Fault}
use Rattle.uc_base.specs.declared.fault.Fault.TheVariants.{Memory, IllTyped, TypeTooLarge}
use Rattle.uc_base.specs.declared.place.At.TheVariants.{Nowhere}
use Rattle.uc_subtyping.specs.Outcomes.{Outcome, refused, ill, large, Refusal}

-- the fault of a refusal, whose place isn't known yet
abbrev pub fault_of : Refusal → Fault
fault_of ill = IllTyped Nowhere
fault_of large = TypeTooLarge Nowhere

-- a fault is want of memory, or that of a refusal
abbrev pub IsRefused : (Outcome → Type 0) → Fault → Type 0
IsRefused judged fault = (fault ≡ Memory) ⊎ ((why : Refusal) × (fault ≡ fault_of why) × judged (refused why))
