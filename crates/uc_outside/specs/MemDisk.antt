-- A disk in memory, as its callers see it.
use Rattle.std.specs.Prelude.{◌≡◌, ◌⊎◌, ℕ, ◌+◌, ◌-◌, ◌<◌, ◌^◌, min, List, [], ◌∷◌, ◌++◌, length, Result, is_err, if◌then◌else◌, OnOk, OnErr}
use Rattle.uc_outside.specs.Call.{Call, Wrote, Spoilt}
use Rattle.uc_outside.specs.Disk.{DiskView}
use Rattle.uc_outside.specs.Plan.{Plan, Fails, plan_after}
use Rattle.uc_outside.specs.Replay.{told_by}

pub record MemFile : Type 0 where
  -- the bytes that it was made with
  pub first : List ℕ
  -- its calls so far that changed what a crash may leave, in order
  pub calls : List Call
  -- how many more calls may be made
  pub left : ℕ
  -- which of them fail
  pub plan : Plan
  -- how many calls have failed; the count ends at 2 ^ 64 - 1
  pub failed : ℕ

abbrev pub disk_view : MemFile → DiskView
disk_view disk = told_by disk.first disk.calls

-- the next call fails, where it writes that many bytes
abbrev pub Refuses : MemFile → ℕ → Type 0
Refuses disk size = (disk.left ≡ 0) ⊎ Fails disk.plan size

-- one call was counted, which writes that many bytes
pub record Counts {T E : Type 0} (old new : MemFile) (size : ℕ) (result : Result T E) : Type 0 where
  pub first : new.first ≡ old.first
  pub left : new.left ≡ old.left - 1
  pub plan : 0 < old.left → new.plan ≡ plan_after old.plan size (is_err result)
  pub failed : new.failed ≡ (if is_err result then min (old.failed + 1) (2 ^ 64 - 1) else old.failed)

-- the record has this call at its end
abbrev pub Adds : MemFile → Call → MemFile → Type 0
Adds old call new = new.calls ≡ old.calls ++ call ∷ []

-- a write; where no call was left the record of a failed one may be missing, for want of memory
pub record Records {E : Type 0} (at : ℕ) (bytes : List ℕ) (old new : MemFile) (result : Result Unit E) : Type 0 where
  pub written : OnOk result (Adds old (Wrote at bytes) new)
  pub spoilt : OnErr result (Adds old (Spoilt at (length bytes)) new ⊎ ((old.left ≡ 0) × (new.calls ≡ old.calls)))
