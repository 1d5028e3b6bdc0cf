-- A sink in memory, as its callers see it.
use Rattle.std.specs.Prelude.{◌≡◌, ℕ, ◌+◌, ◌-◌, ◌^◌, min, List, Result, is_err, if◌then◌else◌}
use Rattle.uc_outside.specs.Plan.{Plan, plan_after}

pub record MemOutput : Type 0 where
  -- the bytes that were taken
  pub taken : List ℕ
  -- which calls fail
  pub plan : Plan
  -- how many calls have failed; the count ends at 2 ^ 64 - 1
  pub failed : ℕ

-- one call was counted, which writes that many bytes
pub record CountsWrite {T E : Type 0} (old new : MemOutput) (size : ℕ) (result : Result T E) : Type 0 where
  pub plan : new.plan ≡ plan_after old.plan size (is_err result)
  pub failed : new.failed ≡ (if is_err result then min (old.failed + 1) (2 ^ 64 - 1) else old.failed)
