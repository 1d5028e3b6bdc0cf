-- A source in memory, as its callers see it.
use Rattle.std.specs.Prelude.{◌≡◌, ℕ, ◌+◌, ◌-◌, ◌^◌, min, List, Result, is_err, if◌then◌else◌}
use Rattle.uc_outside.specs.Plan.{Plan, plan_after}

pub record MemInput : Type 0 where
  -- the bytes that are left
  pub left : List ℕ
  -- how many of them a read gives at the most
  pub piece : ℕ
  -- which calls fail
  pub plan : Plan
  -- how many calls have failed; the count ends at 2 ^ 64 - 1
  pub failed : ℕ

-- one read was counted
pub record CountsRead {T E : Type 0} (old new : MemInput) (result : Result T E) : Type 0 where
  pub piece : new.piece ≡ old.piece
  pub plan : new.plan ≡ plan_after old.plan 0 (is_err result)
  pub failed : new.failed ≡ (if is_err result then min (old.failed + 1) (2 ^ 64 - 1) else old.failed)
