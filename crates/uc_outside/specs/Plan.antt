-- Which calls of a device in memory fail.
use Rattle.std.specs.Prelude.{ℕ, ◌+◌, ◌-◌, ◌<◌, ◌^◌, ◌⊎◌, min, List, Contains, Bool, if◌then◌else◌}

pub record Plan : Type 0 where
  -- how many calls were made
  pub made : ℕ
  -- how many more bytes may be written
  pub room : ℕ
  -- the numbers of the calls that fail, counted from 1
  pub failing : List ℕ

-- the number of the next call; the last number is 2 ^ 64 - 1
abbrev pub next_call : Plan → ℕ
next_call plan = min (plan.made + 1) (2 ^ 64 - 1)

-- the next call fails, where it writes that many bytes
abbrev pub Fails : Plan → ℕ → Type 0
Fails plan size = Contains plan.failing (next_call plan) ⊎ (plan.room < size)

-- the plan after that call; only one that doesn't fail takes room
abbrev pub plan_after : Plan → ℕ → Bool → Plan
plan_after plan size failed = record { made = next_call plan; room = if failed then plan.room else plan.room - size; failing = plan.failing }
