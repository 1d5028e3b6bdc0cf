-- The calls of a disk in memory that changed what a crash may leave.
use Rattle.std.specs.Prelude.{ℕ, ◌+◌, List, [], ◌∷◌, take, drop}
use Rattle.uc_outside.specs.declared.done.Done.{Done}
use Rattle.uc_outside.specs.declared.done.Done.TheVariants as done

pub data Call : Type 0 where
  -- a write of these bytes at that offset
  Wrote : ℕ → List ℕ → Call
  -- a failed write of that many bytes at that offset
  Spoilt : ℕ → ℕ → Call
  -- a sync that succeeded
  Synced : Call

-- how many bytes the recorded writes wrote
abbrev pub logged : List Done → ℕ
logged [] = 0
logged (done.Wrote at len ∷ calls) = len + logged calls
logged (done.Spoilt at len ∷ calls) = logged calls
logged (done.Synced ∷ calls) = logged calls

-- the calls of a record, whose writes wrote the bytes of the log in order
abbrev pub calls_of : List ℕ → List Done → List Call
calls_of log [] = []
calls_of log (done.Wrote at len ∷ calls) = Wrote at (take len log) ∷ calls_of (drop len log) calls
calls_of log (done.Spoilt at len ∷ calls) = Spoilt at len ∷ calls_of log calls
calls_of log (done.Synced ∷ calls) = Synced ∷ calls_of log calls
