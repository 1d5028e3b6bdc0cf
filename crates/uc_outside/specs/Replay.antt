-- What a disk in memory tells, from the record of its calls.
use Rattle.std.specs.Prelude.{◌≡◌, ◌⊎◌, ℕ, ◌+◌, ◌≤◌, List, [], ◌∷◌, ◌++◌, length, take, drop}
use Rattle.uc_outside.specs.Call.{Call, Wrote, Spoilt, Synced}
use Rattle.uc_outside.specs.Disk.{DiskView, AfterWrite}

-- these bytes over that offset
abbrev pub over : List ℕ → ℕ → List ℕ → List ℕ
over file at bytes = take at file ++ bytes ++ drop (at + length bytes) file

-- how many of the calls are syncs
abbrev pub syncs_in : List Call → ℕ
syncs_in [] = 0
syncs_in (Wrote at bytes ∷ calls) = syncs_in calls
syncs_in (Spoilt at len ∷ calls) = syncs_in calls
syncs_in (Synced ∷ calls) = syncs_in calls + 1

-- the file after these calls, as a read gives it
abbrev pub contents : List ℕ → List Call → List ℕ
contents file [] = file
contents file (Wrote at bytes ∷ calls) = contents (over file at bytes) calls
contents file (Spoilt at len ∷ calls) = contents file calls
contents file (Synced ∷ calls) = contents file calls

-- each write of the calls begins in the file or at its end
abbrev pub StaysWithin : List ℕ → List Call → Type 0
StaysWithin file [] = Unit {0}
StaysWithin file (Wrote at bytes ∷ calls) = (at ≤ length file) × StaysWithin (over file at bytes) calls
StaysWithin file (Spoilt at len ∷ calls) = (at ≤ length file) × StaysWithin file calls
StaysWithin file (Synced ∷ calls) = StaysWithin file calls

-- a write is on the disk whole, or torn
abbrev pub WrittenOrTorn : List ℕ → ℕ → List ℕ → (List ℕ → Type 0) → List ℕ → Type 0
WrittenOrTorn file at bytes images c = (c ≡ over file at bytes) ⊎ AfterWrite at (length bytes) images c

-- the images that a crash after these calls may leave, from the file and the images before them
abbrev pub images : List ℕ → (List ℕ → Type 0) → List Call → List ℕ → Type 0
images file before [] c = before c
images file before (Wrote at bytes ∷ calls) c = images (over file at bytes) (WrittenOrTorn file at bytes before) calls c
images file before (Spoilt at len ∷ calls) c = images file (AfterWrite at len before) calls c
images file before (Synced ∷ calls) c = images file (λ d. d ≡ file) calls c

-- the images after the first k calls
abbrev pub images_at : List ℕ → List Call → ℕ → List ℕ → Type 0
images_at first calls k c = images first (λ d. d ≡ first) (take k calls) c

-- what a disk tells that was made with these bytes
abbrev pub told_by : List ℕ → List Call → DiskView
told_by first calls = record {
  seen = contents first calls;
  may_leave = images first (λ d. d ≡ first) calls;
  moment = length calls;
  might_have_left = λ t c. (k : ℕ) × (t ≤ k) × (k ≤ length calls) × images_at first calls k c;
  sync_count = syncs_in calls;
}
