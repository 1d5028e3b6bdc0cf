-- An image that a crash may leave, with given bytes where a crash may leave any.
use Rattle.std.specs.Prelude.{ℕ, zero, suc, ◌+◌, ◌-◌, ◌%◌, nat_le, nat_lt, ◌&&◌, if◌then◌else◌, List, [], ◌∷◌, length, take, drop, slice_index}
use Rattle.uc_outside.specs.Call.{Call, Wrote, Spoilt, Synced}
use Rattle.uc_outside.specs.Replay.{contents}

-- one more than a number of calls up to a sync, where there is a sync among them
abbrev pub with_one_before : ℕ → ℕ
with_one_before zero = 0
with_one_before (suc count) = suc (suc count)

-- how many of the calls stand up to the last sync that succeeded
abbrev pub settled : List Call → ℕ
settled [] = 0
settled (Wrote at bytes ∷ calls) = with_one_before (settled calls)
settled (Spoilt at len ∷ calls) = with_one_before (settled calls)
settled (Synced ∷ calls) = suc (settled calls)

-- the ranges that calls wrote, in order, each as its offset and its length; failed writes too
abbrev pub ranges : List Call → List (ℕ × ℕ)
ranges [] = []
ranges (Wrote at bytes ∷ calls) = (at, length bytes) ∷ ranges calls
ranges (Spoilt at len ∷ calls) = (at, len) ∷ ranges calls
ranges (Synced ∷ calls) = ranges calls

-- the byte at an offset, where the fill is laid over ranges in order, in each from its front and repeated
abbrev pub filled_byte : List ℕ → List (ℕ × ℕ) → ℕ → ℕ → ℕ
filled_byte fill [] i byte = byte
filled_byte fill (range ∷ more) i byte = filled_byte fill more i (if nat_le range.0 i && nat_lt i (range.0 + range.1) then slice_index fill ((i - range.0) % length fill) else byte)

-- bytes of a file from an offset on, under a fill that is laid over ranges
abbrev pub filled : List ℕ → List (ℕ × ℕ) → ℕ → List ℕ → List ℕ
filled fill laid i [] = []
filled fill laid i (byte ∷ file) = filled_byte fill laid i byte ∷ filled fill laid (i + 1) file

-- the file as a read gives it, with the fill over what was written since the last sync; with no fill the file as it
-- was at that sync, or as it was made
abbrev pub image_by : List ℕ → List ℕ → List Call → List ℕ
image_by [] first calls = contents first (take (settled calls) calls)
image_by (byte ∷ fill) first calls = filled (byte ∷ fill) (ranges (drop (settled calls) calls)) 0 (contents first calls)
