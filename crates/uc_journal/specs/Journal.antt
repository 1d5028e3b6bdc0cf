-- What a journal keeps on its disk.
use Rattle.std.specs.Prelude.{◌≡◌, ◌⊎◌, ◌+◌, ◌≤◌, ℕ, List, [], ◌∷◌, ◌++◌, length, Option, Some, None, is_some, Bool, Result, OnOk}
use Rattle.uc_outside.specs.Disk.{DiskView, AfterWrite, Holds, LeavesOnly}
use Rattle.uc_journal.specs.Text.{front, IsTextOf, IsFileOf, IsStaged}
use Rattle.uc_outside.specs.declared.disk.Disk.{Ghosts}
use Rattle.uc_journal.specs.declared.journal.Journal.{Journal}
use Rattle.uc_journal.specs.declared.tail.Tail.{Tail}

-- each image of a journal with these payloads, and at most one whose fault isn't settled
abbrev pub LeftOf : List (List ℕ) → Option (List ℕ) → List ℕ → Type 0
LeftOf payloads None file = IsTextOf payloads file
LeftOf payloads (Some payload) file = IsStaged payloads payload file

-- the file stands for the payloads, or for them and that one more
abbrev pub IsWithOrWithout : List (List ℕ) → Option (List ℕ) → List ℕ → Type 0
IsWithOrWithout payloads more file = IsFileOf payloads file ⊎ ((payload : List ℕ) × (more ≡ Some payload) × IsFileOf (payloads ++ payload ∷ []) file)

-- The disk tells its content, and whatever a crash now leaves stands for these payloads, or, where a fault
-- isn't settled, for them and that one more.
pub record KeepsAt (tells : Type 0) (disk : DiskView) (gate : ℕ) (flag : Bool) (payloads : List (List ℕ)) (unsettled : Option (List ℕ)) : Type 0 where
  pub told : tells
  pub gate_is : gate ≡ length (front payloads)
  pub flag_is : flag ≡ is_some unsettled
  pub left : (c : List ℕ) → disk.may_leave c → LeftOf payloads unsettled c
  -- the same in the words of files
  pub stands : (c : List ℕ) → disk.may_leave c → IsWithOrWithout payloads unsettled c

-- the same of the end of a journal
abbrev pub KeepsOn : Type 0 → DiskView → Tail → List (List ℕ) → Option (List ℕ) → Type 0
KeepsOn tells disk tail payloads unsettled = KeepsAt tells disk tail.gate tail.unsettled payloads unsettled

abbrev pub Keeps : {D : Type 0} {g : Ghosts D} → Journal D g → List (List ℕ) → Option (List ℕ) → Type 0
Keeps {D} {g} journal payloads unsettled = KeepsOn g.tells (g.view journal.disk) journal.tail payloads unsettled

-- the disk that a journal owns
abbrev pub disk_of : {D : Type 0} {g : Ghosts D} → Journal D g → D
disk_of journal = journal.disk

-- how many bytes the text of a journal has, its closed gate among them
abbrev pub text_length : {D : Type 0} {g : Ghosts D} → Journal D g → ℕ
text_length journal = journal.tail.gate + 1

-- neither the disk nor the end of the journal has changed
abbrev pub IsUntouched : {D : Type 0} {g : Ghosts D} → Journal D g → Journal D g → Type 0
IsUntouched old new = (new.disk ≡ old.disk) × (new.tail ≡ old.tail)

-- after a write and a sync
pub record Through {E : Type 0} (at : ℕ) (bytes : List ℕ) (old new : DiskView) (result : Result Unit E) : Type 0 where
  pub durable : OnOk result ((c : List ℕ) → new.may_leave c → Holds old.seen at bytes c)
  pub crash : (c : List ℕ) → new.may_leave c → AfterWrite at (length bytes) old.may_leave c
  pub any_moment : LeavesOnly old new (AfterWrite at (length bytes) old.may_leave)

-- Up to the first sync that succeeds a crash leaves what it could leave before, and from then on a file that has P.
abbrev pub Opens : {D : Type 0} → (D → DiskView) → D → D → (List ℕ → Type 0) → Type 0
Opens {D} view old new P =
    (LeavesOnly (view old) (view new) (view old).may_leave × ((view new).sync_count ≡ (view old).sync_count))
    ⊎ ((middle : D) × ((view middle).sync_count ≡ (view old).sync_count + 1) × LeavesOnly (view old) (view middle) (view old).may_leave × LeavesOnly (view middle) (view new) P)

-- whatever a crash leaves has at most nine bytes
abbrev pub IsShort : DiskView → Type 0
IsShort disk = (c : List ℕ) → disk.may_leave c → length c ≤ 9
