-- What the calls of a disk do to its file, and what a crash may do between two syncs.
use Rattle.std.specs.Prelude.{◌≡◌, ◌⊎◌, ℕ, ◌+◌, ◌≤◌, max, List, [], ◌++◌, length, take, drop, Result, OnOk, OnErr}

-- what a disk tells at one moment
pub record DiskView : Type 1 where
  -- the bytes that a read gives
  pub seen : List ℕ
  -- the images that a crash now may leave
  pub may_leave : List ℕ → Type 0
  -- the moment, as a number that doesn't fall
  pub moment : ℕ
  -- what a crash at some moment from that one on might have left
  pub might_have_left : ℕ → List ℕ → Type 0
  -- how many syncs have succeeded
  pub sync_count : ℕ

-- what a disk tells that tells nothing
abbrev pub untold : DiskView
untold = record { seen = []; may_leave = λ _. ⊥; moment = 0; might_have_left = λ _ _. ⊥; sync_count = 0 }

-- new is old with these bytes at this offset
abbrev pub Holds : List ℕ → ℕ → List ℕ → List ℕ → Type 0
Holds old at bytes new = new ≡ take at old ++ bytes ++ drop (at + length bytes) old

-- after a write of n bytes that is cut short: any bytes in the range and past the old end, the same elsewhere
pub record Torn (at n : ℕ) (old new : List ℕ) : Type 0 where
  pub before : take at new ≡ take at old
  pub after : drop (at + n) new ≡ drop (at + n) old
  pub no_shorter : length old ≤ length new
  pub no_longer : length new ≤ max (length old) (at + n)

-- one of the old images, torn by a write
abbrev pub AfterWrite : ℕ → ℕ → (List ℕ → Type 0) → List ℕ → Type 0
AfterWrite at n old c = (d : List ℕ) × old d × Torn at n d c

-- a crash leaves this and nothing else
abbrev pub Only : List ℕ → (List ℕ → Type 0) → Type 0
Only file images = (c : List ℕ) → images c → c ≡ file

-- each new image is an old one
abbrev pub NoNew : (List ℕ → Type 0) → (List ℕ → Type 0) → Type 0
NoNew old new = (c : List ℕ) → new c → old c

-- time goes on: a crash since t might have left what it might have left before, or what it may leave now
pub record Elapses (old new : DiskView) : Type 0 where
  pub later : old.moment ≤ new.moment
  pub counts : old.sync_count ≤ new.sync_count
  pub nothing_else : (t : ℕ) (c : List ℕ) → t ≤ old.moment → new.might_have_left t c → old.might_have_left t c ⊎ new.may_leave c
  pub keeps : (t : ℕ) (c : List ℕ) → t ≤ old.moment → old.might_have_left t c → new.might_have_left t c

-- a call that leaves what reads give and settles nothing
pub record Rests (old new : DiskView) : Type 0 where
  pub seen : new.seen ≡ old.seen
  pub crash : NoNew old.may_leave new.may_leave
  pub sync_count : new.sync_count ≡ old.sync_count
  pub time : Elapses old new

-- a write
pub record Writes {E : Type 0} (at : ℕ) (bytes : List ℕ) (old new : DiskView) (result : Result Unit E) : Type 0 where
  pub written : OnOk result (Holds old.seen at bytes new.seen)
  pub spoilt : OnErr result (Torn at (length bytes) old.seen new.seen)
  pub crash : (c : List ℕ) → new.may_leave c → AfterWrite at (length bytes) old.may_leave c
  pub sync_count : new.sync_count ≡ old.sync_count
  pub time : Elapses old new

-- a sync: after it a crash leaves what a read gives; one that fails settles nothing
pub record Syncs {E : Type 0} (old new : DiskView) (result : Result Unit E) : Type 0 where
  pub durable : OnOk result (Only old.seen new.may_leave)
  pub counted : OnOk result (new.sync_count ≡ old.sync_count + 1)
  pub uncounted : OnErr result (new.sync_count ≡ old.sync_count)
  pub seen : new.seen ≡ old.seen
  pub crash : NoNew old.may_leave new.may_leave
  pub time : Elapses old new

-- what every disk keeps that tells its content
pub record IsSound (disk : DiskView) : Type 0 where
  -- what a read gives is one of the images
  pub seen_left : disk.may_leave disk.seen
  -- this moment is one of those since an earlier one
  pub counts_now : (t : ℕ) (c : List ℕ) → t ≤ disk.moment → disk.may_leave c → disk.might_have_left t c
  -- since this moment there is no other
  pub only_now : (c : List ℕ) → disk.might_have_left disk.moment c → disk.may_leave c

-- a crash at any moment from old to new leaves a file that has P
pub record LeavesOnly (old new : DiskView) (P : List ℕ → Type 0) : Type 0 where
  pub later : old.moment ≤ new.moment
  pub counts : old.sync_count ≤ new.sync_count
  pub each : (c : List ℕ) → new.might_have_left old.moment c → P c
  -- for a run that began earlier
  pub before : (t : ℕ) (c : List ℕ) → t ≤ old.moment → new.might_have_left t c → old.might_have_left t c ⊎ P c
  -- nothing that might have been left is forgotten
  pub keeps : (t : ℕ) (c : List ℕ) → t ≤ old.moment → old.might_have_left t c → new.might_have_left t c

-- Up to some moment a crash leaves a file that has P, and from then on one that has Q. If that moment doesn't come, P.
abbrev pub LeavesThen : {D : Type 0} → (D → DiskView) → D → D → (List ℕ → Type 0) → (List ℕ → Type 0) → Type 0
LeavesThen {D} view old new P Q = LeavesOnly (view old) (view new) P ⊎ ((middle : D) × LeavesOnly (view old) (view middle) P × LeavesOnly (view middle) (view new) Q)
