-- The rule of the turnstile's table, and what each step on it tells.
-- Word 0 is the number of tickets drawn, and word 1 the ticket that is served, which is the number of finished turns. Slot 0 has the state, or is out with the seat whose ticket is served.
use Rattle.std.specs.Prelude.{◌≡◌, ◌≢◌, ℕ, zero, suc, ◌+◌, ◌-◌, ◌*◌, ◌^◌, ◌<◌, ◌≤◌, ◌⊎◌, ◌&&◌, Bool, true, false, if◌then◌else◌, ◌==◌, nat_lt, List, [], ◌∷◌, ◌++◌, length, slice_get, slice_index, Option, Some}
use mathlib.Core.List.{IsPrefix}
use mathlib.Core.Option.{none, some}
use lib.ListN.{get_elem?}
use Rattle.atomic_table.specs.Table.{State, Me, Step}
use Rattle.uc_base.specs.Worked.{Extends}
use Rattle.uc_turnstile.specs.declared.view.TurnRow.{TurnRow}
use Rattle.uc_turnstile.specs.declared.view.PassRecord.{PassRecord}
use Rattle.uc_turnstile.specs.declared.view.Stage.{Stage}
use Rattle.uc_turnstile.specs.declared.view.Stage.TheVariants.{Idle, Drawn, Served, Spent}
use Rattle.uc_turnstile.specs.declared.view.SeatView.{SeatView}
use Rattle.uc_turnstile.specs.Lists.{bit, total, longer, shorter, first_or, rest_of}
use Rattle.uc_turnstile.specs.Passes.{PassView, new_record, name_count, entries_at, AllInPlace, place_count}

-- the seat holds the state
abbrev pub is_served : Stage → Bool
is_served (Served t f) = true
is_served _ = false

-- the seat has no ticket
abbrev pub is_idle : Stage → Bool
is_idle Idle = true
is_idle _ = false

-- the seat was met into another
abbrev pub is_spent : Stage → Bool
is_spent Spent = true
is_spent _ = false

-- the count of faults at which the state was found
abbrev pub faults_of : Stage → ℕ
faults_of (Served t f) = f
faults_of _ = 0

-- what the seat j, which has seen `seen`, knows of its own ticket
abbrev pub KnowsTicket : {E : Type 0} → ℕ → ℕ → List E → (ℕ → ℕ) → ℕ → List E → Stage → Type 0
KnowsTicket tickets serving log holder j seen Idle = Unit {0}
KnowsTicket tickets serving log holder j seen Spent = Unit {0}
KnowsTicket tickets serving log holder j seen (Drawn t) = (t < tickets) × (holder t ≡ j)
KnowsTicket tickets serving log holder j seen (Served t f) = (t ≡ serving) × (t < tickets) × (holder t ≡ j) × (seen ≡ log)

-- the records of k new passes, numbered from i on
abbrev pub new_records : {E Q R : Type 0} → ℕ → ℕ → List (PassRecord E Q R)
new_records i zero = []
new_records i (suc k) = new_record i ∷ new_records (suc i) k

module _ {E Q R : Type 0} where
  -- what callers see of a seat
  abbrev pub pass_view : SeatView E Q R → PassView E Q R
  pass_view v = record { seen = v.seen; own = v.own; met = v.met }

  -- how many tickets the seat may still draw, for itself and those that are split from it
  abbrev pub room_of : SeatView E Q R → ℕ
  room_of v = v.room

  -- the passes that a seat holds: its own, and those that were met into it
  abbrev pub records_of : SeatView E Q R → List (PassRecord E Q R)
  records_of v = if is_spent v.stage then [] else v.own ∷ v.met

  -- 1 for the pass i of the new turnstile, if more than j passes were split from it
  abbrev pub split_count : ℕ → ℕ → PassRecord E Q R → ℕ
  split_count i j pass = bit (pass.name.number == i && (pass.name.split == 0 && nat_lt j pass.splits))

  -- how many turns the pass made
  abbrev pub turn_count : PassRecord E Q R → ℕ
  turn_count pass = length pass.turns

  -- the same sums over what a seat holds
  abbrev pub names_held : ℕ → ℕ → SeatView E Q R → ℕ
  names_held i j v = total (name_count i j) (records_of v)

  abbrev pub splits_held : ℕ → ℕ → SeatView E Q R → ℕ
  splits_held i j v = total (split_count i j) (records_of v)

  abbrev pub entries_held : ℕ → SeatView E Q R → ℕ
  entries_held p v = entries_at p (records_of v)

  abbrev pub turns_held : SeatView E Q R → ℕ
  turns_held v = total turn_count (records_of v)

  -- what the seat j knows
  pub record Knows (tickets serving : ℕ) (opening log : List E) (holder : ℕ → ℕ) (j : ℕ) (v : SeatView E Q R) : Type 0 where
    pub seen : IsPrefix v.seen log
    pub ticket : KnowsTicket tickets serving log holder j v.seen v.stage
    pub beside : IsPrefix v.beside v.seen
    pub opened : is_spent v.stage ≡ false → length opening ≤ length v.seen
    pub in_place : AllInPlace v.seen (records_of v)

  -- so many turns are finished, no two seats hold a pass of one name, each split pass is held, and each place from the opening on is that of one turn
  pub record IsCounted (n finished opening log : ℕ) (views : List (SeatView E Q R)) : Type 0 where
    pub turns : total turns_held views ≡ finished
    pub firsts : (i : ℕ) → total (names_held i 0) views ≤ bit (nat_lt i n)
    pub splits : (i j : ℕ) → total (names_held i (j + 1)) views ≡ total (splits_held i j) views
    pub places : (p : ℕ) → total (entries_held p) views ≡ place_count opening log p

  -- a seat after the draw of the ticket t
  abbrev pub view_drawn : SeatView E Q R → ℕ → SeatView E Q R
  view_drawn v t = record { seen = v.seen; beside = v.beside; own = v.own; met = v.met; stage = Drawn t; room = v.room - 1 }

  -- once its ticket is served, where the state has the list `log`
  abbrev pub view_served : SeatView E Q R → ℕ → List E → ℕ → SeatView E Q R
  view_served v t log faults = record { seen = log; beside = v.beside; own = v.own; met = v.met; stage = Served t faults; room = v.room }

  -- the row of a turn that left the list `now`
  abbrev pub turn_row : SeatView E Q R → List E → ℕ → Q → R → TurnRow E Q R
  turn_row v now faults q r = record { place = length v.seen; request = q; reply = r; entry = slice_get now (length v.seen); faults_before = faults_of v.stage; faults_after = faults }

  -- a pass with one turn more
  abbrev pub record_with : PassRecord E Q R → TurnRow E Q R → PassRecord E Q R
  record_with pass row = record { name = pass.name; splits = pass.splits; turns = pass.turns ++ row ∷ [] }

  -- after the turn, which left the list `now`
  abbrev pub view_passed : SeatView E Q R → List E → ℕ → Q → R → SeatView E Q R
  view_passed v now faults q r = record { seen = now; beside = v.beside; own = record_with v.own (turn_row v now faults q r); met = v.met; stage = Idle; room = v.room }

  -- the pass that is split, and the one that comes of it
  abbrev pub split_left : SeatView E Q R → SeatView E Q R
  split_left v = record { seen = v.seen; beside = v.beside; own = record { name = v.own.name; splits = v.own.splits + 1; turns = v.own.turns }; met = v.met; stage = v.stage; room = v.room - 2 ^ 40 }

  abbrev pub split_right : SeatView E Q R → SeatView E Q R
  split_right v = record { seen = v.seen; beside = []; own = record { name = record { number = v.own.name.number; split = v.own.splits + 1 }; splits = 0; turns = [] }; met = []; stage = Idle; room = 2 ^ 40 }

  -- while passes are made, one seat holds those that are still to be dealt
  abbrev pub deal_left : SeatView E Q R → SeatView E Q R
  deal_left v = record { seen = v.seen; beside = v.beside; own = first_or v.own v.met; met = rest_of v.met; stage = v.stage; room = v.room - 16 * 2 ^ 40 }

  -- and the next is dealt
  abbrev pub deal_right : SeatView E Q R → SeatView E Q R
  deal_right v = record { seen = v.seen; beside = []; own = v.own; met = []; stage = Idle; room = 16 * 2 ^ 40 }

  -- a seat that another was met into; the shorter list is kept until it is known to begin the longer
  abbrev pub view_joined : SeatView E Q R → SeatView E Q R → SeatView E Q R
  view_joined v w = record { seen = longer v.seen w.seen; beside = shorter v.seen w.seen; own = v.own; met = v.met ++ (w.own ∷ w.met); stage = v.stage; room = v.room }

  -- the seat that was met into it
  abbrev pub spent_view : SeatView E Q R
  spent_view = record { seen = []; beside = []; own = new_record 0; met = []; stage = Spent; room = 0 }

  -- the seat of the dealer, with the pass i and the k next
  abbrev pub dealer_view : ℕ → ℕ → List E → SeatView E Q R
  dealer_view i k log = record { seen = log; beside = []; own = new_record i; met = new_records (i + 1) k; stage = Idle; room = (k + 1) * (16 * 2 ^ 40) }

  -- the seat of the pass i of the new turnstile, before its first turn
  abbrev pub new_view : ℕ → List E → SeatView E Q R
  new_view i log = record { seen = log; beside = []; own = new_record i; met = []; stage = Idle; room = 16 * 2 ^ 40 }

  -- the first seat, of n passes
  abbrev pub first_view : ℕ → List E → SeatView E Q R
  first_view n log = dealer_view 0 (n - 1) log

-- the seat has the state out
abbrev pub IsHeld : {T E Q R : Type 0} → Me (Option T) (SeatView E Q R) → Type 0
IsHeld {T} {E} {Q} {R} m = (x : T) × (m.1 ≡ (0, Some x) ∷ [])

module _ {T E Q R : Type 0} (entries : T → List E) where
  -- the slot has the state, whose list is the log
  abbrev pub IsHome : List E → State (Option T) (SeatView E Q R) → Type 0
  IsHome log s = (x : T) × (s.homes ≡ some (Some x) ∷ []) × (entries x ≡ log)

  -- a seat that was served has the state
  abbrev pub IsOut : State (Option T) (SeatView E Q R) → Type 0
  IsOut s = (s.homes ≡ none ∷ []) × ((k : ℕ) × (v : SeatView E Q R) × (get_elem? s.views k ≡ some v) × (is_served v.stage ≡ true))

  -- there is one history; each seat has seen a beginning of it, and the state in the slot has it as its list
  pub record Stands (n : ℕ) (opening : List E) (s : State (Option T) (SeatView E Q R)) : Type 0 where
    pub log : List E
    pub holder : ℕ → ℕ
    pub wide : length s.words ≡ 2
    pub behind : slice_index s.words 1 ≤ slice_index s.words 0
    pub bounded : slice_index s.words 0 + total room_of s.views ≤ 2 ^ 60
    pub opened : length opening ≤ length log
    pub slot : IsHome log s ⊎ IsOut s
    pub each_seat : (j : ℕ) (v : SeatView E Q R) → get_elem? s.views j ≡ some v → Knows (slice_index s.words 0) (slice_index s.words 1) opening log holder j v
    pub counted : IsCounted n (slice_index s.words 1) (length opening) (length log) s.views

  -- a draw: the seat has the ticket that it found
  abbrev pub Draws : Step (Option T) → Me (Option T) (SeatView E Q R) → ℕ → Me (Option T) (SeatView E Q R) → Type 0
  Draws st m r m' = m' ≡ (view_drawn m.0 r, m.1)

  -- nothing changes, and what the seat knows is told
  abbrev pub Tells : Step (Option T) → Me (Option T) (SeatView E Q R) → ℕ → Me (Option T) (SeatView E Q R) → Type 0
  Tells st m r m' = (m' ≡ m) × IsPrefix m.0.beside m.0.seen × ((p : ℕ) → entries_held p m.0 ≤ 1)

  module _ (faults : T → ℕ) where
    -- the seat has the state, at the ticket t
    pub record IsServed (v : SeatView E Q R) (t : ℕ) (m : Me (Option T) (SeatView E Q R)) : Type 0 where
      pub kept : T
      pub now : m ≡ (view_served v t (entries kept) (faults kept), (0, Some kept) ∷ [])
      pub later : IsPrefix v.seen (entries kept)

    -- a look at the serving word: the seat is served where it finds its ticket, and else stays
    abbrev pub Looks : Step (Option T) → Me (Option T) (SeatView E Q R) → ℕ → Me (Option T) (SeatView E Q R) → Type 0
    Looks st m r m' = (t : ℕ) → m.0.stage ≡ Drawn t → (r ≡ t → IsServed m.0 t m') × (r ≢ t → m' ≡ m)

    -- the turn that was asked and answered so is passed on
    abbrev pub PassesOn : Option (Q × R) → Me (Option T) (SeatView E Q R) → Me (Option T) (SeatView E Q R) → Type 0
    PassesOn call m m' = (x : T) (q : Q) (p : R) → m.1 ≡ (0, Some x) ∷ [] → call ≡ Some (q, p)
        → m' ≡ (view_passed m.0 (entries x) (faults x) q p, [])

    -- the same as a step
    abbrev pub Passes : Option (Q × R) → Step (Option T) → Me (Option T) (SeatView E Q R) → ℕ → Me (Option T) (SeatView E Q R) → Type 0
    Passes call st m r m' = PassesOn call m m'

    -- the state was taken out, worked on and given back
    pub record HasWorked (tied : List E → List E → Q → R → ℕ → ℕ → Type 0) (request : Q) (reply : R) (m m' : Me (Option T) (SeatView E Q R)) : Type 0 where
      pub old : T
      pub new : T
      pub before : m.1 ≡ (0, Some old) ∷ []
      pub after : m' ≡ (m.0, (0, Some new) ∷ [])
      pub more : Extends (entries old) (entries new)
      pub counted : faults old ≤ faults new
      pub is_tied : tied (entries old) (entries new) request reply (faults old) (faults new)

  -- the seat may pass on: it holds the state, whose list extends what it has seen
  pub record MayPass (m : Me (Option T) (SeatView E Q R)) : Type 0 where
    pub ticket : ℕ
    pub faults : ℕ
    pub kept : T
    pub stage : m.0.stage ≡ Served ticket faults
    pub out : m.1 ≡ (0, Some kept) ∷ []
    pub more : Extends m.0.seen (entries kept)
