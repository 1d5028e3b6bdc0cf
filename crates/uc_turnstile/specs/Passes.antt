-- Passes: their names, their turns, what they have seen, and whom they met.
use Rattle.std.specs.Prelude.{◌≡◌, ℕ, ◌+◌, ◌<◌, ◌≤◌, ◌&&◌, ◌==◌, nat_lt, nat_le, List, [], ◌∷◌, ◌++◌, length, slice_get, Option, None, Some, MatchOption}
use mathlib.Core.List.{IsPrefix}
use Rattle.uc_turnstile.specs.declared.view.TurnRow.{TurnRow}
use Rattle.uc_turnstile.specs.declared.view.PassRecord.{PassRecord}
use Rattle.uc_turnstile.specs.Lists.{bit, total, Each, IsLongerOf}

-- What a pass is: the entries that it has seen, its own name, splits and turns, and those of the passes that were met into it
pub record PassView (E Q R : Type 0) : Type 0 where
  pub seen : List E
  pub own : PassRecord E Q R
  pub met : List (PassRecord E Q R)

-- 1 where there is an entry, and its place is p
abbrev pub entries_if : {E : Type 0} → ℕ → ℕ → Option E → ℕ
entries_if p place None = 0
entries_if p place (Some e) = bit (place == p)

-- 1 for the places from `start` on, before `end`
abbrev pub place_count : ℕ → ℕ → ℕ → ℕ
place_count start end p = bit (nat_le start p && nat_lt p end)

module _ {E Q R : Type 0} where
  -- a pass with the number i that wasn't split from another, before its first turn
  abbrev pub new_record : ℕ → PassRecord E Q R
  new_record i = record { name = record { number = i; split = 0 }; splits = 0; turns = [] }

  -- the pass with the number i of a new turnstile, before its first turn
  abbrev pub new_pass : ℕ → List E → PassView E Q R
  new_pass i opening = record { seen = opening; own = new_record i; met = [] }

  -- a pass and all that were met into it
  abbrev pub passes_in : PassView E Q R → List (PassRecord E Q R)
  passes_in pass = pass.own ∷ pass.met

  -- 1 for the pass of that name
  abbrev pub name_count : ℕ → ℕ → PassRecord E Q R → ℕ
  name_count i j pass = bit (pass.name.number == i && pass.name.split == j)

  -- the pass of that name is among these
  abbrev pub HasPass : List (PassRecord E Q R) → ℕ → ℕ → Type 0
  HasPass passes i j = 0 < total (name_count i j) passes

  -- 1 for a turn that made an entry at the place p
  abbrev pub entries_of_row : ℕ → TurnRow E Q R → ℕ
  entries_of_row p row = entries_if p row.place row.entry

  -- how many turns of this pass made an entry at the place p
  abbrev pub entries_of_pass : ℕ → PassRecord E Q R → ℕ
  entries_of_pass p pass = total (entries_of_row p) pass.turns

  -- how many turns of these passes made an entry at the place p
  abbrev pub entries_at : ℕ → List (PassRecord E Q R) → ℕ
  entries_at p passes = total (entries_of_pass p) passes

  -- the entry that the turn made, if it made one, stands in the list at the turn's place
  abbrev pub IsInPlace : List E → TurnRow E Q R → Type 0
  IsInPlace seen row = MatchOption row.entry (Unit {0}) (λ e. slice_get seen row.place ≡ Some e)

  -- each entry that these passes made stands in the list at its turn's place
  abbrev pub AllInPlace : List E → List (PassRecord E Q R) → Type 0
  AllInPlace seen passes = Each (λ pass. Each (IsInPlace seen) pass.turns) passes

  -- among these are each of the n passes of the new turnstile, and each pass that was split from one of these (a pass that was split off isn't split again)
  abbrev pub AreAllPasses : ℕ → List (PassRecord E Q R) → Type 0
  AreAllPasses n passes = ((i : ℕ) → i < n → HasPass passes i 0) × Each (λ pass. pass.name.split ≡ 0 → (j : ℕ) → j < pass.splits → HasPass passes pass.name.number (j + 1)) passes

  -- the pass and those that were met into it are all passes of a turnstile that was made with n
  abbrev pub HoldsAllPasses : ℕ → PassView E Q R → Type 0
  HoldsAllPasses n pass = AreAllPasses n (passes_in pass)

  -- A pass took a turn with this request and this reply
  pub record TakesTurn (tied : List E → List E → Q → R → ℕ → ℕ → Type 0) (request : Q) (reply : R) (old new : PassView E Q R) : Type 0 where
    -- the turn's row, and the history before the turn
    pub row : TurnRow E Q R
    pub history : List E
    pub added : new.own.turns ≡ old.own.turns ++ row ∷ []
    pub name : new.own.name ≡ old.own.name
    pub splits : new.own.splits ≡ old.own.splits
    pub met : new.met ≡ old.met
    pub place : row.place ≡ length history
    pub asked : row.request ≡ request
    pub answered : row.reply ≡ reply
    -- what had been seen begins the history, and the history begins what is seen now
    pub seen_before : IsPrefix old.seen history
    pub seen_after : IsPrefix history new.seen
    -- which is the history with the turn's entry at its end, or the history alone
    pub entry : MatchOption row.entry (new.seen ≡ history) (λ e. new.seen ≡ history ++ e ∷ [])
    pub faults : row.faults_before ≤ row.faults_after
    pub is_tied : tied history new.seen row.request row.reply row.faults_before row.faults_after

  -- A pass was split off, which has seen the same and has no turns
  pub record SplitsOff (old new off : PassView E Q R) : Type 0 where
    pub seen : new.seen ≡ old.seen
    pub name : new.own.name ≡ old.own.name
    pub splits : new.own.splits ≡ old.own.splits + 1
    pub turns : new.own.turns ≡ old.own.turns
    pub met : new.met ≡ old.met
    pub off_seen : off.seen ≡ old.seen
    pub off_own : off.own ≡ record { name = record { number = old.own.name.number; split = old.own.splits + 1 }; splits = 0; turns = [] }
    pub off_met : off.met ≡ []

  -- A pass met another, and has seen then the longer of the two lists
  pub record Meets (old other new : PassView E Q R) : Type 0 where
    pub seen : IsLongerOf old.seen other.seen new.seen
    pub own : new.own ≡ old.own
    pub met : new.met ≡ old.met ++ passes_in other
    -- no two turns of both, with all that were met into them, made an entry at one place
    pub apart : (p : ℕ) → entries_at p (passes_in old) + entries_at p (passes_in other) ≤ 1

  -- From the opening history on, each place of the list is that of exactly one turn that made an entry, and that entry stands there
  pub record IsComplete (opening : List E) (last : PassView E Q R) : Type 0 where
    pub places : (p : ℕ) → entries_at p (passes_in last) ≡ place_count (length opening) (length last.seen) p
    pub in_place : AllInPlace last.seen (passes_in last)
