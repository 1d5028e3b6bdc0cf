-- The record of a disk in memory after a call.
use Rattle.std.proofs.Common.{◌≡◌, ◌⊎◌, ℕ, ◌+◌, ◌-◌, ◌≤◌, ◌<◌, ◌^◌, min, List, [], ◌∷◌, ◌++◌, length, Bool, true, false, Vec, inl, inr, refl, sym, ◌∙◌, ap, subst, arith, length-append}
use Rattle.std.specs.Prelude.{if◌then◌else◌, vec_capacity, Ok, Err}
use Rattle.std.proofs.lemmas.Bool.{cases_eq}
use Rattle.std.proofs.lemmas.List.{append-nil, take_all}
use Rattle.std.specs.declared.alloc.Global.{Global}
use Rattle.uc_outside.specs.Call.{Call, Wrote, Spoilt, logged, calls_of}
use Rattle.uc_outside.specs.Count.{HasCause}
use Rattle.uc_outside.specs.Disk.{DiskView, Rests, Writes, Syncs}
use Rattle.uc_outside.specs.Kept.{IsKept}
use Rattle.uc_outside.specs.Replay.{contents, StaysWithin, told_by}
use Rattle.uc_outside.specs.declared.counter.Counter.{Counter}
use Rattle.uc_outside.specs.declared.done.Done.{Done}
use Rattle.uc_outside.specs.declared.done.Done.TheVariants as done
use Rattle.uc_outside.specs.declared.mem_disk.MemDisk.TheInside.{Inside}
use Rattle.uc_outside.proofs.Replay.{calls_of-push, calls_of-quiet, contents-append, within-append, logged-push, wrote, spoilt, unspoilt, synced}

-- a count that a failed call raised
pub counted : {T E : Type 0} (old new : ℕ) (b : Bool) (fault : E) → b ≡ true → new ≡ (if b then min (old + 1) (2 ^ 64 - 1) else old) → old ≤ new → HasCause {T = T} old new (Err fault)
counted old new true fault is new_is later = record { later = later; failed = λ _. omega arith }
counted old new false fault is new_is later = absurd (cc is)

-- only the counter has changed
pub kept_quiet : (disk : Inside) (counter : Counter) → IsKept disk → counter.script.room ≤ disk.counter.script.room → counter.left ≤ disk.counter.left
    → IsKept (record { first = disk.first; file = disk.file; log = disk.log; done = disk.done; counter = counter })
kept_quiet disk counter kept room left = record {
  reads = kept.reads;
  within = kept.within;
  sizes = kept.sizes;
  file_room = omega (arith, kept.file_room);
  log_room = omega (arith, kept.log_room);
  done_room = omega (arith, kept.done_room);
}

-- one call more in the record
pub kept_more : (disk : Inside) (file log : Vec ℕ Global) (calls : Vec Done Global) (counter : Counter) (e : Done) (more : List ℕ) → IsKept disk
    → log.items ≡ disk.log.items ++ more → calls.items ≡ disk.done.items ++ e ∷ [] → file.items ≡ contents disk.file.items (calls_of more (e ∷ []))
    → logged (e ∷ []) ≡ length more → StaysWithin disk.file.items (calls_of more (e ∷ []))
    → length file.items + counter.script.room ≤ vec_capacity file → length log.items + counter.script.room ≤ vec_capacity log → counter.left ≤ vec_capacity calls - length calls.items
    → IsKept (record { first = disk.first; file = file; log = log; done = calls; counter = counter })
kept_more disk file log calls counter e more kept log_is calls_are file_is size within file_room log_room done_room = record {
  reads = ap (λ (l : List Call). contents disk.first l) grown ∙ contents-append (calls_of disk.log.items disk.done.items) (calls_of more (e ∷ [])) disk.first
      ∙ ap (λ (f : List ℕ). contents f (calls_of more (e ∷ []))) kept.reads ∙ sym file_is;
  within = subst (StaysWithin disk.first) (sym grown) (within-append (calls_of disk.log.items disk.done.items) (calls_of more (e ∷ [])) disk.first kept.within
      (subst (λ (f : List ℕ). StaysWithin f (calls_of more (e ∷ []))) (sym kept.reads) within));
  sizes = ap logged calls_are ∙ logged-push disk.done.items e ∙ omega (arith, kept.sizes, size, ap length log_is, length-append disk.log.items more);
  file_room = file_room;
  log_room = log_room;
  done_room = done_room;
}
  where
    grown : calls_of log.items calls.items ≡ calls_of disk.log.items disk.done.items ++ calls_of more (e ∷ [])
    grown = ap (λ (l : List ℕ). calls_of l calls.items) log_is ∙ ap (λ (l : List Done). calls_of (disk.log.items ++ more) l) calls_are ∙ calls_of-push disk.done.items e disk.log.items more kept.sizes

pub rests_here : (view : DiskView) → Rests view view
rests_here view = record {
  seen = refl;
  crash = λ c now. now;
  sync_count = refl;
  time = record { later = omega arith; counts = omega arith; nothing_else = λ t c le left. inl left; keeps = λ t c le left. left };
}

-- the record of a call that is not in the log
module _ (first log : List ℕ) (calls calls' : List Done) (e : Done) (sizes : logged calls ≡ length log) (are : calls' ≡ calls ++ e ∷ []) where
  pub grown_quiet : calls_of log calls' ≡ calls_of log calls ++ calls_of [] (e ∷ [])
  grown_quiet = ap (λ (l : List Done). calls_of log l) are ∙ calls_of-quiet calls e log sizes

pub synced_told : {E : Type 0} (first log : List ℕ) (calls calls' : List Done) → logged calls ≡ length log → calls' ≡ calls ++ done.Synced ∷ []
    → Syncs {E = E} (told_by first (calls_of log calls)) (told_by first (calls_of log calls')) (Ok tt)
synced_told {E} first log calls calls' sizes are =
    subst (λ (l : List Call). Syncs {E = E} (told_by first (calls_of log calls)) (told_by first l) (Ok tt)) (sym (grown_quiet first log calls calls' done.Synced sizes are)) (synced first (calls_of log calls))

-- a write that succeeds
module _ (log log' : List ℕ) (calls calls' : List Done) (at : ℕ) (bytes : List ℕ) (sizes : logged calls ≡ length log) (log_is : log' ≡ log ++ bytes) (are : calls' ≡ calls ++ done.Wrote at (length bytes) ∷ []) where
  pub grown_wrote : calls_of log' calls' ≡ calls_of log calls ++ Wrote at bytes ∷ []
  grown_wrote = ap (λ (l : List ℕ). calls_of l calls') log_is ∙ ap (λ (l : List Done). calls_of (log ++ bytes) l) are ∙ calls_of-push calls (done.Wrote at (length bytes)) log bytes sizes
      ∙ ap (λ (l : List ℕ). calls_of log calls ++ Wrote at l ∷ []) (take_all (length bytes) bytes (omega arith))

  pub wrote_told : {E : Type 0} (first file : List ℕ) → contents first (calls_of log calls) ≡ file → at ≤ length file
      → Writes {E = E} at bytes (told_by first (calls_of log calls)) (told_by first (calls_of log' calls')) (Ok tt)
  wrote_told {E} first file reads le =
      subst (λ (l : List Call). Writes {E = E} at bytes (told_by first (calls_of log calls)) (told_by first l) (Ok tt)) (sym grown_wrote) (wrote first (calls_of log calls) at bytes (omega (arith, ap length reads)))

-- a write that fails, where memory may be wanting for its record
spoilt_calls : (log : List ℕ) (b : Bool) (calls calls' : List Done) (at n : ℕ) → logged calls ≡ length log → calls' ≡ (if b then calls ++ done.Spoilt at n ∷ [] else calls)
    → (calls_of log calls' ≡ calls_of log calls ++ Spoilt at n ∷ []) ⊎ (calls_of log calls' ≡ calls_of log calls)
spoilt_calls log true calls calls' at n sizes are = inl (grown_quiet [] log calls calls' (done.Spoilt at n) sizes are)
spoilt_calls log false calls calls' at n sizes are = inr (ap (λ (l : List Done). calls_of log l) are)

pub spoilt_told : {E : Type 0} (fault : E) (first log : List ℕ) (b : Bool) (calls calls' : List Done) (at : ℕ) (bytes : List ℕ) → logged calls ≡ length log → calls' ≡ (if b then calls ++ done.Spoilt at (length bytes) ∷ [] else calls)
    → Writes {E = E} at bytes (told_by first (calls_of log calls)) (told_by first (calls_of log calls')) (Err fault)
spoilt_told {E} fault first log b calls calls' at bytes sizes are = elim (spoilt_calls log b calls calls' at (length bytes) sizes are) [
  | inl more ↦ subst (λ (l : List Call). Writes {E = E} at bytes (told_by first (calls_of log calls)) (told_by first l) (Err fault)) (sym more) (spoilt first (calls_of log calls) at bytes fault)
  | inr same ↦ subst (λ (l : List Call). Writes {E = E} at bytes (told_by first (calls_of log calls)) (told_by first l) (Err fault)) (sym same) (unspoilt first (calls_of log calls) at bytes fault)
]

-- where there is room, the record is there
pub spoilt_recorded : (log : List ℕ) (b : Bool) (calls calls' : List Done) (at n left : ℕ) → logged calls ≡ length log → calls' ≡ (if b then calls ++ done.Spoilt at n ∷ [] else calls) → (0 < left → b ≡ true)
    → (calls_of log calls' ≡ calls_of log calls ++ Spoilt at n ∷ []) ⊎ ((left ≡ 0) × (calls_of log calls' ≡ calls_of log calls))
spoilt_recorded log true calls calls' at n left sizes are room = inl (grown_quiet [] log calls calls' (done.Spoilt at n) sizes are)
spoilt_recorded log false calls calls' at n left sizes are room = elim (cases_eq left 0) [
  | inl none ↦ inr (none, ap (λ (l : List Done). calls_of log l) are)
  | inr some ↦ absurd (cc (room (omega arith)))
]

-- the room for the calls that are left
pub left_after : (b : Bool) (left room room' : ℕ) (calls calls' : List Done) (e : Done) → left ≤ room - length calls → room ≤ room' → calls' ≡ (if b then calls ++ e ∷ [] else calls) → left - 1 ≤ room' - length calls'
left_after true left room room' calls calls' e fits more are = omega (arith, ap length are, length-append calls (e ∷ []))
left_after false left room room' calls calls' e fits more are = omega (arith, ap length are)

-- what is kept after a write that fails
pub kept_spoilt : (disk : Inside) (calls : Vec Done Global) (counter : Counter) (b : Bool) (at n : ℕ) → IsKept disk → calls.items ≡ (if b then disk.done.items ++ done.Spoilt at n ∷ [] else disk.done.items) → at ≤ length disk.file.items
    → counter.script.room ≤ disk.counter.script.room → counter.left ≤ vec_capacity calls - length calls.items
    → IsKept (record { first = disk.first; file = disk.file; log = disk.log; done = calls; counter = counter })
kept_spoilt disk calls counter true at n kept are le room left =
    kept_more disk disk.file disk.log calls counter (done.Spoilt at n) [] kept (sym (append-nil disk.log.items)) are refl refl (le, tt) (omega (arith, kept.file_room)) (omega (arith, kept.log_room)) left
kept_spoilt disk calls counter false at n kept are le room left = record {
  reads = ap (λ (l : List Done). contents disk.first (calls_of disk.log.items l)) are ∙ kept.reads;
  within = subst (λ (l : List Done). StaysWithin disk.first (calls_of disk.log.items l)) (sym are) kept.within;
  sizes = ap logged are ∙ kept.sizes;
  file_room = omega (arith, kept.file_room);
  log_room = omega (arith, kept.log_room);
  done_room = left;
}
