-- One more call joins the record of a disk in memory.
use Rattle.std.proofs.Common.{◌≡◌, inl, inr, ⊎_elim, ℕ, ◌+◌, ◌≤◌, List, [], ◌∷◌, ◌++◌, length, take, drop, refl, sym, ◌∙◌, ap, subst, arith, append_assoc, length-append, length-take, length-drop}
use Rattle.std.specs.Prelude.{Ok, Err}
use Rattle.std.proofs.lemmas.Bool.{cases_eq}
use Rattle.std.proofs.lemmas.List.{append-nil, take_all, take_at, drop_at, take-append-le, drop-append-le}
use Rattle.uc_outside.specs.Call.{Call, Wrote, Spoilt, Synced, logged, calls_of}
use Rattle.uc_outside.specs.Disk.{AfterWrite, Torn, Elapses, Writes, Syncs}
use Rattle.uc_outside.specs.Replay.{over, syncs_in, contents, StaysWithin, WrittenOrTorn, images, images_at, told_by}
use Rattle.uc_outside.specs.Sound.{torn_here, read_is_image}
use Rattle.uc_outside.specs.declared.done.Done.{Done}
use Rattle.uc_outside.specs.declared.done.Done.TheVariants as done

pub logged-push : (calls : List Done) (e : Done) → logged (calls ++ e ∷ []) ≡ logged calls + logged (e ∷ [])
logged-push [] e = omega arith
logged-push (done.Wrote at len ∷ calls) e = omega (arith, logged-push calls e)
logged-push (done.Spoilt at len ∷ calls) e = logged-push calls e
logged-push (done.Synced ∷ calls) e = logged-push calls e

-- the calls of a record that grew
pub calls_of-push : (calls : List Done) (e : Done) (log more : List ℕ) → logged calls ≡ length log → calls_of (log ++ more) (calls ++ e ∷ []) ≡ calls_of log calls ++ calls_of more (e ∷ [])
calls_of-push [] e [] more sizes = refl
calls_of-push [] e (x ∷ log) more sizes = absurd (omega arith)
calls_of-push (done.Wrote at len ∷ calls) e log more sizes =
    ap (λ (l : List ℕ). Wrote at l ∷ calls_of (drop len (log ++ more)) (calls ++ e ∷ [])) (take-append-le len log more (omega arith))
    ∙ ap (λ (l : List ℕ). Wrote at (take len log) ∷ calls_of l (calls ++ e ∷ [])) (drop-append-le len log more (omega arith))
    ∙ ap (λ (l : List Call). Wrote at (take len log) ∷ l) (calls_of-push calls e (drop len log) more (omega (arith, length-drop len log)))
calls_of-push (done.Spoilt at len ∷ calls) e log more sizes = ap (λ (l : List Call). Spoilt at len ∷ l) (calls_of-push calls e log more sizes)
calls_of-push (done.Synced ∷ calls) e log more sizes = ap (λ (l : List Call). Synced ∷ l) (calls_of-push calls e log more sizes)

-- the same where nothing was written
pub calls_of-quiet : (calls : List Done) (e : Done) (log : List ℕ) → logged calls ≡ length log → calls_of log (calls ++ e ∷ []) ≡ calls_of log calls ++ calls_of [] (e ∷ [])
calls_of-quiet calls e log sizes = ap (λ (l : List ℕ). calls_of l (calls ++ e ∷ [])) (sym (append-nil log)) ∙ calls_of-push calls e log [] sizes

syncs_in-push : (calls : List Call) (e : Call) → syncs_in (calls ++ e ∷ []) ≡ syncs_in calls + syncs_in (e ∷ [])
syncs_in-push [] e = omega arith
syncs_in-push (Wrote at bytes ∷ calls) e = syncs_in-push calls e
syncs_in-push (Spoilt at len ∷ calls) e = syncs_in-push calls e
syncs_in-push (Synced ∷ calls) e = omega (arith, syncs_in-push calls e)

pub contents-append : (calls more : List Call) (file : List ℕ) → contents file (calls ++ more) ≡ contents (contents file calls) more
contents-append [] more file = refl
contents-append (Wrote at bytes ∷ calls) more file = contents-append calls more (over file at bytes)
contents-append (Spoilt at len ∷ calls) more file = contents-append calls more file
contents-append (Synced ∷ calls) more file = contents-append calls more file

pub images-append : (calls more : List Call) (file : List ℕ) (before : List ℕ → Type 0) → images file before (calls ++ more) ≡ images (contents file calls) (images file before calls) more
images-append [] more file before = refl
images-append (Wrote at bytes ∷ calls) more file before = images-append calls more (over file at bytes) (WrittenOrTorn file at bytes before)
images-append (Spoilt at len ∷ calls) more file before = images-append calls more file (AfterWrite at len before)
images-append (Synced ∷ calls) more file before = images-append calls more file (λ d. d ≡ file)

pub within-append : (calls more : List Call) (file : List ℕ) → StaysWithin file calls → StaysWithin (contents file calls) more → StaysWithin file (calls ++ more)
within-append [] more file within next = next
within-append (Wrote at bytes ∷ calls) more file within next = (within.0, within-append calls more (over file at bytes) within.1 next)
within-append (Spoilt at len ∷ calls) more file within next = (within.0, within-append calls more file within.1 next)
within-append (Synced ∷ calls) more file within next = within-append calls more file within next

pub torn_over : (file bytes : List ℕ) (at : ℕ) → at ≤ length file → Torn at (length bytes) file (over file at bytes)
torn_over file bytes at le =
    let front : length (take at file) ≡ at = omega (arith, length-take at file) in
    let size = length-append (take at file ++ bytes) (drop (at + length bytes) file) in
    let size_front = length-append (take at file) bytes in record {
      before = ap (λ (l : List ℕ). take at l) (append_assoc (take at file) bytes (drop (at + length bytes) file)) ∙ take_at (take at file) (bytes ++ drop (at + length bytes) file) at front;
      after = drop_at (take at file ++ bytes) (drop (at + length bytes) file) (at + length bytes) (omega (arith, size_front, front));
      no_shorter = omega (arith, size, size_front, front, length-drop (at + length bytes) file);
      no_longer = omega (arith, size, size_front, front, length-drop (at + length bytes) file);
    }

module _ (first : List ℕ) (calls : List Call) (e : Call) where
  abbrev Fresh : List ℕ → Type 0
  Fresh d = d ≡ first

  images_now : (c : List ℕ) → images first Fresh (calls ++ e ∷ []) c → images (contents first calls) (images first Fresh calls) (e ∷ []) c
  images_now c now = subst (λ (P : List ℕ → Type 0). P c) (images-append calls (e ∷ []) first Fresh) now

  -- the images of an earlier moment
  earlier : (k : ℕ) → k ≤ length calls → images_at first (calls ++ e ∷ []) k ≡ images_at first calls k
  earlier k le = ap (λ (l : List Call). images first Fresh l) (take-append-le k calls (e ∷ []) le)

  elapses : Elapses (told_by first calls) (told_by first (calls ++ e ∷ []))
  elapses = record {
    later = omega (arith, length-append calls (e ∷ []));
    counts = omega (arith, syncs_in-push calls e);
    nothing_else = λ t c le left. elim (cases_eq left.0 (length calls + 1)) [
      | inl last ↦ inr (subst (λ (l : List Call). images first Fresh l c) (take_all left.0 (calls ++ e ∷ []) (omega (arith, last, length-append calls (e ∷ [])))) left.3)
      | inr not_last ↦
          let within : left.0 ≤ length calls = omega (arith, not_last, left.2, length-append calls (e ∷ [])) in
          inl (left.0, left.1, within, subst (λ (P : List ℕ → Type 0). P c) (earlier left.0 within) left.3)
    ];
    keeps = λ t c le left. (left.0, left.1, omega (arith, left.2, length-append calls (e ∷ [])), subst (λ (P : List ℕ → Type 0). P c) (sym (earlier left.0 left.2)) left.3);
  }

-- after a sync a crash leaves what a read gives
only : (first : List ℕ) (calls : List Call) (c : List ℕ) → images first (λ d. d ≡ first) (calls ++ Synced ∷ []) c → c ≡ contents first calls
only first calls c now = images_now first calls Synced c now

module _ {E : Type 0} (first : List ℕ) (calls : List Call) where
  pub wrote : (at : ℕ) (bytes : List ℕ) → at ≤ length (contents first calls) → Writes {E = E} at bytes (told_by first calls) (told_by first (calls ++ Wrote at bytes ∷ [])) (Ok tt)
  wrote at bytes le = record {
    written = contents-append calls (Wrote at bytes ∷ []) first;
    spoilt = tt;
    crash = λ c now. ⊎_elim
        (λ whole. (contents first calls, read_is_image calls first (λ d. d ≡ first) refl, subst (λ (d : List ℕ). Torn at (length bytes) (contents first calls) d) (sym whole) (torn_over (contents first calls) bytes at le)))
        (λ torn. torn)
        (images_now first calls (Wrote at bytes) c now);
    sync_count = syncs_in-push calls (Wrote at bytes) ∙ omega arith;
    time = elapses first calls (Wrote at bytes);
  }

  pub spoilt : (at : ℕ) (bytes : List ℕ) (fault : E) → Writes {E = E} at bytes (told_by first calls) (told_by first (calls ++ Spoilt at (length bytes) ∷ [])) (Err fault)
  spoilt at bytes fault = record {
    written = tt;
    spoilt = subst (λ (d : List ℕ). Torn at (length bytes) (contents first calls) d) (sym (contents-append calls (Spoilt at (length bytes) ∷ []) first)) (torn_here at (length bytes) (contents first calls));
    crash = images_now first calls (Spoilt at (length bytes));
    sync_count = syncs_in-push calls (Spoilt at (length bytes)) ∙ omega arith;
    time = elapses first calls (Spoilt at (length bytes));
  }

  -- nothing happened
  pub unspoilt : (at : ℕ) (bytes : List ℕ) (fault : E) → Writes {E = E} at bytes (told_by first calls) (told_by first calls) (Err fault)
  unspoilt at bytes fault = record {
    written = tt;
    spoilt = torn_here at (length bytes) (contents first calls);
    crash = λ c now. (c, now, torn_here at (length bytes) c);
    sync_count = refl;
    time = record { later = omega arith; counts = omega arith; nothing_else = λ t c le left. inl left; keeps = λ t c le left. left };
  }

  pub synced : Syncs {E = E} (told_by first calls) (told_by first (calls ++ Synced ∷ [])) (Ok tt)
  synced = record {
    durable = only first calls;
    counted = syncs_in-push calls Synced ∙ omega arith;
    uncounted = tt;
    seen = contents-append calls (Synced ∷ []) first;
    crash = λ c now. subst (λ (d : List ℕ). images first (λ f. f ≡ first) calls d) (sym (only first calls c now)) (read_is_image calls first (λ d. d ≡ first) refl);
    time = elapses first calls Synced;
  }
