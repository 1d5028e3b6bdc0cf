-- Images from a record of calls.
use Rattle.std.proofs.Common.{◌≡◌, inr, ℕ, zero, suc, ◌+◌, ◌<◌, ◌≤◌, List, [], ◌∷◌, ◌++◌, length, take, drop, refl, sym, ◌∙◌, ap, subst, arith, append_assoc, take-append-drop, length-take, length-drop}
use Rattle.std.proofs.lemmas.List.{append-nil, drop-drop}
use Rattle.uc_outside.specs.Call.{Call, Wrote, Spoilt, Synced, logged, calls_of}
use Rattle.uc_outside.specs.Disk.{AfterWrite}
use Rattle.uc_outside.specs.Image.{with_one_before, settled, ranges, filled, image_by}
use Rattle.uc_outside.specs.Ranges.{ranges_of}
use Rattle.uc_outside.specs.Replay.{over, contents, StaysWithin, WrittenOrTorn, images}
use Rattle.uc_outside.specs.Sound.{torn_here, read_is_image}
use Rattle.uc_outside.specs.declared.done.Done.{Done}
use Rattle.uc_outside.specs.declared.done.Done.TheVariants as done
use Rattle.uc_outside.proofs.Filled.{filled-none, torn_filled}
use Rattle.uc_outside.proofs.Replay.{contents-append, images-append, torn_over}

pub calls_of-append : (calls more : List Done) (log : List ℕ) → calls_of log (calls ++ more) ≡ calls_of log calls ++ calls_of (drop (logged calls) log) more
calls_of-append [] more log = refl
calls_of-append (done.Wrote at len ∷ calls) more log =
    ap (λ (l : List Call). Wrote at (take len log) ∷ l) (calls_of-append calls more (drop len log) ∙ ap (λ (l : List ℕ). calls_of (drop len log) calls ++ calls_of l more) (drop-drop (logged calls) len log))
calls_of-append (done.Spoilt at len ∷ calls) more log = ap (λ (l : List Call). Spoilt at len ∷ l) (calls_of-append calls more log)
calls_of-append (done.Synced ∷ calls) more log = ap (λ (l : List Call). Synced ∷ l) (calls_of-append calls more log)

pub logged-append : (calls more : List Done) → logged (calls ++ more) ≡ logged calls + logged more
logged-append [] more = omega arith
logged-append (done.Wrote at len ∷ calls) more = omega (arith, logged-append calls more)
logged-append (done.Spoilt at len ∷ calls) more = logged-append calls more
logged-append (done.Synced ∷ calls) more = logged-append calls more

pub logged-take : (k : ℕ) (calls : List Done) → logged (take k calls) ≤ logged calls
logged-take k calls = omega (arith, ap logged (take-append-drop k calls), logged-append (take k calls) (drop k calls))

pub ranges_of-append : (calls more : List Done) → ranges_of (calls ++ more) ≡ ranges_of calls ++ ranges_of more
ranges_of-append [] more = refl
ranges_of-append (done.Wrote at len ∷ calls) more = ap (λ (l : List (ℕ × ℕ)). (at, len) ∷ l) (ranges_of-append calls more)
ranges_of-append (done.Spoilt at len ∷ calls) more = ap (λ (l : List (ℕ × ℕ)). (at, len) ∷ l) (ranges_of-append calls more)
ranges_of-append (done.Synced ∷ calls) more = ranges_of-append calls more

-- the calls up to a place, and those behind it
pub calls_of-take : (k : ℕ) (calls : List Done) (log : List ℕ) → take k (calls_of log calls) ≡ calls_of log (take k calls)
calls_of-take zero calls log = refl
calls_of-take (suc k) [] log = refl
calls_of-take (suc k) (done.Wrote at len ∷ calls) log = ap (λ (l : List Call). Wrote at (take len log) ∷ l) (calls_of-take k calls (drop len log))
calls_of-take (suc k) (done.Spoilt at len ∷ calls) log = ap (λ (l : List Call). Spoilt at len ∷ l) (calls_of-take k calls log)
calls_of-take (suc k) (done.Synced ∷ calls) log = ap (λ (l : List Call). Synced ∷ l) (calls_of-take k calls log)

ranges-calls_of : (calls : List Done) (log : List ℕ) → logged calls ≤ length log → ranges (calls_of log calls) ≡ ranges_of calls
ranges-calls_of [] log size = refl
ranges-calls_of (done.Wrote at len ∷ calls) log size =
    ap (λ (n : ℕ). (at, n) ∷ ranges (calls_of (drop len log) calls)) (let e : length (take len log) ≡ len = omega (arith, length-take len log) in e)
    ∙ ap (λ (l : List (ℕ × ℕ)). (at, len) ∷ l) (ranges-calls_of calls (drop len log) (omega (arith, length-drop len log)))
ranges-calls_of (done.Spoilt at len ∷ calls) log size = ap (λ (l : List (ℕ × ℕ)). (at, len) ∷ l) (ranges-calls_of calls log size)
ranges-calls_of (done.Synced ∷ calls) log size = ranges-calls_of calls log size

pub ranges-drop : (k : ℕ) (calls : List Done) (log : List ℕ) → logged calls ≤ length log → ranges (drop k (calls_of log calls)) ≡ ranges_of (drop k calls)
ranges-drop zero calls log size = ranges-calls_of calls log size
ranges-drop (suc k) [] log size = refl
ranges-drop (suc k) (done.Wrote at len ∷ calls) log size = ranges-drop k calls (drop len log) (omega (arith, length-drop len log))
ranges-drop (suc k) (done.Spoilt at len ∷ calls) log size = ranges-drop k calls log size
ranges-drop (suc k) (done.Synced ∷ calls) log size = ranges-drop k calls log size

pub settled-synced : (calls : List Done) (log : List ℕ) → settled (calls_of log (calls ++ done.Synced ∷ [])) ≡ suc (length calls)
settled-synced [] log = refl
settled-synced (done.Wrote at len ∷ calls) log = ap with_one_before (settled-synced calls (drop len log))
settled-synced (done.Spoilt at len ∷ calls) log = ap with_one_before (settled-synced calls log)
settled-synced (done.Synced ∷ calls) log = ap suc (settled-synced calls log)

pub settled-wrote : (calls : List Done) (at n : ℕ) (log : List ℕ) → settled (calls_of log (calls ++ done.Wrote at n ∷ [])) ≡ settled (calls_of log calls)
settled-wrote [] at n log = refl
settled-wrote (done.Wrote at' len ∷ calls) at n log = ap with_one_before (settled-wrote calls at n (drop len log))
settled-wrote (done.Spoilt at' len ∷ calls) at n log = ap with_one_before (settled-wrote calls at n log)
settled-wrote (done.Synced ∷ calls) at n log = ap suc (settled-wrote calls at n log)

pub settled-spoilt : (calls : List Done) (at n : ℕ) (log : List ℕ) → settled (calls_of log (calls ++ done.Spoilt at n ∷ [])) ≡ settled (calls_of log calls)
settled-spoilt [] at n log = refl
settled-spoilt (done.Wrote at' len ∷ calls) at n log = ap with_one_before (settled-spoilt calls at n (drop len log))
settled-spoilt (done.Spoilt at' len ∷ calls) at n log = ap with_one_before (settled-spoilt calls at n log)
settled-spoilt (done.Synced ∷ calls) at n log = ap suc (settled-spoilt calls at n log)

pub within-split : (calls more : List Call) (file : List ℕ) → StaysWithin file (calls ++ more) → StaysWithin file calls × StaysWithin (contents file calls) more
within-split [] more file within = (tt, within)
within-split (Wrote at bytes ∷ calls) more file within = let rest = within-split calls more (over file at bytes) within.1 in ((within.0, rest.0), rest.1)
within-split (Spoilt at len ∷ calls) more file within = let rest = within-split calls more file within.1 in ((within.0, rest.0), rest.1)
within-split (Synced ∷ calls) more file within = within-split calls more file within

-- no sync among the calls
abbrev NoSync : List Call → Type 0
NoSync [] = Unit {0}
NoSync (Wrote at bytes ∷ calls) = NoSync calls
NoSync (Spoilt at len ∷ calls) = NoSync calls
NoSync (Synced ∷ calls) = ⊥

-- either no sync is among them, or those behind the last have none
no_sync_past : (call : Call) (calls : List Call) (k : ℕ) → (NoSync calls → NoSync (call ∷ calls)) → NoSync (drop k calls) → NoSync (drop (with_one_before k) (call ∷ calls))
no_sync_past call calls zero quiet none = quiet none
no_sync_past call calls (suc k) quiet none = none

no_sync_after : (calls : List Call) → NoSync (drop (settled calls) calls)
no_sync_after [] = tt
no_sync_after (Wrote at bytes ∷ calls) = no_sync_past (Wrote at bytes) calls (settled calls) (λ none. none) (no_sync_after calls)
no_sync_after (Spoilt at len ∷ calls) = no_sync_past (Spoilt at len) calls (settled calls) (λ none. none) (no_sync_after calls)
no_sync_after (Synced ∷ calls) = no_sync_after calls

-- a crash may leave an image as it was
stays : (calls : List Call) (file c : List ℕ) (before : List ℕ → Type 0) → NoSync calls → before c → images file before calls c
stays [] file c before none here = here
stays (Wrote at bytes ∷ calls) file c before none here = stays calls (over file at bytes) c _ none (inr (c, here, torn_here at (length bytes) c))
stays (Spoilt at len ∷ calls) file c before none here = stays calls file c _ none (c, here, torn_here at len c)
stays (Synced ∷ calls) file c before none here = absurd none

-- a crash may leave the fill over what was written
fills : (calls : List Call) (file fill : List ℕ) (laid : List (ℕ × ℕ)) (before : List ℕ → Type 0) → NoSync calls → StaysWithin file calls → before (filled fill laid 0 file)
    → images file before calls (filled fill (laid ++ ranges calls) 0 (contents file calls))
fills [] file fill laid before none within here = subst (λ (l : List (ℕ × ℕ)). before (filled fill l 0 file)) (sym (append-nil laid)) here
fills (Wrote at bytes ∷ calls) file fill laid before none within here =
    subst (λ (l : List (ℕ × ℕ)). images (over file at bytes) (WrittenOrTorn file at bytes before) calls (filled fill l 0 (contents (over file at bytes) calls))) (append_assoc laid ((at, length bytes) ∷ []) (ranges calls))
    (fills calls (over file at bytes) fill (laid ++ (at, length bytes) ∷ []) _ none within.1
    (inr (filled fill laid 0 file, here, torn_filled fill laid at (length bytes) file (over file at bytes) (torn_over file bytes at within.0))))
fills (Spoilt at len ∷ calls) file fill laid before none within here =
    subst (λ (l : List (ℕ × ℕ)). images file (AfterWrite at len before) calls (filled fill l 0 (contents file calls))) (append_assoc laid ((at, len) ∷ []) (ranges calls))
    (fills calls file fill (laid ++ (at, len) ∷ []) _ none within.1 (filled fill laid 0 file, here, torn_filled fill laid at len file file (torn_here at len file)))
fills (Synced ∷ calls) file fill laid before none within here = absurd none

-- the calls up to the last sync, and those behind it
module _ (first : List ℕ) (calls : List Call) where
  joined : take (settled calls) calls ++ drop (settled calls) calls ≡ calls
  joined = take-append-drop (settled calls) calls

  at_sync : images first (λ d. d ≡ first) (take (settled calls) calls) (contents first (take (settled calls) calls))
  at_sync = read_is_image (take (settled calls) calls) first (λ d. d ≡ first) refl

  split : (c : List ℕ) → images (contents first (take (settled calls) calls)) (images first (λ d. d ≡ first) (take (settled calls) calls)) (drop (settled calls) calls) c → images first (λ d. d ≡ first) calls c
  split c now = subst (λ (l : List Call). images first (λ d. d ≡ first) l c) joined (subst (λ (P : List ℕ → Type 0). P c) (sym (images-append (take (settled calls) calls) (drop (settled calls) calls) first (λ d. d ≡ first))) now)

  -- both are images that a crash may leave
  pub settled_left : images first (λ d. d ≡ first) calls (contents first (take (settled calls) calls))
  settled_left = split _ (stays (drop (settled calls) calls) _ _ _ (no_sync_after calls) at_sync)

  pub filled_left : (fill : List ℕ) → StaysWithin first calls → images first (λ d. d ≡ first) calls (filled fill (ranges (drop (settled calls) calls)) 0 (contents first calls))
  filled_left fill within =
      subst (λ (f : List ℕ). images first (λ d. d ≡ first) calls (filled fill (ranges (drop (settled calls) calls)) 0 f))
      (sym (contents-append (take (settled calls) calls) (drop (settled calls) calls) first) ∙ ap (λ (l : List Call). contents first l) joined)
      (split _ (fills (drop (settled calls) calls) _ fill [] _ (no_sync_after calls)
      (within-split (take (settled calls) calls) (drop (settled calls) calls) first (subst (StaysWithin first) (sym joined) within)).1
      (subst (images first (λ d. d ≡ first) (take (settled calls) calls)) (sym (filled-none fill 0 (contents first (take (settled calls) calls)))) at_sync)))

-- one call more is done again
module _ (first log : List ℕ) (calls : List Done) (e : Done) (next : List Done) (is : next ≡ calls ++ e ∷ []) (used : ℕ) (used_is : used ≡ logged calls) (file : List ℕ) (file_is : file ≡ contents first (calls_of log calls)) where
  step_calls : calls_of log next ≡ calls_of log calls ++ calls_of (drop used log) (e ∷ [])
  step_calls = ap (λ (l : List Done). calls_of log l) is ∙ calls_of-append calls (e ∷ []) log ∙ ap (λ (n : ℕ). calls_of log calls ++ calls_of (drop n log) (e ∷ [])) (sym used_is)

  pub step_file : (new : List ℕ) → new ≡ contents file (calls_of (drop used log) (e ∷ [])) → new ≡ contents first (calls_of log next)
  step_file new new_is =
      new_is ∙ ap (λ (f : List ℕ). contents f (calls_of (drop used log) (e ∷ []))) file_is ∙ sym (contents-append (calls_of log calls) (calls_of (drop used log) (e ∷ [])) first)
      ∙ ap (λ (l : List Call). contents first l) (sym step_calls)

  pub step_used : (after : ℕ) → after ≡ used + logged (e ∷ []) → after ≡ logged next
  step_used after after_is = omega (arith, after_is, used_is, ap logged is, logged-append calls (e ∷ []))

  pub step_size : logged next ≤ length log → used + logged (e ∷ []) ≤ length log
  step_size size = omega (arith, used_is, ap logged is, logged-append calls (e ∷ []), size)

  pub step_within : StaysWithin first (calls_of log next) → StaysWithin file (calls_of (drop used log) (e ∷ []))
  step_within within =
      subst (λ (f : List ℕ). StaysWithin f (calls_of (drop used log) (e ∷ []))) (sym file_is)
      (within-split (calls_of log calls) (calls_of (drop used log) (e ∷ [])) first (subst (StaysWithin first) step_calls within)).1

-- the front of a record stays within too
pub within_front : (k : ℕ) (first log : List ℕ) (calls : List Done) → StaysWithin first (calls_of log calls) → StaysWithin first (calls_of log (take k calls))
within_front k first log calls within =
    (within-split (calls_of log (take k calls)) (calls_of (drop (logged (take k calls)) log) (drop k calls)) first
    (subst (StaysWithin first) (ap (λ (l : List Done). calls_of log l) (sym (take-append-drop k calls)) ∙ calls_of-append (take k calls) (drop k calls) log) within)).0

-- the image by cases on the fill
pub image_by-settled : (fill first : List ℕ) (calls : List Call) → length fill ≡ 0 → contents first (take (settled calls) calls) ≡ image_by fill first calls
image_by-settled [] first calls none = refl
image_by-settled (byte ∷ fill) first calls none = absurd (omega arith)

pub image_by-filled : (fill first : List ℕ) (calls : List Call) → 0 < length fill → filled fill (ranges (drop (settled calls) calls)) 0 (contents first calls) ≡ image_by fill first calls
image_by-filled [] first calls some = absurd (omega arith)
image_by-filled (byte ∷ fill) first calls some = refl

-- a crash may leave it
pub image_by-left : (fill first : List ℕ) (calls : List Call) → StaysWithin first calls → images first (λ d. d ≡ first) calls (image_by fill first calls)
image_by-left [] first calls within = settled_left first calls
image_by-left (byte ∷ fill) first calls within = filled_left first calls (byte ∷ fill) within
