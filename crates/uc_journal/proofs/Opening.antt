-- What a crash leaves while a disk is opened.
use Rattle.std.proofs.Common.{◌≡◌, inl, inr, ℕ, ◌≤◌, List, [], ◌∷◌, ◌++◌, length, take, drop, None, false, Result, refl, sym, ◌∙◌, ap, subst, arith, length-append}
use Rattle.std.specs.Prelude.{Ok}
use Rattle.std.proofs.lemmas.List.{append-nil, drop_all}
use Rattle.uc_outside.specs.Disk.{DiskView, AfterWrite, Holds, Rests, Syncs, IsSound, LeavesOnly}
use Rattle.uc_outside.specs.declared.failed.Failed.{Failed}
use Rattle.uc_outside.proofs.Moments.{leaves_mono, leaves_call, leaves_then}
use Rattle.uc_journal.specs.Reaches.{Reaches}
use Rattle.uc_journal.specs.Text.{mark, front, IsTextOf, IsFileOf}
use Rattle.uc_journal.specs.Journal.{KeepsAt, Through, IsShort}
use Rattle.uc_journal.proofs.Steps.{keeps}

abbrev nine : List ℕ
nine = 0 ∷ 0 ∷ 0 ∷ 0 ∷ 0 ∷ 0 ∷ 0 ∷ 0 ∷ 0 ∷ []

-- the two writes of a new journal
module _ (v0 v1 : DiskView) (short : IsShort v0) where
  short_torn : (n : ℕ) → n ≤ 9 → (c : List ℕ) → AfterWrite 0 n v0.may_leave c → length c ≤ 9
  short_torn n le c torn = omega (arith, torn.2.no_longer, short torn.0 torn.1)

  pub still_short : (bytes : List ℕ) (r : Result Unit Failed) → length bytes ≤ 9 → Through 0 bytes v0 v1 r → IsShort v1
  still_short bytes r le through c now = short_torn (length bytes) le c (through.crash c now)

  pub short_time : (bytes : List ℕ) (r : Result Unit Failed) → length bytes ≤ 9 → Through 0 bytes v0 v1 r → LeavesOnly v0 v1 (λ c. length c ≤ 9)
  short_time bytes r le through = leaves_mono v0 v1 _ _ through.any_moment (short_torn (length bytes) le)

  pub is_nine : IsSound v0 → ((c : List ℕ) → v1.may_leave c → Holds v0.seen 0 nine c) → (c : List ℕ) → v1.may_leave c → c ≡ nine
  is_nine sound durable c now = durable c now ∙ ap (λ (l : List ℕ). nine ++ l) (drop_all 9 v0.seen (short v0.seen sound.seen_left)) ∙ append-nil nine

pub made : {T : Type 0} (v0 v1 v2 : DiskView) → T → IsShort v0 → IsSound v0 → IsSound v1 → ((c : List ℕ) → v1.may_leave c → Holds v0.seen 0 nine c) → ((c : List ℕ) → v2.may_leave c → Holds v1.seen 0 mark c) → KeepsAt T v2 8 false [] None
made v0 v1 v2 told short sound0 sound1 first second =
    keeps v2 8 false [] None told refl refl (λ c now.
    record { gate = 0; rest = []; closed = omega arith; is = second c now ∙ ap (λ (l : List ℕ). take 0 l ++ mark ++ drop 8 l) (is_nine v0 v1 short sound0 first v1.seen sound1.seen_left); fits = omega arith })

pub reaches_made : {F : Type 0} (v0 v1 v2 : DiskView) (r : Result Unit F) → ((c : List ℕ) → v1.may_leave c → Holds v0.seen 0 nine c) → Through 0 mark v1 v2 r → Reaches v2 8
reaches_made v0 v1 v2 r first through c now =
    let torn = through.crash c now in
    omega (arith, ap length (first torn.0 torn.1), length-append nine (drop 9 v0.seen), torn.2.no_shorter)

-- a text is longer than eight bytes, and one of nine has no record
pub short_empty : (ps : List (List ℕ)) (file : List ℕ) → IsFileOf ps file → length file ≤ 9 → ps ≡ []
short_empty ps file (inl nothing) le = nothing.1
short_empty [] file (inr text) le = refl
short_empty (p ∷ ps) file (inr text) le = absurd (omega (arith, ap length text.is, length-append (front (p ∷ ps)) (text.gate ∷ text.rest)))

module _ (v0 v1 v2 : DiskView) (sound0 : IsSound v0) (sync : Syncs {E = Failed} v0 v1 (Ok tt)) (rests : Rests v1 v2) where
  -- after the sync nothing but what was read is left
  pub only_seen : (c : List ℕ) → v2.may_leave c → c ≡ v0.seen
  only_seen c now = sync.durable c (rests.crash c now)

  pub seen_same : v2.seen ≡ v0.seen
  seen_same = rests.seen ∙ sync.seen

  pub short_now : length v0.seen ≤ 9 → IsShort v2
  short_now le c now = omega (arith, ap length (only_seen c now))

  pub first_time : LeavesOnly v0 v1 v0.may_leave
  first_time = leaves_call v0 v1 v0.may_leave sound0 sync.time (λ c was. was) sync.crash

  pub rest_time : (ps : List (List ℕ)) → IsSound v1 → IsFileOf ps v0.seen → LeavesOnly v1 v2 (IsFileOf ps)
  rest_time ps sound1 file =
      let before : (c : List ℕ) → v1.may_leave c → IsFileOf ps c = λ c was. subst (IsFileOf ps) (sym (sync.durable c was)) file in
      leaves_call v1 v2 (IsFileOf ps) sound1 rests.time before (λ c now. before c (rests.crash c now))

  pub begun_time : (v3 : DiskView) (ps : List (List ℕ)) → IsSound v1 → IsFileOf ps v0.seen → length v0.seen ≤ 9 → LeavesOnly v2 v3 (λ c. length c ≤ 9) → LeavesOnly v1 v3 (IsFileOf ps)
  begun_time v3 ps sound1 file le begun =
      leaves_then v1 v2 v3 (IsFileOf ps) (rest_time ps sound1 file)
      (leaves_mono v2 v3 (λ c. length c ≤ 9) (IsFileOf ps) begun (λ c short. inl (short, short_empty ps v0.seen file le)))

  pub loaded_time : (v3 : DiskView) (ps : List (List ℕ)) → IsSound v1 → IsSound v2 → IsFileOf ps v0.seen → Rests v2 v3 → LeavesOnly v1 v3 (IsFileOf ps)
  loaded_time v3 ps sound1 sound2 file loads =
      let before : (c : List ℕ) → v2.may_leave c → IsFileOf ps c = λ c was. subst (IsFileOf ps) (sym (only_seen c was)) file in
      leaves_then v1 v2 v3 (IsFileOf ps) (rest_time ps sound1 file) (leaves_call v2 v3 (IsFileOf ps) sound2 loads.time before (λ c now. before c (loads.crash c now)))

  pub loaded : {T : Type 0} (v3 : DiskView) (gate : ℕ) (ps : List (List ℕ)) → T → Rests v2 v3 → IsTextOf ps v2.seen → gate ≡ length (front ps) → KeepsAt T v3 gate false ps None
  loaded v3 gate ps told loads text gate_is = keeps v3 gate false ps None told gate_is refl (λ c now. subst (IsTextOf ps) (seen_same ∙ sym (only_seen c (loads.crash c now))) text)

  pub loaded_reaches : (v3 : DiskView) (gate : ℕ) (ps : List (List ℕ)) → Rests v2 v3 → IsTextOf ps v2.seen → gate ≡ length (front ps) → Reaches v3 gate
  loaded_reaches v3 gate ps loads text gate_is c now =
      omega (arith, ap length (only_seen c (loads.crash c now)), ap length seen_same, ap length text.is, length-append (front ps) (text.gate ∷ text.rest), gate_is)
