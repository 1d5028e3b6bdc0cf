-- What a journal keeps after each write that is on the disk.
use Rattle.std.proofs.Common.{◌≡◌, inl, inr, ⊎_elim, ℕ, ◌+◌, ◌<◌, List, [], ◌∷◌, ◌++◌, length, Bool, true, false, Option, Some, None, Result, refl, ap, subst, arith, take, drop, length-append, length-take}
use Rattle.std.specs.Prelude.{is_some}
use Rattle.uc_outside.specs.Disk.{DiskView, AfterWrite, Holds, IsSound, LeavesOnly}
use Rattle.uc_outside.proofs.Moments.{leaves_mono}
use Rattle.uc_journal.specs.Text.{text_limit, framed, front, IsTextOf}
use Rattle.uc_journal.specs.Reaches.{Reaches}
use Rattle.uc_journal.specs.Journal.{LeftOf, IsWithOrWithout, KeepsAt, Through}
use Rattle.uc_journal.proofs.Bytes.{torn_closed, torn_staged, held_staged, held_open, held_closed, staged_counts, length-front-push}

-- the words of files
pub in_files : (ps : List (List ℕ)) (u : Option (List ℕ)) (c : List ℕ) → LeftOf ps u c → IsWithOrWithout ps u c
in_files ps None c text = inl (inr text)
in_files ps (Some p) c staged = ⊎_elim (λ text. inl (inr text)) (λ text. inr (p, refl, inr text)) (staged_counts ps p c staged)

pub keeps : {T : Type 0} (disk : DiskView) (gate : ℕ) (flag : Bool) (ps : List (List ℕ)) (u : Option (List ℕ)) → T → gate ≡ length (front ps) → flag ≡ is_some u
    → ((c : List ℕ) → disk.may_leave c → LeftOf ps u c) → KeepsAt T disk gate flag ps u
keeps disk gate flag ps u told gate_is flag_is left = record {
  told = told;
  gate_is = gate_is;
  flag_is = flag_is;
  left = left;
  stands = λ c now. in_files ps u c (left c now);
}

module _ {T : Type 0} (v0 v1 : DiskView) (gate : ℕ) (flag : Bool) (ps : List (List ℕ)) (raised : flag ≡ true) where
  -- a torn write of the gate leaves what was left before
  gate_torn : (u : Option (List ℕ)) → KeepsAt T v0 gate flag ps u → (c : List ℕ) → AfterWrite gate 1 v0.may_leave c → LeftOf ps u c
  gate_torn None k c torn = absurd (cc (k.flag_is, raised))
  gate_torn (Some p) k c torn = torn_staged ps p torn.0 c gate k.gate_is (k.left torn.0 torn.1) torn.2

  pub settle_err : {E : Type 0} (u : Option (List ℕ)) (b : ℕ) (r : Result Unit E) → KeepsAt T v0 gate flag ps u → Through gate (b ∷ []) v0 v1 r → KeepsAt T v1 gate flag ps u
  settle_err u b r k through = keeps v1 gate flag ps u k.told k.gate_is k.flag_is (λ c now. gate_torn u k c (through.crash c now))

  pub settle_time : {E : Type 0} (u : Option (List ℕ)) (b : ℕ) (r : Result Unit E) → KeepsAt T v0 gate flag ps u → Through gate (b ∷ []) v0 v1 r → LeavesOnly v0 v1 (IsWithOrWithout ps u)
  settle_time u b r k through = leaves_mono v0 v1 _ _ through.any_moment (λ c torn. in_files ps u c (gate_torn u k c torn))

  pub settle_ok : (u : Option (List ℕ)) → IsSound v0 → KeepsAt T v0 gate flag ps u → ((c : List ℕ) → v1.may_leave c → Holds v0.seen gate (0 ∷ []) c) → KeepsAt T v1 gate false ps None
  settle_ok None sound k durable = absurd (cc (k.flag_is, raised))
  settle_ok (Some p) sound k durable = keeps v1 gate false ps None k.told k.gate_is refl (λ c now. held_closed ps p v0.seen c gate k.gate_is (k.left v0.seen sound.seen_left) (durable c now))

-- the record behind a closed gate
module _ {T : Type 0} {E : Type 0} (v0 v1 : DiskView) (gate : ℕ) (flag : Bool) (ps : List (List ℕ)) (p bytes : List ℕ) (r : Result Unit E) where
  still_closed : KeepsAt T v0 gate flag ps None → (c : List ℕ) → AfterWrite (gate + 1) (length bytes) v0.may_leave c → IsTextOf ps c
  still_closed k c torn = torn_closed ps p torn.0 c (gate + 1) (length bytes) (omega (arith, k.gate_is)) (k.left torn.0 torn.1) torn.2

  pub stage_err : KeepsAt T v0 gate flag ps None → Through (gate + 1) bytes v0 v1 r → KeepsAt T v1 gate flag ps None
  stage_err k through = keeps v1 gate flag ps None k.told k.gate_is k.flag_is (λ c now. still_closed k c (through.crash c now))

  pub stage_time : KeepsAt T v0 gate flag ps None → Through (gate + 1) bytes v0 v1 r → LeavesOnly v0 v1 (IsWithOrWithout ps (Some p))
  stage_time k through = leaves_mono v0 v1 _ _ through.any_moment (λ c torn. inl (inr (still_closed k c torn)))

  -- then the gate may be opened
  pub stage_ok : IsSound v0 → gate + length p + 5 < text_limit → bytes ≡ framed p ++ 0 ∷ [] → KeepsAt T v0 gate flag ps None → ((c : List ℕ) → v1.may_leave c → Holds v0.seen (gate + 1) bytes c) → KeepsAt T v1 gate true ps (Some p)
  stage_ok sound fits bytes_are k durable = keeps v1 gate true ps (Some p) k.told k.gate_is refl (λ c now.
      (held_staged ps p v0.seen c (gate + 1) (omega (arith, k.gate_is, length-front-push ps p, fits)) (omega (arith, k.gate_is)) (k.left v0.seen sound.seen_left) (subst (λ b. Holds v0.seen (gate + 1) b c) bytes_are (durable c now))).0)

module _ {T : Type 0} (v1 v2 : DiskView) (gate : ℕ) (ps : List (List ℕ)) (p : List ℕ) where
  pub open_ok : (next : ℕ) → next ≡ gate + (length p + 5) → IsSound v1 → KeepsAt T v1 gate true ps (Some p) → ((c : List ℕ) → v2.may_leave c → Holds v1.seen gate (1 ∷ []) c) → KeepsAt T v2 next false (ps ++ p ∷ []) None
  open_ok next next_is sound k durable = keeps v2 next false (ps ++ p ∷ []) None k.told (omega (arith, k.gate_is, length-front-push ps p)) refl
      (λ c now. held_open ps p v1.seen c gate k.gate_is (k.left v1.seen sound.seen_left) (durable c now))

-- every image reaches behind the new record
pub reaches_next : {F : Type 0} (v0 v1 v2 : DiskView) (gate : ℕ) (bytes : List ℕ) (r : Result Unit F) → IsSound v0 → Reaches v0 gate → ((c : List ℕ) → v1.may_leave c → Holds v0.seen (gate + 1) bytes c)
    → Through gate (1 ∷ []) v1 v2 r → Reaches v2 (gate + length bytes)
reaches_next v0 v1 v2 gate bytes r sound reaches durable through c now =
    let torn = through.crash c now in
    let holds : torn.0 ≡ take (gate + 1) v0.seen ++ bytes ++ drop (gate + 1 + length bytes) v0.seen = durable torn.0 torn.1 in
    let long : gate < length v0.seen = reaches v0.seen sound.seen_left in
    omega (arith, ap length holds, length-append (take (gate + 1) v0.seen ++ bytes) (drop (gate + 1 + length bytes) v0.seen), length-append (take (gate + 1) v0.seen) bytes, length-take (gate + 1) v0.seen, torn.2.no_shorter)
