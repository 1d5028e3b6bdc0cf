-- Why an opening is refused.
use Rattle.std.proofs.Common.{◌≡◌, ◌⊎◌, inl, inr, ⊎_elim, ℕ, List, ap, ◌∙◌}
use Rattle.std.specs.Prelude.{Result, Ok, Err, IfOk, IfErr, IsErrOf, MatchResult}
use Rattle.uc_base.specs.declared.fault.Fault.{Fault}
use Rattle.uc_base.specs.declared.fault.Fault.TheVariants.{NotACodebase, Damaged, JournalFault}
use Rattle.uc_journal.specs.Refused.{ReadFault, OutsideFault}
use Rattle.uc_journal.specs.Text.{IsFileOf, IsAlien, IsDamagedAt}
use Rattle.uc_journal.proofs.Unique.{file_unique, file_not_damaged, file_not_alien, damaged_not_alien, damaged_unique}

module _ {R : Type 0} (fault : Fault) (file : List ℕ) (is : ReadFault fault ⊎ ((fault ≡ JournalFault) × R)) (alien : fault ≡ NotACodebase → IsAlien file) (damaged : (at : ℕ) → fault ≡ Damaged at → IsDamagedAt at file) where
  -- by the kind of the fault
  by_kind : (A : Type 0) → (IsAlien file → fault ≡ NotACodebase → A) → ((at : ℕ) → IsDamagedAt at file → fault ≡ Damaged at → A) → (OutsideFault fault → A) → A
  by_kind A of_alien of_damaged of_outside =
      ⊎_elim
      (⊎_elim (λ e. of_alien (alien e) e) (⊎_elim (λ d. of_damaged d.0 (damaged d.0 d.1) d.1) (λ e. of_outside (inr e))))
      (λ e. of_outside (inl e.0)) is

  pub file_refused : (ps : List (List ℕ)) → IsFileOf ps file → OutsideFault fault
  file_refused ps file_of =
      by_kind (OutsideFault fault) (λ a e. absurd (file_not_alien ps file file_of a)) (λ at d e. absurd (file_not_damaged ps file at file_of d)) (λ o. o)

  pub alien_refused : IsAlien file → (fault ≡ NotACodebase) ⊎ OutsideFault fault
  alien_refused is_alien =
      by_kind ((fault ≡ NotACodebase) ⊎ OutsideFault fault) (λ a e. inl e) (λ at d e. absurd (damaged_not_alien at file d is_alien)) (λ o. inr o)

  pub damaged_refused : (at : ℕ) → IsDamagedAt at file → (fault ≡ Damaged at) ⊎ OutsideFault fault
  damaged_refused at is_damaged =
      by_kind ((fault ≡ Damaged at) ⊎ OutsideFault fault) (λ a e. absurd (damaged_not_alien at file is_damaged a))
      (λ other d e. inl (e ∙ ap Damaged (damaged_unique other at file d is_damaged))) (λ o. inr o)

-- what an answer says of the file
pub record Says {T : Type 0} (R : Type 0) (payloads_of : T → List (List ℕ)) (file : List ℕ) (answer : Result T Fault) : Type 0 where
  pub holds : IfOk answer (λ opened. IsFileOf (payloads_of opened) file)
  pub fault : IfErr answer (λ fault. ReadFault fault ⊎ ((fault ≡ JournalFault) × R))
  pub alien : IsErrOf answer NotACodebase → IsAlien file
  pub damaged : (at : ℕ) → IsErrOf answer (Damaged at) → IsDamagedAt at file

pub reads : {T : Type 0} (R : Type 0) (payloads_of : T → List (List ℕ)) (file : List ℕ) (answer : Result T Fault) → Says R payloads_of file answer → (ps : List (List ℕ)) → IsFileOf ps file → MatchResult answer (λ opened. payloads_of opened ≡ ps) OutsideFault
reads R payloads_of file (Ok opened) says ps file_of = file_unique _ ps file says.holds file_of
reads R payloads_of file (Err e) says ps file_of = file_refused e file says.fault (λ q. says.alien (ap Err q)) (λ at q. says.damaged at (ap Err q)) ps file_of

pub aliens : {T : Type 0} (R : Type 0) (payloads_of : T → List (List ℕ)) (file : List ℕ) (answer : Result T Fault) → Says R payloads_of file answer → IsAlien file → MatchResult answer (λ opened. ⊥) (λ fault. (fault ≡ NotACodebase) ⊎ OutsideFault fault)
aliens R payloads_of file (Ok opened) says is_alien = file_not_alien _ file says.holds is_alien
aliens R payloads_of file (Err e) says is_alien = alien_refused e file says.fault (λ q. says.alien (ap Err q)) (λ at q. says.damaged at (ap Err q)) is_alien

pub damages : {T : Type 0} (R : Type 0) (payloads_of : T → List (List ℕ)) (file : List ℕ) (answer : Result T Fault) → Says R payloads_of file answer → (at : ℕ) → IsDamagedAt at file → MatchResult answer (λ opened. ⊥) (λ fault. (fault ≡ Damaged at) ⊎ OutsideFault fault)
damages R payloads_of file (Ok opened) says at is_damaged = file_not_damaged _ file at says.holds is_damaged
damages R payloads_of file (Err e) says at is_damaged = damaged_refused e file says.fault (λ q. says.alien (ap Err q)) (λ at' q. says.damaged at' (ap Err q)) at is_damaged
