-- Answers that are as it is said, unless there is a fault.
use Rattle.std.proofs.Common.{Result, Ok, Err}
use Rattle.uc_base.specs.declared.fault.Fault.{Fault}
use Rattle.uc_meaning.specs.Results.{◌>>=◌}

pub data Answers {A : Type 0} (P : A → Type 0) : Result A Fault → Type 0 where
  answer : {x : A} → P x → Answers P (Ok x)
  fault : {e : Fault} → Answers P (Err e)

pub then_answers : {A B : Type 0} {P : A → Type 0} {Q : B → Type 0} {r : Result A Fault} (f : A → Result B Fault) → Answers P r → ((x : A) → P x → Answers Q (f x)) → Answers Q (r >>= f)
then_answers f (answer {x} h) k = k x h
then_answers f fault k = fault

-- any answer
pub any_answer : {A : Type 0} (r : Result A Fault) → Answers (λ _. Unit {0}) r
any_answer (Ok x) = answer tt
any_answer (Err e) = fault
