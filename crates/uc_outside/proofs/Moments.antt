-- How a run of disk calls goes on.
use Rattle.std.proofs.Common.{inl, inr, ⊎_elim, ◌⊎◌, ℕ, List, arith}
use Rattle.uc_outside.specs.Disk.{DiskView, Elapses, IsSound, LeavesOnly, LeavesThen}

pub leaves_mono : (old new : DiskView) (P Q : List ℕ → Type 0) → LeavesOnly old new P → ((c : List ℕ) → P c → Q c) → LeavesOnly old new Q
leaves_mono old new P Q leaves wider = record {
  later = leaves.later;
  counts = leaves.counts;
  each = λ c left. wider c (leaves.each c left);
  before = λ t c le left. ⊎_elim (λ was. inl was) (λ p. inr (wider c p)) (leaves.before t c le left);
  keeps = leaves.keeps;
}

pub leaves_here : (disk : DiskView) (P : List ℕ → Type 0) → IsSound disk → ((c : List ℕ) → disk.may_leave c → P c) → LeavesOnly disk disk P
leaves_here disk P sound here = record {
  later = omega arith;
  counts = omega arith;
  each = λ c left. here c (sound.only_now c left);
  before = λ t c le left. inl left;
  keeps = λ t c le left. left;
}

pub leaves_then : (old middle new : DiskView) (P : List ℕ → Type 0) → LeavesOnly old middle P → LeavesOnly middle new P → LeavesOnly old new P
leaves_then old middle new P first second = record {
  later = omega (arith, first.later, second.later);
  counts = omega (arith, first.counts, second.counts);
  each = λ c left. ⊎_elim (first.each c) (λ p. p) (second.before old.moment c first.later left);
  before = λ t c le left. ⊎_elim (first.before t c le) (λ p. inr p) (second.before t c (omega (arith, le, first.later)) left);
  keeps = λ t c le left. second.keeps t c (omega (arith, le, first.later)) (first.keeps t c le left);
}

-- one call
pub leaves_call : (old new : DiskView) (P : List ℕ → Type 0) → IsSound old → Elapses old new → ((c : List ℕ) → old.may_leave c → P c) → ((c : List ℕ) → new.may_leave c → P c) → LeavesOnly old new P
leaves_call old new P sound time before after = record {
  later = time.later;
  counts = time.counts;
  each = λ c left. ⊎_elim (λ was. before c (sound.only_now c was)) (after c) (time.nothing_else old.moment c (omega arith) left);
  before = λ t c le left. ⊎_elim (λ was. inl was) (λ now. inr (after c now)) (time.nothing_else t c le left);
  keeps = time.keeps;
}

-- either, where the order doesn't matter
pub leaves_either : {D : Type 0} (view : D → DiskView) (old new : D) (P Q : List ℕ → Type 0) → LeavesThen view old new P Q → LeavesOnly (view old) (view new) (λ c. P c ⊎ Q c)
leaves_either view old new P Q (inl first) = leaves_mono (view old) (view new) P (λ c. P c ⊎ Q c) first (λ c p. inl p)
leaves_either view old new P Q (inr (middle, first, second)) =
    leaves_then (view old) (view middle) (view new) (λ c. P c ⊎ Q c)
    (leaves_mono (view old) (view middle) P (λ c. P c ⊎ Q c) first (λ c p. inl p))
    (leaves_mono (view middle) (view new) Q (λ c. P c ⊎ Q c) second (λ c q. inr q))
