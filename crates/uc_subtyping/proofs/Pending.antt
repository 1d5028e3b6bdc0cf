-- Instances that are left to be solved, and what is shown once they are.
use Rattle.std.proofs.Common.{◌≡◌, ℕ, ◌+◌, ◌<◌, ◌≤◌, Bool, true, false, List, [], ◌∷◌, length, get_or, drop, arith, refl, sym, ap, subst, ◌∙◌, inl, inr, ◌⊎◌}
use Rattle.std.specs.Prelude.{Result, Ok, Err, OnOk}
use Rattle.std.proofs.lemmas.List.{drop_more, drop_all}
use Rattle.uc_base.specs.declared.fault.Fault.{Fault}
use Rattle.uc_base.specs.declared.fault.Fault.TheVariants.{Memory, IllTyped, TypeTooLarge}
use Rattle.uc_base.specs.declared.place.At.TheVariants.{Nowhere}
use Rattle.uc_context.specs.Opens.{Open, opens_of, open_size, opens_size}
use Rattle.uc_context.specs.Contexts.{type_under}
use Rattle.uc_context.specs.Counts.{IsSmall}
use Rattle.uc_context.specs.Entries.{ContextEntries}
use Rattle.uc_subtyping.specs.declared.side.Side.{Side}
use Rattle.uc_subtyping.specs.Ends.{IsRefused, fault_of}
use Rattle.uc_subtyping.specs.InHand.{IsInHand, SolvesByMonotypes}
use Rattle.uc_subtyping.specs.Instances.{Instances, no_instances, instance, all_at}
use Rattle.uc_subtyping.specs.Instantiation.{SolvesInstance, SolvesInstances, instances_done, instances_next, instances_refused, instances_large}
use Rattle.uc_subtyping.specs.Outcomes.{Outcome, done, refused, ill, large, Refusal}
use Rattle.uc_subtyping.specs.Readiness.{Has, has_here, has_later, IsReady}
use Rattle.uc_subtyping.proofs.Absorbing.{under-again}
use Rattle.uc_subtyping.proofs.Extending.{extends-monotypes}
use Rattle.uc_subtyping.proofs.InstancesTurn.{done_is, instance_turns}
use Rattle.uc_subtyping.proofs.Ready.{Other, ready_rest}
use Rattle.uc_subtyping.proofs.Settled.{settled-under}
use Rattle.uc_subtyping.proofs.Turning.{Turns}

-- refusals of one judgement as those of another
pub refused_as : (P Q : Outcome → Type 0) (fault : Fault) → ((why : Refusal) → P (refused why) → Q (refused why)) → IsRefused P fault → IsRefused Q fault
refused_as P Q fault f (inl memory) = inl memory
refused_as P Q fault f (inr r) = inr (r.0, r.1, f r.0 r.2)

pub ill_refused : (P : Outcome → Type 0) (fault : Fault) → fault ≡ IllTyped Nowhere → P (refused ill) → IsRefused P fault
ill_refused P fault is p = inr (ill, is, p)

pub memory_refused : (P : Outcome → Type 0) (fault : Fault) → fault ≡ Memory → IsRefused P fault
memory_refused P fault is = inl is

-- one instance
module _ (s : Side) (es : ContextEntries) (n : ℕ) (t u : Open) (put : u ≡ type_under es t) (small : IsSmall u) where
  pub one_in_hand : IsReady es (instance s n t no_instances) → IsInHand es u
  one_in_hand ready =
      subst (IsInHand es) (sym put) (record { known = ready.known n t has_here; current = under-again es ready.in_order t; small = subst IsSmall put small })

  pub one_done : (fs : ContextEntries) → SolvesInstance s es n u (done fs) → SolvesInstances es (instance s n t no_instances) (done fs)
  one_done fs d = instances_next (subst IsSmall put small) (subst (λ (v : Open). SolvesInstance s es n v (done fs)) put d) instances_done

  pub one_refused : (fault : Fault) → IsRefused (SolvesInstance s es n u) fault → IsRefused (SolvesInstances es (instance s n t no_instances)) fault
  one_refused fault r =
      refused_as (SolvesInstance s es n u) (SolvesInstances es (instance s n t no_instances)) fault
      (λ why d. instances_refused (subst IsSmall put small) (subst (λ (v : Open). SolvesInstance s es n v (refused why)) put d)) r

pub one_large : (s : Side) (es : ContextEntries) (n : ℕ) (t : Open) (fault : Fault) → (fault ≡ Memory) ⊎ ((fault ≡ TypeTooLarge Nowhere) × ¬ IsSmall (type_under es t)) → IsRefused (SolvesInstances es (instance s n t no_instances)) fault
one_large s es n t fault (inl memory) = inl memory
one_large s es n t fault (inr past) = inr (large, past.0, instances_large past.1)

-- what one instance left, and that its type was small
record Single (s : Side) (es : ContextEntries) (n : ℕ) (t : Open) (o : Outcome) : Type 0 where
  small : IsSmall (type_under es t)
  solves : SolvesInstance s es n (type_under es t) o

single : (s : Side) (es : ContextEntries) (n : ℕ) (t : Open) (fs : ContextEntries) → SolvesInstances es (instance s n t no_instances) (done fs) → Single s es n t (done fs)
single s es n t fs (instances_next small d instances_done) = record { small = small; solves = d }

one_then : (s : Side) (es : ContextEntries) (n : ℕ) (t : Open) (rest : Instances) (fs : ContextEntries) (o : Outcome) → SolvesInstances es (instance s n t no_instances) (done fs) → SolvesInstances fs rest o → SolvesInstances es (instance s n t rest) o
one_then s es n t rest fs o d e = let p : Single s es n t (done fs) = single s es n t fs d in instances_next p.small p.solves e

one_ends : (s : Side) (es : ContextEntries) (n : ℕ) (t : Open) (rest : Instances) (why : Refusal) → SolvesInstances es (instance s n t no_instances) (refused why) → SolvesInstances es (instance s n t rest) (refused why)
one_ends s es n t rest why (instances_next small d l) = elim l [ ]
one_ends s es n t rest why (instances_refused small d) = instances_refused small d
one_ends s es n t rest why (instances_large past) = instances_large past

-- instances that are left, from whose outcome another follows
pub record Pending (P : Outcome → Type 0) (es : ContextEntries) (instances : Instances) : Type 0 where
  pub monotypes : SolvesByMonotypes es
  pub ready : IsReady es instances
  pub ends : (o : Outcome) → SolvesInstances es instances o → P o

-- the first alone
ready_one : (s : Side) (n : ℕ) (t : Open) (rest : Instances) (es : ContextEntries) → IsReady es (instance s n t rest) → IsReady es (instance s n t no_instances)
ready_one s n t rest es ready = record {
  in_order = ready.in_order;
  distinct = (λ m u h. ready.distinct.0 m u (none m u h), tt);
  declared = λ m u h. ready.declared m u (among m u h);
  known = λ m u h. ready.known m u (among m u h);
  apart = λ m u k v h l. ready.apart m u k v (among m u h) (among k v l);
  same_size = λ m u h. ready.same_size m u (among m u h);
}
  where
    none : (m : ℕ) (u : Open) → Has m u no_instances → Has m u rest
    none m u h = elim h [ ]

    among : (m : ℕ) (u : Open) → Has m u (instance s n t no_instances) → Has m u (instance s n t rest)
    among m u has_here = has_here
    among m u (has_later h) = has_later (none m u h)

module _ (P : Outcome → Type 0) (s : Side) (n : ℕ) (t : Open) (rest : Instances) (es : ContextEntries) (p : Pending P es (instance s n t rest)) where
  pub pending_one : IsReady es (instance s n t no_instances)
  pending_one = ready_one s n t rest es p.ready

  pub pending_next : (fs : ContextEntries) → SolvesInstances es (instance s n t no_instances) (done fs) → Pending P fs rest
  pending_next fs d =
      let one : Single s es n t (done fs) = single s es n t fs d in
      let turn : Turns (Other n) es fs = instance_turns one.solves fs refl p.ready.in_order (settled-under es p.ready.in_order t (p.ready.known n t has_here)) (p.ready.apart n t n t has_here has_here) in
      record {
        monotypes = extends-monotypes turn.extends p.monotypes;
        ready = ready_rest s n t rest es fs p.ready turn;
        ends = λ o l. p.ends o (one_then s es n t rest fs o d l);
      }

  pub pending_refused : (fault : Fault) → IsRefused (SolvesInstances es (instance s n t no_instances)) fault → IsRefused P fault
  pending_refused fault r = refused_as (SolvesInstances es (instance s n t no_instances)) P fault (λ why d. p.ends (refused why) (one_ends s es n t rest why d)) r

pub pending_done : (P : Outcome → Type 0) (es : ContextEntries) → Pending P es no_instances → P (done es)
pending_done P es p = p.ends (done es) instances_done

-- instances for the types of two lists, from a place on
pub left_at : Side → List ℕ → List Open → ℕ → Instances
left_at s ns ts at = all_at s (drop at ns) (opens_of (drop at ts))

module _ (s : Side) (ns : List ℕ) (ts : List Open) (as_many : length ns ≡ length ts) (at n : ℕ) (t : Open) (within : at < length ts) (number : n ≡ get_or ns at n) (part : t ≡ get_or ts at t) where
  pub left_more : left_at s ns ts at ≡ instance s n t (left_at s ns ts (at + 1))
  unfolding left_at
  left_more =
      ap (λ (ms : List ℕ). all_at s ms (opens_of (drop at ts))) (drop_more ns at n (omega arith) ∙ ap (λ (m : ℕ). m ∷ drop (at + 1) ns) (sym number))
      ∙ ap (λ (us : List Open). all_at s (n ∷ drop (at + 1) ns) (opens_of us)) (drop_more ts at t within ∙ ap (λ (u : Open). u ∷ drop (at + 1) ts) (sym part))

pub left_none : (s : Side) (ns : List ℕ) (ts : List Open) (at : ℕ) → length ns ≡ length ts → length ts ≤ at → left_at s ns ts at ≡ no_instances
unfolding left_at
left_none s ns ts at as_many end = ap (λ (ms : List ℕ). all_at s ms (opens_of (drop at ts))) (drop_all at ns (omega arith))

-- the same instances of a context that is the same
pub pending_as : (P : Outcome → Type 0) (es ds : ContextEntries) (is js : Instances) → es ≡ ds → is ≡ js → Pending P es is → Pending P ds js
pending_as P es ds is js e f p = subst (λ (ks : Instances). Pending P ds ks) f (subst (λ (cs : ContextEntries). Pending P cs is) e p)

-- all of them
pub pending_start : (P : Outcome → Type 0) (s : Side) (ns : List ℕ) (ts : List Open) (es : ContextEntries) → Pending P es (all_at s ns (opens_of ts)) → Pending P es (left_at s ns ts 0)
unfolding left_at
pending_start P s ns ts es p = p

-- what holds of an answer in any case
pub on_ok_always : {T E : Type 0} (r : Result T E) (P : Type 0) → P → OnOk r P
on_ok_always (Ok v) P p = p
on_ok_always (Err e) P p = tt

-- all that is left at once
pub pending_all : (P : Outcome → Type 0) (es : ContextEntries) (instances : Instances) (p : Pending P es instances) (fault : Fault) → IsRefused (SolvesInstances es instances) fault → IsRefused P fault
pending_all P es instances p fault r = refused_as (SolvesInstances es instances) P fault (λ why d. p.ends (refused why) d) r
