-- Each variable in scope that is used has a binder with a type.
use Rattle.std.proofs.Common.{◌≡◌, ℕ, zero, suc, Option, Some, None, MatchOption, slice_get, sym, ap, subst, ◌∙◌}
use Rattle.std.proofs.lemmas.Option.{none-some, same_Some}
use Rattle.uc_context.specs.Contexts.{binder_type}
use Rattle.uc_context.specs.Entries.{ContextEntries}
use Rattle.uc_context.specs.Opens.{Open}
use Rattle.uc_typing.specs.Stops.{Variables}
use Rattle.uc_sound_typing.specs.Seeing.{AreBound, none_bound, one_bound, one_unused}

pub bound_at : {es : ContextEntries} {vars : Variables} → AreBound es vars → (i n : ℕ) → slice_get vars i ≡ Some (Some n) → (t : Open) × (binder_type es n ≡ Some t)
bound_at none_bound i n h = absurd (none-some (Some n) h)
bound_at (one_bound {es = es} {n = m} {t = t} is rest) zero n h = (t, subst (λ (k : ℕ). binder_type es k ≡ Some t) (same_Some m n (same_Some (Some m) (Some n) h)) is)
bound_at (one_bound is rest) (suc i) n h = bound_at rest i n h
bound_at (one_unused rest) zero n h = absurd (none-some n (same_Some None (Some n) h))
bound_at (one_unused rest) (suc i) n h = bound_at rest i n h

pub unbound_never : {es : ContextEntries} {vars : Variables} → AreBound es vars → (i n : ℕ) → slice_get vars i ≡ Some (Some n) → binder_type es n ≡ None → ⊥
unbound_never all_bound i n h none = let b = bound_at all_bound i n h in none-some b.0 (sym none ∙ b.1)

pub slot_is : (o : Option (Option ℕ)) (r : Option ℕ) (n : ℕ) → MatchOption o (r ≡ None) (λ b. r ≡ b) → r ≡ Some n → o ≡ Some (Some n)
slot_is None r n m is = absurd (none-some n (sym m ∙ is))
slot_is (Some b) r n m is = ap (λ (x : Option ℕ). Some x) (sym m ∙ is)
