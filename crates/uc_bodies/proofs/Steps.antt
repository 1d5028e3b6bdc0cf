-- Answers and faults that come one after the other.
use Rattle.std.proofs.Common.{◌≡◌, ◌⊎◌, inl, inr, Result, Ok, Err, refl, ap, sym, ◌∙◌, subst}
use Rattle.uc_base.specs.declared.fault.Fault.{Fault}
use Rattle.uc_base.specs.declared.fault.Fault.TheVariants.{Memory}
use Rattle.uc_meaning.specs.Results.{◌>>=◌, Gives}

-- what comes next behind an answer
pub goes_on : {A B : Type 0} (m : Result A Fault) (x : A) (k : A → Result B Fault) → m ≡ Ok x → (m >>= k) ≡ k x
goes_on m x k h = ap (λ n. n >>= k) h

-- and behind a fault
pub stops : {A B : Type 0} (m : Result A Fault) (e : Fault) (k : A → Result B Fault) → m ≡ Err e → (m >>= k) ≡ Err e
stops m e k h = ap (λ n. n >>= k) h

-- a fault of what comes first, or want of memory
pub fails : {A B : Type 0} (m : Result A Fault) (e : Fault) (k : A → Result B Fault) → (e ≡ Memory) ⊎ (m ≡ Err e) → (e ≡ Memory) ⊎ ((m >>= k) ≡ Err e)
fails m e k (inl h) = inl h
fails m e k (inr h) = inr (stops m e k h)

-- the same where something else means that
pub fails_as : {A : Type 0} (m n : Result A Fault) (e : Fault) → n ≡ m → (e ≡ Memory) ⊎ (m ≡ Err e) → (e ≡ Memory) ⊎ (n ≡ Err e)
fails_as m n e same (inl h) = inl h
fails_as m n e same (inr h) = inr (same ∙ h)

-- what was given is what something else means
pub given_as : {X Y : Type 0} (view : X → Y) (r : Result X Fault) (m n : Result Y Fault) → n ≡ m → Gives view r m → Gives view r n
given_as view r m n same h = subst (Gives view r) (sym same) h

-- an answer that is changed before it is used
pub through : {A B C : Type 0} (m : Result A Fault) (f : A → B) (k : B → Result C Fault) → (m >>= λ x. k (f x)) ≡ ((m >>= λ x. Ok (f x)) >>= k)
through (Ok x) f k = refl
through (Err e) f k = refl

-- two of them
pub through_both : {A B C D : Type 0} (m : Result A Fault) (n : Result B Fault) (f : A → B → C) (k : C → Result D Fault)
    → (m >>= λ x. n >>= λ y. k (f x y)) ≡ ((m >>= λ x. n >>= λ y. Ok (f x y)) >>= k)
through_both (Ok x) n f k = through n (f x) k
through_both (Err e) n f k = refl
