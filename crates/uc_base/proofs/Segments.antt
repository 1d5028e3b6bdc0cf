-- The parts of a text between its dots.
use Rattle.std.proofs.Common.{◌≡◌, ℕ, zero, suc, ◌+◌, ◌-◌, ◌<◌, List, [], ◌∷◌, length, take, drop, get_or, refl, ap, arith, ◌==◌, ◌&&◌, true, false, Bool, ◌∙◌, add-one, if◌then◌else◌}
use Rattle.std.proofs.lemmas.Grind.{common_steps}
use Rattle.std.proofs.lemmas.Bool.Decides.{nat_tests}
use Rattle.uc_base.specs.Name.{segments_of, with_first, are_segments, is_word}

not_dot : (c : ℕ) → (c ≡ 46 → ⊥) → (c == 46) ≡ false
not_dot c h = grind (arith, nat_tests)

-- a text without a dot is one segment
pub no_dot : (text : List ℕ) → ((k : ℕ) → k < length text → get_or text k 0 ≡ 46 → ⊥) → segments_of text ≡ text ∷ []
no_dot [] h = refl
no_dot (c ∷ cs) h = rw (not_dot c (h 0 (omega arith)), no_dot cs (λ k l e. h (suc k) (omega arith) e)) refl

-- the first dot ends the first segment
pub first_dot : (text : List ℕ) (i : ℕ) → i < length text → ((k : ℕ) → k < i → get_or text k 0 ≡ 46 → ⊥) → get_or text i 0 ≡ 46
    → segments_of text ≡ take i text ∷ segments_of (drop (suc i) text)
first_dot [] i l h e = cc
first_dot (c ∷ cs) zero l h e = rw e refl
first_dot (c ∷ cs) (suc i) l h e = rw (not_dot c (h 0 (omega arith)), first_dot cs i (omega arith) (λ k m f. h (suc k) (omega arith) f) e) refl

with_first_some : (c : ℕ) (ss : List (List ℕ)) → (s : List ℕ) × (ts : List (List ℕ)) × (with_first c ss ≡ s ∷ ts)
with_first_some c [] = (c ∷ [], [], refl)
with_first_some c (s ∷ ss) = (c ∷ s, ss, refl)

at_dot : (b : Bool) (ss tt : List (List ℕ)) → (s : List ℕ) × (ts : List (List ℕ)) × (tt ≡ s ∷ ts) → (s : List ℕ) × (ts : List (List ℕ)) × ((if b then [] ∷ ss else tt) ≡ s ∷ ts)
at_dot true ss tt h = ([], ss, refl)
at_dot false ss tt h = h

-- there is at least one segment
some_segment : (text : List ℕ) → (s : List ℕ) × (ts : List (List ℕ)) × (segments_of text ≡ s ∷ ts)
some_segment [] = ([], [], refl)
some_segment (c ∷ cs) = at_dot (c == 46) (segments_of cs) _ (with_first_some c (segments_of cs))

-- a segment before others is a wordy one
pub more_segments : (s text : List ℕ) → are_segments (s ∷ segments_of text) ≡ (is_word s && are_segments (segments_of text))
more_segments s text = let h = some_segment text in rw h.2 refl

-- the step of a test of the segments
pub not_word : (text s after : List ℕ) → segments_of text ≡ s ∷ segments_of after → is_word s ≡ false → are_segments (segments_of text) ≡ false
not_word text s after e h = ap are_segments e ∙ more_segments s after ∙ ap (λ b. b && are_segments (segments_of after)) h

pub word : (text s after : List ℕ) → segments_of text ≡ s ∷ segments_of after → is_word s ≡ true → are_segments (segments_of text) ≡ are_segments (segments_of after)
word text s after e h = ap are_segments e ∙ more_segments s after ∙ ap (λ b. b && are_segments (segments_of after)) h

-- what stands behind the dot, as the code takes it
pub first_dot_at : (text : List ℕ) (i : ℕ) → i < length text → ((k : ℕ) → k < i → get_or text k 0 ≡ 46 → ⊥) → get_or text i 0 ≡ 46
    → segments_of text ≡ take i text ∷ segments_of (take (length text - (i + 1)) (drop (i + 1) text))
first_dot_at text i l h e = rw (whole (i + 1) text, add-one i) (first_dot text i l h e)
  where
    whole : (n : ℕ) (xs : List ℕ) → take (length xs - n) (drop n xs) ≡ drop n xs
    whole n xs = grind (arith, common_steps)
