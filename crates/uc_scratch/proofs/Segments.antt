-- The last of the segments of a text.
use Rattle.std.proofs.Common.{◌≡◌, ℕ, Bool, true, false, List, [], ◌∷◌, eqb, cond, refl}
use Rattle.uc_base.specs.Name.{with_first, segments_of}
use Rattle.uc_scratch.specs.Terminals.{last_of, is_one}

-- a list that isn't empty
data IsSome : List (List ℕ) → Type 0 where
  some : {s : List ℕ} {ss : List (List ℕ)} → IsSome (s ∷ ss)

first_some : (c : ℕ) (ss : List (List ℕ)) → IsSome (with_first c ss)
first_some c [] = some
first_some c (s ∷ ss) = some

either_some : (b : Bool) (ss ts : List (List ℕ)) → IsSome ss → IsSome ts → IsSome (cond b ss ts)
either_some true ss ts h k = h
either_some false ss ts h k = k

segments_some : (text : List ℕ) → IsSome (segments_of text)
segments_some [] = some
segments_some (c ∷ cs) = either_some (eqb c 46) ([] ∷ segments_of cs) (with_first c (segments_of cs)) some (first_some c (segments_of cs))

last_behind : (s : List ℕ) (ss : List (List ℕ)) → IsSome ss → last_of (s ∷ ss) ≡ last_of ss
last_behind s [] h = elim h [ ]
last_behind s (t ∷ ss) h = refl

several : (s : List ℕ) (ss : List (List ℕ)) → IsSome ss → is_one (s ∷ ss) ≡ false
several s [] h = elim h [ ]
several s (t ∷ ss) h = refl

-- the last segment stands behind the first dot
pub last_of_rest : (s text : List ℕ) → last_of (s ∷ segments_of text) ≡ last_of (segments_of text)
last_of_rest s text = last_behind s _ (segments_some text)

-- a text with a dot has several segments
pub not_one : (s text : List ℕ) → is_one (s ∷ segments_of text) ≡ false
not_one s text = several s _ (segments_some text)
