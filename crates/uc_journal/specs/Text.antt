-- The text of a journal, and the files that stand for it.
use Rattle.std.specs.Prelude.{◌≡◌, ◌≢◌, ◌⊎◌, ◌≤◌, ℕ, ◌-◌, ◌<◌, ◌^◌, ◌+◌, List, [], ◌∷◌, ◌++◌, length, take, drop}
use Rattle.std.specs.Int.{w32, to_be_bytes}

-- the most bytes of a journal's text
abbrev pub text_limit : ℕ
text_limit = 2 ^ 26

-- UCJRNL01
abbrev pub mark : List ℕ
mark = 85 ∷ 67 ∷ 74 ∷ 82 ∷ 78 ∷ 76 ∷ 48 ∷ 49 ∷ []

-- a payload behind its length
abbrev pub framed : List ℕ → List ℕ
framed payload = to_be_bytes w32 (length payload) ++ payload

-- an open gate, length and payload for each
abbrev pub records : List (List ℕ) → List ℕ
records [] = []
records (payload ∷ payloads) = 1 ∷ framed payload ++ records payloads

-- what stands before the closed gate
abbrev pub front : List (List ℕ) → List ℕ
front payloads = mark ++ records payloads

-- the file begins with the text of these payloads, which has at most text_limit bytes and ends with a closed gate
pub record IsTextOf (payloads : List (List ℕ)) (file : List ℕ) : Type 0 where
  pub gate : ℕ
  pub rest : List ℕ
  pub closed : gate ≢ 1
  pub is : file ≡ front payloads ++ gate ∷ rest
  pub fits : length (front payloads) < text_limit

-- a file that stands for these payloads
abbrev pub IsFileOf : List (List ℕ) → List ℕ → Type 0
IsFileOf payloads file = ((length file ≤ 9) × (payloads ≡ [])) ⊎ IsTextOf payloads file

-- the payload stands whole behind the last gate, whatever that gate is
pub record IsStaged (payloads : List (List ℕ)) (payload file : List ℕ) : Type 0 where
  pub gate : ℕ
  pub rest : List ℕ
  pub is : file ≡ front payloads ++ gate ∷ (framed payload ++ 0 ∷ rest)
  pub fits : length (front (payloads ++ payload ∷ [])) < text_limit

-- what a packed record holds between its length and the gate behind it
abbrev pub payload_of : List ℕ → List ℕ
payload_of bytes = drop 4 (take (length bytes - 1) bytes)

-- the bytes of a record are its length, its payload and a closed gate
pub record IsPacked (bytes : List ℕ) : Type 0 where
  pub whole : bytes ≡ framed (payload_of bytes) ++ 0 ∷ []
  pub short : length (payload_of bytes) < 2 ^ 32

-- no record stands whole there that fits into the text
abbrev pub NoneWhole : ℕ → List ℕ → Type 0
NoneWhole at bytes = (payload : List ℕ) (gate : ℕ) (rest : List ℕ) → bytes ≡ framed payload ++ gate ∷ rest → text_limit < at + 6 + length payload

-- a file with no mark that is too long to be made anew
pub record IsAlien (file : List ℕ) : Type 0 where
  pub long : 9 < length file
  pub unmarked : take 8 file ≢ mark

-- behind the text of some payloads an open gate stands there, and no whole record behind it
pub record IsDamagedAt (at : ℕ) (file : List ℕ) : Type 0 where
  pub long : 9 < length file
  pub payloads : List (List ℕ)
  pub rest : List ℕ
  pub is : file ≡ front payloads ++ 1 ∷ rest
  pub at_is : at ≡ length (front payloads)
  pub fits : at < text_limit
  pub none_whole : NoneWhole at rest
