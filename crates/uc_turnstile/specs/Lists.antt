-- Sums over lists, facts of each element, and the longer of two lists.
use Rattle.std.specs.Prelude.{◌≡◌, ℕ, ◌+◌, ◌⊎◌, Bool, nat_le, if◌then◌else◌, List, [], ◌∷◌, length}
use mathlib.Core.List.{IsPrefix}

-- 1 where it is true, else 0
abbrev pub bit : Bool → ℕ
bit b = if b then 1 else 0

-- f of each, added up
abbrev pub total : {A : Type 0} → (A → ℕ) → List A → ℕ
total f [] = 0
total f (x ∷ xs) = f x + total f xs

-- P of each
abbrev pub Each : {A : Type 0} → (A → Type 0) → List A → Type 0
Each P [] = Unit {0}
Each P (x ∷ xs) = P x × Each P xs

-- the longer of two lists, the second where they are as long
abbrev pub longer : {A : Type 0} → List A → List A → List A
longer xs ys = if nat_le (length xs) (length ys) then ys else xs

-- the other one
abbrev pub shorter : {A : Type 0} → List A → List A → List A
shorter xs ys = if nat_le (length xs) (length ys) then xs else ys

-- one of two lists begins the other, and this is the longer
abbrev pub IsLongerOf : {A : Type 0} → List A → List A → List A → Type 0
IsLongerOf xs ys zs = (IsPrefix xs ys × (zs ≡ ys)) ⊎ (IsPrefix ys xs × (zs ≡ xs))

-- the first element, or else x
abbrev pub first_or : {A : Type 0} → A → List A → A
first_or x [] = x
first_or x (y ∷ ys) = y

-- all elements but the first
abbrev pub rest_of : {A : Type 0} → List A → List A
rest_of [] = []
rest_of (y ∷ ys) = ys
