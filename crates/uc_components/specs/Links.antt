-- The graph of the components, by their numbers.
use Rattle.std.specs.Prelude.{◌≡◌, ℕ, ◌<◌, ◌≤◌, ◌⊎◌, List, length, slice_index}
use Rattle.uc_base.specs.Graph.{Edge}

-- a member of the component c refers to a member of d, which is another one
abbrev pub IsLink : List (List ℕ) → List ℕ → ℕ → ℕ → Type 0
IsLink g home c d = (d ≡ c → ⊥) × (u : ℕ) × (v : ℕ) × (u < length g) × Edge g u v × (slice_index home u ≡ c) × (slice_index home v ≡ d)

-- rows with one row for each number: in `references` row c leads to components to which c refers, and `referrers` are the same turned round
pub record AreLinks (g : List (List ℕ)) (home : List ℕ) (count : ℕ) (references referrers : List (List ℕ)) : Type 0 where
  pub len : length references ≡ count
  pub back_len : length referrers ≡ count
  pub sound : (c d : ℕ) → Edge references c d → IsLink g home c d
  pub mirrored : (c d : ℕ) → Edge references c d → Edge referrers d c
  pub back : (c d : ℕ) → Edge referrers d c → Edge references c d

-- a reference from u to v stays within a component, or is a link
abbrev pub IsCovered : List ℕ → List (List ℕ) → ℕ → ℕ → Type 0
IsCovered home references u v = (slice_index home v ≡ slice_index home u) ⊎ Edge references (slice_index home u) (slice_index home v)

-- the edges of the first rows are edges of the second
abbrev pub Keeps : List (List ℕ) → List (List ℕ) → Type 0
Keeps before after = (c d : ℕ) → Edge before c d → Edge after c d
