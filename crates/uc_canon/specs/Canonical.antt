-- Which bytes are the canonical text of a component.
use Rattle.std.specs.Prelude.{◌≡◌, ℕ, List}
use Rattle.uc_canon.specs.Bounds.{InBounds}
use Rattle.uc_canon.specs.Members.{Members, text_of}
use Rattle.uc_canon.specs.Numbering.{IsOneComponent, IsLeastText}

-- the bytes spell the members in their order, which are one component in bounds, and no start gives a lesser text
pub record IsCanonical (bytes : List ℕ) (m : Members) : Type 0 where
  pub spelled : bytes ≡ text_of m
  pub bounds : InBounds m
  pub one : IsOneComponent m
  pub least : IsLeastText m bytes
