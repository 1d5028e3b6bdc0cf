-- Laws of the least text and of the numbering.
use Rattle.std.specs.Prelude.{◌≡◌, ℕ, ◌↔◌, List}
use Rattle.uc_canon.specs.Members.{Members, count_of}
use Rattle.uc_canon.specs.Numbering.{IsOneComponent, IsArrangement, IsReordered, IsLeastText, IsNumbering}

-- the members have at most one least text
abbrev pub LeastTextIsUnique : Type 0
LeastTextIsUnique = (m : Members) (text other : List ℕ) → IsLeastText m text → IsLeastText m other → text ≡ other

-- the members have at most one numbering
abbrev pub NumberingIsUnique : Type 0
NumberingIsUnique = (m : Members) (order other : List ℕ) → IsNumbering m order → IsNumbering m other → order ≡ other

-- the order in which the members of a component are given doesn't matter to the least text
abbrev pub GivenOrderIsFree : Type 0
GivenOrderIsFree = (m n : Members) (order text : List ℕ) → IsOneComponent m → IsArrangement (count_of m) order → IsReordered order m n → IsLeastText m text ↔ IsLeastText n text
