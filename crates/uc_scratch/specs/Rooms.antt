-- Where a text nests nowhere too deep.
use Rattle.std.specs.Prelude.{◌≡◌, ◌≤◌, Bool, true, false, not, ◌&&◌, ◌==◌, List, [], ◌∷◌, length}
use Rattle.uc_scratch.specs.declared.nesting.Open.{Open}
use Rattle.uc_scratch.specs.declared.nesting.Nests.{Nests}
use Rattle.uc_scratch.specs.declared.nesting.Nests.TheVariants.{OpensBracket, OpensBlock}
use Rattle.uc_scratch.specs.declared.terminal.Terminal.{Terminal}
use Rattle.uc_scratch.specs.Nesting.{nests_of, open_behind}

-- whether a token opens a bracket or a block
abbrev pub opens : Nests → Bool
opens OpensBracket = true
opens OpensBlock = true
opens _ = false

-- whether no token opens a level where 128 are open
abbrev pub has_room : List Open → List Terminal → Bool
has_room os [] = true
has_room os (t ∷ ts) = not (length os == 128 && opens (nests_of t)) && has_room (open_behind (nests_of t) os) ts

-- tokens of a text that nests nowhere too deep, with what is open before them
pub record HasRoom (ts : List Terminal) : Type 0 where
  pub levels : List Open
  pub few : length levels ≤ 128
  pub room : has_room levels ts ≡ true
