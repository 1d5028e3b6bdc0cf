-- What holds of the places of programs.
use Rattle.std.specs.Prelude.{◌≡◌, List, Ok}
use Rattle.uc_base.specs.declared.place.Spot.{Spot}
use Rattle.uc_scratch.specs.Files.{Item}
use Rattle.uc_meaning.specs.Meanings.{Known}
use Rattle.uc_meaning.specs.Programs.{Meaning, file_meaning}
use Rattle.uc_resolve.specs.declared.places.Listed.{Listed}
use Rattle.uc_resolve.specs.Members.{IsPlaced, HasNode, HasPlace}

-- in each meaning of a file each member has one place more than nodes
abbrev pub MeaningsArePlaced : Type 0
MeaningsArePlaced = (known : Known) (is : List Item) (m : Meaning) → file_meaning known is ≡ Ok m → IsPlaced m

-- so each node has a place
abbrev pub NodesHavePlaces : Type 0
NodesHavePlaces = (m : Meaning) (list : Listed) (spot : Spot) → IsPlaced m → HasNode m list spot → HasPlace m.places list spot
