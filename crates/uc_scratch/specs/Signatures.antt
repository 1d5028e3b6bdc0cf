-- Signatures among the items of a file.
use Rattle.std.specs.Prelude.{List, [], ◌∷◌, Option, None}
use Rattle.uc_scratch.specs.Files.{Item}
use Rattle.uc_scratch.specs.ExprLevels.{Signed}
use Rattle.uc_scratch.specs.FileLevels.{signed_behind}

-- what some items give to a binding that follows them
abbrev pub signed_after : List Item → Option Signed
signed_after [] = None
signed_after (i ∷ []) = signed_behind i
signed_after (i ∷ j ∷ is) = signed_after (j ∷ is)
