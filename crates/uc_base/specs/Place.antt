-- The text of a place.
use Rattle.std.specs.Prelude.{ℕ, List, ◌∷◌, ◌++◌}
use Rattle.std.specs.Fmt.{decimal}
use Rattle.uc_base.specs.declared.place.Place.{Place}

-- LINE:COLUMN
abbrev pub place_text : Place → List ℕ
place_text place = decimal place.line ++ (58 ∷ decimal place.column)
