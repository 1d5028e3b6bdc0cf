-- Lists of places that grow.
use Rattle.std.specs.Prelude.{List, [], ◌∷◌, ◌++◌}
use Rattle.uc_base.specs.declared.place.Place.{Place}
use Rattle.uc_meaning.specs.Programs.{PlacesOf}
use Rattle.uc_resolve.specs.declared.places.Listed.{Listed}
use Rattle.uc_resolve.specs.declared.places.Listed.TheVariants.{Kinds, Terms, Watches}

abbrev pub no_places : PlacesOf
no_places = record { kinds = []; terms = []; watches = [] }

-- one more member of a list
abbrev pub with_places : PlacesOf → Listed → List Place → PlacesOf
with_places p Kinds places = record p { kinds = p.kinds ++ places ∷ [] }
with_places p Terms places = record p { terms = p.terms ++ places ∷ [] }
with_places p Watches places = record p { watches = p.watches ++ places ∷ [] }
