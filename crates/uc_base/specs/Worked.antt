-- How a list of entries grows.
use Rattle.std.specs.Prelude.{◌≡◌, ◌⊎◌, List, [], ◌∷◌, ◌++◌}

-- the new list is the old one, or has one entry more at its end
abbrev pub Extends : {Entry : Type 0} → List Entry → List Entry → Type 0
Extends {Entry} old new = (new ≡ old) ⊎ ((entry : Entry) × (new ≡ old ++ entry ∷ []))
