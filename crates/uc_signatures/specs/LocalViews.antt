-- How the names in scope are kept: each binder with the place of the one of its name that it hides, and for each name the place of its innermost binder. Places count from the outermost.
use Rattle.std.specs.Prelude.{◌≡◌, ◌<◌, ◌^◌, ℕ, List, [], ◌∷◌, Option, Some, None, Vec, length, map, reverse, if◌then◌else◌, bytes_eq}
use Rattle.std.specs.Map.{lookup}
use Rattle.uc_meaning.specs.ExprMeanings.{is_binder_of}
use Rattle.uc_signatures.specs.declared.local_names.Local.{Local}

-- the place of the innermost binder of a name
abbrev pub last_of : List ℕ → List (Option (List ℕ)) → Option ℕ
last_of w [] = None
last_of w (b ∷ bs) = if is_binder_of w b then Some (length bs) else last_of w bs

-- the binders, the innermost first
abbrev pub names_in : List Local → List (Option (List ℕ))
names_in locals = map (λ l. l.name) locals

abbrev pub names_of : List Local → List (Option (List ℕ))
names_of locals = names_in (reverse locals)

-- the binder that one hides, where it has a name
abbrev pub hidden_by : Option (List ℕ) → List (Option (List ℕ)) → Option ℕ
hidden_by None bs = None
hidden_by (Some w) bs = last_of w bs

-- each binder knows which one it hides; the innermost comes first
abbrev pub AreLinked : List Local → Type 0
AreLinked [] = Unit {0}
AreLinked (l ∷ ls) = (l.shadowed ≡ hidden_by (l.name) (names_in ls)) × AreLinked ls

-- names with the places of their innermost binders, or none where there is no binder left
abbrev pub places_of : {A : Type 0} → List (Vec ℕ A × Option ℕ) → List (List ℕ × Option ℕ)
places_of es = map (λ e. (e.0.items, e.1)) es

-- a place that may be noted
abbrev pub noted : Option (Option ℕ) → Option ℕ
noted None = None
noted (Some place) = place

-- the place that is noted of a name
abbrev pub place_in : List (List ℕ × Option ℕ) → List ℕ → Option ℕ
place_in places w = noted (lookup (bytes_eq w) places)

-- places with that of one name changed
abbrev pub HasAlso : List ℕ → Option ℕ → List (List ℕ × Option ℕ) → List (List ℕ × Option ℕ) → Type 0
HasAlso name place before after = (w : List ℕ) → place_in after w ≡ (if bytes_eq w name then place else place_in before w)

-- the binders know which ones they hide, and the innermost ones are found
pub record IsKept {A : Type 0} (locals : List Local) (last : List (Vec ℕ A × Option ℕ)) : Type 0 where
  pub linked : AreLinked (reverse locals)
  pub indexed : (w : List ℕ) → place_in (places_of last) w ≡ last_of w (names_of locals)
  pub count : length locals < 2 ^ 32
