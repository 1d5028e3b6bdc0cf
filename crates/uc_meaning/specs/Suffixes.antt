-- What the names that end in each of some texts stand for.
use Rattle.std.specs.Prelude.{◌≡◌, ℕ, Bool, List, map, Vec, Option, ⊤, bytes_eq, MatchOption, if◌then◌else◌}
use Rattle.std.specs.Map.{lookup}
use Rattle.std.specs.Option.{option_map}
use Rattle.uc_tree.specs.declared.target.Target.{Target}
use Rattle.uc_meaning.specs.declared.senses.Ending.{Ending}
use Rattle.uc_meaning.specs.Entries.{Entry}
use Rattle.uc_meaning.specs.Candidates.{ending_in}
use Rattle.uc_meaning.specs.Senses.{ending_of, with_name, with_names}

-- texts, each with what the names that end in it stand for
abbrev pub Suffixes : Type 0
Suffixes = List (List ℕ × Ending)

abbrev pub suffixes_of : {A : Type 0} → List (Vec ℕ A × Ending) → Suffixes
suffixes_of es = map (λ e. (e.0.items, e.1)) es

-- what the names that end in a text stand for, where it is among the texts
abbrev pub ending_at : Suffixes → List ℕ → Option Ending
ending_at suffixes w = lookup (bytes_eq w) suffixes

-- what stands at a text, if anything, once the text is told of a name that ends in it or doesn't
abbrev pub told : Bool → Target → Option Ending → Option Ending
told ends t x = option_map (λ y. if ends then with_name t y else y) x

-- what stands at a text, if anything, once the text is told of some names that end in it
abbrev pub told_all : List Entry → Option Ending → Option Ending
told_all es x = option_map (λ y. with_names y es) x

-- each text has what the names that end in it stand for
abbrev pub TellsEndings : List Entry → Suffixes → Type 0
TellsEndings es suffixes = (w : List ℕ) → MatchOption (ending_at suffixes w) ⊤ (λ x. x ≡ ending_of (ending_in es w))
