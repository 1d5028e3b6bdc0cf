-- What a term sees.
use Rattle.std.specs.Prelude.{ℕ, List, [], ◌∷◌, Option}
use Rattle.uc_typing.specs.Stops.{Variables}

-- the binders of the term variables, the innermost first; and the rigid variables that annotations see, the innermost first
pub record Sight : Type 0 where
  pub variables : Variables
  pub seen : List ℕ

abbrev pub no_sight : Sight
no_sight = record { variables = []; seen = [] }

-- under a binder
abbrev pub under : Option ℕ → Sight → Sight
under binder sight = record { variables = binder ∷ sight.variables; seen = sight.seen }

-- with these variables
abbrev pub with_variables : Variables → Sight → Sight
with_variables vars sight = record { variables = vars; seen = sight.seen }

-- with one more rigid variable that annotations see
abbrev pub with_seen : ℕ → Sight → Sight
with_seen x sight = record { variables = sight.variables; seen = x ∷ sight.seen }
