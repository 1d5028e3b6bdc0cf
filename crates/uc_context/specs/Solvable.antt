-- Which types may solve which existentials.
use Rattle.std.specs.Prelude.{ℕ, Bool, ◌&&◌}
use Rattle.uc_context.specs.Opens.{Open}
use Rattle.uc_context.specs.Entries.{ContextEntries, before}
use Rattle.uc_context.specs.Variables.{is_monotype, has_variables}

-- whether a type is a monotype whose variables all stand before an existential
abbrev pub can_solve : ContextEntries → ℕ → Open → Bool
can_solve es x t = is_monotype t && has_variables (before x es) t
