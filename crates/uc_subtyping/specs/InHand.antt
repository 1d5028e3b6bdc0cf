-- What judgements are asked about.
use Rattle.std.specs.Prelude.{◌≡◌, true, [], ◌∷◌}
use Rattle.uc_context.specs.declared.entry.Entry.TheVariants.{Rigid, Exists, Solved, Mark, Binder}
use Rattle.uc_context.specs.Opens.{Open}
use Rattle.uc_context.specs.Contexts.{type_under}
use Rattle.uc_context.specs.Counts.{IsSmall}
use Rattle.uc_context.specs.Entries.{ContextEntries}
use Rattle.uc_context.specs.Variables.{has_variables, is_monotype}

-- each solution of a context is a monotype
abbrev pub SolvesByMonotypes : ContextEntries → Type 0
SolvesByMonotypes [] = Unit {0}
SolvesByMonotypes (Rigid x ∷ es) = SolvesByMonotypes es
SolvesByMonotypes (Exists x ∷ es) = SolvesByMonotypes es
SolvesByMonotypes (Solved x t ∷ es) = (is_monotype t ≡ true) × SolvesByMonotypes es
SolvesByMonotypes (Mark x ∷ es) = SolvesByMonotypes es
SolvesByMonotypes (Binder x t ∷ es) = SolvesByMonotypes es

-- a type in hand: its variables stand in the context, all solutions are put in, and it is within limits
pub record IsInHand (es : ContextEntries) (t : Open) : Type 0 where
  pub known : has_variables es t ≡ true
  pub current : type_under es t ≡ t
  pub small : IsSmall t
