-- What holds of the judgements.
use Rattle.std.specs.Prelude.{◌≡◌, ℕ}
use Rattle.uc_context.specs.Entries.{ContextEntries}
use Rattle.uc_context.specs.Opens.{Open}
use Rattle.uc_subtyping.specs.declared.side.Side.{Side}
use Rattle.uc_subtyping.specs.Instantiation.{SolvesInstance}
use Rattle.uc_subtyping.specs.Outcomes.{Outcome}
use Rattle.uc_subtyping.specs.Subtyping.{SolvesSubtype}

-- instantiation has at most one outcome
abbrev pub InstancesHaveOneOutcome : Type 0
InstancesHaveOneOutcome = (s : Side) (es : ContextEntries) (x : ℕ) (t : Open) (o p : Outcome) → SolvesInstance s es x t o → SolvesInstance s es x t p → o ≡ p

-- subtyping has at most one outcome
abbrev pub SubtypesHaveOneOutcome : Type 0
SubtypesHaveOneOutcome = (es : ContextEntries) (a b : Open) (o p : Outcome) → SolvesSubtype es a b o → SolvesSubtype es a b p → o ≡ p
