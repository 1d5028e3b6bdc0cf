-- What a walk over nodes answers.
use Rattle.std.specs.Prelude.{ℕ, ◌+◌, List, [], ◌∷◌, Option, Some, None, Result, Ok, Err}
use Rattle.uc_kinds.specs.declared.flaw.Flaw.{Flaw}
use Rattle.uc_kinds.specs.declared.flaw.Flawed.{Flawed}

-- after so many nodes: how many nodes there are then, or the first flaw with the number of its node
abbrev pub walked : ℕ → List (Option Flaw) → Result ℕ Flawed
walked before [] = Ok before
walked before (None ∷ flaws) = walked (before + 1) flaws
walked before (Some flaw ∷ flaws) = Err (record { flaw = flaw; node = before + 1 })
