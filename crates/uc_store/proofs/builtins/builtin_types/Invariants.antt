use Rattle.std.proofs.Common.{◌≡◌, ℕ, ◌+◌, ◌<◌, length}
use Rattle.std.specs.Prelude.{slice_get}
use Rattle.uc_store.specs.Builtins.{builtin_type}
use Rattle.uc_store.proofs.builtins.builtin_types.Given as goal

abbrev pub invariant-loop-number : goal.invariant-loop-number
invariant-loop-number l = (length l.types.items + 16 ≡ l.number) × ((k : ℕ) → k < length l.types.items → slice_get l.types.items k ≡ builtin_type (k + 16))
