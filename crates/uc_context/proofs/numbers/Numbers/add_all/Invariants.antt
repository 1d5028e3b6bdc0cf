use Rattle.std.proofs.Common.{◌≡◌, ◌+◌, ◌==◌, ℕ, length, take, count_by}
use Rattle.uc_context.specs.Numbers.{uses_at}
use Rattle.uc_context.proofs.numbers.Numbers.add_all.Given as goal

abbrev pub invariant-loop-n : goal.invariant-loop-n
invariant-loop-n l = (length l.self ≡ length l.fn.self) × ((x : ℕ) → uses_at l.self x ≡ uses_at l.fn.self x + count_by (λ n. n == x) (take l.n-index l.numbers))
