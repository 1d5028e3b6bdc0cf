use Rattle.std.proofs.Common.{◌≡◌, ◌++◌, map}
use Rattle.uc_context.specs.Fresh.{fresh_numbers}
use Rattle.uc_context.specs.declared.entry.Entry.TheVariants.{Exists}
use Rattle.uc_patterns.proofs.declaring.declare_all.Given as goal

abbrev pub invariant-loop : goal.invariant-loop
invariant-loop l = (l.numbers.items ≡ fresh_numbers l.counter l.fn.context) × (l.context ≡ l.fn.context ++ map (λ n. Exists n) l.numbers.items)
