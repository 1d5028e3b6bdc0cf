use Rattle.std.proofs.Common.{◌≡◌, take, map}
use Rattle.uc_context.specs.declared.entry.Entry.TheVariants.{Exists}
use Rattle.uc_context.proofs.solving.new_existentials.Given as goal

abbrev pub invariant-loop-n : goal.invariant-loop-n
invariant-loop-n l = l.new.items ≡ map (λ n. Exists n) (take l.n-index l.numbers)
