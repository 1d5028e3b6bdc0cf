use Rattle.std.proofs.Common.{arith, sym, subst, ℕ, ◌-◌, take, length}
use Rattle.std.proofs.lemmas.List.{take_all}
use Rattle.uc_context.specs.Indexes.{Indexes}
use Rattle.uc_context.proofs.Orders.{apart_at}
use Rattle.uc_context.proofs.index.Index.truncate.Goals as goal

pub loop-at-init : goal.loop-at-init
loop-at-init c = (omega arith, subst (Indexes c.args.self.now) (sym (take_all (length c.args.entries.now) c.args.entries.now (omega arith))) c.requires.indexed)

pub pop-requires-clause-apart : goal.pop-requires-clause-apart
pop-requires-clause-apart c = apart_at c.args.entries.now (c.loop-at.at - 1) c.index-entries-at.result (omega arith) c.index-entries-at.is c.requires.in_order

pub returns : goal.returns
returns c = subst (λ (n : ℕ). Indexes c.loop-at.self (take n c.args.entries.now)) (omega (arith, c.loop-at.invariant.0, c.loop-at-test.false)) c.loop-at.invariant.1
