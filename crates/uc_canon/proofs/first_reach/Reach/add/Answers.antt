use Rattle.std.proofs.Common.{◌≡◌, ℕ, ◌∷◌, ◌++◌, [], length, set, subst, arith}
use Rattle.uc_tree.specs.declared.target.Target.TheVariants.{Own}
use Rattle.uc_canon.specs.Starts.{AreReached}
use Rattle.uc_canon.proofs.ReachSteps.{few_reached, reached_push}
use Rattle.uc_canon.proofs.first_reach.Reach.add.Goals as goal

pub overflow_cast-len : goal.overflow_cast-len
overflow_cast-len c =
    let s = c.args.self.now in
    omega (arith, c.requires.small, few_reached c.args.count s.start s.starts.items s.numbers.items s.order.items c.requires.reached, c.len.ensures)

pub returns-clause-reached : goal.returns-clause-reached
returns-clause-reached c =
    let s = c.args.self.now in
    let P : ℕ → Type 0 = λ n. AreReached c.args.count s.start (set s.starts.items c.args.member s.start) (set s.numbers.items c.args.member (Own n)) (s.order.items ++ c.args.member ∷ []) in
    let len : length s.order.items ≡ c.len.result = omega (arith, c.len.ensures) in
    rw c.in_ok-push.ensures.items (subst P len (reached_push c.args.count s.start s.starts.items s.numbers.items s.order.items c.args.member c.requires.member c.requires.fresh c.requires.reached))
