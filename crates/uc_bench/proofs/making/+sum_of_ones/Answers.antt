use Rattle.std.proofs.Common.{◌≡◌, ℕ, ◌+◌, ◌≤◌, IfOk, Result, Ok, Err, sym, subst, arith}
use Rattle.uc_tree.specs.Terms.{Term}
use Rattle.uc_bench.specs.Ordinary.{IsSum, of_one, of_halves, one, addition}
use Rattle.uc_bench.proofs.making.+sum_of_ones.Goals as goal

alone : (n : ℕ) (e : Term) → n ≡ 1 → e ≡ one → IsSum n e
alone n e single is = subst (λ (k : ℕ). IsSum k e) (sym single) (subst (IsSum 1) (sym is) of_one)

halved : {E : Type 0} (r : Result Term E) (k m n : ℕ) (a b : Term) → IsSum m a → IsSum n b → m ≤ n → n ≤ m + 1 → k ≡ m + n
    → IfOk r (λ (e : Term). e ≡ addition a b) → IfOk r (IsSum k)
halved (Ok e) k m n a b s t few many is made = subst (IsSum k) (sym made) (of_halves m n s t few many is)
halved (Err e) k m n a b s t few many is made = tt

pub returns-then-count-eq1 : goal.returns-then-count-eq1
returns-then-count-eq1 t c = alone c.args.count c.one.result c.if-count-eq1.true c.one.ensures

pub returns : goal.returns
returns t c =
    halved c.sum.result c.args.count _ _ c.in_ok-first.first c.in_ok-second.second c.in_ok-first.ensures c.in_ok-second.ensures
    (omega arith) (omega arith) (omega arith) c.sum.ensures
