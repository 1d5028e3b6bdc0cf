use Rattle.std.proofs.Common.{◌≡◌, ◌∷◌, ℕ}
use Rattle.std.specs.List.{All}
use Rattle.std.specs.Ordering.{nat_cmp}
use Rattle.std.specs.BTreeMap.Range.{IsLtBy}
use Rattle.uc_components.specs.Order.{TakesLeast}
use Rattle.uc_components.proofs.Sets.{taken_first, some_both}
use Rattle.uc_components.proofs.order.take_least.Goals as goal

pub returns-clause-some : goal.returns-clause-some
returns-clause-some c =
    some_both (λ x. c.args.ready.now.keys ≡ x ∷ c.pop_first.new.self.keys) (λ x. All (IsLtBy nat_cmp x) c.pop_first.new.self.keys) (λ x. TakesLeast c.args.ready.now.keys x c.pop_first.new.self.keys)
    (λ x e above. taken_first c.args.ready.now.keys c.pop_first.new.self.keys x e above) c.pop_first.result c.pop_first.ensures.removal c.pop_first.ensures.all_above
