-- Each part of a type has fewer nodes than the type.
use Rattle.std.specs.Prelude.{◌+◌, ◌≤◌, max, List, [], ◌∷◌}
use Rattle.std.proofs.Common.{arith}
use denote.Param.Weighed.{most}
use Rattle.uc_context.specs.declared.open.OpenNode.{OpenNode}
use Rattle.uc_context.specs.declared.open.OpenNode.TheVariants.{Bound, Rigid, Exists, Forall, Arrow, Unit, Tuple, Data}
use Rattle.uc_context.specs.declared.open.Open.TheDeep.{deep-OpenNode}
use Rattle.uc_context.specs.Opens.{Open, opens_of, open_size, opens_size}
use Rattle.uc_context.specs.OpenViews.{open_of}

some_nodes : (ts : List Open) → most (λ t. open_size t + 1) ts ≤ opens_size (opens_of ts) + 1
some_nodes [] = omega arith
some_nodes (t ∷ ts) = omega (arith, some_nodes ts)

pub falls : (n : OpenNode) → max (deep-OpenNode n) 0 ≤ open_size (open_of n)
falls (Bound i) = omega arith
falls (Rigid x) = omega arith
falls (Exists x) = omega arith
falls (Forall t) = omega arith
falls (Arrow a b) = omega arith
falls Unit = omega arith
falls (Tuple ts) = omega (arith, some_nodes ts.items)
falls (Data x ts) = omega (arith, some_nodes ts.items)
