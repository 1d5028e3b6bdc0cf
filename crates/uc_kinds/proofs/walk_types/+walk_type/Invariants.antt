use Rattle.std.proofs.Common.{◌≡◌, ◌+◌, ◌*◌, length, drop}
use Rattle.uc_tree.specs.Types.{ty_size, tys_size, tys_of}
use Rattle.uc_kinds.specs.Flaws.{tys_flaws}
use Rattle.uc_kinds.specs.Walks.{walked}
use Rattle.uc_kinds.proofs.walk_types.+walk_type.Given as goal

abbrev pub decreases-walk_type : goal.decreases-walk_type
decreases-walk_type g l = ty_size l.t.now

abbrev pub decreases-walk_types : goal.decreases-walk_types
decreases-walk_types g l = tys_size (tys_of l.ts.now)

abbrev pub invariant-walk_types-loop-t : goal.invariant-walk_types-loop-t
invariant-walk_types-loop-t g l = (walked l.passed (tys_flaws (g.A.Arities.arity_of l.arities) l.at (tys_of (drop l.t-index l.ts))) ≡ walked l.fn.before (tys_flaws (g.A.Arities.arity_of l.arities) l.at (tys_of l.ts))) × (l.passed + length (tys_flaws (g.A.Arities.arity_of l.arities) l.at (tys_of (drop l.t-index l.ts))) ≡ l.fn.before + length (tys_flaws (g.A.Arities.arity_of l.arities) l.at (tys_of l.ts)))
