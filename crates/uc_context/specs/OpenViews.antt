-- The type that a node stands for.
use Rattle.uc_context.specs.Opens.{Open, bound, rigid, existential, quantified, arrow, unit, tuple, applied, opens_of}
use Rattle.uc_context.specs.declared.open.OpenNode.{OpenNode}
use Rattle.uc_context.specs.declared.open.OpenNode.TheVariants.{Bound, Rigid, Exists, Forall, Arrow, Unit, Tuple, Data}

abbrev pub open_of : OpenNode → Open
open_of (Bound i) = bound i
open_of (Rigid x) = rigid x
open_of (Exists x) = existential x
open_of (Forall t) = quantified t.value
open_of (Arrow a b) = arrow a.value b.value
open_of Unit = unit
open_of (Tuple ts) = tuple (opens_of ts.items)
open_of (Data x ts) = applied x (opens_of ts.items)
