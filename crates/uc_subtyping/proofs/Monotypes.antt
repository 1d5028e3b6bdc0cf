-- Contexts that solve by monotypes.
use Rattle.std.proofs.Common.{Bool, true, false, cond, [], ◌∷◌, ◌++◌}
use Rattle.std.specs.List.{list_any}
use Rattle.uc_context.specs.declared.entry.Entry.{Entry}
use Rattle.uc_context.specs.declared.entry.Entry.TheVariants.{Rigid, Exists, Solved, Mark, Binder}
use Rattle.uc_context.specs.Entries.{ContextEntries, is_same_entry, dropped_from}
use Rattle.uc_subtyping.specs.InHand.{SolvesByMonotypes}

pub monotypes-append : (es ds : ContextEntries) → SolvesByMonotypes es → SolvesByMonotypes ds → SolvesByMonotypes (es ++ ds)
monotypes-append [] ds h k = k
monotypes-append (Rigid x ∷ es) ds h k = monotypes-append es ds h k
monotypes-append (Exists x ∷ es) ds h k = monotypes-append es ds h k
monotypes-append (Solved x t ∷ es) ds h k = (h.0, monotypes-append es ds h.1 k)
monotypes-append (Mark x ∷ es) ds h k = monotypes-append es ds h k
monotypes-append (Binder x t ∷ es) ds h k = monotypes-append es ds h k

monotypes-tail : (e : Entry) (es : ContextEntries) → SolvesByMonotypes (e ∷ es) → SolvesByMonotypes es
monotypes-tail (Rigid x) es h = h
monotypes-tail (Exists x) es h = h
monotypes-tail (Solved x t) es h = h.1
monotypes-tail (Mark x) es h = h
monotypes-tail (Binder x t) es h = h

monotypes-cons : (e : Entry) (es ds : ContextEntries) → SolvesByMonotypes (e ∷ es) → SolvesByMonotypes ds → SolvesByMonotypes (e ∷ ds)
monotypes-cons (Rigid x) es ds h k = k
monotypes-cons (Exists x) es ds h k = k
monotypes-cons (Solved x t) es ds h k = (h.0, k)
monotypes-cons (Mark x) es ds h k = k
monotypes-cons (Binder x t) es ds h k = k

pub monotypes-dropped : (d : Entry) (es : ContextEntries) → SolvesByMonotypes es → SolvesByMonotypes (dropped_from d es)
monotypes-dropped d [] h = tt
monotypes-dropped d (e ∷ es) h = go (list_any (is_same_entry d) es) (is_same_entry d e) (monotypes-dropped d es (monotypes-tail e es h))
  where
    go : (a b : Bool) → SolvesByMonotypes (dropped_from d es) → SolvesByMonotypes (cond a (e ∷ dropped_from d es) (cond b [] (e ∷ es)))
    go true b rest = monotypes-cons e es (dropped_from d es) h rest
    go false true rest = tt
    go false false rest = h
