-- Trees with their places, and type variables, as they are kept.
use Rattle.std.specs.Prelude.{◌≡◌, ℕ, List, [], ◌∷◌, map, Option, Some, None, Vec}
use Rattle.uc_tree.specs.Types.{Ty, Tys, tys_of}
use Rattle.uc_tree.specs.Patterns.{Pattern, Patterns, patterns_of}
use Rattle.uc_tree.specs.Patterns as patterns
use Rattle.uc_scratch.specs.declared.written.Written.{Written}
use Rattle.uc_meaning.specs.Placed.{Placed}
use Rattle.uc_signatures.specs.declared.placed.Placed as kept

-- a tree and its places
abbrev pub placed_of : {A : Type 0} → kept.Placed A → Placed A
placed_of p = (p.tree, p.places)

-- the binders that have a name
abbrev pub named : List (Option (List ℕ)) → List (List ℕ)
named [] = []
named (None ∷ names) = named names
named (Some name ∷ names) = name ∷ named names

-- types and their places
abbrev pub placed_types : {A : Type 0} → kept.Placed (Vec Ty A) → Placed Tys
placed_types p = (tys_of p.tree.items, p.places)

-- each binder has a name
abbrev pub AllNamed : List (Option (List ℕ)) → Type 0
AllNamed bs = bs ≡ map (λ name. Some name) (named bs)

-- patterns and their places
abbrev pub placed_patterns : {A : Type 0} → kept.Placed (Vec Pattern A) → Placed Patterns
placed_patterns p = (patterns_of p.tree.items, p.places)

-- names with `@` over a pattern, each at its place
abbrev pub aliases : List Written → Placed Pattern → Placed Pattern
aliases [] p = p
aliases (w ∷ ws) p = (patterns.alias (aliases ws p).0, w.place ∷ (aliases ws p).1)
