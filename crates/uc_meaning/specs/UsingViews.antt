-- The `use` clauses that are held in the order of the text, the outermost block first.
use Rattle.std.specs.Prelude.{List, map, reverse, Vec}
use Rattle.uc_scratch.specs.TypeLevels.{texts_of}
use Rattle.uc_meaning.specs.Candidates as candidates
use Rattle.uc_meaning.specs.declared.usings.Using.{Using}

abbrev pub using_of : Using → candidates.Using
using_of u = record { path = u.path.now.text; names = texts_of u.names.now }

-- the clauses of a block
abbrev pub block_usings : List Using → List candidates.Using
block_usings us = reverse (map using_of us)

abbrev pub usings_of : {A : Type 0} → List (Vec Using A) → candidates.Usings
usings_of blocks = reverse (map (λ block. block_usings block.items) blocks)
