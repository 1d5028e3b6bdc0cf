-- The `use` clauses of blocks that grow.
use Rattle.std.proofs.Common.{◌≡◌, ℕ, ◌+◌, ◌<◌, List, [], ◌∷◌, ◌++◌, map, take, get_or, length, sym, ap, ◌∙◌}
use Rattle.std.specs.Prelude.{Vec, reverse}
use Rattle.std.proofs.lemmas.List.{map-append, reverse-append, take_more}
use Rattle.uc_meaning.specs.declared.usings.Using.{Using}
use Rattle.uc_meaning.specs.UsingViews.{using_of, block_usings, usings_of}

-- one more clause in a block
pub clause_more : (us : List Using) (u : Using) → block_usings (us ++ u ∷ []) ≡ using_of u ∷ block_usings us
clause_more us u = ap reverse (map-append using_of us (u ∷ [])) ∙ reverse-append (map using_of us) (using_of u ∷ [])

-- one more block
pub block_more : {A : Type 0} (bs : List (Vec Using A)) (b : Vec Using A) → usings_of (bs ++ b ∷ []) ≡ block_usings b.items ∷ usings_of bs
block_more bs b = ap reverse (map-append (λ block. block_usings block.items) bs (b ∷ [])) ∙ reverse-append (map (λ block. block_usings block.items) bs) (block_usings b.items ∷ [])

-- the next clause of a block
pub clauses_more : (us : List Using) (i : ℕ) (u : Using) → i < length us → u ≡ get_or us i u → block_usings (take (i + 1) us) ≡ using_of u ∷ block_usings (take i us)
clauses_more us i u h is = ap block_usings (take_more us i u h ∙ ap (λ v. take i us ++ v ∷ []) (sym is)) ∙ clause_more (take i us) u

pub ruleset using_steps = (clause_more, block_more)
