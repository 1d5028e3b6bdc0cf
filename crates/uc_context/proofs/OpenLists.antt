-- Lists of types, as parts of a type and as lists.
use Rattle.std.proofs.Common.{◌≡◌, ℕ, List, [], ◌∷◌, map, refl, ap}
use Rattle.uc_context.specs.Opens.{Open, more, opens_of}
use Rattle.uc_context.specs.Generalising.{all_bound_at, each_bound_at}
use Rattle.uc_context.specs.Variables.{opened_at, opened_all_at}

pub opens_of-injective : (ts us : List Open) → opens_of ts ≡ opens_of us → ts ≡ us
opens_of-injective [] [] e = refl
opens_of-injective [] (u ∷ us) e = absurd cc
opens_of-injective (t ∷ ts) [] e = absurd cc
opens_of-injective (t ∷ ts) (u ∷ us) e = let f : ts ≡ us = opens_of-injective ts us cc in cc

-- a list of types, opened one by one
pub opened_all_at-opens_of : (k : ℕ) (by : Open) (ts : List Open) → opens_of (map (opened_at k by) ts) ≡ opened_all_at k by (opens_of ts)
opened_all_at-opens_of k by [] = refl
opened_all_at-opens_of k by (t ∷ ts) = ap (more (opened_at k by t)) (opened_all_at-opens_of k by ts)

-- a list of types whose existentials are bound one by one
pub each_bound_at-opens_of : (xs : List ℕ) (k : ℕ) (ts : List Open) → opens_of (map (all_bound_at xs k) ts) ≡ each_bound_at xs k (opens_of ts)
each_bound_at-opens_of xs k [] = refl
each_bound_at-opens_of xs k (t ∷ ts) = ap (more (all_bound_at xs k t)) (each_bound_at-opens_of xs k ts)
