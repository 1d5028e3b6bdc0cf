-- Numbers found in order.
use Rattle.std.proofs.Common.{◌≡◌, ℕ, ◌+◌, ◌<◌, List, [], ◌∷◌, ◌++◌, length, get_or, drop, refl, sym, ap, ◌∙◌}
use Rattle.std.proofs.lemmas.List.{drop_more}
use Rattle.uc_context.specs.Opens.{Open, opens_of}
use Rattle.uc_context.specs.Occurring.{occurrences, all_occurrences, found_with, found_behind}
use Rattle.uc_context.proofs.Sizes.{open_at}

-- those of two lists are found one after another
pub found_behind-append : (found xs ys : List ℕ) → found_behind found (xs ++ ys) ≡ found_behind (found_behind found xs) ys
found_behind-append found [] ys = refl
found_behind-append found (x ∷ xs) ys = found_behind-append (found_with found x) xs ys

-- those of a list of types from a place on
pub found_at : (found : List ℕ) (ts : List Open) (k : ℕ) (t : Open) → k < length ts → t ≡ get_or ts k t
    → found_behind found (all_occurrences (opens_of (drop k ts))) ≡ found_behind (found_behind found (occurrences t)) (all_occurrences (opens_of (drop (k + 1) ts)))
found_at found ts k t within is =
    ap (λ (us : List Open). found_behind found (all_occurrences (opens_of us))) (drop_more ts k t within ∙ ap (λ (u : Open). u ∷ drop (k + 1) ts) (sym is))
    ∙ found_behind-append found (occurrences t) (all_occurrences (opens_of (drop (k + 1) ts)))

-- what a walk over the existentials of a type uses
pub ruleset found_in_order = (open_at, found_behind-append)
