-- The variables that are bound inside quantifiers.
use Rattle.std.proofs.Common.{◌≡◌, ℕ, ◌||◌, Bool, true, false, List, [], ◌∷◌, ◌++◌, length, take, refl, ap, ◌∙◌}
use Rattle.std.proofs.lemmas.List.Folds.{list_any-append}
use Rattle.std.specs.Prelude.{bytes_eq}
use Rattle.uc_base.specs.Name.{is_one_of}
use Rattle.uc_scratch.specs.declared.written.Written.{Written}
use Rattle.uc_scratch.specs.TypeLevels.{texts_of, quantified_in, some_quantifies}

or_swapped : (a b c : Bool) → (a || (b || c)) ≡ ((b || a) || c)
or_swapped true true c = refl
or_swapped true false c = refl
or_swapped false true c = refl
or_swapped false false c = refl

pub is_bound : (wss : List (List Written)) (scope : List (List ℕ)) (t : List ℕ) → is_one_of (quantified_in wss scope) t ≡ (some_quantifies wss t || is_one_of scope t)
is_bound [] scope t = refl
is_bound (ws ∷ wss) scope t =
    is_bound wss (texts_of ws ++ scope) t ∙ ap (λ b. some_quantifies wss t || b) (list_any-append (λ u. bytes_eq t u) (texts_of ws) scope)
    ∙ or_swapped (some_quantifies wss t) (is_one_of (texts_of ws) t) (is_one_of scope t)

-- one quantifier more, inside the others
pub quantified_more : (wss : List (List Written)) (ws : List Written) (scope : List (List ℕ)) → quantified_in (wss ++ ws ∷ []) scope ≡ texts_of ws ++ quantified_in wss scope
quantified_more [] ws scope = refl
quantified_more (vs ∷ wss) ws scope = quantified_more wss ws (texts_of vs ++ scope)

pub take_before : {A : Type 0} (xs ys : List A) → take (length xs) (xs ++ ys) ≡ xs
take_before [] ys = refl
take_before (x ∷ xs) ys = ap (λ l. x ∷ l) (take_before xs ys)

pub take_same : {A : Type 0} (xs : List A) → take (length xs) xs ≡ xs
take_same [] = refl
take_same (x ∷ xs) = ap (λ l. x ∷ l) (take_same xs)

pub ruleset variables = (is_bound, quantified_more, take_before, take_same)
