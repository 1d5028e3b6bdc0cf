-- Type variables in scope.
use Rattle.std.proofs.Common.{◌≡◌, ℕ, zero, suc, ◌+◌, cond, List, [], ◌∷◌, map, drop, refl, sym, ap, ◌∙◌, subst, Option, Some, add-one}
use Rattle.std.specs.Prelude.{bytes_eq}
use Rattle.std.specs.List.{position_from}
use Rattle.uc_meaning.specs.ExprMeanings.{is_binder_of}
use Rattle.uc_signatures.specs.PlacedViews.{named, AllNamed}

abbrev all_named : List (List ℕ) → List (Option (List ℕ))
all_named names = map (λ name. Some name) names

-- a name is found among binders that all have one as it is among the names
pub found_among : (w : List ℕ) (k : ℕ) (names : List (List ℕ)) → position_from (is_binder_of w) k (all_named names) ≡ position_from (bytes_eq w) k names
found_among w k [] = refl
found_among w k (n ∷ names) = ap (λ r. cond (bytes_eq w n) (Some k) r) (found_among w (k + 1) names)

pub entered_named : (name : List ℕ) (bs : List (Option (List ℕ))) → AllNamed bs → AllNamed (Some name ∷ bs)
entered_named name bs h = ap (λ l. Some name ∷ l) h

named_all : (names : List (List ℕ)) → named (all_named names) ≡ names
named_all [] = refl
named_all (n ∷ names) = ap (λ l. n ∷ l) (named_all names)

left_all : (names : List (List ℕ)) → AllNamed (drop 1 (all_named names))
left_all [] = refl
left_all (n ∷ names) = sym (ap all_named (named_all names))

pub left_named : (bs : List (Option (List ℕ))) → AllNamed bs → AllNamed (drop 1 bs)
left_named bs h = subst (λ l. AllNamed (drop 1 l)) (sym h) (left_all (named bs))

-- one more left
left_suc : {A : Type 0} (n : ℕ) (xs : List A) → drop 1 (drop n xs) ≡ drop (suc n) xs
left_suc zero xs = refl
left_suc (suc n) [] = refl
left_suc (suc n) (x ∷ xs) = left_suc n xs

pub drop_next : {A : Type 0} (n : ℕ) (xs : List A) → drop 1 (drop n xs) ≡ drop (n + 1) xs
drop_next n xs = left_suc n xs ∙ ap (λ k. drop k xs) (sym (add-one n))
