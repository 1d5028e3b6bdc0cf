-- The order of texts that begin alike.
use Rattle.std.proofs.Common.{◌≡◌, ℕ, ◌==◌, ◌&&◌, Bool, true, false, List, [], ◌∷◌, ◌++◌, length, take, drop, nat_eq, Some, refl, sym, ap, ◌∙◌}
use Rattle.std.specs.Ordering.{nat_cmp, ordering_then, is_lt, is_some_and}
use Rattle.std.specs.Cmp.{nat_cmp_total}
use Rattle.std.specs.Cmp.Lexicographic.{slice_cmp, slice_partial_cmp, pointwise, lists_agrees, bytes_decides}
use Rattle.std.specs.declared.cmp.Ordering.{Ordering}
use Rattle.std.specs.declared.cmp.Ordering.TheVariants.{Less, Equal, Greater}
use Rattle.std.proofs.lemmas.Cmp.{tied_itself, ranked}
use Rattle.std.proofs.lemmas.Bool.{eq-eqb}
use Rattle.std.proofs.lemmas.List.{take-append-drop}

-- a common front doesn't count
pub slice_cmp-append : (front xs ys : List ℕ) → slice_cmp nat_cmp (front ++ xs) (front ++ ys) ≡ slice_cmp nat_cmp xs ys
slice_cmp-append [] xs ys = refl
slice_cmp-append (x ∷ front) xs ys = rw (tied_itself nat_cmp_total x) (slice_cmp-append front xs ys)

decided : (o p q : Ordering) → (o ≡ Equal → p ≡ q) → ordering_then o p ≡ ordering_then o q
decided Less p q h = refl
decided Equal p q h = h refl
decided Greater p q h = refl

same_from_tie : (x y : ℕ) → nat_cmp x y ≡ Equal → x ≡ y
same_from_tie x y e = ranked x y Equal (sym e)

and_false : (a b : Bool) → a ≡ true → (a && b) ≡ false → b ≡ false
and_false true b e f = f
and_false false b e f = absurd cc

-- where a text isn't a front of another, what follows doesn't count
pub slice_cmp-cut : (part rest known : List ℕ) → pointwise nat_eq (take (length part) known) part ≡ false → slice_cmp nat_cmp (part ++ rest) known ≡ slice_cmp nat_cmp part known
slice_cmp-cut [] rest known e = absurd cc
slice_cmp-cut (x ∷ part) rest [] e = refl
slice_cmp-cut (x ∷ part) rest (y ∷ known) e = decided (nat_cmp x y) (slice_cmp nat_cmp (part ++ rest) known) (slice_cmp nat_cmp part known)
    (λ q. slice_cmp-cut part rest known (and_false (y == x) (pointwise nat_eq (take (length part) known) part) (eq-eqb y x (sym (same_from_tie x y q))) e))

-- a text that begins with a part
pub front_of : (part known rest : List ℕ) → pointwise nat_eq (take (length part) known) part ≡ true → rest ≡ drop (length part) known → known ≡ part ++ rest
front_of part known rest e is =
    sym (take-append-drop (length part) known) ∙ ap (λ (xs : List ℕ). xs ++ drop (length part) known) ((bytes_decides (take (length part) known) part).0 e) ∙ ap (λ (xs : List ℕ). part ++ xs) (sym is)

lt_told : (o : Ordering) → is_lt o ≡ true → o ≡ Less
lt_told Less e = refl
lt_told Equal e = absurd cc
lt_told Greater e = absurd cc

-- what the test of two texts has told
pub less_told : (part known : List ℕ) (r : Bool) → r ≡ true → r ≡ is_some_and is_lt (slice_partial_cmp (λ x y. Some (nat_cmp x y)) part known) → slice_cmp nat_cmp part known ≡ Less
less_told part known r e is =
    let a : slice_partial_cmp (λ x y. Some (nat_cmp x y)) part known ≡ Some (slice_cmp nat_cmp part known) = lists_agrees (λ x y. refl) part known in
    lt_told (slice_cmp nat_cmp part known) (sym (ap (is_some_and is_lt) a) ∙ sym is ∙ e)

pub not_less_told : (part known : List ℕ) (r : Bool) → r ≡ false → r ≡ is_some_and is_lt (slice_partial_cmp (λ x y. Some (nat_cmp x y)) part known) → slice_cmp nat_cmp part known ≡ Less → ⊥
not_less_told part known r e is h =
    let a : slice_partial_cmp (λ x y. Some (nat_cmp x y)) part known ≡ Some (slice_cmp nat_cmp part known) = lists_agrees (λ x y. refl) part known in
    let f : is_lt (slice_cmp nat_cmp part known) ≡ false = sym (ap (is_some_and is_lt) a) ∙ sym is ∙ e in
    let g : is_lt (slice_cmp nat_cmp part known) ≡ true = ap is_lt h in cc
