-- Lists that are seen from behind.
use Rattle.std.proofs.Common.{◌≡◌, ℕ, ◌-◌, ◌≤◌, List, ◌++◌, length, reverse, take, drop, sym, ap, subst, ◌∙◌, arith}
use Rattle.std.proofs.lemmas.List.{reverse-append, length-reverse, length-drop, take-append-drop, drop_at}
use Rattle.uc_typing.specs.Scopes.{Sight, with_variables}
use Rattle.uc_typing.specs.Stops.{Variables}

-- the first items, seen from behind, are what is left behind the others
reversed_front : {A : Type 0} (xs : List A) (k : ℕ) → k ≤ length xs → reverse (take k xs) ≡ drop (length (reverse xs) - k) (reverse xs)
reversed_front xs k within =
    let whole : reverse xs ≡ reverse (drop k xs) ++ reverse (take k xs) = ap reverse (sym (take-append-drop k xs)) ∙ reverse-append (take k xs) (drop k xs) in
    let behind : length (reverse (drop k xs)) ≡ length (reverse xs) - k = omega (arith, length-reverse (drop k xs), length-reverse xs, length-drop k xs) in
    sym (ap (drop (length (reverse xs) - k)) whole ∙ drop_at (reverse (drop k xs)) (reverse (take k xs)) (length (reverse xs) - k) behind)

-- the variables that are left
pub left_variables : (ys xs : Variables) (seen : List ℕ) (s : Sight) (depth : ℕ) → ys ≡ take depth xs → record { variables = reverse xs; seen = seen } ≡ s → depth ≤ length s.variables
    → record { variables = reverse ys; seen = seen } ≡ with_variables (drop (length s.variables - depth) s.variables) s
left_variables ys xs seen s depth cut view =
    subst (λ (si : Sight). depth ≤ length si.variables → ◌≡◌ {A = Sight} (record { variables = reverse ys; seen = seen }) (with_variables (drop (length si.variables - depth) si.variables) si)) view
    (λ within. ap (λ (vs : Variables). let si : Sight = record { variables = vs; seen = seen } in si) (ap reverse cut ∙ reversed_front xs depth (omega (arith, length-reverse xs))))
