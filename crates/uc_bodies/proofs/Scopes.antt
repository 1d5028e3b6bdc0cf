-- Scopes that are entered and left again.
use Rattle.std.proofs.Common.{◌≡◌, ℕ, zero, suc, ◌<◌, List, [], ◌∷◌, ◌++◌, map, reverse, drop, take, get_or, length, Option, Some, ap, sym, ◌∙◌, arith, append_assoc}
use Rattle.std.specs.Prelude.{slice_get}
use Rattle.std.specs.Option.{option_map}
use Rattle.std.proofs.lemmas.List.{reverse-append}
use Rattle.uc_tree.specs.Terms.{Term, lambda}
use Rattle.uc_scratch.specs.declared.written.Written.{Written}
use Rattle.uc_scratch.specs.declared.written.Param.{Param}
use Rattle.uc_meaning.specs.Placed.{Placed}
use Rattle.uc_meaning.specs.ExprMeanings.{param_place, lambdas_over}

one_more : {A : Type 0} (x : A) (xs ys : List A) → reverse (x ∷ xs) ++ ys ≡ reverse xs ++ (x ∷ ys)
one_more x xs ys = ap (λ l. l ++ ys) (reverse-append (x ∷ []) xs) ∙ append_assoc (reverse xs) (x ∷ []) ys

-- the next name of a pattern
pub names_more : (ws : List Written) (i : ℕ) (b : Option (List ℕ)) (old new whole : List (Option (List ℕ)))
    → i < length ws → b ≡ option_map (λ w. w.text) (slice_get ws i) → new ≡ b ∷ old
    → reverse (map (λ w. Some w.text) (drop i ws)) ++ old ≡ whole
    → reverse (map (λ w. Some w.text) (drop (suc i) ws)) ++ new ≡ whole
names_more [] i b old new whole h is e so_far = absurd (omega arith)
names_more (w ∷ ws) zero b old new whole h is e so_far =
    ap (λ l. reverse (map (λ v. Some v.text) ws) ++ l) (e ∙ ap (λ c. c ∷ old) is) ∙ sym (one_more (Some w.text) (map (λ v. Some v.text) ws) old) ∙ so_far
names_more (w ∷ ws) (suc i) b old new whole h is e so_far = names_more ws i b old new whole (omega arith) is e so_far

-- the next parameter, from the last one on
pub lambdas_more : (ps : List Param) (k : ℕ) (p : Param) (t u : Placed Term) → k < length ps → p ≡ get_or ps k p → u ≡ lambdas_over (p ∷ []) t
    → lambdas_over (take k ps) u ≡ lambdas_over (take (suc k) ps) t
lambdas_more [] k p t u h is e = absurd (omega arith)
lambdas_more (q ∷ ps) zero p t u h is e = e ∙ ap (λ r. lambdas_over (r ∷ []) t) is
lambdas_more (q ∷ ps) (suc k) p t u h is e =
    ap (λ b. let body : Placed Term = b in (lambda body.0, param_place q ∷ body.1)) (lambdas_more ps k p t u (omega arith) is e)
