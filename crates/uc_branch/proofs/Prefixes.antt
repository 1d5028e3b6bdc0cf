-- Fronts of texts.
use Rattle.std.proofs.Common.{◌≡◌, ℕ, List, [], ◌∷◌, ◌++◌, Bool, true, false, cond, eqb, refl, sym, ap, ◌∙◌, append_assoc, arith}
use Rattle.std.proofs.lemmas.Bool.{eqb-true, false≢true}
use Rattle.std.proofs.lemmas.Bool.Decides.{nat_tests}
use Rattle.std.specs.Bool.{Decides}
use Rattle.uc_base.specs.Name.{IsBelow}
use Rattle.uc_tree.specs.Lookups.{begins_with}
use Rattle.uc_branch.specs.Moving.{is_below}

pub begins_with-append : (front rest : List ℕ) → begins_with front (front ++ rest) ≡ true
begins_with-append [] rest = refl
begins_with-append (c ∷ front) rest = grind (arith, nat_tests, begins_with-append front rest)

pub rest_from : (front text : List ℕ) → begins_with front text ≡ true → (rest : List ℕ) × (text ≡ front ++ rest)
rest_from [] text h = (text, refl)
rest_from (c ∷ front) [] h = absurd (false≢true h)
rest_from (c ∷ front) (d ∷ text) h = go (eqb c d) refl h (rest_from front text)
  where
    go : (b : Bool) → eqb c d ≡ b → (cond b (begins_with front text) false) ≡ true → (begins_with front text ≡ true → (rest : List ℕ) × (text ≡ front ++ rest)) → (rest : List ℕ) × (d ∷ text ≡ c ∷ front ++ rest)
    go true e k more = let r = more k in (r.0, rw (sym (eqb-true c d e)) (ap (λ (l : List ℕ). c ∷ l) r.1))
    go false e k more = absurd (false≢true k)

-- a text stands below another exactly where it begins with it and a dot
pub below_decides : (prefix text : List ℕ) → Decides (is_below prefix text) (IsBelow text prefix)
below_decides prefix text = (
  λ h. let r = rest_from (prefix ++ 46 ∷ []) text h in (r.0, r.1 ∙ append_assoc prefix (46 ∷ []) r.0),
  λ h. rw (h.1 ∙ sym (append_assoc prefix (46 ∷ []) h.0)) (begins_with-append (prefix ++ 46 ∷ []) h.0),
)
