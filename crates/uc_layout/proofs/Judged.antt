-- What is judged of a whole lexeme.
use Rattle.std.proofs.Common.{◌≡◌, ℕ, ◌+◌, ◌-◌, ◌*◌, ◌<◌, ◌≤◌, false, List, [], ◌∷◌, length, refl, ap, sym, ◌∙◌, nat_le, arith}
use Rattle.std.proofs.lemmas.Bool.Decides.{nat_tests}
use Rattle.uc_layout.specs.declared.automaton.Form.{Form}
use Rattle.uc_layout.specs.declared.start.Wrong.TheVariants.{Bad}
use Rattle.uc_layout.specs.declared.judge.Judgement.TheVariants as judgement
use Rattle.uc_layout.specs.Judgement.{value_from, judged, judged_some}

pub judged_none : (f : Form) (text : List ℕ) → length text ≡ 0 → judged f text ≡ judgement.Wrong Bad
unfolding judged
judged_none f [] h = refl
judged_none f (c ∷ cs) h = absurd (omega arith)

pub judged_one : (f : Form) (text : List ℕ) → 0 < length text → judged f text ≡ judged_some f text
unfolding judged
judged_one f [] h = absurd (omega arith)
judged_one f (c ∷ cs) h = refl

-- more digits make no smaller number
value_rises : (n : ℕ) (cs : List ℕ) → n ≤ value_from n cs
value_rises n [] = omega arith
value_rises n (c ∷ cs) = omega (arith, value_rises (n * 10 + (c - 48)) cs)

too_large : (v most : ℕ) → most < v → nat_le v most ≡ false
too_large v most h = grind (arith, nat_tests)

-- a digit that takes the number past the most
pub passes : (digits rest after : List ℕ) (c n digit most : ℕ) → rest ≡ c ∷ after → digit ≡ c - 48 → value_from n rest ≡ value_from 0 digits
    → most < n * 10 + digit → false ≡ nat_le (value_from 0 digits) most
passes digits rest after c n digit most e d v h =
    let p : most < n * 10 + (c - 48) = omega (arith, d) in
    let q : most < value_from (n * 10 + (c - 48)) after = omega (arith, value_rises (n * 10 + (c - 48)) after) in
    sym (ap (λ x. nat_le x most) (sym v ∙ ap (λ x. value_from n x) e) ∙ too_large _ most q)
