-- What is left of tokens.
use Rattle.std.proofs.Common.{◌≡◌, ℕ, zero, suc, ◌-◌, List, [], ◌∷◌, length, take, drop, refl, ap, ◌∙◌, arith}
use Rattle.std.proofs.lemmas.Grind.{common_steps}
use Rattle.uc_layout.specs.declared.token.Token.{Token}
use Rattle.uc_layout.specs.Tokens.{seen}

whole : (n : ℕ) (ts : List Token) → take (length ts - n) (drop n ts) ≡ drop n ts
whole n ts = grind (arith, common_steps)

seen_drop : (n : ℕ) (ts : List Token) → seen (drop n ts) ≡ drop n (seen ts)
seen_drop zero ts = refl
seen_drop (suc n) [] = refl
seen_drop (suc n) (t ∷ ts) = seen_drop n ts

pub seen_rest : (n : ℕ) (ts : List Token) → seen (take (length ts - n) (drop n ts)) ≡ drop n (seen ts)
seen_rest n ts = ap seen (whole n ts) ∙ seen_drop n ts
