-- What holds of each target in a tree holds of each in its parts.
use Rattle.std.proofs.Common.{zero, suc, List, ◌∷◌, ◌++◌, arith, refl}
use Rattle.std.specs.List.{Contains}
use Rattle.std.proofs.lemmas.List.Elements.{Contains-append_left, Contains-append_right}

-- a fact that holds of each element of a list
abbrev pub Each : {A : Type 0} → (A → Type 0) → List A → Type 0
Each {A} P xs = (x : A) → Contains xs x → P x

module _ {A : Type 0} {P : A → Type 0} where
  pub first : (x : A) (xs : List A) → Each P (x ∷ xs) → P x
  first x xs c = c x (zero, omega arith, refl)

  pub rest : (x : A) (xs : List A) → Each P (x ∷ xs) → Each P xs
  rest x xs c = λ y h. c y (suc h.0, omega (arith, h.1), h.2)

  pub halves : (xs ys : List A) → Each P (xs ++ ys) → Each P xs × Each P ys
  halves xs ys c = (λ x h. c x (Contains-append_left xs ys x h), λ x h. c x (Contains-append_right xs ys x h))

  pub thirds : (xs ys zs : List A) → Each P (xs ++ ys ++ zs) → Each P xs × Each P ys × Each P zs
  thirds xs ys zs c = let h = halves (xs ++ ys) zs c in let k = halves xs ys h.0 in (k.0, k.1, h.1)

  pub quarters : (xs ys zs ws : List A) → Each P ((xs ++ ys ++ zs) ++ ws) → Each P xs × Each P ys × Each P zs × Each P ws
  quarters xs ys zs ws c = let h = halves (xs ++ ys ++ zs) ws c in let k = thirds xs ys zs h.0 in (k.0, k.1, k.2, h.1)
