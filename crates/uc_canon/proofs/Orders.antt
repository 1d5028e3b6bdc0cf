-- The order of first reach: its members are below the count, and how it grows.
use Rattle.std.proofs.Common.{◌≡◌, ℕ, zero, suc, ◌+◌, ◌<◌, ◌≤◌, ◌==◌, List, [], ◌∷◌, ◌++◌, Option, Some, None, length, get_or, refl, sym, ap, ◌∙◌, inl, inr, add-one}
use Rattle.std.specs.List.{list_any, All, slice_get}
use Rattle.std.specs.Option.{option_map_or}
use Rattle.std.proofs.lemmas.Bool.{cases_Bool}
use Rattle.std.proofs.lemmas.Option.{slice_get_read, slice_get_past}
use Rattle.std.proofs.lemmas.List.Elements.{Contains-get_or, All-nil, All-cons, All-head, All-tail, All-push}
use Rattle.uc_base.specs.Graph.{row, InRange}
use Rattle.uc_canon.specs.Numbering.{added, reached, reached_after}
use Rattle.uc_canon.proofs.Reach.{added_held, added_new}

module _ (P : ℕ → Type 0) where
  -- what holds of both lists holds of what is added
  pub added_all : (seen xs : List ℕ) → All P seen → All P xs → All P (added seen xs)
  added_all seen [] a b = a
  added_all seen (x ∷ xs) a b =
      elim (cases_Bool (list_any (λ y. y == x) seen)) [
        | inl e ↦ rw (added_held seen xs x e) (added_all seen xs a (All-tail P x xs b))
        | inr e ↦ rw (added_new seen xs x e) (added_all (seen ++ x ∷ []) xs (All-push P seen x a (All-head P x xs b)) (All-tail P x xs b))
      ]

row_all : (g : List (List ℕ)) (u : ℕ) → InRange g → All (λ v. v < length g) (row g u)
row_all g u range = λ k d lt. range u (get_or (row g u) k d) (Contains-get_or (row g u) k d lt)

pub links_all : (g : List (List ℕ)) (o : Option ℕ) → InRange g → All (λ v. v < length g) (option_map_or (row g) o [])
links_all g None range = All-nil (λ v. v < length g)
links_all g (Some u) range = row_all g u range

-- each member that is reached is a member
pub reached_below : (g : List (List ℕ)) (start k : ℕ) → InRange g → start < length g → All (λ v. v < length g) (reached g start k)
reached_below g start zero range lt = All-cons (λ v. v < length g) start [] lt (All-nil (λ v. v < length g))
reached_below g start (suc k) range lt =
    added_all (λ v. v < length g) (reached g start k) (option_map_or (row g) (slice_get (reached g start k) k) []) (reached_below g start k range lt) (links_all g (slice_get (reached g start k) k) range)

-- the next member is written, where one has the next number
pub reached_more : (g : List (List ℕ)) (start k x : ℕ) (order : List ℕ) → order ≡ reached g start k → k < length order → x ≡ get_or order k x → added order (row g x) ≡ reached g start (k + 1)
reached_more g start k x order e lt is =
    let s : slice_get order k ≡ Some x = slice_get_read order (length order) k x refl lt is in
    let f : option_map_or (row g) (slice_get order k) [] ≡ row g x = ap (λ (o : Option ℕ). option_map_or (row g) o []) s in
    ap (added order) (sym f) ∙ ap (λ (xs : List ℕ). reached_after g k xs) e ∙ ap (reached g start) (sym (add-one k))

-- and nothing changes where none has
pub reached_same : (g : List (List ℕ)) (start k : ℕ) (order : List ℕ) → order ≡ reached g start k → length order ≤ k → order ≡ reached g start (k + 1)
reached_same g start k order e le =
    let f : option_map_or (row g) (slice_get order k) [] ≡ [] = ap (λ (o : Option ℕ). option_map_or (row g) o []) (slice_get_past order k le) in
    ap (added order) (sym f) ∙ ap (λ (xs : List ℕ). reached_after g k xs) e ∙ ap (reached g start) (sym (add-one k))
