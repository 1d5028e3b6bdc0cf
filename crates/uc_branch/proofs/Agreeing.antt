-- Tests of references that agree, and what they find.
use Rattle.std.proofs.Common.{◌≡◌, ℕ, zero, suc, ◌<◌, ◌+◌, List, [], ◌∷◌, ◌++◌, length, get_or, take, map, Bool, true, false, not, cond, ◌&&◌, Option, option_map, refl, sym, ap, ◌∙◌, append_assoc, append-nil, add-one, arith}
use Rattle.std.specs.List.{filter, find, list_any}
use Rattle.std.specs.List.Sorted.{IsStrictlySortedBy}
use Rattle.std.proofs.lemmas.List.Elements.{filter_agree}
use Rattle.uc_base.specs.declared.reference.Ref.{Ref}
use Rattle.uc_tree.specs.Lookups.{Pairs, pair_order}
use Rattle.uc_branch.specs.Pairs.{pair_name, lesser}
use Rattle.uc_branch.specs.Heads.{HeadPairs}
use Rattle.uc_branch.specs.Deleting.{is_def, is_lost, uses_lost, least_user}
use Rattle.uc_branch.specs.Todo.{todo_at, todo_in}
use Rattle.uc_branch.proofs.Least.{least_passing}

any_agree : {X : Type 0} (p q : X → Bool) → ((x : X) → p x ≡ q x) → (xs : List X) → list_any p xs ≡ list_any q xs
any_agree p q h [] = refl
any_agree p q h (x ∷ xs) = rw (h x, any_agree p q h xs) refl

find_agree : {X : Type 0} (p q : X → Bool) → ((x : X) → p x ≡ q x) → (xs : List X) → find p xs ≡ find q xs
find_agree p q h [] = refl
find_agree p q h (x ∷ xs) = rw (h x, find_agree p q h xs) refl

module _ (direct : Ref → List Ref) where
  uses_agree : (m n : Ref → Bool) → ((r : Ref) → m r ≡ n r) → (p : List ℕ × Ref) → uses_lost direct m p ≡ uses_lost direct n p
  uses_agree m n h p = ap (λ b. is_def p.1 && b) (any_agree m n h (direct p.1))

  -- the lesser of the first users is the least user
  pub user_found : (old new : HeadPairs) (lost : Ref → Bool) → ((r : Ref) → lost r ≡ is_lost old new r) → IsStrictlySortedBy pair_order new.kinds → IsStrictlySortedBy pair_order new.terms
      → lesser (option_map pair_name (find (uses_lost direct lost) new.kinds)) (option_map pair_name (find (uses_lost direct lost) new.terms)) ≡ least_user direct old new
  user_found old new lost h kinds terms =
      rw (find_agree (uses_lost direct lost) (uses_lost direct (is_lost old new)) (uses_agree lost (is_lost old new) h) new.kinds, find_agree (uses_lost direct lost) (uses_lost direct (is_lost old new)) (uses_agree lost (is_lost old new) h) new.terms)
      (rw (← least_passing (uses_lost direct (is_lost old new)) new.kinds kinds, ← least_passing (uses_lost direct (is_lost old new)) new.terms terms) refl)

  at_agree : (m n : Ref → Bool) → ((r : Ref) → m r ≡ n r) → (p : List ℕ × Ref) → todo_at direct m p ≡ todo_at direct n p
  at_agree m n h p = ap (λ (rs : List Ref). cond (is_def p.1) (map (λ r. (p.0, r)) rs) []) (filter_agree (λ r. not (m r)) (λ r. not (n r)) (λ r. ap not (h r)) (direct p.1))

  pub todo_agree : (m n : Ref → Bool) → ((r : Ref) → m r ≡ n r) → (ps : Pairs) → todo_in direct m ps ≡ todo_in direct n ps
  todo_agree m n h [] = refl
  todo_agree m n h (p ∷ ps) = rw (at_agree m n h p, todo_agree m n h ps) refl

  -- one more name
  pub todo_more : (named : Ref → Bool) (ps : Pairs) (i : ℕ) (p : List ℕ × Ref) → i < length ps → p ≡ get_or ps i p → todo_in direct named (take (suc i) ps) ≡ todo_in direct named (take i ps) ++ todo_at direct named p
  todo_more named [] i p h is = absurd (omega (arith, h))
  todo_more named (q ∷ ps) zero p h is = rw is (append-nil (todo_at direct named q))
  todo_more named (q ∷ ps) (suc i) p h is = rw (todo_more named ps i p (omega (arith, h)) is) (sym (append_assoc (todo_at direct named q) (todo_in direct named (take i ps)) (todo_at direct named p)))

  -- the least user by what was found
  pub user_is : (old new : HeadPairs) (lost : Ref → Bool) → ((r : Ref) → lost r ≡ is_lost old new r) → (kinds terms : Pairs) → record { kinds = kinds; terms = terms } ≡ new → IsStrictlySortedBy pair_order kinds → IsStrictlySortedBy pair_order terms
      → (k t u : Option (List ℕ)) → k ≡ option_map pair_name (find (uses_lost direct lost) kinds) → t ≡ option_map pair_name (find (uses_lost direct lost) terms) → u ≡ lesser k t → least_user direct old new ≡ u
  user_is old new lost h kinds terms is sk st k t u ek et eu =
      let head : HeadPairs = record { kinds = kinds; terms = terms } in
      let found = user_found old head lost (λ r. h r ∙ ap (λ (n : HeadPairs). is_lost old n r) (sym is)) sk st in
      ap (λ (n : HeadPairs). least_user direct old n) (sym is) ∙ (sym found ∙ sym (eu ∙ (ap (λ (x : Option (List ℕ)). lesser x t) ek ∙ ap (λ (x : Option (List ℕ)). lesser (option_map pair_name (find (uses_lost direct lost) kinds)) x) et)))

  pub at_def : (named : Ref → Bool) (p : List ℕ × Ref) → is_def p.1 ≡ true → map (λ r. (p.0, r)) (filter (λ r. not (named r)) (direct p.1)) ≡ todo_at direct named p
  at_def named p e = rw e refl

  pub at_other : (named : Ref → Bool) (p : List ℕ × Ref) → is_def p.1 ≡ false → [] ≡ todo_at direct named p
  at_other named p e = rw e refl

  pub todo_step : (named : Ref → Bool) (ps : Pairs) (i : ℕ) (p : List ℕ × Ref) (before out : Pairs) → i < length ps → p ≡ get_or ps i p → out ≡ before ++ todo_in direct named (take i ps) → out ++ todo_at direct named p ≡ before ++ todo_in direct named (take (i + 1) ps)
  todo_step named ps i p before out h is so_far =
      ap (λ (l : Pairs). l ++ todo_at direct named p) so_far
      ∙ (append_assoc before (todo_in direct named (take i ps)) (todo_at direct named p) ∙ ap (λ (l : Pairs). before ++ l) (rw add-one (sym (todo_more named ps i p h is))))
