-- Putting pairs in name order among others, from the front on.
use Rattle.std.proofs.Common.{◌≡◌, ℕ, List, [], ◌∷◌, ◌++◌, ◌≤◌, arith, length, get_or, true, Option, Some, None, refl, sym, ap, subst, ◌∙◌}
use Rattle.std.specs.Option.{option_to_list, is_some}
use Rattle.std.specs.Prelude.{nat_lt}
use Rattle.std.proofs.lemmas.Bool.{false≢true}
use Rattle.std.proofs.lemmas.Map.Keys.{sorted_tail}
use Rattle.std.specs.List.Sorted.{IsStrictlySortedBy}
use Rattle.std.specs.declared.cmp.Ordering.TheVariants.{Less, Equal, Greater}
use Rattle.uc_base.specs.declared.reference.Ref.{Ref}
use Rattle.uc_tree.specs.Lookups.{Pairs, pair_order}
use Rattle.uc_branch.specs.Pairs.{name_order, put, put_all}
use Rattle.uc_branch.proofs.NameOrder.{tied_names, tied_from, greater_from, less_from}
use Rattle.uc_branch.proofs.PairEdits.{AllAbove, above_put, above_less}

-- a name that is less than all goes to the front
pub put_front : (q : List ℕ × Ref) (ps : Pairs) → AllAbove q.0 ps → put q.0 q.1 ps ≡ q ∷ ps
put_front q [] a = refl
put_front q (p ∷ ps) a = rw a.0 refl

-- the first stays in front of greater names
pub put_all_behind : (qs : Pairs) (p : List ℕ × Ref) (ps : Pairs) → AllAbove p.0 qs → put_all qs (p ∷ ps) ≡ p ∷ put_all qs ps
put_all_behind [] p ps a = refl
put_all_behind (q ∷ qs) p ps a = rw (put_all_behind qs p ps a.1) (rw (greater_from p.0 q.0 a.0) refl)

above_put_all : (name : List ℕ) (qs ps : Pairs) → AllAbove name qs → AllAbove name ps → AllAbove name (put_all qs ps)
above_put_all name [] ps a b = b
above_put_all name (q ∷ qs) ps a b = above_put name q.0 q.1 (put_all qs ps) a.0 (above_put_all name qs ps a.1 b)

module _ (q : List ℕ × Ref) (qs : Pairs) (sorted : IsStrictlySortedBy pair_order (q ∷ qs)) where
  -- the new one comes first
  pub new_alone : put_all (q ∷ qs) [] ≡ q ∷ put_all qs []
  unfolding IsStrictlySortedBy
  new_alone = put_front q (put_all qs []) (above_put_all q.0 qs [] sorted.0 tt)

  module _ (p : List ℕ × Ref) (ps : Pairs) (order : IsStrictlySortedBy pair_order (p ∷ ps)) where
    pub new_first : name_order p.0 q.0 ≡ Greater → put_all (q ∷ qs) (p ∷ ps) ≡ q ∷ put_all qs (p ∷ ps)
    unfolding IsStrictlySortedBy
    new_first e =
        let below = less_from p.0 q.0 e in
        put_front q (put_all qs (p ∷ ps)) (above_put_all q.0 qs (p ∷ ps) sorted.0 (below, above_less q.0 p.0 ps below order.0))

    pub old_first : name_order p.0 q.0 ≡ Less → put_all (q ∷ qs) (p ∷ ps) ≡ p ∷ put_all (q ∷ qs) ps
    unfolding IsStrictlySortedBy
    old_first e = put_all_behind (q ∷ qs) p ps (e, above_less p.0 q.0 qs e sorted.0)

    pub new_for_old : name_order p.0 q.0 ≡ Equal → put_all (q ∷ qs) (p ∷ ps) ≡ q ∷ put_all qs ps
    unfolding IsStrictlySortedBy
    new_for_old e =
        let same = tied_names p.0 q.0 e in
        rw (put_all_behind qs p ps (rw same sorted.0)) (rw (tied_from q.0 p.0 (sym same)) (rw same refl))

-- what is left behind the first is in order
pub sorted_rest : (ps : Pairs) (first : Option (List ℕ × Ref)) (rest : Pairs) → IsStrictlySortedBy pair_order ps → ps ≡ option_to_list first ++ rest → IsStrictlySortedBy pair_order rest
sorted_rest ps None rest sorted is = rw (← is) sorted
sorted_rest ps (Some p) rest sorted is = sorted_tail pair_order p rest (rw is at sorted)

-- the old one is taken
pub old_taken : (old new : Pairs) (p q : List ℕ × Ref) (first : Option (List ℕ × Ref)) (rest : Pairs) → p ≡ get_or old 0 p → q ≡ get_or new 0 q → true ≡ nat_lt 0 (length new) → name_order p.0 q.0 ≡ Less
    → IsStrictlySortedBy pair_order old → IsStrictlySortedBy pair_order new → old ≡ option_to_list first ++ rest → put_all new old ≡ option_to_list first ++ put_all new rest
old_taken old new p q None rest is_p is_q some e order sorted is = ap (put_all new) is
old_taken old [] p q (Some p') rest is_p is_q some e order sorted is = absurd (false≢true (sym some))
old_taken old (q' ∷ qs) p q (Some p') rest is_p is_q some e order sorted is =
    let same : p ≡ p' = is_p ∙ ap (λ (l : Pairs). get_or l 0 p) is in
    let less : name_order p'.0 q'.0 ≡ Less = subst (λ (x : List ℕ × Ref). name_order x.0 q'.0 ≡ Less) same (subst (λ (x : List ℕ × Ref). name_order p.0 x.0 ≡ Less) is_q e) in
    ap (put_all (q' ∷ qs)) is ∙ old_first q' qs sorted p' rest (rw is at order) less

-- the new one is taken
pub new_taken : (old new : Pairs) (p q : List ℕ × Ref) (first : Option (List ℕ × Ref)) (rest : Pairs) → p ≡ get_or old 0 p → q ≡ get_or new 0 q → true ≡ nat_lt 0 (length old) → name_order p.0 q.0 ≡ Greater
    → IsStrictlySortedBy pair_order old → IsStrictlySortedBy pair_order new → new ≡ option_to_list first ++ rest → put_all new old ≡ option_to_list first ++ put_all rest old
new_taken old new p q None rest is_p is_q some e order sorted is = ap (λ (l : Pairs). put_all l old) is
new_taken [] new p q (Some q') rest is_p is_q some e order sorted is = absurd (false≢true (sym some))
new_taken (p' ∷ ps) new p q (Some q') rest is_p is_q some e order sorted is =
    let same : q ≡ q' = is_q ∙ ap (λ (l : Pairs). get_or l 0 q) is in
    let greater : name_order p'.0 q'.0 ≡ Greater = subst (λ (x : List ℕ × Ref). name_order p'.0 x.0 ≡ Greater) same (subst (λ (x : List ℕ × Ref). name_order x.0 q.0 ≡ Greater) is_p e) in
    ap (λ (l : Pairs). put_all l (p' ∷ ps)) is ∙ new_first q' rest (rw is at sorted) p' ps order greater

-- the new one is taken in the place of the old one
pub new_replaces : (old new : Pairs) (p q : List ℕ × Ref) (gone first : Option (List ℕ × Ref)) (left rest : Pairs) → p ≡ get_or old 0 p → q ≡ get_or new 0 q → is_some gone ≡ true → is_some first ≡ true → name_order p.0 q.0 ≡ Equal
    → IsStrictlySortedBy pair_order old → IsStrictlySortedBy pair_order new → old ≡ option_to_list gone ++ left → new ≡ option_to_list first ++ rest → put_all new old ≡ option_to_list first ++ put_all rest left
new_replaces old new p q None first left rest is_p is_q some some' e order sorted is is' = absurd (false≢true some)
new_replaces old new p q (Some p') None left rest is_p is_q some some' e order sorted is is' = absurd (false≢true some')
new_replaces old new p q (Some p') (Some q') left rest is_p is_q some some' e order sorted is is' =
    let same : p ≡ p' = is_p ∙ ap (λ (l : Pairs). get_or l 0 p) is in
    let same' : q ≡ q' = is_q ∙ ap (λ (l : Pairs). get_or l 0 q) is' in
    let equal : name_order p'.0 q'.0 ≡ Equal = subst (λ (x : List ℕ × Ref). name_order x.0 q'.0 ≡ Equal) same (subst (λ (x : List ℕ × Ref). name_order p.0 x.0 ≡ Equal) same' e) in
    ap (put_all new) is ∙ (ap (λ (l : Pairs). put_all l (p' ∷ left)) is' ∙ new_for_old q' rest (rw is' at sorted) p' left (rw is at order) equal)

-- only new ones are left
pub new_left : (old new : Pairs) (first : Option (List ℕ × Ref)) (rest : Pairs) → length old ≤ 0 → IsStrictlySortedBy pair_order new → new ≡ option_to_list first ++ rest → put_all new old ≡ option_to_list first ++ put_all rest old
new_left (p ∷ ps) new first rest none sorted is = absurd (omega (arith, none))
new_left [] new None rest none sorted is = ap (λ (l : Pairs). put_all l []) is
new_left [] new (Some q) rest none sorted is = ap (λ (l : Pairs). put_all l []) is ∙ new_alone q rest (rw is at sorted)
