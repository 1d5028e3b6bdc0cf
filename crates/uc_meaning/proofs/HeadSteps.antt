-- The names of a head, one after the other.
use Rattle.std.proofs.Common.{◌≡◌, ℕ, Bool, true, false, cond, List, [], ◌∷◌, refl, sym, ap, ◌∙◌, subst, Option, Some, None}
use Rattle.std.specs.declared.cmp.Ordering.TheVariants.{Less}
use Rattle.std.specs.Ordering.{nat_cmp, is_lt, ordering_reverse}
use Rattle.std.specs.Cmp.Lexicographic.{slice_cmp, nat_list_cmp_total}
use Rattle.std.specs.List.{AllByRecursion}
use Rattle.std.specs.List.Sorted.{IsStrictlySortedBy}
use Rattle.std.proofs.lemmas.Cmp.{tied_itself}
use Rattle.uc_base.specs.declared.reference.Ref.{Ref}
use Rattle.uc_tree.specs.Lookups.{Pairs, pair_order, next_pair}
use Rattle.uc_meaning.specs.HeadNames.{pairs_after}

abbrev pub first_pair : Pairs → Option (List ℕ × Ref)
first_pair [] = None
first_pair (p ∷ ps) = Some p

first_if : (b : Bool) (p : List ℕ × Ref) (ps qs : Pairs) (r : Option (List ℕ × Ref)) → r ≡ first_pair qs → cond b (Some p) r ≡ first_pair (cond b (p ∷ ps) qs)
first_if true p ps qs r e = refl
first_if false p ps qs r e = e

-- the next pair is the first that is left
pub next_first : (name : Option (List ℕ)) (ps : Pairs) → next_pair name ps ≡ first_pair (pairs_after name ps)
next_first None [] = refl
next_first None (p ∷ ps) = refl
next_first (Some name) [] = refl
next_first (Some name) (p ∷ ps) = first_if (is_lt (slice_cmp nat_cmp name p.0)) p ps (pairs_after (Some name) ps) (next_pair (Some name) ps) (next_first (Some name) ps)

all_behind : (w : List ℕ) (ps : Pairs) → AllByRecursion (λ q. slice_cmp nat_cmp w q.0 ≡ Less) ps → pairs_after (Some w) ps ≡ ps
all_behind w [] b = refl
all_behind w (p ∷ ps) b = ap (λ o. cond (is_lt o) (p ∷ ps) (pairs_after (Some w) ps)) b.0

behind_itself : (p : List ℕ × Ref) (ps : Pairs) → IsStrictlySortedBy pair_order (p ∷ ps) → pairs_after (Some p.0) (p ∷ ps) ≡ ps
unfolding IsStrictlySortedBy
behind_itself p ps s = ap (λ o. cond (is_lt o) (p ∷ ps) (pairs_after (Some p.0) ps)) (tied_itself nat_list_cmp_total p.0) ∙ all_behind p.0 ps s.0

if_below : (P : List ℕ × Ref → Type 0) (b : Bool) (q : List ℕ × Ref) (qs rs : Pairs) → AllByRecursion P (q ∷ qs) → AllByRecursion P rs → AllByRecursion P (cond b (q ∷ qs) rs)
if_below P true q qs rs a c = a
if_below P false q qs rs a c = c

below_after : (P : List ℕ × Ref → Type 0) (name : Option (List ℕ)) (ps : Pairs) → AllByRecursion P ps → AllByRecursion P (pairs_after name ps)
below_after P None [] a = a
below_after P None (p ∷ ps) a = a
below_after P (Some name) [] a = a
below_after P (Some name) (p ∷ ps) a = if_below P (is_lt (slice_cmp nat_cmp name p.0)) p ps (pairs_after (Some name) ps) a (below_after P (Some name) ps a.1)

passed : (p q : List ℕ × Ref) (qs rest : Pairs) → slice_cmp nat_cmp q.0 p.0 ≡ Less → pairs_after (Some p.0) qs ≡ rest → pairs_after (Some p.0) (q ∷ qs) ≡ rest
passed p q qs rest h e =
    ap (λ o. cond (is_lt o) (q ∷ qs) (pairs_after (Some p.0) qs)) (nat_list_cmp_total.antisymm p.0 q.0 ∙ ap ordering_reverse h) ∙ e

chosen : (b : Bool) (p q : List ℕ × Ref) (qs rest : Pairs) (name : List ℕ) → IsStrictlySortedBy pair_order (q ∷ qs) → cond b (q ∷ qs) (pairs_after (Some name) qs) ≡ p ∷ rest
    → (pairs_after (Some name) qs ≡ p ∷ rest → pairs_after (Some p.0) qs ≡ rest) → pairs_after (Some p.0) (q ∷ qs) ≡ rest
unfolding IsStrictlySortedBy
chosen true p q qs rest name s e t = subst (λ l. pairs_after (Some p.0) l ≡ rest) (sym e) (behind_itself p rest (subst (IsStrictlySortedBy pair_order) e s))
chosen false p q qs rest name s e t =
    let b : AllByRecursion (λ r. slice_cmp nat_cmp q.0 r.0 ≡ Less) (p ∷ rest) =
    subst (AllByRecursion (λ r. slice_cmp nat_cmp q.0 r.0 ≡ Less)) e (below_after (λ r. slice_cmp nat_cmp q.0 r.0 ≡ Less) (Some name) qs s.0) in
    passed p q qs rest b.0 (t e)

later_sorted : (q : List ℕ × Ref) (qs : Pairs) → IsStrictlySortedBy pair_order (q ∷ qs) → IsStrictlySortedBy pair_order qs
unfolding IsStrictlySortedBy
later_sorted q qs s = s.1

-- what is left behind the next pair
pub after_next : (name : Option (List ℕ)) (ps : Pairs) (p : List ℕ × Ref) (rest : Pairs) → IsStrictlySortedBy pair_order ps → pairs_after name ps ≡ p ∷ rest → pairs_after (Some p.0) ps ≡ rest
after_next None ps p rest s e = subst (λ l. pairs_after (Some p.0) l ≡ rest) (sym e) (behind_itself p rest (subst (IsStrictlySortedBy pair_order) e s))
after_next (Some name) [] p rest s e = cc
after_next (Some name) (q ∷ qs) p rest s e =
    chosen (is_lt (slice_cmp nat_cmp name q.0)) p q qs rest name s e (λ f. after_next (Some name) qs p rest (later_sorted q qs s) f)

first_left : (p : List ℕ × Ref) (ps : Pairs) (qs : Pairs) → Some p ≡ first_pair ps → ((rest : Pairs) → ps ≡ p ∷ rest → qs ≡ rest) → ps ≡ p ∷ qs
first_left p [] qs e f = cc
first_left p (q ∷ ps) qs e f = let h : q ≡ p = cc in let k : qs ≡ ps = f ps (ap (λ r. r ∷ ps) h) in ap (λ r. r ∷ ps) h ∙ ap (λ l. p ∷ l) (sym k)

nothing_left : (ps : Pairs) → None ≡ first_pair ps → ps ≡ []
nothing_left [] e = refl
nothing_left (p ∷ ps) e = cc

-- a step from one pair to the next
pub next_step : (name : Option (List ℕ)) (ps : Pairs) (p : List ℕ × Ref) → IsStrictlySortedBy pair_order ps → Some p ≡ next_pair name ps → pairs_after name ps ≡ p ∷ pairs_after (Some p.0) ps
next_step name ps p s e = first_left p (pairs_after name ps) (pairs_after (Some p.0) ps) (e ∙ next_first name ps) (λ rest h. after_next name ps p rest s h)

-- the end
pub no_step : (name : Option (List ℕ)) (ps : Pairs) → None ≡ next_pair name ps → pairs_after name ps ≡ []
no_step name ps e = nothing_left (pairs_after name ps) (e ∙ next_first name ps)
