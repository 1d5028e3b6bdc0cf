-- Look-ups and edits of pairs in name order.
use Rattle.std.proofs.Common.{◌≡◌, ℕ, zero, suc, ◌+◌, List, [], ◌∷◌, get_or, set, Some, None, refl, sym, ap, ◌∙◌, arith}
use Rattle.std.proofs.lemmas.List.Elements.{All-head, All-tail}
use Rattle.std.proofs.lemmas.Map.Entries.{lookup_head, lookup_tail}
use Rattle.std.specs.List.{All, AllByRecursion, insert, remove}
use Rattle.std.specs.List.Sorted.{IsStrictlySortedBy}
use Rattle.std.specs.Ordering.{match_ordering}
use Rattle.std.specs.declared.cmp.Ordering.{Ordering}
use Rattle.std.specs.declared.cmp.Ordering.TheVariants.{Less, Equal, Greater}
use Rattle.std.specs.Prelude.{slice_get}
use native.Mathlib.Numerals.{unary_clauses}
use Rattle.uc_base.specs.declared.reference.Ref.{Ref}
use Rattle.uc_tree.specs.Lookups.{Pairs, pair_order, next_pair}
use Rattle.uc_branch.specs.Pairs.{name_order, is_same_name, pair_name, target_of, put, put_all, without}
use Rattle.uc_branch.specs.Places.{IsPlace, IsGap}
use Rattle.uc_branch.proofs.NameOrder.{is_same_from, tied_from, greater_from, less_from, less_trans, apart_if_less, apart_if_greater}
use Rattle.uc_branch.proofs.Searched.{first_before, rest_place, first_before_gap, rest_gap, first_after_gap}

-- pairs whose names all are greater
abbrev AllAfter : List ℕ → Pairs → Type 0
AllAfter name ps = All (λ p. name_order (pair_name p) name ≡ Greater) ps

found_none : (name : List ℕ) (ps : Pairs) → AllAfter name ps → target_of name ps ≡ None
found_none name [] h = refl
found_none name (p ∷ ps) h =
    lookup_tail (is_same_name name) p ps (apart_if_greater p.0 name (All-head (λ p. name_order (pair_name p) name ≡ Greater) p ps h))
    ∙ found_none name ps (All-tail (λ p. name_order (pair_name p) name ≡ Greater) p ps h)

-- what stands at the place of a name is found
pub found_at : (name : List ℕ) (ps : Pairs) (at : ℕ) (d : List ℕ × Ref) → IsPlace pair_name name ps at → target_of name ps ≡ Some (get_or ps at d).1
found_at name [] at d h = absurd (omega (arith, h.in_range))
found_at name (p ∷ ps) zero d h = lookup_head (is_same_name name) p ps (is_same_from name p.0 (sym (h.here d)))
found_at name (p ∷ ps) (suc at) d h =
    lookup_tail (is_same_name name) p ps (apart_if_less p.0 name (first_before p ps at h)) ∙ found_at name ps at d (rest_place p ps at h)

-- a name with a gap isn't found
pub found_no : (name : List ℕ) (ps : Pairs) (at : ℕ) → IsGap pair_name name ps at → target_of name ps ≡ None
found_no name ps zero h = found_none name ps h.after
found_no name [] (suc at) h = refl
found_no name (p ∷ ps) (suc at) h =
    lookup_tail (is_same_name name) p ps (apart_if_less p.0 name (first_before_gap p ps at h)) ∙ found_no name ps at (rest_gap p ps at h)

-- the next pair behind the place of a name
pub next_at : (name : List ℕ) (ps : Pairs) (at : ℕ) → IsPlace pair_name name ps at → next_pair (Some name) ps ≡ slice_get ps (at + 1)
next_at name [] at h = absurd (omega (arith, h.in_range))
next_at name (p ∷ []) zero h = rw (tied_from name p.0 (sym (h.here p))) refl
next_at name (p ∷ q ∷ ps) zero h = rw (tied_from name p.0 (sym (h.here p)), less_from q.0 name (All-head (λ p. name_order (pair_name p) name ≡ Greater) q ps h.after)) refl
next_at name (p ∷ ps) (suc at) h = rw (greater_from p.0 name (first_before p ps at h)) (simp unary_clauses (simp unary_clauses at (next_at name ps at (rest_place p ps at h))))

-- the next pair behind the gap of a name
pub next_no : (name : List ℕ) (ps : Pairs) (at : ℕ) → IsGap pair_name name ps at → next_pair (Some name) ps ≡ slice_get ps at
next_no name [] zero h = refl
next_no name (p ∷ ps) zero h = rw (less_from p.0 name (first_after_gap p ps h)) refl
next_no name [] (suc at) h = refl
next_no name (p ∷ ps) (suc at) h = rw (greater_from p.0 name (first_before_gap p ps at h)) (next_no name ps at (rest_gap p ps at h))

-- the first pair of all
pub next_first : (ps : Pairs) → next_pair None ps ≡ slice_get ps 0
next_first [] = refl
next_first (p ∷ ps) = refl

-- a put at the place of a name changes what it stands for
pub put_at : (name : List ℕ) (r : Ref) (ps : Pairs) (at : ℕ) (p : List ℕ × Ref) → IsPlace pair_name name ps at → p ≡ get_or ps at p → set ps at (p.0, r) ≡ put name r ps
put_at name r [] at p h is = absurd (omega (arith, h.in_range))
put_at name r (q ∷ ps) zero p h is = rw (tied_from name q.0 (sym (h.here q)), is) refl
put_at name r (q ∷ ps) (suc at) p h is = rw (greater_from q.0 name (first_before q ps at h)) (ap (λ (l : Pairs). q ∷ l) (put_at name r ps at p (rest_place q ps at h) is))

-- a put in the gap of a name is an insert
pub put_no : (name : List ℕ) (r : Ref) (ps : Pairs) (at : ℕ) → IsGap pair_name name ps at → insert ps at (name, r) ≡ put name r ps
put_no name r [] zero h = refl
put_no name r (q ∷ ps) zero h = rw (less_from q.0 name (first_after_gap q ps h)) refl
put_no name r [] (suc at) h = refl
put_no name r (q ∷ ps) (suc at) h = rw (greater_from q.0 name (first_before_gap q ps at h)) (ap (λ (l : Pairs). q ∷ l) (put_no name r ps at (rest_gap q ps at h)))

stays_all : (name : List ℕ) (ps : Pairs) → AllAfter name ps → without (is_same_name name) ps ≡ ps
stays_all name [] h = refl
stays_all name (p ∷ ps) h =
    rw (apart_if_greater p.0 name (All-head (λ p. name_order (pair_name p) name ≡ Greater) p ps h))
    (ap (λ (l : Pairs). p ∷ l) (stays_all name ps (All-tail (λ p. name_order (pair_name p) name ≡ Greater) p ps h)))

-- without a name at its place
pub without_at : (name : List ℕ) (ps : Pairs) (at : ℕ) → IsPlace pair_name name ps at → remove ps at ≡ without (is_same_name name) ps
without_at name [] at h = absurd (omega (arith, h.in_range))
without_at name (p ∷ ps) zero h = rw (is_same_from name p.0 (sym (h.here p))) (sym (stays_all name ps h.after))
without_at name (p ∷ ps) (suc at) h = rw (apart_if_less p.0 name (first_before p ps at h)) (ap (λ (l : Pairs). p ∷ l) (without_at name ps at (rest_place p ps at h)))

-- without a name that has a gap
pub without_no : (name : List ℕ) (ps : Pairs) (at : ℕ) → IsGap pair_name name ps at → without (is_same_name name) ps ≡ ps
without_no name ps zero h = stays_all name ps h.after
without_no name [] (suc at) h = refl
without_no name (p ∷ ps) (suc at) h = rw (apart_if_less p.0 name (first_before_gap p ps at h)) (ap (λ (l : Pairs). p ∷ l) (without_no name ps at (rest_gap p ps at h)))

-- greater than a name
abbrev pub AllAbove : List ℕ → Pairs → Type 0
AllAbove name ps = AllByRecursion (λ q. name_order name q.0 ≡ Less) ps

pub above_put : (least name : List ℕ) (r : Ref) (ps : Pairs) → name_order least name ≡ Less → AllAbove least ps → AllAbove least (put name r ps)
above_put least name r [] h a = (h, tt)
above_put least name r (p ∷ ps) h a = go (name_order name p.0) (above_put least name r ps h a.1)
  where
    go : (o : Ordering) → AllAbove least (put name r ps) → AllAbove least (match_ordering o ((name, r) ∷ p ∷ ps) ((p.0, r) ∷ ps) (p ∷ put name r ps))
    go Less rest = (h, a)
    go Equal rest = (a.0, a.1)
    go Greater rest = (a.0, rest)

pub above_less : (least name : List ℕ) (ps : Pairs) → name_order least name ≡ Less → AllAbove name ps → AllAbove least ps
above_less least name [] h a = tt
above_less least name (p ∷ ps) h a = (less_trans least name p.0 h a.0, above_less least name ps h a.1)

-- a put keeps the order
pub sorted_put : (name : List ℕ) (r : Ref) (ps : Pairs) → IsStrictlySortedBy pair_order ps → IsStrictlySortedBy pair_order (put name r ps)
unfolding IsStrictlySortedBy
sorted_put name r [] s = (tt, tt)
sorted_put name r (p ∷ ps) s = go (name_order name p.0) refl (sorted_put name r ps s.1)
  where
    go : (o : Ordering) → name_order name p.0 ≡ o → IsStrictlySortedBy pair_order (put name r ps) → IsStrictlySortedBy pair_order (match_ordering o ((name, r) ∷ p ∷ ps) ((p.0, r) ∷ ps) (p ∷ put name r ps))
    go Less e rest = ((e, above_less name p.0 ps e s.0), s)
    go Equal e rest = (s.0, s.1)
    go Greater e rest = (above_put p.0 name r ps (less_from name p.0 e) s.0, rest)

pub sorted_put_all : (qs ps : Pairs) → IsStrictlySortedBy pair_order ps → IsStrictlySortedBy pair_order (put_all qs ps)
sorted_put_all [] ps s = s
sorted_put_all (q ∷ qs) ps s = sorted_put q.0 q.1 (put_all qs ps) (sorted_put_all qs ps s)

pub sorted_none : IsStrictlySortedBy pair_order []
unfolding IsStrictlySortedBy
sorted_none = tt
