-- What a search among sorted references says, and which references a head has.
use Rattle.std.proofs.Common.{◌≡◌, ℕ, List, [], ◌∷◌, ◌++◌, length, get_or, map, Bool, true, false, not, ◌||◌, ◌&&◌, Result, Ok, Err, refl, sym, ap, ◌∙◌, inl, inr, arith}
use Rattle.std.specs.List.{filter}
use Rattle.std.specs.List.Sorted.{IsSorted, IsSearchInRange, IsBinarySearchResult}
use Rattle.std.specs.Result.{is_ok}
use Rattle.std.specs.Ordering.{is_eq, ordering_reverse}
use Rattle.std.specs.declared.cmp.Ordering.TheVariants.{Less, Greater}
use Rattle.std.proofs.lemmas.Cmp.{tied_back}
use Rattle.std.proofs.lemmas.Bool.{cases_lt}
use Rattle.std.proofs.lemmas.List.Elements.{filter-append}
use Rattle.std.proofs.lemmas.List.Folds.{list_any-append, list_any_none}
use Rattle.std.proofs.lemmas.List.Recursion.{or_at}
use Rattle.std.proofs.lemmas.List.Sorted.{searchable_from_sorted}
use Rattle.std.proofs.lemmas.Map.Views.{any-filter_same}
use Rattle.uc_base.specs.declared.reference.Ref.{Ref}
use Rattle.uc_base.specs.contracts.reference.RefOrd.TheImpl.Laws as ord
use Rattle.uc_tree.specs.Lookups.{Pairs}
use Rattle.uc_tree.specs.References.{ref_order, is_same_ref}
use Rattle.uc_tree.proofs.Refs.{is_same_ref-ap}
use Rattle.uc_branch.specs.Pairs.{is_target, within, without}
use Rattle.uc_branch.specs.Heads.{HeadPairs, has_name}
use Rattle.uc_branch.specs.Deleting.{head_outside, head_within, is_lost}
use Rattle.uc_branch.specs.Reaches.{is_among}

pub among_targets : (r : Ref) (ps : Pairs) → is_among r (map (λ p. p.1) ps) ≡ is_target r ps
among_targets r [] = refl
among_targets r (p ∷ ps) = ap (λ b. is_same_ref r p.1 || b) (among_targets r ps)

pub among_both : (r : Ref) (ps qs : Pairs) → is_among r (map (λ p. p.1) ps ++ map (λ p. p.1) qs) ≡ (is_target r ps || is_target r qs)
among_both r ps qs = list_any-append (is_same_ref r) (map (λ p. p.1) ps) (map (λ p. p.1) qs) ∙ rw (among_targets r ps, among_targets r qs) refl

or_assoc : (a b c : Bool) → (a || (b || c)) ≡ ((a || b) || c)
or_assoc true b c = refl
or_assoc false b c = refl

or_swap : (a b c : Bool) → (a || (b || c)) ≡ (b || (a || c))
or_swap true true c = refl
or_swap true false c = refl
or_swap false b c = refl

-- a name stands for a reference among the names that pass a test, or among the others, where one does
is_target_parted : (r : Ref) (goes : List ℕ → Bool) (ps : Pairs) → is_target r ps ≡ (is_target r (within goes ps) || is_target r (without goes ps))
is_target_parted r goes [] = refl
is_target_parted r goes (p ∷ ps) = go (is_target_parted r goes ps) (goes p.0) refl
  where
    go : is_target r ps ≡ (is_target r (within goes ps) || is_target r (without goes ps)) → (b : Bool) → goes p.0 ≡ b → is_target r (p ∷ ps) ≡ (is_target r (within goes (p ∷ ps)) || is_target r (without goes (p ∷ ps)))
    go rest true e = rw e (ap (λ b. is_same_ref r p.1 || b) rest ∙ or_assoc (is_same_ref r p.1) (is_target r (within goes ps)) (is_target r (without goes ps)))
    go rest false e = rw e (ap (λ b. is_same_ref r p.1 || b) rest ∙ or_swap (is_same_ref r p.1) (is_target r (within goes ps)) (is_target r (without goes ps)))

both_parted : (a b c d : Bool) → ((a || b) || (c || d)) ≡ ((a || c) || (b || d))
both_parted true b c d = refl
both_parted false true true d = refl
both_parted false true false d = refl
both_parted false false c d = refl

-- a reference has a name in a head where it has one that goes or one that stays
has_name_parted : (r : Ref) (goes : List ℕ → Bool) (head : HeadPairs) → has_name r head ≡ (has_name r (head_within goes head) || has_name r (head_outside goes head))
has_name_parted r goes head =
    rw (is_target_parted r goes head.kinds, is_target_parted r goes head.terms)
    (both_parted (is_target r (within goes head.kinds)) (is_target r (without goes head.kinds)) (is_target r (within goes head.terms)) (is_target r (without goes head.terms)))

went : (a b : Bool) → (a && not (a && b)) ≡ ((a || b) && not b)
went true true = refl
went true false = refl
went false true = refl
went false false = refl

-- what has a name that goes and none that stays is lost
pub lost_is : (r : Ref) (goes : List ℕ → Bool) (gone kept : List Ref) (before after : HeadPairs) → after ≡ head_outside goes before → is_among r gone ≡ has_name r (head_within goes before)
    → is_among r kept ≡ (is_among r gone && has_name r after) → (is_among r gone && not (is_among r kept)) ≡ is_lost before after r
lost_is r goes gone kept before after left g k =
    let parted : has_name r before ≡ (is_among r gone || has_name r after) = has_name_parted r goes before ∙ rw (g, left) refl in
    rw (k, parted) (went (is_among r gone) (has_name r after))

-- which of some references are among others
pub among_known : (r : Ref) (known : List Ref) (xs : List Ref) → is_among r (filter (λ x. is_among x known) xs) ≡ (is_among r known && is_among r xs)
among_known r known xs = any-filter_same (is_same_ref r) (λ x. is_among x known) (is_among r known) (λ x e. sym (is_same_ref-ap {A = Bool} (λ y. is_among y known) r x e)) xs

pub among_known_both : (r : Ref) (known : List Ref) (ps qs : Pairs)
    → is_among r (filter (λ x. is_among x known) (map (λ p. p.1) ps) ++ filter (λ x. is_among x known) (map (λ p. p.1) qs)) ≡ (is_among r known && (is_target r ps || is_target r qs))
among_known_both r known ps qs =
    ap (is_among r) (sym (filter-append (λ x. is_among x known) (map (λ p. p.1) ps) (map (λ p. p.1) qs)))
    ∙ among_known r known (map (λ p. p.1) ps ++ map (λ p. p.1) qs)
    ∙ ap (λ b. is_among r known && b) (among_both r ps qs)

-- what isn't tied is another
other_if_less : (x r : Ref) → ref_order x r ≡ Less → is_same_ref r x ≡ false
other_if_less x r e = ap is_eq (ord.total-law.antisymm r x ∙ ap ordering_reverse e)

other_if_greater : (x r : Ref) → ref_order x r ≡ Greater → is_same_ref r x ≡ false
other_if_greater x r e = ap is_eq (ord.total-law.antisymm r x ∙ ap ordering_reverse e)

pub among_found : (r : Ref) (xs : List Ref) → IsSorted ref_order xs → (found : Result ℕ ℕ) → IsSearchInRange found (length xs) → IsBinarySearchResult (λ y. ref_order y r) xs found → is_ok found ≡ is_among r xs
among_found r xs sorted (Ok at) in_range equal =
    sym (or_at (is_among r) (is_same_ref r) refl (λ _ _. refl) xs at r in_range (ap is_eq (tied_back ord.total-law (get_or xs at r) r (equal r))))
among_found r xs sorted (Err at) in_range parted =
    let halves = parted (searchable_from_sorted ord.total-law (λ x. x) xs r sorted) in
    sym (list_any_none (is_same_ref r) xs (λ k d inside. elim (cases_lt k at) [
      | inl below ↦ other_if_less (get_or xs k d) r (halves.0 k d (omega arith) below)
      | inr behind ↦ other_if_greater (get_or xs k d) r (halves.1 k d behind inside)
    ]))
