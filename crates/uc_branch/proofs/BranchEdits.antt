-- Look-ups and edits of branches in name order.
use Rattle.std.proofs.Common.{◌≡◌, ℕ, zero, suc, ◌+◌, ◌<◌, ◌≤◌, List, [], ◌∷◌, ◌++◌, length, get_or, set, take, drop, Bool, true, false, not, cond, Option, Some, None, refl, sym, ap, ◌∙◌, subst, arith}
use Rattle.std.proofs.lemmas.Bool.{false≢true}
use Rattle.std.proofs.lemmas.List.Edits.{length-insert}
use Rattle.std.proofs.lemmas.List.Elements.{All-head, All-tail}
use Rattle.std.proofs.lemmas.List.Kept.{IsStrictlySortedBy-filter}
use Rattle.std.proofs.lemmas.List.Sums.{sum_by-append, sum_by-cons}
use Rattle.std.specs.List.{All, AllByRecursion, insert, remove, filter}
use Rattle.std.specs.List.Sorted.{IsStrictlySortedBy}
use Rattle.std.specs.Option.{is_some, option_map}
use Rattle.std.specs.Prelude.{slice_get}
use Rattle.std.specs.declared.cmp.Ordering.TheVariants.{Less, Greater}
use native.Mathlib.Numerals.{unary_clauses}
use Rattle.uc_branch.specs.Pairs.{name_order, is_same_name}
use Rattle.uc_branch.specs.Heads.{HeadPairs, name_count}
use Rattle.uc_branch.specs.Places.{IsPlace, IsGap}
use Rattle.uc_branch.specs.Branches.{BranchState, branch_name, branch_order, branch_of, has_branch, main_name, next_branch, with_branch, add_branch, names_in, AreBranches}
use Rattle.uc_branch.specs.Changes.{without_branch, set_back}
use Rattle.uc_branch.specs.Commits.{change_at}
use Rattle.uc_branch.proofs.NameOrder.{same_names, is_same_from, tied_from, greater_from, less_from, apart_if_less, apart_if_greater}
use Rattle.uc_branch.proofs.Searched.{first_before, rest_place, first_before_gap, rest_gap, first_after_gap}

abbrev AllLater : List ℕ → List BranchState → Type 0
AllLater name bs = All (λ b. name_order (branch_name b) name ≡ Greater) bs

later_head : (name : List ℕ) (b : BranchState) (bs : List BranchState) → AllLater name (b ∷ bs) → name_order (branch_name b) name ≡ Greater
later_head name b bs h = All-head (λ b. name_order (branch_name b) name ≡ Greater) b bs h

later_tail : (name : List ℕ) (b : BranchState) (bs : List BranchState) → AllLater name (b ∷ bs) → AllLater name bs
later_tail name b bs h = All-tail (λ b. name_order (branch_name b) name ≡ Greater) b bs h

none_later : (name : List ℕ) (bs : List BranchState) → AllLater name bs → branch_of name bs ≡ None
none_later name [] h = refl
none_later name (b ∷ bs) h = rw (apart_if_greater b.name name (later_head name b bs h)) (none_later name bs (later_tail name b bs h))

pub branch_found : (name : List ℕ) (bs : List BranchState) (at : ℕ) (d : BranchState) → IsPlace branch_name name bs at → branch_of name bs ≡ Some (get_or bs at d)
branch_found name [] at d h = absurd (omega (arith, h.in_range))
branch_found name (b ∷ bs) zero d h = rw (is_same_from name b.name (sym (h.here d))) refl
branch_found name (b ∷ bs) (suc at) d h = rw (apart_if_less b.name name (first_before b bs at h)) (branch_found name bs at d (rest_place b bs at h))

pub branch_missing : (name : List ℕ) (bs : List BranchState) (at : ℕ) → IsGap branch_name name bs at → branch_of name bs ≡ None
branch_missing name bs zero h = none_later name bs h.after
branch_missing name [] (suc at) h = refl
branch_missing name (b ∷ bs) (suc at) h = rw (apart_if_less b.name name (first_before_gap b bs at h)) (branch_missing name bs at (rest_gap b bs at h))

pub next_branch_at : (name : List ℕ) (bs : List BranchState) (at : ℕ) → IsPlace branch_name name bs at → next_branch (Some name) bs ≡ option_map branch_name (slice_get bs (at + 1))
next_branch_at name [] at h = absurd (omega (arith, h.in_range))
next_branch_at name (b ∷ []) zero h = rw (tied_from name b.name (sym (h.here b))) refl
next_branch_at name (b ∷ c ∷ bs) zero h = rw (tied_from name b.name (sym (h.here b)), less_from c.name name (later_head name c bs h.after)) refl
next_branch_at name (b ∷ bs) (suc at) h = rw (greater_from b.name name (first_before b bs at h)) (simp unary_clauses (simp unary_clauses at (next_branch_at name bs at (rest_place b bs at h))))

pub next_branch_no : (name : List ℕ) (bs : List BranchState) (at : ℕ) → IsGap branch_name name bs at → next_branch (Some name) bs ≡ option_map branch_name (slice_get bs at)
next_branch_no name [] zero h = refl
next_branch_no name (b ∷ bs) zero h = rw (less_from b.name name (first_after_gap b bs h)) refl
next_branch_no name [] (suc at) h = refl
next_branch_no name (b ∷ bs) (suc at) h = rw (greater_from b.name name (first_before_gap b bs at h)) (next_branch_no name bs at (rest_gap b bs at h))

pub next_branch_first : (bs : List BranchState) → next_branch None bs ≡ option_map branch_name (slice_get bs 0)
next_branch_first [] = refl
next_branch_first (b ∷ bs) = refl

unchanged_later : (name : List ℕ) (f : BranchState → BranchState) (bs : List BranchState) → AllLater name bs → with_branch name f bs ≡ bs
unchanged_later name f [] h = refl
unchanged_later name f (b ∷ bs) h = rw (apart_if_greater b.name name (later_head name b bs h)) (ap (λ (l : List BranchState). b ∷ l) (unchanged_later name f bs (later_tail name b bs h)))

pub with_at : (name : List ℕ) (f : BranchState → BranchState) (bs : List BranchState) (at : ℕ) → IsPlace branch_name name bs at → with_branch name f bs ≡ change_at at f bs
with_at name f [] at h = refl
with_at name f (b ∷ bs) zero h = rw (is_same_from name b.name (sym (h.here b))) (ap (λ (l : List BranchState). f b ∷ l) (unchanged_later name f bs h.after))
with_at name f (b ∷ bs) (suc at) h = rw (apart_if_less b.name name (first_before b bs at h)) (ap (λ (l : List BranchState). b ∷ l) (with_at name f bs at (rest_place b bs at h)))

pub add_at : (b : BranchState) (bs : List BranchState) (at : ℕ) → IsGap branch_name b.name bs at → add_branch b bs ≡ insert bs at b
add_at b [] zero h = refl
add_at b (c ∷ cs) zero h = rw (less_from c.name b.name (first_after_gap c cs h)) refl
add_at b [] (suc at) h = refl
add_at b (c ∷ cs) (suc at) h = rw (greater_from c.name b.name (first_before_gap c cs at h)) (ap (λ (l : List BranchState). c ∷ l) (add_at b cs at (rest_gap c cs at h)))

stay_later : (name : List ℕ) (bs : List BranchState) → AllLater name bs → without_branch name bs ≡ bs
stay_later name [] h = refl
stay_later name (b ∷ bs) h = rw (apart_if_greater b.name name (later_head name b bs h)) (ap (λ (l : List BranchState). b ∷ l) (stay_later name bs (later_tail name b bs h)))

pub drop_at : (name : List ℕ) (bs : List BranchState) (at : ℕ) → IsPlace branch_name name bs at → remove bs at ≡ without_branch name bs
drop_at name [] at h = absurd (omega (arith, h.in_range))
drop_at name (b ∷ bs) zero h = rw (is_same_from name b.name (sym (h.here b))) (sym (stay_later name bs h.after))
drop_at name (b ∷ bs) (suc at) h = rw (apart_if_less b.name name (first_before b bs at h)) (ap (λ (l : List BranchState). b ∷ l) (drop_at name bs at (rest_place b bs at h)))

module _ {X : Type 0} where
  pub length-change : (at : ℕ) (f : X → X) (xs : List X) → length (change_at at f xs) ≡ length xs
  length-change at f [] = refl
  length-change zero f (x ∷ xs) = refl
  length-change (suc at) f (x ∷ xs) = ap suc (length-change at f xs)

  -- two changes of one element that agree on it
  pub change_agree : (at : ℕ) (f g : X → X) (xs : List X) (x : X) → x ≡ get_or xs at x → f x ≡ g x → change_at at f xs ≡ change_at at g xs
  change_agree at f g [] x is e = refl
  change_agree zero f g (y ∷ xs) x is e = ap (λ z. z ∷ xs) (ap f (sym is) ∙ (e ∙ ap g is))
  change_agree (suc at) f g (y ∷ xs) x is e = ap (λ (l : List X). y ∷ l) (change_agree at f g xs x is e)

  pub change_none : (at : ℕ) (f : X → X) (xs : List X) (x : X) → x ≡ get_or xs at x → f x ≡ x → xs ≡ change_at at f xs
  change_none at f [] x is e = refl
  change_none zero f (y ∷ xs) x is e = ap (λ z. z ∷ xs) (sym (ap f (sym is) ∙ (e ∙ is)))
  change_none (suc at) f (y ∷ xs) x is e = ap (λ (l : List X). y ∷ l) (change_none at f xs x is e)

  -- a write of the changed element
  pub set_changed : (at : ℕ) (f : X → X) (xs : List X) (x : X) → at < length xs → x ≡ get_or xs at x → set xs at (f x) ≡ change_at at f xs
  set_changed at f [] x h is = absurd (omega (arith, h))
  set_changed zero f (y ∷ xs) x h is = ap (λ z. f z ∷ xs) is
  set_changed (suc at) f (y ∷ xs) x h is = ap (λ (l : List X). y ∷ l) (set_changed at f xs x (omega (arith, h)) is)

  pub split_changed : (at : ℕ) (f : X → X) (xs : List X) (x : X) → at < length xs → x ≡ get_or xs at x → change_at at f xs ≡ take at xs ++ f x ∷ drop (suc at) xs
  split_changed at f [] x h is = absurd (omega (arith, h))
  split_changed zero f (y ∷ xs) x h is = ap (λ z. f z ∷ xs) (sym is)
  split_changed (suc at) f (y ∷ xs) x h is = ap (λ (l : List X). y ∷ l) (split_changed at f xs x (omega (arith, h)) is)

  all_inserted : (P : X → Type 0) (at : ℕ) (x : X) (xs : List X) → P x → AllByRecursion P xs → AllByRecursion P (insert xs at x)
  all_inserted P zero x xs h a = (h, a)
  all_inserted P (suc at) x [] h a = (h, tt)
  all_inserted P (suc at) x (y ∷ xs) h a = (a.0, all_inserted P at x xs h a.1)

  filter_short : (p : X → Bool) (xs : List X) → length (filter p xs) ≤ length xs
  filter_short p [] = omega arith
  filter_short p (x ∷ xs) = go (p x) (filter_short p xs)
    where
      go : (b : Bool) → length (filter p xs) ≤ length xs → length (cond b (x ∷ filter p xs) (filter p xs)) ≤ length (x ∷ xs)
      go true h = omega (arith, h)
      go false h = omega (arith, h)

pub names_changed : (at : ℕ) (f : BranchState → BranchState) (bs : List BranchState) (x : BranchState) → at < length bs → x ≡ get_or bs at x → names_in (change_at at f bs) ≡ names_in (take at bs) + (name_count (f x).head + names_in (drop (suc at) bs))
names_changed at f bs x h is =
    ap names_in (split_changed at f bs x h is)
    ∙ (sum_by-append (λ (b : BranchState). name_count b.head) (take at bs) (f x ∷ drop (suc at) bs) ∙ ap (λ n. names_in (take at bs) + n) (sum_by-cons (λ (b : BranchState). name_count b.head) (f x) (drop (suc at) bs)))

pub names_added : (at : ℕ) (b : BranchState) (bs : List BranchState) → names_in (insert bs at b) ≡ names_in (take at bs) + (name_count b.head + names_in (drop at bs))
names_added at b bs =
    sum_by-append (λ (b : BranchState). name_count b.head) (take at bs) (b ∷ drop at bs) ∙ ap (λ n. names_in (take at bs) + n) (sum_by-cons (λ (b : BranchState). name_count b.head) b (drop at bs))

module _ (f : BranchState → BranchState) (keeps : (b : BranchState) → (f b).name ≡ b.name) where
  above_changed : (name : List ℕ) (at : ℕ) (bs : List BranchState) → AllByRecursion (λ c. name_order name c.name ≡ Less) bs → AllByRecursion (λ c. name_order name c.name ≡ Less) (change_at at f bs)
  above_changed name at [] a = tt
  above_changed name zero (b ∷ bs) a = (ap (name_order name) (keeps b) ∙ a.0, a.1)
  above_changed name (suc at) (b ∷ bs) a = (a.0, above_changed name at bs a.1)

  sorted_changed : (at : ℕ) (bs : List BranchState) → IsStrictlySortedBy branch_order bs → IsStrictlySortedBy branch_order (change_at at f bs)
  unfolding IsStrictlySortedBy
  sorted_changed at [] s = tt
  sorted_changed zero (b ∷ bs) s = (let P : List ℕ → Type 0 = λ n. AllByRecursion (λ c. name_order n c.name ≡ Less) bs in subst P (sym (keeps b)) s.0, s.1)
  sorted_changed (suc at) (b ∷ bs) s = (above_changed b.name at bs s.0, sorted_changed at bs s.1)

  some_first : (t : Bool) (b c : BranchState) (o p : Option BranchState) → is_some o ≡ is_some p → is_some (cond t (Some b) o) ≡ is_some (cond t (Some c) p)
  some_first true b c o p e = refl
  some_first false b c o p e = e

  has_changed : (name : List ℕ) (at : ℕ) (bs : List BranchState) → has_branch name (change_at at f bs) ≡ has_branch name bs
  has_changed name at [] = refl
  has_changed name zero (b ∷ bs) =
      ap (λ (n : List ℕ). is_some (cond (is_same_name name n) (Some (f b)) (branch_of name bs))) (keeps b)
      ∙ some_first (is_same_name name b.name) (f b) b (branch_of name bs) (branch_of name bs) refl
  has_changed name (suc at) (b ∷ bs) = some_first (is_same_name name b.name) b b (branch_of name (change_at at f bs)) (branch_of name bs) (has_changed name at bs)

  pub are_changed : (at : ℕ) (bs : List BranchState) → AreBranches bs → AreBranches (change_at at f bs)
  are_changed at bs h = record {
    in_order = sorted_changed at bs h.in_order;
    few = omega (arith, h.few, length-change at f bs);
    has_main = has_changed main_name at bs ∙ h.has_main;
  }

later_order : (b : BranchState) (bs : List BranchState) → AllLater b.name bs → AllByRecursion (λ c. branch_order b c ≡ Less) bs
later_order b [] h = tt
later_order b (c ∷ cs) h = (less_from c.name b.name (later_head b.name c cs h), later_order b cs (later_tail b.name c cs h))

sorted_added : (b : BranchState) (bs : List BranchState) (at : ℕ) → IsGap branch_name b.name bs at → IsStrictlySortedBy branch_order bs → IsStrictlySortedBy branch_order (insert bs at b)
unfolding IsStrictlySortedBy
sorted_added b bs zero h s = (later_order b bs h.after, s)
sorted_added b [] (suc at) h s = (tt, tt)
sorted_added b (c ∷ cs) (suc at) h s = (all_inserted (λ d. branch_order c d ≡ Less) at b cs (first_before_gap c cs at h) s.0, sorted_added b cs at (rest_gap c cs at h) s.1)

has_added : (name : List ℕ) (b : BranchState) (bs : List BranchState) (at : ℕ) → has_branch name bs ≡ true → has_branch name (insert bs at b) ≡ true
has_added name b bs zero e = go (is_same_name name b.name)
  where
    go : (t : Bool) → is_some (cond t (Some b) (branch_of name bs)) ≡ true
    go true = refl
    go false = e
has_added name b [] (suc at) e = absurd cc
has_added name b (c ∷ cs) (suc at) e = go (is_same_name name c.name) e (has_added name b cs at)
  where
    go : (t : Bool) → is_some (cond t (Some c) (branch_of name cs)) ≡ true → (has_branch name cs ≡ true → has_branch name (insert cs at b) ≡ true) → is_some (cond t (Some c) (branch_of name (insert cs at b))) ≡ true
    go true k more = refl
    go false k more = more k

pub are_added : (b : BranchState) (bs : List BranchState) (at : ℕ) → IsGap branch_name b.name bs at → length bs < 256 → AreBranches bs → AreBranches (insert bs at b)
are_added b bs at gap room h = record {
  in_order = sorted_added b bs at gap h.in_order;
  few = omega (arith, room, length-insert bs at b gap.in_range);
  has_main = has_added main_name b bs at h.has_main;
}

has_left : (name kept : List ℕ) → is_same_name name kept ≡ false → (bs : List BranchState) → has_branch kept (without_branch name bs) ≡ has_branch kept bs
has_left name kept apart [] = refl
has_left name kept apart (b ∷ bs) = go (is_same_name name b.name) refl (has_left name kept apart bs)
  where
    both : (t : Bool) (o p : Option BranchState) → is_some o ≡ is_some p → is_some (cond t (Some b) o) ≡ is_some (cond t (Some b) p)
    both true o p e = refl
    both false o p e = e

    other : (t : Bool) → is_same_name kept b.name ≡ t → is_same_name name b.name ≡ true → is_some (branch_of kept bs) ≡ is_some (cond t (Some b) (branch_of kept bs))
    other false e k = refl
    other true e k = absurd (false≢true (sym apart ∙ is_same_from name kept (same_names name b.name k ∙ sym (same_names kept b.name e))))

    go : (t : Bool) → is_same_name name b.name ≡ t → has_branch kept (without_branch name bs) ≡ has_branch kept bs → has_branch kept (cond (not t) (b ∷ without_branch name bs) (without_branch name bs)) ≡ has_branch kept (b ∷ bs)
    go true k e = e ∙ other (is_same_name kept b.name) refl k
    go false k e = both (is_same_name kept b.name) (branch_of kept (without_branch name bs)) (branch_of kept bs) e

pub are_left : (name : List ℕ) (bs : List BranchState) → is_same_name name main_name ≡ false → AreBranches bs → AreBranches (without_branch name bs)
are_left name bs apart h = record {
  in_order = IsStrictlySortedBy-filter branch_order (λ b. not (is_same_name name b.name)) bs h.in_order;
  few = omega (arith, h.few, filter_short (λ b. not (is_same_name name b.name)) bs);
  has_main = has_left name main_name apart bs ∙ h.has_main;
}

pub back_keeps : (b : BranchState) → (set_back b b.past).name ≡ b.name
back_keeps b = go b.past
  where
    go : (past : List HeadPairs) → (set_back b past).name ≡ b.name
    go [] = refl
    go (h ∷ hs) = refl
