-- When a change of branches is refused, by what a search found and a count of names.
use Rattle.std.proofs.Common.{◌≡◌, ℕ, suc, ◌+◌, List, [], ◌∷◌, length, get_or, take, drop, Bool, true, false, cond, ◌&&◌, Option, Some, None, add-one, refl, sym, ap, ◌∙◌, arith}
use Rattle.std.proofs.lemmas.Bool.{false≢true}
use Rattle.std.proofs.lemmas.Bool.Decides.{nat_tests}
use Rattle.std.specs.Cmp.Lexicographic.{pointwise, as_long}
use Rattle.std.specs.List.{insert}
use Rattle.std.specs.List.Sorted.{IsStrictlySortedBy}
use Rattle.std.specs.Option.{is_some}
use Rattle.std.specs.Prelude.{slice_get, nat_lt, nat_le}
use Rattle.uc_base.specs.declared.fault.Fault.TheVariants.{NothingToUndo, MainKept, TooManyNames, TooManyBranches, BranchTaken}
use Rattle.uc_branch.specs.Pairs.{is_same_name}
use Rattle.uc_branch.specs.Heads.{HeadPairs, empty_head, name_count, is_same_head, is_same_pair}
use Rattle.uc_branch.specs.Places.{IsPlace, IsGap}
use Rattle.uc_branch.specs.Branches.{BranchState, branch_name, branch_of, has_branch, main_name, names_in, AreBranches}
use Rattle.uc_branch.specs.Changes.{moved_on, advanced, set_back, with_head, with_fork, undone, add_copy, head_fault, fork_fault, drop_fault, undo_fault, undo_fault_at}
use Rattle.uc_branch.proofs.NameOrder.{is_same_from}
use Rattle.uc_branch.proofs.BranchEdits.{branch_found, branch_missing, with_at, add_at, names_changed, names_added}

both_true : (a b : Bool) → (a && b) ≡ true → record { one : a ≡ true; other : b ≡ true }
both_true true true e = record { one = refl; other = refl }
both_true true false e = absurd (false≢true e)
both_true false b e = absurd (false≢true e)

same_count : (h k : HeadPairs) → is_same_head h k ≡ true → name_count h ≡ name_count k
same_count h k e =
    let parts = both_true (pointwise is_same_pair h.kinds k.kinds) (pointwise is_same_pair h.terms k.terms) e in
    omega (arith, as_long is_same_pair h.kinds k.kinds parts.one, as_long is_same_pair h.terms k.terms parts.other)

moved_count : (head : HeadPairs) (b : BranchState) → name_count (moved_on head b).head ≡ name_count head
moved_count head b = go (is_same_head b.head head) refl
  where
    go : (t : Bool) → is_same_head b.head head ≡ t → name_count (cond t b (advanced head b)).head ≡ name_count head
    go true e = same_count b.head head e
    go false e = refl

pub has_found : (name : List ℕ) (bs : List BranchState) (at : ℕ) → IsPlace branch_name name bs at → has_branch name bs ≡ true
has_found name bs at place = ap is_some (branch_found name bs at (record { name = []; head = empty_head; past = [] }) place)

pub head_fault_is : (name : List ℕ) (head : HeadPairs) (bs : List BranchState) (at : ℕ) (x : BranchState) (count : ℕ) (many : Bool) → IsPlace branch_name name bs at → x ≡ get_or bs at x → count ≡ name_count head
    → many ≡ nat_lt 262144 (names_in (take at bs) + (count + names_in (drop (at + 1) bs))) → head_fault name head bs ≡ cond many (Some TooManyNames) None
head_fault_is name head bs at x count many place is e m =
    let names : names_in (with_head name head bs) ≡ names_in (take at bs) + (count + names_in (drop (at + 1) bs)) =
    rw add-one (ap names_in (with_at name (moved_on head) bs at place) ∙ (names_changed at (moved_on head) bs x place.in_range is ∙ ap (λ n. names_in (take at bs) + (n + names_in (drop (suc at) bs))) (moved_count head x ∙ sym e))) in
    rw (has_found name bs at place) (ap (λ n. cond (nat_lt 262144 n) (Some TooManyNames) None) names ∙ ap (λ t. cond t (Some TooManyNames) None) (sym m))

pub moved_same : (head : HeadPairs) (b : BranchState) → is_same_head b.head head ≡ true → moved_on head b ≡ b
moved_same head b e = rw e refl

pub moved_other : (head : HeadPairs) (b : BranchState) → is_same_head b.head head ≡ false → advanced head b ≡ moved_on head b
moved_other head b e = rw e refl

back_of : (b : BranchState) (past : List HeadPairs) (newest : HeadPairs) → slice_get past 0 ≡ Some newest → (set_back b past).head ≡ newest
back_of b [] newest e = absurd cc
back_of b (h ∷ hs) newest e = cc

past_some : (past : List HeadPairs) (newest : HeadPairs) → slice_get past 0 ≡ Some newest → nat_le (length past) 0 ≡ false
past_some [] newest e = absurd cc
past_some (h ∷ hs) newest e = past_more (length hs)
  where
    past_more : (n : ℕ) → nat_le (suc n) 0 ≡ false
    past_more n = grind (arith, nat_tests)

past_none : (past : List HeadPairs) → slice_get past 0 ≡ None → nat_le (length past) 0 ≡ true
past_none [] e = refl
past_none (h ∷ hs) e = absurd cc

found_itself : (name : List ℕ) (bs : List BranchState) (at : ℕ) (x : BranchState) → IsPlace branch_name name bs at → x ≡ get_or bs at x → branch_of name bs ≡ Some x
found_itself name bs at x place is = branch_found name bs at x place ∙ ap Some (sym is)

pub undo_nothing : (name : List ℕ) (bs : List BranchState) (at : ℕ) (x : BranchState) → IsPlace branch_name name bs at → x ≡ get_or bs at x → slice_get x.past 0 ≡ None → undo_fault name bs ≡ Some (NothingToUndo name)
undo_nothing name bs at x place is none = ap (λ (o : Option BranchState). undo_fault_at name o bs) (found_itself name bs at x place is) ∙ rw (past_none x.past none) refl

pub undo_fault_is : (name : List ℕ) (bs : List BranchState) (at : ℕ) (x : BranchState) (newest : HeadPairs) (count : ℕ) (many : Bool) → IsPlace branch_name name bs at → x ≡ get_or bs at x → slice_get x.past 0 ≡ Some newest → count ≡ name_count newest
    → many ≡ nat_lt 262144 (names_in (take at bs) + (count + names_in (drop (at + 1) bs))) → undo_fault name bs ≡ cond many (Some TooManyNames) None
undo_fault_is name bs at x newest count many place is some e m =
    let names : names_in (undone name bs) ≡ names_in (take at bs) + (count + names_in (drop (at + 1) bs)) =
    rw add-one (ap names_in (with_at name (λ b. set_back b b.past) bs at place) ∙ (names_changed at (λ b. set_back b b.past) bs x place.in_range is ∙ ap (λ n. names_in (take at bs) + (n + names_in (drop (suc at) bs))) (ap name_count (back_of x x.past newest some) ∙ sym e))) in
    ap (λ (o : Option BranchState). undo_fault_at name o bs) (found_itself name bs at x place is)
    ∙ rw (past_some x.past newest some) (ap (λ n. cond (nat_lt 262144 n) (Some TooManyNames) None) names ∙ ap (λ t. cond t (Some TooManyNames) None) (sym m))

pub fork_taken : (from to : List ℕ) (bs : List BranchState) (source : ℕ) → IsPlace branch_name from bs source → (at : ℕ) → IsPlace branch_name to bs at → fork_fault from to bs ≡ Some (BranchTaken to)
fork_taken from to bs source place at other = rw (has_found from bs source place, has_found to bs at other) refl

module _ (from to : List ℕ) (bs : List BranchState) (source : ℕ) (x : BranchState) (place : IsPlace branch_name from bs source) (is : x ≡ get_or bs source x) where
  module _ (at : ℕ) (gap : IsGap branch_name to bs at) where
    missing : has_branch to bs ≡ false
    missing = ap is_some (branch_missing to bs at gap)

    pub fork_full : nat_le 256 (length bs) ≡ true → fork_fault from to bs ≡ Some TooManyBranches
    fork_full full = rw (has_found from bs source place, missing, full) refl

    -- the fork is put in its gap
    pub forked : with_fork from to bs ≡ insert bs at (record { name = to; head = x.head; past = x.past })
    forked = ap (λ (o : Option BranchState). add_copy to o bs) (found_itself from bs source x place is) ∙ add_at (record { name = to; head = x.head; past = x.past }) bs at gap

    pub fork_fault_is : (count : ℕ) (many : Bool) → nat_le 256 (length bs) ≡ false → count ≡ name_count x.head
        → many ≡ nat_lt 262144 (names_in (take at bs) + (count + names_in (drop at bs))) → fork_fault from to bs ≡ cond many (Some TooManyNames) None
    fork_fault_is count many room e m =
        let names : names_in (with_fork from to bs) ≡ names_in (take at bs) + (count + names_in (drop at bs)) =
        ap names_in forked ∙ (names_added at (record { name = to; head = x.head; past = x.past }) bs ∙ ap (λ n. names_in (take at bs) + (n + names_in (drop at bs))) (sym e)) in
        rw (has_found from bs source place, missing, room) (ap (λ n. cond (nat_lt 262144 n) (Some TooManyNames) None) names ∙ ap (λ t. cond t (Some TooManyNames) None) (sym m))

pub drop_fault_is : (name : List ℕ) (bs : List BranchState) (at : ℕ) (main : Bool) → IsPlace branch_name name bs at → is_same_name name main_name ≡ main → drop_fault name bs ≡ cond main (Some MainKept) None
drop_fault_is name bs at main place e = rw (has_found name bs at place, e) refl

-- the first branch alone
pub are_first : (b : BranchState) → b.name ≡ main_name → AreBranches (b ∷ [])
unfolding IsStrictlySortedBy
are_first b e = record { in_order = (tt, tt); few = omega arith; has_main = rw (is_same_from main_name b.name (sym e)) refl }
