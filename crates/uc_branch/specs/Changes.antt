-- Changes of branches, and why they are refused.
use Rattle.std.specs.Prelude.{ℕ, not, List, [], ◌∷◌, Option, Some, None, length, take, nat_le, if◌then◌else◌}
use Rattle.std.specs.List.{filter}
use Rattle.uc_base.specs.declared.fault.Fault.{Fault}
use Rattle.uc_base.specs.declared.fault.Fault.TheVariants.{NoSuchBranch, BranchTaken, NothingToUndo, MainKept, TooManyBranches}
use Rattle.uc_branch.specs.Pairs.{is_same_name}
use Rattle.uc_branch.specs.Heads.{HeadPairs, is_same_head}
use Rattle.uc_branch.specs.Branches.{BranchState, main_name, branch_of, has_branch, with_branch, add_branch, names_fault}

-- a branch with another head: the old one goes on the past, which keeps the newest 32
abbrev pub advanced : HeadPairs → BranchState → BranchState
advanced head b = record { name = b.name; head = head; past = take 32 (b.head ∷ b.past) }

-- a branch with a head, which changes nothing where it has that head
abbrev pub moved_on : HeadPairs → BranchState → BranchState
moved_on head b = if is_same_head b.head head then b else advanced head b

-- the newest head of a past becomes the head
abbrev pub set_back : BranchState → List HeadPairs → BranchState
set_back b [] = b
set_back b (head ∷ past) = record { name = b.name; head = head; past = past }

-- a branch gets another head
abbrev pub with_head : List ℕ → HeadPairs → List BranchState → List BranchState
with_head name head = with_branch name (moved_on head)

-- a branch goes back to the newest head of its past
abbrev pub undone : List ℕ → List BranchState → List BranchState
undone name = with_branch name (λ b. set_back b b.past)

-- the branches without that of a name
abbrev pub without_branch : List ℕ → List BranchState → List BranchState
without_branch name = filter (λ b. not (is_same_name name b.name))

-- a branch under another name, put among others, where there is one
abbrev pub add_copy : List ℕ → Option BranchState → List BranchState → List BranchState
add_copy to None branches = branches
add_copy to (Some b) branches = add_branch (record { name = to; head = b.head; past = b.past }) branches

-- one more branch, with the head and the past of another
abbrev pub with_fork : List ℕ → List ℕ → List BranchState → List BranchState
with_fork from to branches = add_copy to (branch_of from branches) branches

-- why a head is refused
abbrev pub head_fault : List ℕ → HeadPairs → List BranchState → Option Fault
head_fault name head branches =
    if not (has_branch name branches) then Some (NoSuchBranch name)
    else names_fault (with_head name head branches)

-- why a fork is refused
abbrev pub fork_fault : List ℕ → List ℕ → List BranchState → Option Fault
fork_fault from to branches =
    if not (has_branch from branches) then Some (NoSuchBranch from)
    else (if has_branch to branches then Some (BranchTaken to)
    else (if nat_le 256 (length branches) then Some TooManyBranches
    else names_fault (with_fork from to branches)))

-- why a branch can't be dropped
abbrev pub drop_fault : List ℕ → List BranchState → Option Fault
drop_fault name branches =
    if not (has_branch name branches) then Some (NoSuchBranch name)
    else (if is_same_name name main_name then Some MainKept else None)

-- whether the branch of a name has an empty past
abbrev pub undo_fault_at : List ℕ → Option BranchState → List BranchState → Option Fault
undo_fault_at name None branches = Some (NoSuchBranch name)
undo_fault_at name (Some b) branches = if nat_le (length b.past) 0 then Some (NothingToUndo name) else names_fault (undone name branches)

-- why nothing is undone
abbrev pub undo_fault : List ℕ → List BranchState → Option Fault
undo_fault name branches = undo_fault_at name (branch_of name branches) branches
