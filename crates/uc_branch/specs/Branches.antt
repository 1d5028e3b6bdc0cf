-- Branches: named heads, each with its past.
use Rattle.std.specs.Prelude.{◌≡◌, ℕ, ◌≤◌, Bool, true, List, [], ◌∷◌, Option, Some, None, is_some, length, map, codes, nat_lt, sum_by, find, if◌then◌else◌}
use Rattle.std.specs.List.Sorted.{IsStrictlySortedBy}
use Rattle.std.specs.Ordering.{is_lt}
use Rattle.std.specs.declared.cmp.Ordering.{Ordering}
use Rattle.uc_base.specs.declared.fault.Fault.{Fault}
use Rattle.uc_base.specs.declared.fault.Fault.TheVariants.{TooManyNames}
use Rattle.uc_branch.specs.Pairs.{name_order, is_same_name}
use Rattle.uc_branch.specs.Heads.{HeadPairs, name_count}

-- a branch: its name, its head, and the heads before it, the newest first
pub record BranchState : Type 0 where
  pub name : List ℕ
  pub head : HeadPairs
  pub past : List HeadPairs

-- the name of a branch
abbrev pub branch_name : BranchState → List ℕ
branch_name b = b.name

-- the name of the first branch
abbrev pub main_name : List ℕ
main_name = codes "main"

-- the order of branches: that of their names
abbrev pub branch_order : BranchState → BranchState → Ordering
branch_order b c = name_order b.name c.name

-- the branch of a name
abbrev pub branch_of : List ℕ → List BranchState → Option BranchState
branch_of name = find (λ b. is_same_name name b.name)

-- whether there is a branch of a name
abbrev pub has_branch : List ℕ → List BranchState → Bool
has_branch name branches = is_some (branch_of name branches)

-- branches in name order, each name once, at most 256, the first branch among them
pub record AreBranches (branches : List BranchState) : Type 0 where
  pub in_order : IsStrictlySortedBy branch_order branches
  pub few : length branches ≤ 256
  pub has_main : has_branch main_name branches ≡ true

-- the first branch alone, with an empty past
abbrev pub first_branches : HeadPairs → List BranchState
first_branches head = record { name = main_name; head = head; past = [] } ∷ []

-- the first name of branches after a name, or the first of all
abbrev pub next_branch : Option (List ℕ) → List BranchState → Option (List ℕ)
next_branch name [] = None
next_branch None (b ∷ bs) = Some b.name
next_branch (Some name) (b ∷ bs) = if is_lt (name_order name b.name) then Some b.name else next_branch (Some name) bs

-- the branch of a name changed
abbrev pub with_branch : List ℕ → (BranchState → BranchState) → List BranchState → List BranchState
with_branch name change = map (λ b. if is_same_name name b.name then change b else b)

-- a branch put among others in name order
abbrev pub add_branch : BranchState → List BranchState → List BranchState
add_branch b [] = b ∷ []
add_branch b (c ∷ cs) = if is_lt (name_order b.name c.name) then b ∷ c ∷ cs else c ∷ add_branch b cs

-- the names of all heads together, pasts left out
abbrev pub names_in : List BranchState → ℕ
names_in = sum_by (λ b. name_count b.head)

-- the refusal where branches have more than 262,144 names
abbrev pub names_fault : List BranchState → Option Fault
names_fault branches = if nat_lt 262144 (names_in branches) then Some TooManyNames else None
