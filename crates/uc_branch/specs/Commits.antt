-- Prepared changes, and what becomes of branches by them.
use Rattle.std.specs.Prelude.{ℕ, ◌<◌, ◌≤◌, zero, suc, List, [], ◌∷◌, length}
use Rattle.std.specs.List.{insert, remove}
use Rattle.uc_branch.specs.declared.change.Edit.{Edit}
use Rattle.uc_branch.specs.declared.change.Edit.TheVariants.{Keep, Advance, Add, Remove, Undo}
use Rattle.uc_branch.specs.declared.change.Change.{Change}
use Rattle.uc_branch.specs.Branches.{BranchState, AreBranches}
use Rattle.uc_branch.specs.Changes.{advanced, set_back}

-- the element at a place changed
abbrev pub change_at : {X : Type 0} → ℕ → (X → X) → List X → List X
change_at at change [] = []
change_at zero change (x ∷ xs) = change x ∷ xs
change_at (suc at) change (x ∷ xs) = x ∷ change_at at change xs

-- what becomes of branches by an edit
abbrev pub edited : Edit → List BranchState → List BranchState
edited Keep bs = bs
edited (Advance at head) bs = change_at at (advanced head) bs
edited (Add at branch) bs = insert bs at branch
edited (Remove at) bs = remove bs at
edited (Undo at) bs = change_at at (λ b. set_back b b.past) bs

-- an edit is at a place of the branches
abbrev pub IsInRange : Edit → List BranchState → Type 0
IsInRange Keep bs = Unit {0}
IsInRange (Advance at head) bs = at < length bs
IsInRange (Add at branch) bs = at ≤ length bs
IsInRange (Remove at) bs = at < length bs
IsInRange (Undo at) bs = at < length bs

-- what becomes of branches by a change
abbrev pub applied : Change → List BranchState → List BranchState
applied change bs = edited change.edit bs

-- the branches are as they were when the change was prepared
pub record Fits (change : Change) (bs : List BranchState) : Type 0 where
  pub in_range : IsInRange change.edit bs
  pub good : AreBranches (edited change.edit bs)
