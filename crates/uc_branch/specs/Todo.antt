-- The todo list of a head.
use Rattle.std.specs.Prelude.{ℕ, Bool, not, List, [], ◌++◌, map, if◌then◌else◌}
use Rattle.std.specs.List.{filter, flat_map}
use Rattle.uc_base.specs.declared.reference.Ref.{Ref}
use Rattle.uc_tree.specs.Lookups.{Pairs}
use Rattle.uc_branch.specs.Heads.{HeadPairs, has_name}
use Rattle.uc_branch.specs.Deleting.{is_def}

-- the direct references of what a name stands for that fail a test
abbrev pub todo_at : (Ref → List Ref) → (Ref → Bool) → (List ℕ × Ref) → Pairs
todo_at direct named pair =
    if is_def pair.1 then map (λ r. (pair.0, r)) (filter (λ r. not (named r)) (direct pair.1)) else []

-- the same of some names in turn
abbrev pub todo_in : (Ref → List Ref) → (Ref → Bool) → Pairs → Pairs
todo_in direct named = flat_map (todo_at direct named)

-- for each name of a definition its direct references that have no name in the head, types first
abbrev pub todo_of : (Ref → List Ref) → HeadPairs → Pairs
todo_of direct head = todo_in direct (λ r. has_name r head) head.kinds ++ todo_in direct (λ r. has_name r head) head.terms
