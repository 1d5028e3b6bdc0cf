-- Deletions: names that go, and what is lost with them.
use Rattle.std.specs.Prelude.{ℕ, Bool, true, false, ◌||◌, ◌&&◌, not, List, Option, Some, option_map, if◌then◌else◌}
use Rattle.std.specs.List.{filter, list_any}
use Rattle.uc_base.specs.declared.fault.Fault.{Fault}
use Rattle.uc_base.specs.declared.fault.Fault.TheVariants.{NoSuchName, StillUsed}
use Rattle.uc_base.specs.declared.reference.Ref.{Ref}
use Rattle.uc_base.specs.declared.reference.Ref.TheVariants.{Def, Ctor, Builtin}
use Rattle.uc_tree.specs.Lookups.{Pairs}
use Rattle.uc_branch.specs.Pairs.{is_same_name, names_of, within, without, has_some, lesser, least_name_of}
use Rattle.uc_branch.specs.Heads.{HeadPairs, has_name}
use Rattle.uc_branch.specs.Moving.{is_below}

-- the head without the names that pass a test
abbrev pub head_outside : (List ℕ → Bool) → HeadPairs → HeadPairs
head_outside goes head = record { kinds = without goes head.kinds; terms = without goes head.terms }

-- the names of a head that pass a test
abbrev pub head_within : (List ℕ → Bool) → HeadPairs → HeadPairs
head_within goes head = record { kinds = within goes head.kinds; terms = within goes head.terms }

-- the head without the type and the term of a name
abbrev pub head_without : List ℕ → HeadPairs → HeadPairs
head_without name = head_outside (is_same_name name)

-- the head without the names below a name
abbrev pub head_without_below : List ℕ → HeadPairs → HeadPairs
head_without_below prefix = head_outside (is_below prefix)

-- a definition or declaration, and no constructor or builtin
abbrev pub is_def : Ref → Bool
is_def (Def hash member) = true
is_def (Ctor hash member ctor) = false
is_def (Builtin number) = false

-- whether a reference is lost: some name stood for it before, and none does after
abbrev pub is_lost : HeadPairs → HeadPairs → Ref → Bool
is_lost old new r = has_name r old && not (has_name r new)

-- whether a name stands for a definition with a lost reference among its direct ones
abbrev pub uses_lost : (Ref → List Ref) → (Ref → Bool) → (List ℕ × Ref) → Bool
uses_lost direct lost pair = is_def pair.1 && list_any lost (direct pair.1)

-- the names that use what is lost
abbrev pub users_in : (Ref → List Ref) → (Ref → Bool) → Pairs → List (List ℕ)
users_in direct lost pairs = names_of (filter (uses_lost direct lost) pairs)

-- the least name of either sort that is left and uses what is lost
abbrev pub least_user : (Ref → List Ref) → HeadPairs → HeadPairs → Option (List ℕ)
least_user direct old new =
    lesser (least_name_of (users_in direct (is_lost old new) new.kinds)) (least_name_of (users_in direct (is_lost old new) new.terms))

-- whether some name of a head goes
abbrev pub loses_some : (List ℕ → Bool) → HeadPairs → Bool
loses_some goes head = has_some goes head.kinds || has_some goes head.terms

-- why the names that pass a test can't go; `name` is what was asked for
abbrev pub removal_fault : (List ℕ → Bool) → List ℕ → (Ref → List Ref) → HeadPairs → Option Fault
removal_fault goes name direct head =
    if not (loses_some goes head) then Some (NoSuchName name)
    else option_map StillUsed (least_user direct head (head_outside goes head))

-- why a deletion of a name is refused
abbrev pub delete_fault : List ℕ → (Ref → List Ref) → HeadPairs → Option Fault
delete_fault name = removal_fault (is_same_name name) name

-- why a deletion of all below a name is refused
abbrev pub delete_below_fault : List ℕ → (Ref → List Ref) → HeadPairs → Option Fault
delete_below_fault prefix = removal_fault (is_below prefix) prefix
