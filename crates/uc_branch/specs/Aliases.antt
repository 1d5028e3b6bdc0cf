-- Aliases: one more name of what a name stands for.
use Rattle.std.specs.Prelude.{ℕ, not, List, Option, Some, None, if◌then◌else◌}
use Rattle.uc_base.specs.declared.fault.Fault.{Fault}
use Rattle.uc_base.specs.declared.fault.Fault.TheVariants.{SameName, NoSuchName, NameTaken}
use Rattle.uc_base.specs.declared.place.Sort.{Sort}
use Rattle.uc_base.specs.declared.reference.Ref.{Ref}
use Rattle.uc_tree.specs.Lookups.{Pairs}
use Rattle.uc_branch.specs.Pairs.{is_same_name, target_of, has_pair, put}
use Rattle.uc_branch.specs.Heads.{HeadPairs, pairs_of, with_pairs}

-- a name put among pairs where there is something for it to stand for
abbrev pub put_some : List ℕ → Option Ref → Pairs → Pairs
put_some name None pairs = pairs
put_some name (Some r) pairs = put name r pairs

-- a head with one more name of a sort
abbrev pub aliased_head : Sort → List ℕ → List ℕ → HeadPairs → HeadPairs
aliased_head sort from to head = with_pairs sort (put_some to (target_of from (pairs_of sort head)) (pairs_of sort head)) head

-- why an alias is refused
abbrev pub alias_fault : Sort → List ℕ → List ℕ → HeadPairs → Option Fault
alias_fault sort from to head =
    if is_same_name from to then Some (SameName from)
    else (if not (has_pair from (pairs_of sort head)) then Some (NoSuchName from)
    else (if has_pair to (pairs_of sort head) then Some (NameTaken to) else None))
