-- Moves: a name and all below it get another front.
use Rattle.std.specs.Prelude.{ℕ, Bool, ◌||◌, not, List, [], ◌∷◌, ◌++◌, Option, Some, option_map, length, drop, map, if◌then◌else◌}
use Rattle.std.specs.List.{filter}
use Rattle.uc_base.specs.Name.{is_name}
use Rattle.uc_base.specs.declared.fault.Fault.{Fault}
use Rattle.uc_base.specs.declared.fault.Fault.TheVariants.{SameName, NoSuchName, BadName, NameTaken}
use Rattle.uc_tree.specs.Lookups.{Pairs, begins_with}
use Rattle.uc_branch.specs.Pairs.{is_same_name, names_of, has_pair, put_all, within, without, has_some, lesser, least_name_of}
use Rattle.uc_branch.specs.Heads.{HeadPairs}

-- whether a name stands below another: that name and a dot stand before the rest
abbrev pub is_below : List ℕ → List ℕ → Bool
is_below prefix name = begins_with (prefix ++ 46 ∷ []) name

-- whether a name moves: it is the one that is moved, or stands below it
abbrev pub is_moved : List ℕ → List ℕ → Bool
is_moved from name = is_same_name from name || is_below from name

-- a name with its front replaced
abbrev pub renamed : List ℕ → List ℕ → List ℕ → List ℕ
renamed from to name = to ++ drop (length from) name

-- the pairs that move, under their new names
abbrev pub renamed_pairs : List ℕ → List ℕ → Pairs → Pairs
renamed_pairs from to pairs = map (λ p. (renamed from to p.0, p.1)) (within (is_moved from) pairs)

-- the pairs that stay, and among them those that move under their new names
abbrev pub moved_pairs : List ℕ → List ℕ → Pairs → Pairs
moved_pairs from to pairs = put_all (renamed_pairs from to pairs) (without (is_moved from) pairs)

-- a head whose names below a name, and that name, have another front; all stand for what they stood for
abbrev pub moved_head : List ℕ → List ℕ → HeadPairs → HeadPairs
moved_head from to head = record { kinds = moved_pairs from to head.kinds; terms = moved_pairs from to head.terms }

-- whether some name of a head moves
abbrev pub moves_some : List ℕ → HeadPairs → Bool
moves_some from head = has_some (is_moved from) head.kinds || has_some (is_moved from) head.terms

-- whether some new name is no name
abbrev pub makes_no_name : List ℕ → List ℕ → Pairs → Bool
makes_no_name from to pairs = has_some (λ name. not (is_name name)) (renamed_pairs from to pairs)

-- the new names that are names of the same sort and don't move
abbrev pub taken_names : List ℕ → List ℕ → Pairs → List (List ℕ)
taken_names from to pairs = filter (λ name. has_pair name (without (is_moved from) pairs)) (names_of (renamed_pairs from to pairs))

-- the least new name of either sort that is taken
abbrev pub least_taken : List ℕ → List ℕ → HeadPairs → Option (List ℕ)
least_taken from to head = lesser (least_name_of (taken_names from to head.kinds)) (least_name_of (taken_names from to head.terms))

-- why a move is refused
abbrev pub move_fault : List ℕ → List ℕ → HeadPairs → Option Fault
move_fault from to head =
    if is_same_name from to then Some (SameName from)
    else (if not (moves_some from head) then Some (NoSuchName from)
    else (if makes_no_name from to head.kinds || makes_no_name from to head.terms then Some BadName
    else option_map NameTaken (least_taken from to head)))
