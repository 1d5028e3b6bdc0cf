-- The names of one sort that can be meant: those of the file, and those of the head that the file doesn't have.
use Rattle.std.specs.Prelude.{ℕ, not, List, [], ◌∷◌, bytes_eq, is_some}
use Rattle.std.specs.Ordering.{nat_cmp}
use Rattle.std.specs.BTreeMap.{insert_entry}
use Rattle.std.specs.Cmp.Lexicographic.{slice_cmp}
use Rattle.std.specs.List.{filter}
use Rattle.std.specs.List.Sorted.{IsStrictlySortedBy}
use Rattle.std.specs.Map.{lookup, keys_of}
use Rattle.uc_tree.specs.Lookups.{Pairs}
use Rattle.uc_tree.specs.declared.target.Target.{Target}
use Rattle.uc_tree.specs.declared.target.Target.TheVariants.{Stored}

-- a name and what it stands for
abbrev pub Entry : Type 0
Entry = List ℕ × Target

-- entries in name order, with one more: it takes the place of an entry of its name
abbrev pub with_entry : Entry → List Entry → List Entry
with_entry e es = insert_entry (slice_cmp nat_cmp) es e.0 e.1

-- the names of a head, in name order
abbrev pub head_entries : Pairs → List Entry
head_entries [] = []
head_entries (p ∷ ps) = (p.0, Stored p.1) ∷ head_entries ps

-- names of a file over those of a head: a name of the file hides the same name of the head
abbrev pub entries_over : List Entry → List Entry → List Entry
entries_over [] head = head
entries_over (e ∷ own) head = with_entry e (entries_over own head)

-- those of a head that the file doesn't hide
abbrev pub unhidden : List Entry → List Entry → List Entry
unhidden own head = filter (λ e. not (is_some (lookup (bytes_eq e.0) own))) head

-- each name stands once, in name order
abbrev pub IsInOrder : List Entry → Type 0
IsInOrder es = IsStrictlySortedBy (slice_cmp nat_cmp) (keys_of es)
