-- Numbers that no entry has.
use Rattle.std.specs.Prelude.{◌≡◌, ℕ, zero, suc, ◌+◌, false, if◌then◌else◌, List, [], ◌∷◌, length}
use Rattle.std.specs.List.{list_any}
use Rattle.uc_context.specs.declared.entry.Entry.TheVariants.{Exists}
use Rattle.uc_context.specs.Entries.{ContextEntries, is_numbered}

-- the first number from one on that no entry has, sought in so many steps
abbrev pub unused_from : ℕ → ℕ → ContextEntries → ℕ
unused_from zero n es = n
unused_from (suc steps) n es = if list_any (is_numbered n) es then unused_from steps (n + 1) es else n

-- the least number that no entry has; it is no larger than the number of entries
unfoldable pub fresh_number : ContextEntries → ℕ
fresh_number es = unused_from (length es) 0 es

-- so many fresh numbers, each where the ones before it are taken
abbrev pub fresh_numbers : ℕ → ContextEntries → List ℕ
fresh_numbers zero es = []
fresh_numbers (suc count) es = fresh_number es ∷ fresh_numbers count (Exists (fresh_number es) ∷ es)

-- numbers that no entry has, each another one
abbrev pub AreNew : List ℕ → ContextEntries → Type 0
AreNew [] es = Unit {0}
AreNew (n ∷ ns) es = (list_any (is_numbered n) es ≡ false) × AreNew ns (Exists n ∷ es)
