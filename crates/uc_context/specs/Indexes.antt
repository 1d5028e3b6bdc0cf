-- An index that tells of entries.
use Rattle.std.specs.Prelude.{◌≡◌, ℕ, ◌<◌, ◌≤◌, Bool, if◌then◌else◌, List, ◌∷◌, ◌++◌, length, map, count_by, slice_set, Option, Some, None, MatchOption}
use Rattle.uc_context.specs.declared.entry.Entry.{Entry}
use Rattle.uc_context.specs.declared.entry.Entry.TheVariants.{Exists, Solved}
use Rattle.uc_context.specs.Opens.{Open}
use Rattle.uc_context.specs.declared.index.Index.{Index}
use Rattle.uc_context.specs.Entries.{ContextEntries, number_of, is_numbered, is_variable, is_binder}
use Rattle.uc_context.specs.Index.{place_at, last_place}
use Rattle.uc_context.specs.Numbers.{uses_at}

-- each number has its last entry noted, where a test says which entries have a number
abbrev pub AreNoted : (ℕ → Entry → Bool) → List (Option ℕ) → ContextEntries → Type 0
AreNoted test places es = (x : ℕ) → place_at places x ≡ last_place (test x) es

-- it is so for each number whose last entry stands before a place, or that no entry has
abbrev pub AreNotedBelow : (ℕ → Entry → Bool) → ℕ → List (Option ℕ) → ContextEntries → Type 0
AreNotedBelow test limit places es = (x : ℕ) → MatchOption (last_place (test x) es) (place_at places x ≡ None) (λ k. k < limit → place_at places x ≡ Some k)

-- a place that is noted for the number of an entry, where a test says that the entry has it
abbrev pub noted_at : (ℕ → Entry → Bool) → Entry → Option ℕ → List (Option ℕ) → List (Option ℕ)
noted_at test e place places = if test (number_of e) e then slice_set places (number_of e) place else places

-- it says how many entries have a number, and where the last variable and the last binder with a number stand
pub record Indexes (i : Index) (es : ContextEntries) : Type 0 where
  pub uses : (x : ℕ) → uses_at i.numbers x ≡ count_by (is_numbered x) es
  pub variables : AreNoted is_variable i.variables es
  pub binders : AreNoted is_binder i.binders es
  pub room_for_variables : length i.numbers ≤ length i.variables
  pub room_for_binders : length i.numbers ≤ length i.binders

-- each number that it knows has a place for a variable and for a binder
pub record HasPlaces (i : Index) : Type 0 where
  pub variables : length i.numbers ≤ length i.variables
  pub binders : length i.numbers ≤ length i.binders

-- at a place of the first entries stands an existential, and in the second new ones with these numbers and the solved one
pub record Exchanges (es : ContextEntries) (place : ℕ) (numbers : List ℕ) (ds : ContextEntries) : Type 0 where
  pub left : ContextEntries
  pub right : ContextEntries
  pub which : ℕ
  pub with : Open
  pub at : place ≡ length left
  pub before : es ≡ left ++ Exists which ∷ right
  pub after : ds ≡ left ++ (map (λ n. Exists n) numbers ++ Solved which with ∷ right)
