-- The candidates of a written name, step by step, and what they mean.
use Rattle.std.specs.Prelude.{ℕ, Bool, true, false, ◌==◌, ◌&&◌, ◌||◌, List, [], ◌∷◌, ◌++◌, map, Result, Ok, Err, bytes_eq, if◌then◌else◌}
use Rattle.std.specs.List.{filter, list_any, list_all}
use Rattle.uc_base.specs.Name.{is_name}
use Rattle.uc_base.specs.declared.place.Place.{Place}
use Rattle.uc_base.specs.declared.fault.Fault.{Fault}
use Rattle.uc_base.specs.declared.fault.Fault.TheVariants.{Unbound, Ambiguous, BadName}
use Rattle.uc_tree.specs.Lookups.{begins_with}
use Rattle.uc_tree.specs.References.{is_same_ref}
use Rattle.uc_tree.specs.declared.target.Target.{Target}
use Rattle.uc_tree.specs.declared.target.Target.TheVariants.{Stored, Own, OwnCtor}
use Rattle.uc_meaning.specs.Entries.{Entry}

-- a `use`: a path, and the names that it shortens; none shortens every name
pub record Using : Type 0 where
  pub path : List ℕ
  pub names : List (List ℕ)

-- the `use` clauses before a name in its block, and in each block around it, the innermost first
abbrev pub Usings : Type 0
Usings = List (List Using)

-- one more `use` in the innermost block
abbrev pub behind_using : Using → Usings → Usings
behind_using u [] = (u ∷ []) ∷ []
behind_using u (usings ∷ outer) = (u ∷ usings) ∷ outer

-- whether a written name is a name, or begins with it and a dot
abbrev pub is_headed_by : List ℕ → List ℕ → Bool
is_headed_by name w = bytes_eq w name || begins_with (name ++ 46 ∷ []) w

-- whether one of some names is a written name, or begins it
abbrev pub is_headed_by_one : List (List ℕ) → List ℕ → Bool
is_headed_by_one names w = list_any (λ n. is_headed_by n w) names

-- whether a `use` shortens a written name
abbrev pub shortens : List (List ℕ) → List ℕ → Bool
shortens [] w = true
shortens (name ∷ names) w = is_headed_by_one (name ∷ names) w

-- whether one of some `use` clauses makes a written name stand for a whole one
abbrev pub is_used : List Using → List ℕ → List ℕ → Bool
is_used usings w whole = list_any (λ u. shortens u.names w && bytes_eq whole (u.path ++ 46 ∷ w)) usings

-- whether a whole name ends in the segments of a written one, with more before them
abbrev pub ends_in : List ℕ → List ℕ → Bool
ends_in w [] = false
ends_in w (c ∷ whole) = (c == 46 && bytes_eq w whole) || ends_in w whole

-- whether something is of the file
abbrev pub is_own : Target → Bool
is_own (Stored r) = false
is_own (Own k) = true
is_own (OwnCtor k c) = true

-- the second step: the file's own full name
abbrev pub own_named : List Entry → List ℕ → List Entry
own_named entries w = filter (λ e. is_own e.1 && bytes_eq w e.0) entries

-- the third step, of one block: what its `use` clauses give
abbrev pub used_in : List Entry → List ℕ → List Using → List Entry
used_in entries w usings = filter (λ e. is_used usings w e.0) entries

-- the third step: the innermost block that gives one
abbrev pub used_among : List Entry → List ℕ → Usings → List (List Entry)
used_among entries w [] = []
used_among entries w (usings ∷ outer) = used_in entries w usings ∷ used_among entries w outer

-- the fourth step: the full name
abbrev pub named : List Entry → List ℕ → List Entry
named entries w = filter (λ e. bytes_eq w e.0) entries

-- the fifth step: the names that end in its segments
abbrev pub ending_in : List Entry → List ℕ → List Entry
ending_in entries w = filter (λ e. ends_in w e.0) entries

-- the first of some lists that isn't empty
abbrev pub first_filled : List (List Entry) → List Entry
first_filled [] = []
first_filled ([] ∷ steps) = first_filled steps
first_filled ((e ∷ es) ∷ steps) = e ∷ es

-- the candidates of a written name, behind the step of local binders: those of the first step that has any, in name order
abbrev pub candidates_of : List Entry → Usings → List ℕ → List Entry
candidates_of entries usings w = first_filled (own_named entries w ∷ (used_among entries w usings ++ (named entries w ∷ ending_in entries w ∷ [])))

-- whether two targets are the same
abbrev pub is_same_target : Target → Target → Bool
is_same_target (Stored r) (Stored s) = is_same_ref r s
is_same_target (Own k) (Own l) = k == l
is_same_target (OwnCtor k c) (OwnCtor l d) = k == l && c == d
is_same_target _ _ = false

-- nothing has the written name
abbrev pub unbound : Place → List ℕ → Fault
unbound place w = if is_name w then Unbound place w else BadName

-- texts as names
abbrev pub all_names : List (List ℕ) → Result (List (List ℕ)) Fault
all_names texts = if list_all is_name texts then Ok texts else Err BadName

-- several things could be meant
abbrev pub ambiguous : Place → List (List ℕ) → Fault
ambiguous place names = if list_all is_name names then Ambiguous place names else BadName

-- what candidates mean: the one thing that they all stand for
abbrev pub meaning_among : Place → List ℕ → List Entry → Result Target Fault
meaning_among place w [] = Err (unbound place w)
meaning_among place w (e ∷ es) = if list_all (λ f. is_same_target f.1 e.1) es then Ok e.1 else Err (ambiguous place (map (λ f. f.0) (e ∷ es)))
