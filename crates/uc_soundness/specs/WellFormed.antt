-- Well-formed types and contexts: Dunfield and Krishnaswami 2013, figure 7, with the number of arguments of each data type, and with no quantifier in arguments.
use Rattle.std.specs.Prelude.{◌≡◌, ℕ, suc, ◌<◌, true, false, [], ◌∷◌, ◌++◌, Some}
use Rattle.std.specs.List.{list_any}
use Rattle.uc_kinds.specs.WellFormed.{Arity}
use Rattle.uc_context.specs.declared.entry.Entry.TheVariants.{Rigid, Exists, Solved, Mark, Binder}
use Rattle.uc_context.specs.Opens.{Open, bound, rigid, existential, quantified, arrow, unit, tuple, applied, Opens, none, more}
use Rattle.uc_context.specs.Entries.{ContextEntries, is_rigid, is_variable, declares}
use Rattle.uc_subtyping.specs.Instances.{opens_count}

abbrev mutual
  -- a monotype under so many quantifiers: its other variables stand in a context, and each data type has as many arguments as it takes
  pub IsMonoIn : Arity → ContextEntries → ℕ → Open → Type 0
  IsMonoIn arity es k (bound i) = i < k
  IsMonoIn arity es k (rigid x) = list_any (is_rigid x) es ≡ true
  IsMonoIn arity es k (existential x) = list_any (declares x) es ≡ true
  IsMonoIn arity es k (quantified t) = ⊥
  IsMonoIn arity es k (arrow a b) = IsMonoIn arity es k a × IsMonoIn arity es k b
  IsMonoIn arity es k unit = Unit {0}
  IsMonoIn arity es k (tuple ts) = AreMonoIn arity es k ts
  IsMonoIn arity es k (applied h ts) = (arity h ≡ Some (opens_count ts)) × AreMonoIn arity es k ts

  pub AreMonoIn : Arity → ContextEntries → ℕ → Opens → Type 0
  AreMonoIn arity es k none = Unit {0}
  AreMonoIn arity es k (more t ts) = IsMonoIn arity es k t × AreMonoIn arity es k ts

-- a type under so many quantifiers, likewise; the arguments of data types and the parts of tuples are monotypes
abbrev pub IsTypeIn : Arity → ContextEntries → ℕ → Open → Type 0
IsTypeIn arity es k (bound i) = i < k
IsTypeIn arity es k (rigid x) = list_any (is_rigid x) es ≡ true
IsTypeIn arity es k (existential x) = list_any (declares x) es ≡ true
IsTypeIn arity es k (quantified t) = IsTypeIn arity es (suc k) t
IsTypeIn arity es k (arrow a b) = IsTypeIn arity es k a × IsTypeIn arity es k b
IsTypeIn arity es k unit = Unit {0}
IsTypeIn arity es k (tuple ts) = AreMonoIn arity es k ts
IsTypeIn arity es k (applied h ts) = (arity h ≡ Some (opens_count ts)) × AreMonoIn arity es k ts

-- entries can stand behind others: no variable is declared twice, a solution is a monotype over what stands before it, and so is the type of a binder a type
abbrev pub AreWellFormed : Arity → ContextEntries → ContextEntries → Type 0
AreWellFormed arity front [] = Unit {0}
AreWellFormed arity front (Rigid x ∷ es) = (list_any (is_variable x) front ≡ false) × AreWellFormed arity (front ++ Rigid x ∷ []) es
AreWellFormed arity front (Exists x ∷ es) = (list_any (is_variable x) front ≡ false) × AreWellFormed arity (front ++ Exists x ∷ []) es
AreWellFormed arity front (Solved x t ∷ es) = (list_any (is_variable x) front ≡ false) × IsMonoIn arity front 0 t × AreWellFormed arity (front ++ Solved x t ∷ []) es
AreWellFormed arity front (Mark x ∷ es) = AreWellFormed arity (front ++ Mark x ∷ []) es
AreWellFormed arity front (Binder x t ∷ es) = IsTypeIn arity front 0 t × AreWellFormed arity (front ++ Binder x t ∷ []) es

abbrev pub IsWellFormedContext : Arity → ContextEntries → Type 0
IsWellFormedContext arity es = AreWellFormed arity [] es
