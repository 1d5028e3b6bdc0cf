-- What some names stand for together.
use Rattle.std.specs.Prelude.{List, [], ◌∷◌, if◌then◌else◌}
use Rattle.std.specs.List.{filter, fold, list_all}
use Rattle.uc_tree.specs.declared.target.Target.{Target}
use Rattle.uc_meaning.specs.declared.senses.Senses.{Senses}
use Rattle.uc_meaning.specs.declared.senses.Senses.TheVariants.{None, One, Many}
use Rattle.uc_meaning.specs.declared.senses.Ending.{Ending}
use Rattle.uc_meaning.specs.Entries.{Entry}
use Rattle.uc_meaning.specs.Candidates.{is_same_target}
use Rattle.uc_meaning.specs.Meanings.{is_constructor}

-- nothing, the one thing that all stand for, or several things
abbrev pub senses_of : List Entry → Senses
senses_of [] = None
senses_of (e ∷ es) = if list_all (λ f. is_same_target f.1 e.1) es then One e.1 else Many

-- what names stand for, and what the constructors among them do
abbrev pub ending_of : List Entry → Ending
ending_of es = record { any = senses_of es; constructors = senses_of (filter (λ e. is_constructor e.1) es) }

-- with a name more that stands for a thing
abbrev pub with_sense : Target → Senses → Senses
with_sense t None = One t
with_sense t (One u) = if is_same_target t u then One u else Many
with_sense t Many = Many

abbrev pub no_names : Ending
no_names = record { any = None; constructors = None }

abbrev pub with_name : Target → Ending → Ending
with_name t x = record { any = with_sense t x.any; constructors = if is_constructor t then with_sense t x.constructors else x.constructors }

-- with some names more
abbrev pub with_names : Ending → List Entry → Ending
with_names x es = fold (λ y e. with_name e.1 y) x es
