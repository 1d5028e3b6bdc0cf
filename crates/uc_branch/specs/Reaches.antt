-- Which names an edit takes, and which references some references are.
use Rattle.std.specs.Prelude.{ℕ, Bool, List}
use Rattle.std.specs.List.{list_any}
use Rattle.uc_base.specs.declared.reference.Ref.{Ref}
use Rattle.uc_tree.specs.References.{is_same_ref}
use Rattle.uc_branch.specs.declared.reach.Reach.{Reach}
use Rattle.uc_branch.specs.declared.reach.Reach.TheVariants.{Exactly, Below, FromThere}
use Rattle.uc_branch.specs.Pairs.{is_same_name}
use Rattle.uc_branch.specs.Moving.{is_below, is_moved}

-- whether an edit takes a name
abbrev pub reaches : Reach → List ℕ → Bool
reaches (Exactly name) = is_same_name name.now
reaches (Below name) = is_below name.now
reaches (FromThere name) = is_moved name.now

-- whether a reference is one of some
abbrev pub is_among : Ref → List Ref → Bool
is_among r = list_any (is_same_ref r)
