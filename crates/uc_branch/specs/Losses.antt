-- Which references are lost, as code keeps it.
use Rattle.std.specs.Prelude.{Bool, ◌&&◌, not}
use Rattle.uc_base.specs.declared.reference.Ref.{Ref}
use Rattle.uc_branch.specs.declared.deleting.Loss.{Loss}
use Rattle.uc_branch.specs.Reaches.{is_among}

-- whether a reference has a name that goes and none that stays
abbrev pub among_lost : Loss → Ref → Bool
among_lost loss r = is_among r loss.gone && not (is_among r loss.kept)
