-- Lists that are collected, before what is still to come.
use Rattle.std.specs.Prelude.{List, ◌++◌, Result, Ok}
use Rattle.uc_base.specs.declared.fault.Fault.{Fault}
use Rattle.uc_tree.specs.Types.{Tys}
use Rattle.uc_meaning.specs.Placed.{Placed}
use Rattle.uc_meaning.specs.Results.{◌>>=◌}

-- a list before another, unless there is a fault
abbrev pub after : {A : Type 0} → List A → Result (List A) Fault → Result (List A) Fault
after xs r = r >>= λ ys. Ok (xs ++ ys)

-- fields before others, unless there is a fault
abbrev pub after_fields : Placed (List Tys) → Result (Placed (List Tys)) Fault → Result (Placed (List Tys)) Fault
after_fields xs r = r >>= λ ys. Ok (xs.0 ++ ys.0, xs.1 ++ ys.1)
