-- Names that are held with what they stand for.
use Rattle.std.specs.Prelude.{ℕ, List, map, Vec}
use Rattle.uc_tree.specs.declared.target.Target.{Target}
use Rattle.uc_meaning.specs.Entries.{Entry}

abbrev pub entries_of : {A : Type 0} → List (Vec ℕ A × Target) → List Entry
entries_of es = map (λ e. (e.0.items, e.1)) es
