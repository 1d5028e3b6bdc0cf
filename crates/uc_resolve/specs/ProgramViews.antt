-- Programs as they are kept.
use Rattle.std.specs.Prelude.{List, Vec}
use Rattle.uc_tree.specs.Declarations.{fields_of}
use Rattle.uc_tree.specs.Types.{Ty, Tys}
use Rattle.uc_meaning.specs.Placed.{Placed}
use Rattle.uc_meaning.specs.Programs.{Meaning}
use Rattle.uc_signatures.specs.declared.placed.Placed as kept
use Rattle.uc_resolve.specs.declared.draft.Draft.{Draft}
use Rattle.uc_resolve.specs.declared.program.Program.{Program}

abbrev pub draft_of : Draft → Meaning
draft_of d = record { kinds = d.kinds.items; ctors = d.ctors.items; terms = d.terms.items; watches = d.watches.items; places = d.places }

abbrev pub program_of : Program → Meaning
program_of p = record { kinds = p.kinds.items; ctors = p.ctors.items; terms = p.terms.items; watches = p.watches.items; places = p.places }

-- fields and their places
abbrev pub placed_fields : {A B : Type 0} → kept.Placed (Vec (Vec Ty A) B) → Placed (List Tys)
placed_fields p = (fields_of p.tree.items, p.places)
