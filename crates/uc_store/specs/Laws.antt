-- Laws of the table.
use Rattle.std.specs.Prelude.{◌≡◌, ℕ, List}
use Rattle.uc_base.specs.declared.reference.Ref.{Ref}
use Rattle.uc_base.specs.declared.reference.Ref.TheVariants.{Def}
use Rattle.uc_canon.specs.Members.{text_of}
use Rattle.uc_store.specs.Checked.{Checked}
use Rattle.uc_store.specs.Growth.{Digest, hash_of, with_components, Extends}
use Rattle.uc_store.specs.Table.{Table}

-- the reference of a member of a component
abbrev pub reference_of : Digest → Checked → ℕ → Ref
reference_of digest c member = Def (hash_of digest c) member

-- components of one text have one reference for each member
abbrev pub EqualTextsHaveEqualReferences : Type 0
EqualTextsHaveEqualReferences = (digest : Digest) (c d : Checked) (member : ℕ) → text_of c.members ≡ text_of d.members → reference_of digest c member ≡ reference_of digest d member

-- growth leaves what is stored as it is
abbrev pub GrowthExtends : Type 0
GrowthExtends = (digest : Digest) (table : Table) (new : List Checked) → Extends table (with_components digest table new)
