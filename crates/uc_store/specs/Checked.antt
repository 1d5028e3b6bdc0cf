-- A component that was checked, as plain data.
use Rattle.std.specs.Prelude.{◌≡◌, ℕ, List, refl}
use Rattle.std.specs.Coded.{Coded, code_by, coded×, coded⊎, coded_ℕ, coded_list}
use Rattle.std.proofs.Common.{◌⊎◌, inl, inr}
use Rattle.uc_tree.specs.declared.definition.Definition.{Definition}
use Rattle.uc_tree.specs.Declarations.{Decl, coded_decl}
use Rattle.uc_tree.specs.Items.{coded_definition}
use Rattle.uc_tree.specs.Types.{Ty}
use Rattle.uc_tree.specs.TypeCodes.{coded_ty}
use Rattle.uc_canon.specs.Members.{Members, terms, kinds}

-- the members in their order, the types of definitions, and the hints of each member
pub record Checked : Type 0 where
  pub members : Members
  pub types : List Ty
  pub hints : List (List (List ℕ))

abbrev pub members_out : Members → List Definition ⊎ List Decl
members_out (terms ds) = inl ds
members_out (kinds ds) = inr ds

abbrev pub members_in : List Definition ⊎ List Decl → Members
members_in (inl ds) = terms ds
members_in (inr ds) = kinds ds

pub members_in_out : (m : Members) → members_in (members_out m) ≡ m
members_in_out (terms ds) = refl
members_in_out (kinds ds) = refl

-- how the logic stores members
abbrev pub coded_members : Coded Members
coded_members = code_by (List Definition ⊎ List Decl) (coded⊎ (coded_list coded_definition) (coded_list coded_decl)) members_out members_in members_in_out

-- how the logic stores a checked component
abbrev pub coded_checked : Coded Checked
coded_checked = code_by (Members × (List Ty × List (List (List ℕ)))) (coded× coded_members (coded× (coded_list coded_ty) (coded_list (coded_list (coded_list coded_ℕ)))))
    (λ c. (c.members, (c.types, c.hints))) (λ p. record { members = p.0; types = p.1.0; hints = p.1.1 }) (λ _. refl)
