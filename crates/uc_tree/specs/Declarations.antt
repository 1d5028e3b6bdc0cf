-- Declarations as plain data.
use Rattle.std.specs.Prelude.{ℕ, List, [], ◌∷◌, Option, Vec, refl}
use Rattle.std.specs.Coded.{Coded, code_by, coded×, coded_ℕ, coded_list, coded_option}
use Rattle.uc_tree.specs.Types.{Ty, Tys, tys_of}
use Rattle.uc_tree.specs.TypeCodes.{coded_tys}

-- a declaration: its tag (none where it is structural), how many parameters it has, and the fields of each constructor
pub record Decl : Type 0 where
  pub tag : Option (List ℕ)
  pub params : ℕ
  pub ctors : List Tys

-- how the logic stores a declaration
abbrev pub coded_decl : Coded Decl
coded_decl = code_by (Option (List ℕ) × (ℕ × List Tys)) (coded× (coded_option (coded_list coded_ℕ)) (coded× coded_ℕ (coded_list coded_tys)))
    (λ d. (d.tag, (d.params, d.ctors))) (λ p. record { tag = p.0; params = p.1.0; ctors = p.1.1 }) (λ _. refl)

-- the fields of each constructor
abbrev pub fields_of : {A : Type 0} → List (Vec Ty A) → List Tys
fields_of [] = []
fields_of (fields ∷ ctors) = tys_of fields.items ∷ fields_of ctors
