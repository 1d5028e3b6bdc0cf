-- What is known, where definitions are added.
use Rattle.std.specs.Prelude.{◌≡◌, ℕ, Some}
use Rattle.uc_base.specs.declared.reference.Ref.{Ref}
use Rattle.uc_tree.specs.declared.target.Target.{Target}
use Rattle.uc_tree.specs.Types.{Ty}
use Rattle.uc_kinds.specs.PatternTyping.{Known}

-- all that is known first is known as it was; the signatures of the members of the component are the same
pub record Adds (known known' : Known) : Type 0 where
  pub arities : (x : Target) (n : ℕ) → known.arity x ≡ Some n → known'.arity x ≡ Some n
  pub types : (r : Ref) (ty : Ty) → known.type_of r ≡ Some ty → known'.type_of r ≡ Some ty
  pub signatures : known'.signatures ≡ known.signatures
