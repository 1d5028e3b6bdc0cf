-- The one form of text that is built so far.
use Rattle.std.specs.Prelude.{◌≡◌, ℕ, ◌≤◌, ◌==◌, not, Bool, true, List, [], ◌∷◌, ◌++◌, length, None}
use Rattle.std.specs.List.{list_all}
use Rattle.uc_base.specs.Builtin.{builtin_number}
use Rattle.uc_base.specs.Decimal.{IsDecimal}
use Rattle.uc_base.specs.Name.{IsPath}

-- NAME = NAT and a line feed: a path that is no builtin's name, and 1 to 20 digits of a value below 2 ^ 64
pub record IsNumberLine (text name digits : List ℕ) : Type 0 where
  pub path : IsPath name
  pub free : builtin_number name ≡ None
  pub number : IsDecimal digits
  pub short : length digits ≤ 20
  pub is : text ≡ name ++ (32 ∷ 61 ∷ 32 ∷ (digits ++ 10 ∷ []))

abbrev pub is_no_space : ℕ → Bool
is_no_space c = not (c == 32)

-- a front without spaces, ` = `, and the rest of the line before its line feed
pub record IsParted (text name digits : List ℕ) : Type 0 where
  pub no_space : list_all is_no_space name ≡ true
  pub is : text ≡ name ++ (32 ∷ 61 ∷ 32 ∷ (digits ++ 10 ∷ []))

-- a name that may be given to a number that these digits spell
pub record CanStandFor (name digits : List ℕ) : Type 0 where
  pub free : builtin_number name ≡ None
  pub number : IsDecimal digits
  pub short : length digits ≤ 20
