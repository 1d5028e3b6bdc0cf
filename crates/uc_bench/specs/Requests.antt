-- What is asked for, and what is answered.
use Rattle.std.specs.Prelude.{◌≡◌, ℕ, ◌+◌, ◌/◌, ◌<◌, ◌≤◌, Bool, true, false, List, [], ◌∷◌, None, map, codes}
use Rattle.std.specs.String.{string_bytes}
use Rattle.std.specs.declared.alloc.Global.{Global}
use Rattle.std.specs.declared.string.String.{String}
use Rattle.std.specs.Str.Parse.{digits_value}
use Rattle.uc_base.specs.Decimal.{IsDecimal}
use Rattle.uc_check.specs.Answers.{known_by, fault_of}
use Rattle.uc_tree.specs.Terms.{Term}
use Rattle.uc_tree.specs.Types.{Ty}
use Rattle.uc_typing.specs.Components.{HasOutcome, CheckOutcome, types}
use Rattle.uc_bench.specs.declared.request.Kind.{Kind}
use Rattle.uc_bench.specs.declared.request.Kind.TheVariants.{Applications, Bindings, Cases}
use Rattle.uc_bench.specs.declared.request.Request.{Request}
use Rattle.uc_bench.specs.Ordinary.{builtin_arity, builtin_type, IsSum, chain, number_match}

-- the word of a kind
abbrev pub word_of : Kind → List ℕ
word_of Applications = codes "applications"
word_of Bindings = codes "bindings"
word_of Cases = codes "cases"

-- the most that may be asked for
abbrev pub limit_of : Kind → ℕ
limit_of Applications = 100000
limit_of Bindings = 400
limit_of Cases = 100000

-- a count that may be asked for
pub record IsWithin (kind : Kind) (count : ℕ) : Type 0 where
  pub some : 0 < count
  pub few : count ≤ limit_of kind

-- a text spells a number
pub record Spells (text : List ℕ) (number : ℕ) : Type 0 where
  pub decimal : IsDecimal text
  pub value : number ≡ digits_value 10 text

-- two words ask for code
pub record AsksBy (kind count : List ℕ) (request : Request) : Type 0 where
  pub kind_word : kind ≡ word_of request.kind
  pub count_word : Spells count request.count
  pub within : IsWithin request.kind request.count

-- the texts of words
abbrev pub texts_of : List (String Global) → List (List ℕ)
texts_of words = map string_bytes words

-- the words of a command line ask for code
abbrev pub Asks : List (List ℕ) → Request → Type 0
Asks (kind ∷ count ∷ []) request = AsksBy kind count request
Asks words request = ⊥

-- code of a kind and a size: so many applications, rounded up to an even number, or so many bindings, or so many cases
abbrev pub IsCode : Kind → ℕ → Term → Type 0
IsCode Applications n e = IsSum ((n + 1) / 2 + 1) e
IsCode Bindings n e = e ≡ chain n
IsCode Cases n e = e ≡ number_match n

-- a definition comes to its type, or to a fault
abbrev pub ComesTo : Bool → Term → Type 0
ComesTo true e = (ty : Ty) × HasOutcome (known_by builtin_arity builtin_type) (record { signature = None; body = e } ∷ []) (types (ty ∷ []))
ComesTo false e = (o : CheckOutcome) × (fault_of o ≡ None → ⊥) × HasOutcome (known_by builtin_arity builtin_type) (record { signature = None; body = e } ∷ []) o

-- code of a kind and a size comes to its type, or to a fault
abbrev pub IsCheckedCode : Kind → ℕ → Bool → Type 0
IsCheckedCode kind count typed = (e : Term) × IsCode kind count e × ComesTo typed e
