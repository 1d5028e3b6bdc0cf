-- What the program does with its words and its input.
use Rattle.std.specs.Prelude.{◌≡◌, ℕ, ◌<◌, ◌≤◌, ◌||◌, ◌==◌, nat_le, List, [], ◌∷◌, ◌++◌, length, codes, None, if◌then◌else◌, map}
use Rattle.std.specs.String.{string_bytes}
use Rattle.std.specs.declared.alloc.Global.{Global}
use Rattle.std.specs.declared.string.String.{String}
use Rattle.std.specs.Str.Parse.{digits_value}
use Rattle.uc_base.specs.Fault.{fault_line, fault_number}
use Rattle.uc_base.specs.Ref.{ref_text}
use Rattle.uc_base.specs.declared.fault.Fault.{Fault}
use Rattle.uc_base.specs.declared.fault.Fault.TheVariants.{Usage, TextTooLong, NotBuilt}
use Rattle.uc_base.specs.declared.reference.Ref.{Ref}
use Rattle.uc_base.specs.declared.reference.Ref.TheVariants.{Def}
use Rattle.uc_canon.specs.Spelling.{terms_component_text}
use Rattle.uc_outside.specs.Digests.{sha512_hash}
use Rattle.uc_tree.specs.declared.definition.Definition.{Definition}
use Rattle.uc_tree.specs.declared.literal.Literal.TheVariants.{Nat}
use Rattle.uc_tree.specs.Terms.{literal}
use Rattle.ucm.specs.NumberLine.{IsNumberLine}

-- the most bytes of a scratch text
abbrev pub text_limit : ℕ
text_limit = 262144

-- the texts of words
abbrev pub texts_of : List (String Global) → List (List ℕ)
texts_of words = map string_bytes words

-- the words of a command line: exactly `add`
abbrev pub IsAdd : List (List ℕ) → Type 0
IsAdd words = words ≡ codes "add" ∷ []

-- the line of a fault, with its line feed
abbrev pub refusal_text : Fault → List ℕ
refusal_text fault = fault_line fault ++ 10 ∷ []

-- the status for a fault of that number
abbrev pub status_at : ℕ → ℕ
status_at n =
    if nat_le n 16 || (n == 33 || n == 39) then 2
    else if nat_le n 41 then 1
    else if n == 43 || n == 44 then 4
    else if n == 50 then 6
    else if n == 60 then 3
    else 5

abbrev pub status_of : Fault → ℕ
status_of fault = status_at (fault_number fault)

-- the definition that a number makes
abbrev pub number_definition : ℕ → Definition
number_definition n = record { signature = None; body = literal (Nat n) }

-- its reference: the digest of its canonical text
abbrev pub number_reference : ℕ → Ref
number_reference n = Def (sha512_hash (terms_component_text (number_definition n ∷ []))) 0

-- `added term NAME REF`
abbrev pub added_text : List ℕ → ℕ → List ℕ
added_text name n = codes "added term " ++ (name ++ (32 ∷ (ref_text (number_reference n) ++ 10 ∷ [])))

-- what the program writes for these words and this input, and its status
pub data Runs (words : List (List ℕ)) (input : List ℕ) (text : List ℕ) (status : ℕ) : Type 0 where
  refuses_words : (IsAdd words → ⊥) → text ≡ refusal_text Usage → status ≡ 3 → Runs words input text status
  refuses_length : IsAdd words → text_limit < length input → text ≡ refusal_text TextTooLong → status ≡ 2 → Runs words input text status
  refuses_form : IsAdd words → length input ≤ text_limit → ((name digits : List ℕ) → IsNumberLine input name digits → ⊥)
      → text ≡ refusal_text NotBuilt → status ≡ 2 → Runs words input text status
  adds : (name digits : List ℕ) → IsAdd words → length input ≤ text_limit → IsNumberLine input name digits
      → text ≡ added_text name (digits_value 10 digits) → status ≡ 0 → Runs words input text status
