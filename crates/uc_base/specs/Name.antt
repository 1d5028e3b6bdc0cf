-- Which texts are names.
use Rattle.std.specs.Prelude.{◌≡◌, ℕ, ◌≤◌, ◌⊎◌, Bool, true, false, List, [], ◌∷◌, ◌++◌, ◌==◌, ◌&&◌, ◌||◌, not, nat_le, length, bytes_eq, codes, if◌then◌else◌}
use Rattle.std.specs.List.{list_all, list_any}

-- `A` to `Z`, `a` to `z` and `_`
abbrev pub is_letter : ℕ → Bool
is_letter c = (nat_le 97 c && nat_le c 122) || ((nat_le 65 c && nat_le c 90) || c == 95)

-- `0` to `9`
abbrev pub is_digit : ℕ → Bool
is_digit c = nat_le 48 c && nat_le c 57

-- letters, digits, `'` and `!`
abbrev pub is_wordy : ℕ → Bool
is_wordy c = is_letter c || (is_digit c || (c == 39 || c == 33))

-- `! $ % ^ & * - = < > + | / ~ :`
abbrev pub is_operator : ℕ → Bool
is_operator c = (c == 33 || (nat_le 36 c && nat_le c 38)) || ((nat_le 42 c && nat_le c 43) || (c == 45 || (c == 47 || (c == 58 || ((nat_le 60 c && nat_le c 62) || (c == 94 || (c == 124 || c == 126)))))))

-- the words that the grammar uses
abbrev pub keywords : List (List ℕ)
keywords =
    codes "if" ∷ codes "then" ∷ codes "else" ∷ codes "match" ∷ codes "with" ∷ codes "cases" ∷ codes "let"
    ∷ codes "use" ∷ codes "type" ∷ codes "structural" ∷ codes "unique" ∷ codes "forall" ∷ codes "true" ∷ codes "false" ∷ []

-- the words of Unison that the grammar leaves out
abbrev pub words_left_out : List (List ℕ)
words_left_out =
    codes "ability" ∷ codes "handle" ∷ codes "do" ∷ codes "termLink" ∷ codes "typeLink" ∷ codes "namespace" ∷ []

-- the operators that the grammar uses
abbrev pub reserved_operators : List (List ℕ)
reserved_operators = codes "=" ∷ codes "->" ∷ codes ":" ∷ codes "|" ∷ codes "&&" ∷ codes "||" ∷ []

-- whether a text is one of a list
abbrev pub is_one_of : List (List ℕ) → List ℕ → Bool
is_one_of texts text = list_any (λ t. bytes_eq text t) texts

abbrev pub is_keyword : List ℕ → Bool
is_keyword = is_one_of keywords

abbrev pub is_left_out : List ℕ → Bool
is_left_out = is_one_of words_left_out

abbrev pub is_reserved : List ℕ → Bool
is_reserved = is_one_of reserved_operators

-- a letter, then wordy characters
abbrev pub has_word_form : List ℕ → Bool
has_word_form [] = false
has_word_form (c ∷ cs) = is_letter c && list_all is_wordy cs

-- one or more operator characters
abbrev pub has_operator_form : List ℕ → Bool
has_operator_form [] = false
has_operator_form (c ∷ cs) = is_operator c && list_all is_operator cs

-- whether a text begins a comment
abbrev pub begins_comment : List ℕ → Bool
begins_comment (c ∷ d ∷ cs) = c == 45 && d == 45
begins_comment _ = false

-- a wordy segment
abbrev pub is_word : List ℕ → Bool
is_word s = has_word_form s && not (is_keyword s || (is_left_out s || bytes_eq s (codes "_")))

-- an operator segment
abbrev pub is_operator_segment : List ℕ → Bool
is_operator_segment s = has_operator_form s && not (is_reserved s || (bytes_eq s (codes "!") || begins_comment s))

-- a character before the first of some segments
abbrev pub with_first : ℕ → List (List ℕ) → List (List ℕ)
with_first c [] = (c ∷ []) ∷ []
with_first c (s ∷ ss) = (c ∷ s) ∷ ss

-- the parts of a text between its dots
abbrev pub segments_of : List ℕ → List (List ℕ)
segments_of [] = [] ∷ []
segments_of (c ∷ cs) = if c == 46 then [] ∷ segments_of cs else with_first c (segments_of cs)

-- wordy segments, the last of which may be an operator segment
abbrev pub are_segments : List (List ℕ) → Bool
are_segments [] = false
are_segments (s ∷ []) = is_word s || is_operator_segment s
are_segments (s ∷ t ∷ ss) = is_word s && are_segments (t ∷ ss)

-- whether a text is a name
abbrev pub is_name : List ℕ → Bool
is_name text = nat_le (length text) 128 && are_segments (segments_of text)

-- a text of such segments with a dot between, of at most 128 bytes
pub record IsName (text : List ℕ) : Type 0 where
  pub segments : are_segments (segments_of text) ≡ true
  pub short : length text ≤ 128

-- a name whose last segment is wordy, as all its others are
pub record IsPath (text : List ℕ) : Type 0 where
  pub words : list_all is_word (segments_of text) ≡ true
  pub short : length text ≤ 128

-- the whole name, or what stands behind one of its dots
abbrev pub IsSuffix : List ℕ → List ℕ → Type 0
IsSuffix suffix text = (text ≡ suffix) ⊎ ((front : List ℕ) × (text ≡ front ++ 46 ∷ suffix))

-- the prefix and a dot stand before the rest of the text
abbrev pub IsBelow : List ℕ → List ℕ → Type 0
IsBelow text prefix = (rest : List ℕ) × (text ≡ prefix ++ 46 ∷ rest)
