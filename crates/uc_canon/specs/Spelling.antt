-- The canonical spelling of types, patterns, terms and components. It holds no name but the tag of a unique type.
use Rattle.std.specs.Prelude.{ℕ, suc, Bool, true, false, unsigned_abs, List, [], ◌∷◌, ◌++◌, length, Option, Some, None}
use Rattle.std.specs.Fmt.{decimal}
use Rattle.std.specs.Int.{is_negative}
use Rattle.hex.specs.Hex.{encode_lower}
use Rattle.uc_base.specs.declared.reference.Ref.TheVariants.{Def, Ctor, Builtin}
use Rattle.uc_tree.specs.declared.target.Target.{Target}
use Rattle.uc_tree.specs.declared.target.Target.TheVariants.{Stored, Own, OwnCtor}
use Rattle.uc_tree.specs.declared.literal.Literal.{Literal}
use Rattle.uc_tree.specs.declared.literal.Literal.TheVariants as lit
use Rattle.uc_tree.specs.declared.definition.Definition.{Definition}
use Rattle.uc_tree.specs.Declarations.{Decl}
use Rattle.uc_tree.specs.Types.{Ty, Tys}
use Rattle.uc_tree.specs.Types as type
use Rattle.uc_tree.specs.Patterns.{Pattern, Patterns}
use Rattle.uc_tree.specs.Patterns as pattern
use Rattle.uc_tree.specs.Terms.{Term, Terms, Cases, no_case, case, guarded}
use Rattle.uc_tree.specs.Terms as term

-- decimal digits and a semicolon
unfoldable pub number_text : ℕ → List ℕ
number_text n = decimal n ++ 59 ∷ []

-- the number of its bytes, and the bytes
abbrev pub bytes_text : List ℕ → List ℕ
bytes_text bytes = number_text (length bytes) ++ bytes

-- ---- types

-- b n a builtin; h hash n a stored declaration; m n a member; nothing else names a type
abbrev pub type_target_text : Target → List ℕ
type_target_text (Stored (Builtin n)) = 98 ∷ number_text n
type_target_text (Stored (Def hash n)) = 104 ∷ (encode_lower hash.0 ++ number_text n)
type_target_text (Stored (Ctor hash n c)) = []
type_target_text (Own n) = 109 ∷ number_text n
type_target_text (OwnCtor n c) = []

abbrev pub types_count : Tys → ℕ
types_count type.none = 0
types_count (type.more t ts) = suc (types_count ts)

abbrev mutual
  -- v n a variable; q a quantifier; a an arrow; e the unit; p a tuple; t a declared type at its arguments
  pub type_text : Ty → List ℕ
  type_text (type.variable n) = 118 ∷ number_text n
  type_text (type.quantified t) = 113 ∷ type_text t
  type_text (type.arrow a b) = 97 ∷ (type_text a ++ type_text b)
  type_text type.unit = 101 ∷ []
  type_text (type.tuple ts) = 112 ∷ (number_text (types_count ts) ++ types_text ts)
  type_text (type.applied x ts) = 116 ∷ (type_target_text x ++ (number_text (types_count ts) ++ types_text ts))

  -- one after the other
  pub types_text : Tys → List ℕ
  types_text type.none = []
  types_text (type.more t ts) = type_text t ++ types_text ts

-- how many, and then each
abbrev pub counted_types : Tys → List ℕ
counted_types ts = number_text (types_count ts) ++ types_text ts

-- `-` for none, or `:` and the type
abbrev pub signature_text : Option Ty → List ℕ
signature_text None = 45 ∷ []
signature_text (Some t) = 58 ∷ type_text t

-- ---- literals and patterns

-- zero has a plus
abbrev pub sign_text : Bool → ℕ
sign_text true = 45
sign_text false = 43

-- n a Nat; i, sign and number an Int; y true; z false; x a text; c a character
abbrev pub literal_text : Literal → List ℕ
literal_text (lit.Nat n) = 110 ∷ number_text n
literal_text (lit.Int z) = 105 ∷ sign_text (is_negative z) ∷ number_text (unsigned_abs z)
literal_text (lit.Boolean true) = 121 ∷ []
literal_text (lit.Boolean false) = 122 ∷ []
literal_text (lit.Text bytes) = 120 ∷ bytes_text bytes
literal_text (lit.Char c) = 99 ∷ number_text c

-- hash, member and constructor; nothing else stands at the head of a pattern
abbrev pub pattern_target_text : Target → List ℕ
pattern_target_text (Stored (Ctor hash n c)) = encode_lower hash.0 ++ (number_text n ++ number_text c)
pattern_target_text (Stored (Def hash n)) = []
pattern_target_text (Stored (Builtin n)) = []
pattern_target_text (Own n) = []
pattern_target_text (OwnCtor n c) = []

abbrev pub patterns_count : Patterns → ℕ
patterns_count pattern.none = 0
patterns_count (pattern.more p ps) = suc (patterns_count ps)

abbrev mutual
  -- _ any; v a variable; @ an alias; a literal; e the unit; p a tuple; g a list; k a constructor; < for `+:`; > for `:+`
  pub pattern_text : Pattern → List ℕ
  pattern_text pattern.any = 95 ∷ []
  pattern_text pattern.variable = 118 ∷ []
  pattern_text (pattern.alias p) = 64 ∷ pattern_text p
  pattern_text (pattern.literal l) = literal_text l
  pattern_text pattern.unit = 101 ∷ []
  pattern_text (pattern.tuple ps) = 112 ∷ (number_text (patterns_count ps) ++ patterns_text ps)
  pattern_text (pattern.list ps) = 103 ∷ (number_text (patterns_count ps) ++ patterns_text ps)
  pattern_text (pattern.constructor x ps) = 107 ∷ (pattern_target_text x ++ (number_text (patterns_count ps) ++ patterns_text ps))
  pattern_text (pattern.cons p q) = 60 ∷ (pattern_text p ++ pattern_text q)
  pattern_text (pattern.snoc p q) = 62 ∷ (pattern_text p ++ pattern_text q)

  pub patterns_text : Patterns → List ℕ
  patterns_text pattern.none = []
  patterns_text (pattern.more p ps) = pattern_text p ++ patterns_text ps

abbrev pub counted_patterns : Patterns → List ℕ
counted_patterns ps = number_text (patterns_count ps) ++ patterns_text ps

-- ---- terms

-- rb n a builtin; rh hash n a stored definition; k hash n c a constructor; m n a member
abbrev pub link_text : Target → List ℕ
link_text (Stored (Builtin n)) = 114 ∷ 98 ∷ number_text n
link_text (Stored (Def hash n)) = 114 ∷ 104 ∷ (encode_lower hash.0 ++ number_text n)
link_text (Stored (Ctor hash n c)) = 107 ∷ (encode_lower hash.0 ++ (number_text n ++ number_text c))
link_text (Own n) = 109 ∷ number_text n
link_text (OwnCtor n c) = []

abbrev pub terms_count : Terms → ℕ
terms_count term.none = 0
terms_count (term.more t ts) = suc (terms_count ts)

abbrev pub cases_count : Cases → ℕ
cases_count no_case = 0
cases_count (case p b cs) = suc (cases_count cs)
cases_count (guarded p g b cs) = suc (cases_count cs)

abbrev mutual
  -- v n a variable; a literal; e the unit; a link; l a lambda; a an application; s an annotation; p a tuple; g a list;
  -- f a conditional; w `&&`; o `||`; d a binding; j a match
  pub term_text : Term → List ℕ
  term_text (term.variable n) = 118 ∷ number_text n
  term_text (term.literal l) = literal_text l
  term_text term.unit = 101 ∷ []
  term_text (term.link x) = link_text x
  term_text (term.lambda t) = 108 ∷ term_text t
  term_text (term.apply a b) = 97 ∷ (term_text a ++ term_text b)
  term_text (term.annotated t ty) = 115 ∷ (term_text t ++ type_text ty)
  term_text (term.tuple ts) = 112 ∷ (number_text (terms_count ts) ++ terms_text ts)
  term_text (term.list ts) = 103 ∷ (number_text (terms_count ts) ++ terms_text ts)
  term_text (term.conditional a b c) = 102 ∷ (term_text a ++ (term_text b ++ term_text c))
  term_text (term.and a b) = 119 ∷ (term_text a ++ term_text b)
  term_text (term.or a b) = 111 ∷ (term_text a ++ term_text b)
  term_text (term.binding ty a b) = 100 ∷ (signature_text ty ++ (term_text a ++ term_text b))
  term_text (term.match t cs) = 106 ∷ (term_text t ++ (number_text (cases_count cs) ++ cases_text cs))

  pub terms_text : Terms → List ℕ
  terms_text term.none = []
  terms_text (term.more t ts) = term_text t ++ terms_text ts

  -- the pattern, `-` or `|` and the guard, and the body
  pub cases_text : Cases → List ℕ
  cases_text no_case = []
  cases_text (case p b cs) = (pattern_text p ++ 45 ∷ term_text b) ++ cases_text cs
  cases_text (guarded p g b cs) = (pattern_text p ++ 124 ∷ (term_text g ++ term_text b)) ++ cases_text cs

abbrev pub counted_terms : Terms → List ℕ
counted_terms ts = number_text (terms_count ts) ++ terms_text ts

abbrev pub counted_cases : Cases → List ℕ
counted_cases cs = number_text (cases_count cs) ++ cases_text cs

abbrev pub case_text : Pattern → Option Term → Term → List ℕ
case_text p None b = pattern_text p ++ 45 ∷ term_text b
case_text p (Some g) b = pattern_text p ++ 124 ∷ (term_text g ++ term_text b)

-- ---- components

abbrev pub definition_text : Definition → List ℕ
definition_text d = signature_text d.signature ++ term_text d.body

abbrev pub definitions_text : List Definition → List ℕ
definitions_text [] = []
definitions_text (d ∷ ds) = definition_text d ++ definitions_text ds

-- `s`, or `u` and the tag as a text
abbrev pub tag_text : Option (List ℕ) → List ℕ
tag_text None = 115 ∷ []
tag_text (Some tag) = 117 ∷ bytes_text tag

-- the fields of each constructor
abbrev pub constructors_text : List Tys → List ℕ
constructors_text [] = []
constructors_text (fields ∷ ctors) = counted_types fields ++ constructors_text ctors

-- how many, and then each
abbrev pub counted_constructors : List Tys → List ℕ
counted_constructors ctors = number_text (length ctors) ++ constructors_text ctors

abbrev pub declaration_text : Decl → List ℕ
declaration_text d = tag_text d.tag ++ (number_text d.params ++ counted_constructors d.ctors)

abbrev pub declarations_text : List Decl → List ℕ
declarations_text [] = []
declarations_text (d ∷ ds) = declaration_text d ++ declarations_text ds

-- T, the number of members, and each
abbrev pub terms_component_text : List Definition → List ℕ
terms_component_text members = 84 ∷ (number_text (length members) ++ definitions_text members)

-- D, the number of members, and each
abbrev pub kinds_component_text : List Decl → List ℕ
kinds_component_text members = 68 ∷ (number_text (length members) ++ declarations_text members)
