-- What a file means: its program, or the fault at the first written name that fails.
use Rattle.std.specs.Prelude.{ℕ, ◌+◌, List, [], ◌∷◌, ◌++◌, map, reverse, length, Option, Some, None, Result, Ok, Err, if◌then◌else◌}
use Rattle.uc_base.specs.declared.place.Place.{Place}
use Rattle.uc_base.specs.declared.fault.Fault.{Fault}
use Rattle.uc_base.specs.declared.fault.Fault.TheVariants.{BadName}
use Rattle.uc_base.specs.Name.{is_name}
use Rattle.uc_tree.specs.declared.definition.Definition.{Definition}
use Rattle.uc_tree.specs.Declarations.{Decl}
use Rattle.uc_tree.specs.Types.{Tys}
use Rattle.uc_tree.specs.Terms.{Term}
use Rattle.uc_scratch.specs.declared.written.Written.{Written}
use Rattle.uc_scratch.specs.declared.written.Param.{Param}
use Rattle.uc_scratch.specs.declared.file.DeclarationSort.{DeclarationSort}
use Rattle.uc_scratch.specs.declared.file.DeclarationSort.TheVariants as sort
use Rattle.uc_scratch.specs.Files.{Constructor, Item, using, declaration, signature, prefix, infix_operator, watch}
use Rattle.uc_scratch.specs.Exprs.{Block}
use Rattle.uc_scratch.specs.ExprGrammar.{head_name}
use Rattle.uc_scratch.specs.TypeLevels.{texts_of}
use Rattle.uc_scratch.specs.NameFaults.{constructor_name}
use Rattle.uc_meaning.specs.Results.{◌>>=◌}
use Rattle.uc_meaning.specs.Meanings.{Known}
use Rattle.uc_meaning.specs.Placed.{Placed}
use Rattle.uc_meaning.specs.TypeMeanings.{type_atoms_meaning, signature_meaning}
use Rattle.uc_meaning.specs.ExprMeanings.{Scope, Signed, signed_by, signature_for, with_using, no_parts, expr_meaning, bound_meaning}

-- the places of the nodes of each member, of which the first is its name
pub record PlacesOf : Type 0 where
  pub kinds : List (List Place)
  pub terms : List (List Place)
  pub watches : List (List Place)

-- The declared types, the constructors with the numbers of their type and their own, the definitions and the watches of a file. `Own` counts types in a type, and definitions in a term.
pub record Meaning : Type 0 where
  pub kinds : List (List ℕ × Decl)
  pub ctors : List (List ℕ × ℕ × ℕ)
  pub terms : List (List ℕ × Definition)
  pub watches : List Term
  pub places : PlacesOf

-- a text as a name
abbrev pub named : List ℕ → Result (List ℕ) Fault
named text = if is_name text then Ok text else Err BadName

-- the tag of a declared type: without `structural` it is the tag that is written, or the type's name
abbrev pub tag_of : DeclarationSort → Written → Option (List ℕ)
tag_of (sort.Plain p) w = Some w.text
tag_of (sort.Structural p) w = None
tag_of (sort.Unique p) w = Some w.text
tag_of (sort.Tagged p tag) w = Some tag.text

-- the fields of constructors under the parameters, of which the last is the innermost
abbrev pub fields_meaning : Known → Scope → List Constructor → Result (Placed (List Tys)) Fault
fields_meaning known scope [] = Ok ([], [])
fields_meaning known scope (c ∷ cs) =
    type_atoms_meaning known scope.usings scope.variables c.fields >>= λ x. fields_meaning known scope cs >>= λ xs. Ok (x.0 ∷ xs.0, x.1 ++ xs.1)

-- the names of constructors, from this number on
abbrev pub ctors_meaning : ℕ → Written → ℕ → List Constructor → Result (List (List ℕ × ℕ × ℕ)) Fault
ctors_meaning k w c [] = Ok []
ctors_meaning k w c (x ∷ cs) = named (constructor_name w x) >>= λ name. ctors_meaning k w (c + 1) cs >>= λ names. Ok ((name, k, c) ∷ names)

-- a definition: its signature, where one of its name stands before it, and its parameters and body
unfoldable pub definition_of : Option Signed → Placed Term → Placed Definition
definition_of None body = (record { signature = None; body = body.0 }, body.1)
definition_of (Some s) body = (record { signature = Some s.type_of.0; body = body.0 }, s.type_of.1 ++ body.1)

abbrev pub definition_meaning : Known → Scope → Option Signed → Written → List Param → Block → Result (Placed Definition) Fault
definition_meaning known scope signed w ps b =
    let found = signature_for signed w in
    bound_meaning known scope found ps b >>= λ x. Ok (definition_of found x)

-- more members
abbrev pub with_kind : List ℕ → List (List ℕ × ℕ × ℕ) → Place → Placed Decl → Meaning → Meaning
with_kind name ctors p d m = record {
  kinds = (name, d.0) ∷ m.kinds;
  ctors = ctors ++ m.ctors;
  terms = m.terms;
  watches = m.watches;
  places = record { kinds = (p ∷ d.1) ∷ m.places.kinds; terms = m.places.terms; watches = m.places.watches };
}

abbrev pub with_term : List ℕ → Place → Placed Definition → Meaning → Meaning
with_term name p d m = record {
  kinds = m.kinds;
  ctors = m.ctors;
  terms = (name, d.0) ∷ m.terms;
  watches = m.watches;
  places = record { kinds = m.places.kinds; terms = (p ∷ d.1) ∷ m.places.terms; watches = m.places.watches };
}

abbrev pub with_watch : Place → Placed Term → Meaning → Meaning
with_watch p t m = record {
  kinds = m.kinds;
  ctors = m.ctors;
  terms = m.terms;
  watches = t.0 ∷ m.watches;
  places = record { kinds = m.places.kinds; terms = m.places.terms; watches = (p ∷ t.1) ∷ m.places.watches };
}

-- The meaning of items, behind a signature or none, where so many types are declared before them. All stand in one block.
abbrev pub items_meaning : Known → Scope → Option Signed → ℕ → List Item → Result Meaning Fault
items_meaning known scope signed k [] = Ok (record { kinds = []; ctors = []; terms = []; watches = []; places = record { kinds = []; terms = []; watches = [] } })
items_meaning known scope signed k (using p w ws ∷ is) = items_meaning known (with_using w ws scope) None k is
items_meaning known scope signed k (declaration s w ws cs ∷ is) =
    named w.text >>= λ name. ctors_meaning k w 0 cs >>= λ ctors.
    fields_meaning known (record scope { variables = reverse (texts_of ws) }) cs >>= λ fields.
    items_meaning known scope None (k + 1) is >>= λ rest.
    Ok (with_kind name ctors w.place (record { tag = tag_of s w; params = length ws; ctors = fields.0 }, fields.1) rest)
items_meaning known scope signed k (signature h t ∷ is) =
    signature_meaning known scope.usings scope.variables t >>= λ ty. items_meaning known scope (Some (signed_by scope.variables h t ty)) k is
items_meaning known scope signed k (prefix h ps b ∷ is) =
    named (head_name h).text >>= λ name. definition_meaning known scope signed (head_name h) ps b >>= λ d.
    items_meaning known scope None k is >>= λ rest. Ok (with_term name (head_name h).place d rest)
items_meaning known scope signed k (infix_operator x w y b ∷ is) =
    named w.text >>= λ name. definition_meaning known scope signed w (x ∷ y ∷ []) b >>= λ d.
    items_meaning known scope None k is >>= λ rest. Ok (with_term name w.place d rest)
items_meaning known scope signed k (watch p e ∷ is) =
    expr_meaning known scope e no_parts [] >>= λ t. items_meaning known scope None k is >>= λ rest. Ok (with_watch p t rest)

-- the scope at the front of a file: one block
abbrev pub file_scope : Scope
file_scope = record { binders = []; variables = []; usings = [] ∷ [] }

-- the meaning of a file
abbrev pub file_meaning : Known → List Item → Result Meaning Fault
file_meaning known is = items_meaning known file_scope None 0 is
