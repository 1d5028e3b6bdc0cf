-- Reading definitions, declarations and components.
use Rattle.std.specs.Prelude.{ℕ, zero, suc, ◌+◌, ◌-◌, min, Bool, ◌&&◌, List, [], ◌∷◌, ◌++◌, length, Option, Some, None, nat_lt, nat_le, ◌==◌, if◌then◌else◌}
use Rattle.std.specs.List.{list_all}
use Rattle.uc_base.specs.Name.{is_word, segments_of}
use Rattle.uc_tree.specs.declared.definition.Definition.{Definition}
use Rattle.uc_tree.specs.Declarations.{Decl}
use Rattle.uc_tree.specs.Types.{Ty, Tys, tys_of}
use Rattle.uc_canon.specs.declared.scope.TypeScope.{TypeScope}
use Rattle.uc_canon.specs.Members.{Members, terms, kinds}
use Rattle.uc_canon.specs.Scopes.{types_scope, signature_scope, top_scope}
use Rattle.uc_canon.specs.Reading.{Read, ◌>>=◌, items_from, number_at, count_at, counted_at, bytes_at}
use Rattle.uc_canon.specs.ReadingTypes.{type_at, signature_at}
use Rattle.uc_canon.specs.ReadingTerms.{term_at}

-- a definition among so many
unfoldable pub definition_at : ℕ → List ℕ → Read Definition
definition_at count bytes = do
  t ← signature_at 512 (types_scope (top_scope count)) bytes
  b ← term_at 512 (signature_scope t.0 (top_scope count)) t.1
  Some (record { signature = t.0; body = b.0 }, b.1)

-- a text whose segments are words, where it is one
abbrev pub is_path : List ℕ → Bool
is_path text = nat_le (length text) 128 && list_all is_word (segments_of text)

unfoldable pub path_of : List ℕ → Option (List ℕ)
path_of text = if is_path text then Some text else None

-- `s`, or `u` and a path
unfoldable pub tag_at : List ℕ → Read (Option (List ℕ))
tag_at [] = None
tag_at (c ∷ rest) =
    if c == 115 then Some (None, rest)
    else (if c == 117 then (bytes_at rest >>= λ t. path_of t.0 >>= λ p. Some (Some p, t.1)) else None)

-- the fields of a constructor whose type has at most so many levels, and whose end has so many: each field stands one
-- level further in
abbrev pub fields_from : TypeScope → ℕ → List Ty → ℕ → ℕ → List ℕ → Read (List Ty)
fields_from s end done depth zero bytes = if nat_lt depth end then None else Some (done, bytes)
fields_from s end done zero (suc n) bytes = None
fields_from s end done (suc depth) (suc n) bytes = type_at depth s bytes >>= λ t. fields_from s end (done ++ t.0 ∷ []) depth n t.1

-- the levels of a declared type at so many parameters
abbrev pub end_levels : ℕ → ℕ
end_levels params = min params 1 + 1

-- how many fields, and then each, in a declaration among so many with so many parameters
unfoldable pub fields_at : ℕ → ℕ → List ℕ → Read Tys
fields_at count params bytes = do
  n ← count_at 0 bytes
  ts ← fields_from (record { members = count; variables = params }) (end_levels params) [] (512 - params) n.0 n.1
  Some (tys_of ts.0, ts.1)

-- a declaration among so many
unfoldable pub declaration_at : ℕ → List ℕ → Read Decl
declaration_at count bytes = do
  t ← tag_at bytes
  n ← number_at 4294967295 t.1
  c ← counted_at (fields_at count n.0) 1 n.1
  Some (record { tag = t.0; params = n.0; ctors = c.0 }, c.1)

unfoldable pub definitions_at : List ℕ → Read (List Definition)
definitions_at bytes = do
  n ← count_at 1 bytes
  items_from (definition_at n.0) [] n.0 n.1

unfoldable pub declarations_at : List ℕ → Read (List Decl)
declarations_at bytes = do
  n ← count_at 1 bytes
  items_from (declaration_at n.0) [] n.0 n.1

unfoldable pub members_at : List ℕ → Read Members
members_at [] = None
members_at (c ∷ rest) =
    if c == 84 then (definitions_at rest >>= λ ds. Some (terms ds.0, ds.1))
    else (if c == 68 then (declarations_at rest >>= λ ds. Some (kinds ds.0, ds.1)) else None)
