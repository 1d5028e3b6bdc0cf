-- Which references are of the sort that their place asks for.
use Rattle.std.specs.Prelude.{◌≡◌, ◌⊎◌, ℕ, nat_lt, List, [], ◌∷◌, ◌++◌, map, length, is_some, Option, Some, None, option_and_then, if◌then◌else◌}
use Rattle.uc_base.specs.declared.reference.Ref.{Ref}
use Rattle.uc_base.specs.declared.reference.Ref.TheVariants.{Def, Ctor, Builtin}
use Rattle.uc_tree.specs.declared.target.Target.{Target}
use Rattle.uc_tree.specs.declared.target.Target.TheVariants.{Stored, Own, OwnCtor}
use Rattle.uc_tree.specs.declared.item.Item.{Item}
use Rattle.uc_tree.specs.declared.item.Item.TheVariants as item
use Rattle.uc_tree.specs.Targets.{ty_targets, signature_targets, pattern_targets, fields_targets}
use Rattle.uc_tree.specs.Terms.{Term, Terms, Cases}
use Rattle.uc_tree.specs.Terms as terms
use Rattle.uc_store.specs.Builtins.{builtin_type, builtin_arity}
use Rattle.uc_store.specs.Table.{Table, stored_at}

-- what a reference is: a builtin type or a declaration, a builtin term or a definition, or a constructor
pub data RefSort : Type 0 where
  a_type : RefSort
  a_term : RefSort
  a_constructor : RefSort

-- a builtin type or term; nothing where no builtin has the number
abbrev pub sort_of_builtin : ℕ → Option RefSort
sort_of_builtin n = if is_some (builtin_arity n) then Some a_type else (if is_some (builtin_type n) then Some a_term else None)

abbrev pub sort_of_item : Item → RefSort
sort_of_item (item.Term d) = a_term
sort_of_item (item.Kind d) = a_type

-- a constructor that a declaration has
abbrev pub sort_of_constructor : ℕ → Item → Option RefSort
sort_of_constructor ctor (item.Term d) = None
sort_of_constructor ctor (item.Kind d) = if nat_lt ctor (length d.ctors) then Some a_constructor else None

-- what a reference is; nothing where it is no builtin and its member or constructor isn't stored
abbrev pub sort_in : Table → Ref → Option RefSort
sort_in table (Def hash member) = option_and_then (λ s. Some (sort_of_item s.item)) (stored_at table (Def hash member))
sort_in table (Ctor hash member ctor) = option_and_then (λ s. sort_of_constructor ctor s.item) (stored_at table (Def hash member))
sort_in table (Builtin number) = sort_of_builtin number

-- a place of a target: in a type, in a pattern, or elsewhere in a term
pub data Use : Type 0 where
  in_type : Target → Use
  in_pattern : Target → Use
  in_term : Target → Use

abbrev mutual
  -- the places of the targets in a term
  pub term_uses : Term → List Use
  term_uses (terms.variable n) = []
  term_uses (terms.literal l) = []
  term_uses terms.unit = []
  term_uses (terms.link x) = in_term x ∷ []
  term_uses (terms.lambda t) = term_uses t
  term_uses (terms.apply a b) = term_uses a ++ term_uses b
  term_uses (terms.annotated t ty) = term_uses t ++ map in_type (ty_targets ty)
  term_uses (terms.tuple ts) = terms_uses ts
  term_uses (terms.list ts) = terms_uses ts
  term_uses (terms.conditional a b c) = term_uses a ++ term_uses b ++ term_uses c
  term_uses (terms.and a b) = term_uses a ++ term_uses b
  term_uses (terms.or a b) = term_uses a ++ term_uses b
  term_uses (terms.binding s a b) = map in_type (signature_targets s) ++ term_uses a ++ term_uses b
  term_uses (terms.match t cs) = term_uses t ++ cases_uses cs

  pub terms_uses : Terms → List Use
  terms_uses terms.none = []
  terms_uses (terms.more t ts) = term_uses t ++ terms_uses ts

  pub cases_uses : Cases → List Use
  cases_uses terms.no_case = []
  cases_uses (terms.case p b cs) = map in_pattern (pattern_targets p) ++ term_uses b ++ cases_uses cs
  cases_uses (terms.guarded p g b cs) = map in_pattern (pattern_targets p) ++ term_uses g ++ term_uses b ++ cases_uses cs

-- the places of the targets in an item
abbrev pub uses_of : Item → List Use
uses_of (item.Term d) = map in_type (signature_targets d.signature) ++ term_uses d.body
uses_of (item.Kind d) = map in_type (fields_targets d.ctors)

-- a stored reference is of the sort that its place asks for: in a type a type, in a pattern a constructor, elsewhere a term or a constructor
abbrev pub IsOfSort : Table → Use → Type 0
IsOfSort table (in_type (Stored r)) = sort_in table r ≡ Some a_type
IsOfSort table (in_pattern (Stored r)) = sort_in table r ≡ Some a_constructor
IsOfSort table (in_term (Stored r)) = (sort_in table r ≡ Some a_term) ⊎ (sort_in table r ≡ Some a_constructor)
IsOfSort table (in_type (Own member)) = Unit {0}
IsOfSort table (in_type (OwnCtor member ctor)) = Unit {0}
IsOfSort table (in_pattern (Own member)) = Unit {0}
IsOfSort table (in_pattern (OwnCtor member ctor)) = Unit {0}
IsOfSort table (in_term (Own member)) = Unit {0}
IsOfSort table (in_term (OwnCtor member ctor)) = Unit {0}
