-- Reading types.
use Rattle.std.specs.Prelude.{ℕ, zero, suc, List, [], ◌∷◌, Option, Some, None, nat_lt, ◌==◌, if◌then◌else◌}
use Rattle.uc_base.specs.declared.reference.Ref.TheVariants.{Def, Ctor, Builtin}
use Rattle.uc_tree.specs.declared.target.Target.{Target}
use Rattle.uc_tree.specs.declared.target.Target.TheVariants.{Stored, Own}
use Rattle.uc_tree.specs.Types.{Ty, variable, quantified, arrow, unit, tuple, applied, tys_of}
use Rattle.uc_canon.specs.declared.scope.TypeScope.{TypeScope}
use Rattle.uc_canon.specs.Scopes.{quantified_scope}
use Rattle.uc_canon.specs.Reading.{Read, ◌>>=◌, number_at, counted_at, hash_at}

-- ---- targets

unfoldable pub builtin_at : List ℕ → Read Target
builtin_at bytes = do
  n ← number_at 65535 bytes
  Some (Stored (Builtin n.0), n.1)

unfoldable pub stored_at : List ℕ → Read Target
stored_at bytes = do
  hash ← hash_at bytes
  n ← number_at 4294967295 hash.1
  Some (Stored (Def hash.0 n.0), n.1)

unfoldable pub constructor_at : List ℕ → Read Target
constructor_at bytes = do
  hash ← hash_at bytes
  n ← number_at 4294967295 hash.1
  c ← number_at 4294967295 n.1
  Some (Stored (Ctor hash.0 n.0 c.0), c.1)

-- one of so many members
unfoldable pub member_at : ℕ → List ℕ → Read Target
member_at members bytes = do
  n ← number_at 4294967295 bytes
  if nat_lt n.0 members then Some (Own n.0, n.1) else None

unfoldable pub type_target_at : ℕ → List ℕ → Read Target
type_target_at members [] = None
type_target_at members (c ∷ rest) =
    if c == 98 then builtin_at rest
    else (if c == 104 then stored_at rest
    else (if c == 109 then member_at members rest else None))

-- ---- types

unfoldable pub type_variable_at : TypeScope → List ℕ → Read Ty
type_variable_at s bytes = do
  n ← number_at 4294967295 bytes
  if nat_lt n.0 s.variables then Some (variable n.0, n.1) else None

module _ (next : TypeScope → List ℕ → Read Ty) (s : TypeScope) where
  unfoldable pub quantified_at : List ℕ → Read Ty
  quantified_at bytes = do
    t ← next (quantified_scope s) bytes
    Some (quantified t.0, t.1)

  unfoldable pub arrow_at : List ℕ → Read Ty
  arrow_at bytes = do
    a ← next s bytes
    b ← next s a.1
    Some (arrow a.0 b.0, b.1)

  unfoldable pub tuple_type_at : List ℕ → Read Ty
  tuple_type_at bytes = do
    ts ← counted_at (next s) 2 bytes
    Some (tuple (tys_of ts.0), ts.1)

  unfoldable pub applied_at : List ℕ → Read Ty
  applied_at bytes = do
    x ← type_target_at s.members bytes
    ts ← counted_at (next s) 0 x.1
    Some (applied x.0 (tys_of ts.0), ts.1)

  unfoldable pub type_by : List ℕ → Read Ty
  type_by [] = None
  type_by (c ∷ rest) =
      if c == 118 then type_variable_at s rest
      else (if c == 113 then quantified_at rest
      else (if c == 97 then arrow_at rest
      else (if c == 101 then Some (unit, rest)
      else (if c == 112 then tuple_type_at rest
      else (if c == 116 then applied_at rest else None)))))

-- of at most so many levels
abbrev pub type_at : ℕ → TypeScope → List ℕ → Read Ty
type_at zero s bytes = None
type_at (suc depth) s bytes = type_by (type_at depth) s bytes

-- `-`, or `:` and a type of at most so many levels
unfoldable pub signature_at : ℕ → TypeScope → List ℕ → Read (Option Ty)
signature_at depth s [] = None
signature_at depth s (c ∷ rest) =
    if c == 45 then Some (None, rest)
    else (if c == 58 then (type_at depth s rest >>= λ t. Some (Some t.0, t.1)) else None)
