-- What stands in scope of a part of a tree.
use Rattle.std.specs.Prelude.{ℕ, ◌+◌, min, Option}
use Rattle.uc_tree.specs.Types.{Ty}
use Rattle.uc_tree.specs.Bound.{signature_quantifiers}
use Rattle.uc_canon.specs.declared.scope.TypeScope.{TypeScope}
use Rattle.uc_canon.specs.declared.scope.TermScope.{TermScope}

-- so many more variables, up to the last u64
abbrev pub with_more : ℕ → ℕ → ℕ
with_more count variables = min (variables + count) 18446744073709551615

-- under a quantifier
abbrev pub quantified_scope : TypeScope → TypeScope
quantified_scope s = record s { variables = with_more 1 s.variables }

-- of the types of a term, which name no member
abbrev pub types_scope : TermScope → TypeScope
types_scope s = record { members = 0; variables = s.type_variables }

-- under so many variables
abbrev pub binders_scope : ℕ → TermScope → TermScope
binders_scope count s = record s { variables = with_more count s.variables }

-- under the quantifiers of a signature
abbrev pub signature_scope : Option Ty → TermScope → TermScope
signature_scope t s = record s { type_variables = with_more (signature_quantifiers t) s.type_variables }

-- of a definition among so many
abbrev pub top_scope : ℕ → TermScope
top_scope count = record { members = count; type_variables = 0; variables = 0 }
