-- Ordinary code of a given size, and what is known where it is checked.
use Rattle.std.specs.Prelude.{◌≡◌, ℕ, zero, suc, ◌+◌, ◌-◌, ◌≤◌, ◌<◌, ◌^◌, ◌==◌, if◌then◌else◌, List, [], ◌∷◌, ◌++◌, Option, Some, None, length}
use Rattle.uc_base.specs.declared.reference.Ref.{Ref}
use Rattle.uc_base.specs.declared.reference.Ref.TheVariants.{Def, Ctor, Builtin}
use Rattle.uc_kinds.specs.PatternTyping.{Known}
use Rattle.uc_kinds.specs.WellFormed.{Arity}
use Rattle.uc_sound_typing.specs.Formed.{IsFormed}
use Rattle.uc_tree.specs.declared.literal.Literal.TheVariants as literals
use Rattle.uc_tree.specs.declared.target.Target.TheVariants.{Stored, Own, OwnCtor}
use Rattle.uc_tree.specs.declared.term.Case.{Case}
use Rattle.uc_tree.specs.Nodes.{term_nodes}
use Rattle.uc_tree.specs.Patterns as patterns
use Rattle.uc_tree.specs.Terms.{Term}
use Rattle.uc_tree.specs.Terms as terms
use Rattle.uc_tree.specs.TermViews.{cases_of}
use Rattle.uc_tree.specs.Types.{Ty}
use Rattle.uc_tree.specs.Types as types

-- the builtin types: the list takes one argument, and the others none
abbrev pub builtin_arity : Arity
builtin_arity (Stored (Builtin n)) = Some (if n == 5 then 1 else 0)
builtin_arity (Stored (Def h k)) = None
builtin_arity (Stored (Ctor h k c)) = None
builtin_arity (Own k) = None
builtin_arity (OwnCtor k c) = None

-- `Nat`
abbrev pub nat_type : Ty
nat_type = types.applied (Stored (Builtin 0)) types.none

-- `Nat -> Nat -> Nat`
abbrev pub addition_type : Ty
addition_type = types.arrow nat_type (types.arrow nat_type nat_type)

-- the type of `+`; nothing else has one
abbrev pub builtin_type : Ref → Option Ty
builtin_type (Builtin n) = if n == 16 then Some addition_type else None
builtin_type (Def h k) = None
builtin_type (Ctor h k c) = None

-- what is known with one definition that has no signature
abbrev pub alone : Known
alone = record { arity = builtin_arity; type_of = builtin_type; signatures = None ∷ [] }

-- a term that stands alone: it is formed, and its nodes can be counted
pub record CanBeChecked (e : Term) : Type 0 where
  pub formed : IsFormed alone 0 0 e
  pub small : length (term_nodes e) + 1 < 2 ^ 32

-- `1`
abbrev pub one : Term
one = terms.literal (literals.Nat 1)

-- `a + b`, two applications
abbrev pub addition : Term → Term → Term
addition a b = terms.apply (terms.apply (terms.link (Stored (Builtin 16))) a) b

-- the sum of so many ones: two halves that differ by one at most
pub data IsSum : ℕ → Term → Type 0 where
  of_one : IsSum 1 one
  of_halves : {k : ℕ} {a b : Term} (m n : ℕ) → IsSum m a → IsSum n b → m ≤ n → n ≤ m + 1 → k ≡ m + n → IsSum k (addition a b)

-- so many bindings, each one more than the variable before it, and the last variable
abbrev pub bindings_behind : ℕ → Term
bindings_behind zero = terms.variable 0
bindings_behind (suc n) = terms.binding None (addition (terms.variable 1) one) (bindings_behind n)

-- a chain of so many bindings
abbrev pub chain : ℕ → Term
chain n = terms.binding None one (bindings_behind (n - 1))

-- the case of a number
abbrev pub case_of : ℕ → Case
case_of n = record { pattern = patterns.literal (literals.Nat n); guard = None; body = one }

-- the cases of the numbers below one, in order
abbrev pub cases_below : ℕ → List Case
cases_below zero = []
cases_below (suc n) = cases_below n ++ case_of n ∷ []

-- the case of all else
abbrev pub other_case : Case
other_case = record { pattern = patterns.any; guard = None; body = one }

-- a match with so many cases and that of all else
abbrev pub number_match : ℕ → Term
number_match n = terms.match one (cases_of (cases_below n ++ other_case ∷ []))
