-- Derivations of small components.
use Rattle.std.proofs.Common.{◌≡◌, ℕ, true, false, List, [], ◌∷◌, Some, None, refl, sym, arith}
use Rattle.std.proofs.lemmas.Bool.{false≢true}
use Rattle.uc_kinds.specs.PatternTyping.{Known}
use Rattle.uc_context.specs.declared.entry.Entry.TheVariants.{Exists, Solved, Binder}
use Rattle.uc_context.specs.Counts.{IsSmall}
use Rattle.uc_context.specs.Entries.{ContextEntries}
use Rattle.uc_context.specs.Fresh.{fresh_number, fresh_numbers}
use Rattle.uc_context.specs.Opens.{Open, existential, arrow, bound, quantified}
use Rattle.uc_subtyping.specs.Instantiation.{instance_reached}
use Rattle.uc_subtyping.specs.Subtyping.{subtype_below, subtype_ill, subtypes_done, subtypes_next, subtypes_refused}
use Rattle.uc_typing.specs.Checking.{Checks, checks_small, against_subtype, against_no_subtype, against_type_stops, Synthesizes, synthesizes_small, synthesizes_stop, finds_variable, finds_lambda, finds_application, applies_existential}
use Rattle.uc_typing.specs.Components.{type_found, no_type_found, unsigned_member, unsigned_stop, all_have_types, member_has_type, member_stops, missing, by_members}
use Rattle.uc_typing.specs.Examples.{IdentityIsQuantified, SelfApplicationIsIll, SelfReferenceNeedsSignature}
use Rattle.uc_typing.specs.Scopes.{no_sight, under}
use Rattle.uc_typing.specs.Stops.{leaves, stops, gives, ill_typed}

three_fresh : 0 ∷ 1 ∷ 2 ∷ [] ≡ fresh_numbers 3 []
unfolding fresh_number
three_fresh = refl

-- the context of a lambda whose type is found: its argument, its result, its variable
abbrev lambda_context : ContextEntries
lambda_context = Exists 0 ∷ Exists 1 ∷ Binder 2 (existential 0) ∷ []

two_fresh : 3 ∷ 4 ∷ [] ≡ fresh_numbers 2 lambda_context
unfolding fresh_number
two_fresh = refl

small_existential : (x : ℕ) → IsSmall (existential x)
small_existential x = record { nodes = omega arith; levels = omega arith }

small_arrow : (x y : ℕ) → IsSmall (arrow (existential x) (existential y))
small_arrow x y = record { nodes = omega arith; levels = omega arith }

small_quantified : IsSmall (quantified (arrow (bound 0) (bound 0)))
small_quantified = record { nodes = omega arith; levels = omega arith }

pub identity : IdentityIsQuantified
identity known =
    by_members refl
    (member_has_type (unsigned_member (type_found
    (synthesizes_small
    (finds_lambda {argument = 0} {result = 1} {n = 2} {o = leaves (Exists 0 ∷ Solved 1 (existential 0) ∷ Binder 2 (existential 0) ∷ [])} {p = gives (arrow (existential 0) (existential 1)) (Exists 0 ∷ Solved 1 (existential 0) ∷ [])} three_fresh
    (checks_small (small_existential 1)
    (against_subtype refl refl (synthesizes_small (finds_variable refl refl) (small_existential 0) refl)
    (subtypes_next (small_existential 0, small_existential 1) (subtype_below refl refl (instance_reached refl refl refl refl)) subtypes_done))) refl)
    (small_arrow 0 0) refl)
    refl small_quantified)) refl all_have_types)

-- the context once the variable of the lambda is applied
abbrev applied_context : ContextEntries
applied_context = Exists 4 ∷ Exists 3 ∷ Solved 0 (arrow (existential 3) (existential 4)) ∷ Exists 1 ∷ Binder 2 (existential 0) ∷ []

pub self_application : SelfApplicationIsIll
self_application known =
    by_members refl
    (member_stops {stop = ill_typed 4} (unsigned_stop (no_type_found (synthesizes_stop
    (finds_lambda {argument = 0} {result = 1} {n = 2} {o = stops (ill_typed 4)} three_fresh
    (checks_small (small_existential 1)
    (against_type_stops refl refl
    (synthesizes_stop
    (finds_application (synthesizes_small (finds_variable refl refl) (small_existential 0) refl)
    (applies_existential {argument = 3} {result = 4} {o = stops (ill_typed 4)} refl two_fresh
    (checks_small (small_existential 3)
    (against_no_subtype refl refl (synthesizes_small (finds_variable refl refl) (small_arrow 3 4) refl)
    (subtypes_refused (small_arrow 3 4, small_existential 3) (subtype_ill refl refl (λ apart. false≢true (sym apart)))) refl)) refl))))) refl)))) refl)

pub self_reference : SelfReferenceNeedsSignature
self_reference known = missing refl refl
