-- The first fault of definitions and declarations.
use Rattle.std.specs.Prelude.{ℕ, ◌+◌, List, [], ◌∷◌, slice_get, Option, Some, None}
use Rattle.std.specs.Option.{option_map, option_or}
use Rattle.uc_base.specs.declared.fault.Fault.{Fault}
use Rattle.uc_base.specs.declared.fault.Fault.TheVariants.{BadArity, Impredicative}
use Rattle.uc_base.specs.declared.place.At.{At}
use Rattle.uc_base.specs.declared.place.At.TheVariants.{Spot}
use Rattle.uc_tree.specs.declared.target.Target.TheVariants.{Stored, Own, OwnCtor}
use Rattle.uc_tree.specs.declared.definition.Definition.{Definition}
use Rattle.uc_tree.specs.declared.item.Item.{Item}
use Rattle.uc_tree.specs.declared.item.Item.TheVariants as item
use Rattle.uc_tree.specs.Declarations.{Decl}
use Rattle.uc_kinds.specs.declared.flaw.Flaw.{Flaw}
use Rattle.uc_kinds.specs.declared.flaw.Flaw.TheVariants.{WrongArity, InnerQuantifier}
use Rattle.uc_kinds.specs.declared.flaw.Flawed.{Flawed}
use Rattle.uc_kinds.specs.Flaws.{item_flaws}
use Rattle.uc_kinds.specs.WellFormed.{Arity}

-- the first flaw that there is, with the number of its node, where the first node has this number
abbrev pub first_flaw : ℕ → List (Option Flaw) → Option Flawed
first_flaw number [] = None
first_flaw number (None ∷ flaws) = first_flaw (number + 1) flaws
first_flaw number (Some flaw ∷ flaws) = Some (record { flaw = flaw; node = number })

-- the fault that names a flaw
abbrev pub flaw_fault : Flaw → At → Fault
flaw_fault WrongArity at = BadArity at
flaw_fault InnerQuantifier at = Impredicative at

-- the fault of a flaw in a member
abbrev pub fault_in : ℕ → Flawed → Fault
fault_in member flawed = flaw_fault flawed.flaw (Spot (record { member = member; node = flawed.node }))

-- the first fault of a member; nodes count from 1
abbrev pub item_fault : Arity → ℕ → Item → Option Fault
item_fault arity member i = option_map (fault_in member) (first_flaw 1 (item_flaws arity i))

-- the fault of a definition, which counts as member 0
abbrev pub definition_fault : Arity → Definition → Option Fault
definition_fault arity d = item_fault arity 0 (item.Term d)

-- the first fault of declarations, of which the first counts as this member
abbrev pub decls_fault_from : Arity → ℕ → List Decl → Option Fault
decls_fault_from arity member [] = None
decls_fault_from arity member (d ∷ decls) = option_or (item_fault arity member (item.Kind d)) (decls_fault_from arity (member + 1) decls)

-- the arities where the k-th of some declarations stands for its own parameters, and all else is known
abbrev pub arity_among : List Decl → Arity → Arity
arity_among decls known (Stored r) = known (Stored r)
arity_among decls known (Own member) = option_map (λ d. d.params) (slice_get decls member)
arity_among decls known (OwnCtor member ctor) = known (OwnCtor member ctor)

-- the first fault of declarations that may name one another
abbrev pub decls_fault : Arity → List Decl → Option Fault
decls_fault known decls = decls_fault_from (arity_among decls known) 0 decls
