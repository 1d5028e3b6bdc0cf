-- Laws of replacing.
use Rattle.std.specs.Prelude.{◌≡◌, ◌≢◌, ◌↔◌, ℕ, ◌<◌, List, length, map, All, AllPairs, Contains, Some, IsSome}
use Rattle.uc_base.specs.declared.reference.Ref.{Ref}
use Rattle.uc_base.specs.declared.reference.Ref.TheVariants.{Def, Ctor, Builtin}
use Rattle.uc_tree.specs.declared.target.Target.{Target}
use Rattle.uc_tree.specs.declared.target.Target.TheVariants.{Stored, Own, OwnCtor}
use Rattle.uc_tree.specs.declared.item.Item.{Item}
use Rattle.uc_tree.specs.Bound.{IsBound}
use Rattle.uc_tree.specs.Counts.{levels_of}
use Rattle.uc_tree.specs.Nodes.{nodes_of}
use Rattle.uc_tree.specs.Replacing.{◌>>=◌, Replacement, by_members, by_references, target_under, constructor_under, replaced}
use Rattle.uc_tree.specs.Targets.{targets_of, home_of}

-- a fact that holds of each target that stands in an item
abbrev pub AtEachTarget : (Target → Type 0) → Item → Type 0
AtEachTarget P i = (x : Target) → Contains (targets_of i) x → P x

-- a target stands for itself
pub record StandsForItself (m : Replacement) (x : Target) : Type 0 where
  pub in_tree : target_under m x ≡ Some x
  pub in_pattern : constructor_under m x ≡ Some x

-- something stands for a target
pub record HasStanding (m : Replacement) (x : Target) : Type 0 where
  pub in_tree : IsSome (target_under m x)
  pub in_pattern : IsSome (constructor_under m x)

-- what stands for a target under o is what the replacements m and n give one after the other
pub record IsInTurn (m n o : Replacement) (x : Target) : Type 0 where
  pub in_tree : (y z : Target) → target_under m x ≡ Some y → target_under n y ≡ Some z → target_under o x ≡ Some z
  pub in_pattern : (y z : Target) → constructor_under m x ≡ Some y → constructor_under n y ≡ Some z → constructor_under o x ≡ Some z

-- where each target that stands in an item stands for itself, the item stays
abbrev pub ItemStays : Type 0
ItemStays = (m : Replacement) (i : Item) → AtEachTarget (StandsForItself m) i → replaced m i ≡ Some i

-- where something stands for each target that stands in an item, there is a replaced item
abbrev pub ItemIsReplaced : Type 0
ItemIsReplaced = (m : Replacement) (i : Item) → AtEachTarget (HasStanding m) i → IsSome (replaced m i)

-- two replacements one after the other are one replacement
abbrev pub InTurn : Type 0
InTurn = (m n o : Replacement) (i j k : Item) → replaced m i ≡ Some j → replaced n j ≡ Some k → AtEachTarget (IsInTurn m n o) i → replaced o i ≡ Some k

-- the targets of a replaced item are those of the item, each replaced, in the same order
abbrev pub TargetsAreReplaced : Type 0
TargetsAreReplaced = (m : Replacement) (i j : Item) → replaced m i ≡ Some j → map (target_under m) (targets_of i) ≡ map (λ y. Some y) (targets_of j)

-- a replaced item has the levels of the item
abbrev pub LevelsStay : Type 0
LevelsStay = (m : Replacement) (i j : Item) → replaced m i ≡ Some j → levels_of j ≡ levels_of i

-- a replaced item has as many nodes as the item
abbrev pub NodeCountStays : Type 0
NodeCountStays = (m : Replacement) (i j : Item) → replaced m i ≡ Some j → length (nodes_of j) ≡ length (nodes_of i)

-- the variables of a replaced item are bound exactly where those of the item are
abbrev pub BoundStays : Type 0
BoundStays = (m : Replacement) (i j : Item) → replaced m i ≡ Some j → (IsBound j ↔ IsBound i)

-- references as targets
abbrev pub stored_targets : List Ref → List Target
stored_targets refs = map (λ r. Stored r) refs

-- a reference is to a definition or a declaration
abbrev pub IsDef : Ref → Type 0
IsDef (Def hash member) = Unit {0}
IsDef (Ctor hash member ctor) = ⊥
IsDef (Builtin number) = ⊥

-- a target is no own one, or is that of a member below a number or of a constructor of one
abbrev pub IsOwnBelow : ℕ → Target → Type 0
IsOwnBelow n (Stored r) = Unit {0}
IsOwnBelow n (Own member) = member < n
IsOwnBelow n (OwnCtor member ctor) = member < n

-- references may stand for the members of an item's component: they differ from each other and from what the item refers to
pub record FitsMembers (refs : List Ref) (i : Item) : Type 0 where
  pub defs : All IsDef refs
  pub distinct : AllPairs (λ r s. r ≢ s) refs
  pub foreign : AtEachTarget (λ x. ¬ Contains (stored_targets refs) (home_of x)) i
  pub within : AtEachTarget (IsOwnBelow (length refs)) i

-- an item whose members were replaced by their references and whose references then by the members is the item again
abbrev pub ClosesAgain : Type 0
ClosesAgain = (refs : List Ref) (i : Item) → FitsMembers refs i → (replaced (by_members (stored_targets refs)) i >>= replaced (by_references refs)) ≡ Some i

-- an item without own targets, whose references were replaced by members and whose members then by the references, is the item again
abbrev pub OpensAgain : Type 0
OpensAgain = (refs : List Ref) (i : Item) → AtEachTarget (IsOwnBelow 0) i → (replaced (by_references refs) i >>= replaced (by_members (stored_targets refs))) ≡ Some i
