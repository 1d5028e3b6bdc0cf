-- What holds of flaws, faults and well-formed types.
use Rattle.std.specs.Prelude.{◌≡◌, ◌↔◌, List, length, None}
use Rattle.uc_tree.specs.declared.definition.Definition.{Definition}
use Rattle.uc_tree.specs.declared.item.Item.{Item}
use Rattle.uc_tree.specs.Declarations.{Decl}
use Rattle.uc_tree.specs.Types.{Ty}
use Rattle.uc_tree.specs.Nodes.{nodes_of}
use Rattle.uc_kinds.specs.declared.position.Position.{Position}
use Rattle.uc_kinds.specs.declared.position.Position.TheVariants.{Outside, Inside}
use Rattle.uc_kinds.specs.Faults.{definition_fault, decls_fault, arity_among}
use Rattle.uc_kinds.specs.Flaws.{IsFlawless, ty_flaws, item_flaws}
use Rattle.uc_kinds.specs.Monotypes.{IsMonotype}
use Rattle.uc_kinds.specs.WellFormed.{Arity, IsWellFormedAt, IsWellFormedItem, IsWellFormedDefinition, AreWellFormedDecls}

-- a type has no flaw exactly where it is well-formed
abbrev pub TypesAreFlawless : Type 0
TypesAreFlawless = (arity : Arity) (at : Position) (t : Ty) → (IsWellFormedAt arity at t) ↔ (IsFlawless (ty_flaws arity at t))

-- an item has no flaw exactly where it is well-formed
abbrev pub ItemsAreFlawless : Type 0
ItemsAreFlawless = (arity : Arity) (i : Item) → (IsWellFormedItem arity i) ↔ (IsFlawless (item_flaws arity i))

-- a definition has no fault exactly where it is well-formed
abbrev pub DefinitionsAreFaultless : Type 0
DefinitionsAreFaultless = (arity : Arity) (d : Definition) → (IsWellFormedDefinition arity d) ↔ (definition_fault arity d ≡ None)

-- declarations have no fault exactly where each is well-formed
abbrev pub DeclsAreFaultless : Type 0
DeclsAreFaultless = (known : Arity) (decls : List Decl) → (AreWellFormedDecls (arity_among decls known) decls) ↔ (decls_fault known decls ≡ None)

-- each node of an item has one entry among its flaws
abbrev pub FlawsAreAsNodes : Type 0
FlawsAreAsNodes = (arity : Arity) (i : Item) → length (item_flaws arity i) ≡ length (nodes_of i)

-- inside an argument a type is well-formed exactly where it is so outside and a monotype
abbrev pub InsideAreMonotypes : Type 0
InsideAreMonotypes = (arity : Arity) (t : Ty) → (IsWellFormedAt arity Inside t) ↔ (IsWellFormedAt arity Outside t × IsMonotype t)
