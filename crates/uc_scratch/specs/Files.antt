-- Written files as plain lists of items.
use Rattle.std.specs.Prelude.{List}
use Rattle.uc_base.specs.declared.place.Place.{Place}
use Rattle.uc_scratch.specs.declared.written.Written.{Written}
use Rattle.uc_scratch.specs.declared.written.Param.{Param}
use Rattle.uc_scratch.specs.declared.written.Head.{Head}
use Rattle.uc_scratch.specs.declared.file.DeclarationSort.{DeclarationSort}
use Rattle.uc_scratch.specs.TypeExprs.{TypeExpr, TypeAtoms}
use Rattle.uc_scratch.specs.Exprs.{Expr, Block}

-- a constructor and the types of its fields
pub record Constructor : Type 0 where
  pub name : Written
  pub fields : TypeAtoms

-- an item: a `use`, a declaration, a signature, a binding of a name or of an operator between two parameters, or a watch
pub data Item : Type 0 where
  using : Place → Written → List Written → Item
  declaration : DeclarationSort → Written → List Written → List Constructor → Item
  signature : Head → TypeExpr → Item
  prefix : Head → List Param → Block → Item
  infix_operator : Param → Written → Param → Block → Item
  watch : Place → Expr → Item
