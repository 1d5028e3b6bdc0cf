-- The items that a file stands for.
use Rattle.std.specs.Prelude.{List, map}
use Rattle.uc_scratch.specs.Exprs.{Block}
use Rattle.uc_scratch.specs.TypeViews.{type_atoms}
use Rattle.uc_scratch.specs.Files as plain
use Rattle.uc_scratch.specs.declared.block.BindingFront.{BindingFront}
use Rattle.uc_scratch.specs.declared.block.BindingFront.TheVariants as front
use Rattle.uc_scratch.specs.declared.file.Constructor.{Constructor}
use Rattle.uc_scratch.specs.declared.file.Declaration.{Declaration}
use Rattle.uc_scratch.specs.declared.file.Item.{Item}
use Rattle.uc_scratch.specs.declared.file.Item.TheVariants as item

abbrev pub constructor_of : Constructor → plain.Constructor
constructor_of c = record { name = c.name; fields = type_atoms c.fields.items }

abbrev pub constructors_of : List Constructor → List plain.Constructor
constructors_of cs = map constructor_of cs

abbrev pub declaration_of : Declaration → plain.Item
declaration_of d = plain.declaration d.sort d.name d.params.items (constructors_of d.constructors.items)

abbrev pub binding_of : BindingFront → Block → plain.Item
binding_of (front.Prefix h ps) b = plain.prefix h ps.items b
binding_of (front.Infix p w q) b = plain.infix_operator p w q b

abbrev pub item_of : Item → plain.Item
item_of (item.Use u) = plain.using u.place u.path u.names.items
item_of (item.Declaration d) = declaration_of d
item_of (item.Signature s) = plain.signature s.head s.of
item_of (item.Binding d) = binding_of d.front d.body
item_of (item.Watch w) = plain.watch w.place w.of

abbrev pub items_of : List Item → List plain.Item
items_of is = map item_of is
