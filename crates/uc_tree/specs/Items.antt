-- How the logic stores definitions and items.
use Rattle.std.specs.Coded.{Coded}
use Rattle.uc_tree.specs.declared.definition.Definition.{Definition}
use Rattle.uc_tree.specs.declared.item.Item.{Item}
use Rattle.uc_tree.specs.contracts.definition.Definition as definition
use Rattle.uc_tree.specs.contracts.item.Item as item

abbrev pub coded_definition : Coded Definition
coded_definition = definition.the_row.coded

abbrev pub coded_item : Coded Item
coded_item = item.the_row.coded
