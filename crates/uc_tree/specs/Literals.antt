-- How the logic stores a literal.
use Rattle.std.specs.Coded.{Coded}
use Rattle.uc_tree.specs.declared.literal.Literal.{Literal}
use Rattle.uc_tree.specs.contracts.literal.Literal as row

abbrev pub coded_literal : Coded Literal
coded_literal = row.the_row.coded
