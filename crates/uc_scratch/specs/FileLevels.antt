-- The levels of the items of a file.
use Rattle.std.specs.Prelude.{ℕ, ◌+◌, ◌≤◌, max, List, [], ◌∷◌, Option, Some, None, length}
use Rattle.uc_scratch.specs.declared.written.Written.{Written}
use Rattle.uc_scratch.specs.TypeExprs.{TypeAtoms, no_atom, more_atoms}
use Rattle.uc_scratch.specs.Files.{Constructor, Item, using, declaration, signature, prefix, infix_operator, watch}
use Rattle.uc_scratch.specs.ExprGrammar.{head_name}
use Rattle.uc_scratch.specs.TypeLevels.{type_atom_levels, signature_levels}
use Rattle.uc_scratch.specs.ExprLevels.{no_parts, Signed, signed_by, body_scope, expr_levels, block_levels}

-- the levels of the declared type at its parameters
abbrev pub result_levels : List Written → ℕ
result_levels [] = 1
result_levels (w ∷ ws) = 2

-- the levels of arrows from fields to a result that has so many
abbrev pub fields_levels : ℕ → TypeAtoms → ℕ
fields_levels n no_atom = n
fields_levels n (more_atoms a bs) = max (type_atom_levels a) (fields_levels n bs) + 1

-- the levels of the types of constructors: quantifiers over the parameters, and arrows from the fields
abbrev pub constructors_levels : List Written → List Constructor → ℕ
constructors_levels ws [] = 0
constructors_levels ws (c ∷ cs) = max (length ws + fields_levels (result_levels ws) c.fields) (constructors_levels ws cs)

-- the levels of the trees of an item behind a signature or none
abbrev pub item_levels : Option Signed → Item → ℕ
item_levels signed (using p w ws) = 0
item_levels signed (declaration s w ws cs) = constructors_levels ws cs
item_levels signed (signature h t) = signature_levels [] t
item_levels signed (prefix h ps b) = length ps + block_levels (body_scope [] signed (head_name h)) None b
item_levels signed (infix_operator x w y b) = 2 + block_levels (body_scope [] signed w) None b
item_levels signed (watch p e) = expr_levels [] e no_parts []

-- what an item gives to a binding that follows it
abbrev pub signed_behind : Item → Option Signed
signed_behind (signature h t) = signed_by [] h t
signed_behind _ = None

-- items, behind a signature or none, whose trees have at most 512 levels
pub data AreShallow : Option Signed → List Item → Type 0 where
  no_items : {signed : Option Signed} → AreShallow signed []
  more_items : {signed : Option Signed} {i : Item} {is : List Item}
      → item_levels signed i ≤ 512 → AreShallow (signed_behind i) is → AreShallow signed (i ∷ is)
