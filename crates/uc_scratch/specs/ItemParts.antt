-- What a reader finds in an item of a file.
use Rattle.std.specs.Prelude.{◌≡◌, true, List, ◌∷◌}
use Rattle.uc_base.specs.declared.place.Place.{Place}
use Rattle.uc_scratch.specs.declared.written.Written.{Written}
use Rattle.uc_scratch.specs.declared.file.DeclarationSort.{DeclarationSort}
use Rattle.uc_scratch.specs.declared.terminal.Terminal.{Terminal}
use Rattle.uc_scratch.specs.declared.terminal.Terminal.TheVariants.{LeftSquare, RightSquare, Equals, TypeWord, Item as ItemMark}
use Rattle.uc_scratch.specs.Files.{Constructor, Item, declaration}
use Rattle.uc_scratch.specs.Terminals.{IsPath}
use Rattle.uc_scratch.specs.TypeGrammar.{ReadsVariables}
use Rattle.uc_scratch.specs.ItemGrammar.{ReadsSort, ReadsConstructors, is_type_name, names_fit, ReadsItem}

-- these tokens are an item behind its mark
abbrev pub IsBehindMark : List Terminal → Item → Type 0
IsBehindMark ts i = (p : Place) → ReadsItem (ItemMark p ∷ ts) i

-- they are none
abbrev pub NoItem : List Terminal → Type 0
NoItem ts = (p : Place) (i : Item) → ReadsItem (ItemMark p ∷ ts) i → ⊥

-- a path in square brackets
pub data IsInSquare : List Terminal → Written → List Terminal → Type 0 where
  path_in_square : {p : Place} {t : Terminal} {w : Written} {ts : List Terminal}
      → IsPath t w → IsInSquare (LeftSquare p ∷ t ∷ RightSquare ∷ ts) w ts

-- a path in square brackets and `type`
pub data IsTag : List Terminal → Written → List Terminal → Type 0 where
  tag_front : {p : Place} {w : Written} {ts us : List Terminal} → IsInSquare ts w (TypeWord p ∷ us) → IsTag ts w us

-- the name of a declared type
pub data IsTypeName : List Terminal → Written → List Terminal → Type 0 where
  type_name : {t : Terminal} {w : Written} {ts : List Terminal} → IsPath t w → is_type_name w.text ≡ true → IsTypeName (t ∷ ts) w ts

-- a declaration up to its `=`
pub data IsDeclared : List Terminal → DeclarationSort → Written → List Written → List Terminal → Type 0 where
  declared : {s : DeclarationSort} {w : Written} {ws : List Written} {ts us vs xs : List Terminal}
      → ReadsSort ts s us → IsTypeName us w vs → ReadsVariables vs ws (Equals ∷ xs) → IsDeclared ts s w ws xs

-- a whole declaration
pub data IsDeclaration : List Terminal → Item → Type 0 where
  whole_declaration : {s : DeclarationSort} {w : Written} {ws : List Written} {cs : List Constructor} {ts us : List Terminal}
      → IsDeclared ts s w ws us → ReadsConstructors us cs → names_fit w cs ≡ true → IsDeclaration ts (declaration s w ws cs)
