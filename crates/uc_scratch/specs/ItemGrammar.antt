-- The grammar of the items of a file, and the items among the tokens of a text.
use Rattle.std.specs.Prelude.{◌≡◌, ℕ, zero, ◌+◌, ◌-◌, Bool, true, false, ◌&&◌, List, [], ◌∷◌, nat_le, length, if◌then◌else◌}
use Rattle.uc_base.specs.declared.place.Place.{Place}
use Rattle.uc_layout.specs.declared.token.Kind.{Kind}
use Rattle.uc_layout.specs.declared.token.Kind.TheVariants as kind
use Rattle.uc_layout.specs.Tokens.{Seen}
use Rattle.uc_scratch.specs.declared.written.Written.{Written}
use Rattle.uc_scratch.specs.declared.written.Param.{Param}
use Rattle.uc_scratch.specs.declared.written.Head.{Head}
use Rattle.uc_scratch.specs.declared.file.DeclarationSort.{DeclarationSort}
use Rattle.uc_scratch.specs.declared.file.DeclarationSort.TheVariants as sort
use Rattle.uc_scratch.specs.declared.terminal.Terminal.{Terminal}
use Rattle.uc_scratch.specs.declared.terminal.Terminal.TheVariants.{Greater, LeftSquare, RightSquare, Equals, Colon, Bar, Use, TypeWord, Structural, Unique, Item as ItemMark}
use Rattle.uc_scratch.specs.TypeExprs.{TypeExpr, TypeAtoms}
use Rattle.uc_scratch.specs.Exprs.{Expr, done, Block}
use Rattle.uc_scratch.specs.Files.{Constructor, Item, using, declaration, signature, prefix, infix_operator, watch}
use Rattle.uc_scratch.specs.Terminals.{last_of, terminals_of, IsWord, IsPath, IsOperator, IsParam}
use Rattle.uc_base.specs.Name.{segments_of}
use Rattle.uc_scratch.specs.TypeGrammar.{ReadsVariables, ReadsTypeAtoms, ReadsType}
use Rattle.uc_scratch.specs.ExprGrammar.{ReadsParams, ReadsUsed, ReadsHead, ReadsBound, ReadsExpr, ReadsBlock}

-- ['structural' | 'unique' ['[' path ']']] 'type'
pub data ReadsSort : List Terminal → DeclarationSort → List Terminal → Type 0 where
  plain_sort : {p : Place} {ts : List Terminal} → ReadsSort (TypeWord p ∷ ts) (sort.Plain p) ts
  structural_sort : {p q : Place} {ts : List Terminal} → ReadsSort (Structural p ∷ TypeWord q ∷ ts) (sort.Structural p) ts
  unique_sort : {p q : Place} {ts : List Terminal} → ReadsSort (Unique p ∷ TypeWord q ∷ ts) (sort.Unique p) ts
  tagged_sort : {p q r : Place} {t : Terminal} {w : Written} {ts : List Terminal}
      → IsPath t w → ReadsSort (Unique p ∷ LeftSquare q ∷ t ∷ RightSquare ∷ TypeWord r ∷ ts) (sort.Tagged p w) ts

-- ctor = word tatom*
pub data ReadsConstructor : List Terminal → Constructor → List Terminal → Type 0 where
  constructor_fields : {t : Terminal} {w : Written} {bs : TypeAtoms} {ts us : List Terminal}
      → IsWord t w → ReadsTypeAtoms ts bs us → ReadsConstructor (t ∷ ts) (record { name = w; fields = bs }) us

-- ctor ('|' ctor)* up to the end
pub data ReadsConstructors : List Terminal → List Constructor → Type 0 where
  last_constructor : {c : Constructor} {ts : List Terminal} → ReadsConstructor ts c [] → ReadsConstructors ts (c ∷ [])
  more_constructors : {c : Constructor} {cs : List Constructor} {ts us : List Terminal}
      → ReadsConstructor ts c (Bar ∷ us) → ReadsConstructors us cs → ReadsConstructors ts (c ∷ cs)

-- whether a text begins with `A` to `Z`
abbrev pub begins_capital : List ℕ → Bool
begins_capital [] = false
begins_capital (c ∷ cs) = nat_le 65 c && nat_le c 90

-- whether the last segment of a declared type's name begins with a capital letter
abbrev pub is_type_name : List ℕ → Bool
is_type_name text = begins_capital (last_of (segments_of text))

-- whether the whole names of constructors, the type's name and theirs with a dot between, have at most 128 bytes
abbrev pub names_fit : Written → List Constructor → Bool
names_fit w [] = true
names_fit w (c ∷ cs) = nat_le (length w.text + 1 + length c.name.text) 128 && names_fit w cs

-- item = use | declaration | signature | binding | watch, up to the end
pub data ReadsItem : List Terminal → Item → Type 0 where
  use_file_item : {p q : Place} {t : Terminal} {w : Written} {ws : List Written} {ts : List Terminal}
      → IsPath t w → ReadsUsed ts ws [] → ReadsItem (ItemMark p ∷ Use q ∷ t ∷ ts) (using q w ws)
  declaration_file_item : {p : Place} {s : DeclarationSort} {t : Terminal} {w : Written} {ps : List Written} {cs : List Constructor} {ts us vs : List Terminal}
      → ReadsSort ts s (t ∷ us) → IsPath t w → is_type_name w.text ≡ true → ReadsVariables us ps (Equals ∷ vs) → ReadsConstructors vs cs
      → names_fit w cs ≡ true → ReadsItem (ItemMark p ∷ ts) (declaration s w ps cs)
  signature_file_item : {p : Place} {h : Head} {t : TypeExpr} {ts us : List Terminal}
      → ReadsHead ts h (Colon ∷ us) → ReadsType us t [] → ReadsItem (ItemMark p ∷ ts) (signature h t)
  prefix_file_item : {p : Place} {h : Head} {ps : List Param} {b : Block} {ts us vs : List Terminal}
      → ReadsBound ts h us → ReadsParams us ps (Equals ∷ vs) → ReadsBlock vs b [] → ReadsItem (ItemMark p ∷ ts) (prefix h ps b)
  infix_file_item : {p : Place} {t u v : Terminal} {x y : Param} {w : Written} {b : Block} {ts : List Terminal}
      → IsParam t x → IsOperator u w → IsParam v y → ReadsBlock ts b []
      → ReadsItem (ItemMark p ∷ t ∷ u ∷ v ∷ Equals ∷ ts) (infix_operator x w y b)
  watch_file_item : {p : Place} {w : Written} {e : Expr} {ts : List Terminal}
      → ReadsExpr ts e [] done → ReadsItem (ItemMark p ∷ Greater w ∷ ts) (watch w.place e)

-- how many blocks are open behind a token
abbrev pub blocks_behind : ℕ → Kind → ℕ
blocks_behind n kind.Opens = n + 1
blocks_behind n kind.Closes = n - 1
blocks_behind n _ = n

-- whether this is the mark of an item of the file: one in no block
abbrev pub is_file_item : ℕ → Kind → Bool
is_file_item zero kind.Item = true
is_file_item _ _ = false

-- whether an item of the file begins, where so many blocks are open
abbrev pub begins_item : ℕ → List Seen → Bool
begins_item n [] = false
begins_item n (t ∷ ts) = is_file_item n t.kind

-- a token before the first of some lists
abbrev pub with_token : Seen → List (List Seen) → List (List Seen)
with_token t [] = (t ∷ []) ∷ []
with_token t (ts ∷ tss) = (t ∷ ts) ∷ tss

-- the tokens, cut before each item of the file, where so many blocks are open
abbrev pub cut_from : ℕ → List Seen → List (List Seen)
cut_from n [] = []
cut_from n (t ∷ ts) =
    let m = blocks_behind n t.kind in
    if begins_item m ts then (t ∷ []) ∷ cut_from m ts else with_token t (cut_from m ts)

-- the items of a text, each with its mark
abbrev pub items_among : List Seen → List (List Seen)
items_among ts = cut_from 0 ts
