-- The marks of a text are determined.
use Rattle.std.proofs.Common.{◌≡◌, List, [], ◌∷◌, refl, subst, sym}
use Rattle.uc_layout.specs.declared.piece.Piece.{Piece}
use Rattle.uc_layout.specs.declared.piece.Mark.{Mark}
use Rattle.uc_layout.specs.declared.piece.Mark.TheVariants.{Opens, Closes, Item, Token}
use Rattle.uc_layout.specs.declared.piece.Region.{Region}
use Rattle.uc_layout.specs.Layout.{Move, move, Runs, at_end, at_item, at_word, at_bracket, at_open_bracket, at_hollow, at_block, PiecesAreUnique, tokens_of, PiecesAreKept}

abbrev One : List Piece → List Piece → List Mark → List Mark → List Mark → List Mark → Type 0
One end end' tail tail' ms ms' = (end ≡ end') × (tail ≡ tail' → ms ≡ ms')

token_same : (t t' : Piece) (x y : List Mark) → t ≡ t' → x ≡ y → Token t ∷ x ≡ Token t' ∷ y
token_same t t' x y p q = cc

head_same : (t u : Piece) (ts us : List Piece) → t ∷ ts ≡ u ∷ us → t ≡ u
head_same t u ts us p = cc

tail_same : (t u : Piece) (ts us : List Piece) → t ∷ ts ≡ u ∷ us → ts ≡ us
tail_same t u ts us p = cc

apart : (t : Piece) (ts : List Piece) → t ∷ ts ≡ [] → ⊥
apart t ts p = cc

cons_same : (t : Piece) (x y : List Piece) → x ≡ y → t ∷ x ≡ t ∷ y
cons_same t x y p = cc

closes_same : (x y : List Mark) → x ≡ y → Closes ∷ x ≡ Closes ∷ y
closes_same x y p = cc

item_same : (x y : List Mark) → x ≡ y → Item ∷ x ≡ Item ∷ y
item_same x y p = cc

hollow_same : (t : Piece) (x y : List Mark) → x ≡ y → Token t ∷ Opens ∷ Closes ∷ x ≡ Token t ∷ Opens ∷ Closes ∷ y
hollow_same t x y p = cc

block_same : (t : Piece) (x y : List Mark) → x ≡ y → Token t ∷ Opens ∷ x ≡ Token t ∷ Opens ∷ y
block_same t x y p = cc

moved : (r : Region) (us vs : List Piece) (ms : List Mark) (end : List Piece) (tail : List Mark) → us ≡ vs → Runs (move r vs) r vs ms end tail → Runs (move r us) r us ms end tail
moved r us vs ms end tail e h = let P : List Piece → Type 0 = λ x. Runs (move r x) r x ms end tail in subst P (sym e) h

pub one : {m : Move} {r : Region} {ts : List Piece} (ms ms' : List Mark) (end end' : List Piece) (tail tail' : List Mark)
    → Runs m r ts ms end tail → Runs m r ts ms' end' tail' → One end end' tail tail' ms ms'
one ms ms' end end' tail tail' at_end at_end = (refl, λ p. p)
one ms ms' end end' tail tail' (at_item h) (at_item k) =
    let x = one _ _ _ _ _ _ h k in (x.0, λ p. item_same _ _ (x.1 p))
one ms ms' end end' tail tail' (at_word h) (at_word k) =
    let x = one _ _ _ _ _ _ h k in (x.0, λ p. token_same _ _ _ _ refl (x.1 p))
one ms ms' end end' tail tail' (at_bracket h i) (at_bracket k l) =
    let x = one _ _ _ _ _ _ h k in
    let y = one _ _ _ _ _ _ i (moved _ _ _ _ _ _ (tail_same _ _ _ _ x.0) l) in
    (y.0, λ p. token_same _ _ _ _ refl (x.1 (token_same _ _ _ _ (head_same _ _ _ _ x.0) (y.1 p))))
one ms ms' end end' tail tail' (at_bracket h i) (at_open_bracket k) = absurd (apart _ _ ((one _ _ _ _ _ _ h k).0))
one ms ms' end end' tail tail' (at_open_bracket h) (at_bracket k l) = absurd (apart _ _ (sym ((one _ _ _ _ _ _ h k).0)))
one ms ms' end end' tail tail' (at_open_bracket h) (at_open_bracket k) =
    let x = one _ _ _ _ _ _ h k in (refl, λ p. token_same _ _ _ _ refl (x.1 p))
one ms ms' end end' tail tail' (at_hollow h) (at_hollow k) =
    let x = one _ _ _ _ _ _ h k in (x.0, λ p. hollow_same _ _ _ (x.1 p))
one ms ms' end end' tail tail' (at_block h i) (at_block k l) =
    let x = one _ _ _ _ _ _ h k in
    let y = one _ _ _ _ _ _ i (moved _ _ _ _ _ _ x.0 l) in
    (y.0, λ p. block_same _ _ _ (x.1 (closes_same _ _ (y.1 p))))

pub unique : PiecesAreUnique
unique ts ms ns h k = (one _ _ _ _ _ _ h k).1 refl

-- what is marked has the tokens, where what is behind it has
pub keeps : {m : Move} {r : Region} {ts end : List Piece} {ms tail : List Mark} → Runs m r ts ms end tail → tokens_of tail ≡ end → tokens_of ms ≡ ts
keeps at_end p = p
keeps (at_item h) p = keeps h p
keeps (at_word h) p = cons_same _ _ _ (keeps h p)
keeps (at_bracket h i) p = cons_same _ _ _ (keeps h (cons_same _ _ _ (keeps i p)))
keeps (at_open_bracket h) p = cons_same _ _ _ (keeps h p)
keeps (at_hollow h) p = cons_same _ _ _ (keeps h p)
keeps (at_block h i) p = cons_same _ _ _ (keeps h (keeps i p))

pub kept : PiecesAreKept
kept ts ms h = keeps h refl
