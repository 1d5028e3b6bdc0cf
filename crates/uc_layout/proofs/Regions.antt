-- What plain recursion writes marks the tokens of a region.
use Rattle.std.proofs.Common.{◌≡◌, Bool, true, false, List, [], ◌∷◌, ◌++◌, refl, subst, sym, ap, ◌∙◌, append_assoc}
use Rattle.std.proofs.lemmas.List.{append-nil}
use Rattle.uc_layout.specs.declared.piece.Piece.{Piece}
use Rattle.uc_layout.specs.declared.piece.Mark.{Mark}
use Rattle.uc_layout.specs.declared.piece.Mark.TheVariants.{Opens, Closes, Item, Token}
use Rattle.uc_layout.specs.declared.piece.Region.{Region}
use Rattle.uc_layout.specs.Layout.{Move, stop, take, word, bracket, hollow, block, move, first_move, taken, block_before, ends_at, at_start, behind, inside_bracket, the_file, Runs, at_end, at_item, at_word, at_bracket, at_open_bracket, at_hollow, at_block, LaysPieces}
use Rattle.uc_layout.specs.Run.{next_move}
use Rattle.uc_layout.specs.Written.{Marks}

-- the tokens from here on are those of the list behind it
abbrev Runs_from : Bool → Region → List Piece → List Mark → List Piece → List Mark → Type 0
Runs_from fresh r ts ms rest tail = Runs (next_move fresh r ts) r ts ms rest tail

nothing_written : (o : List Mark) (m : Move) (r : Region) (ts : List Piece) → m ≡ stop → Marks o o m r ts ts
nothing_written o m r ts e =
    let P : Move → Type 0 = λ x. Marks o o x r ts ts in
    subst P (sym e) (record { written = []; whole = sym (append-nil o); runs = λ tail. at_end })

with_move : (o p : List Mark) (m n : Move) (r : Region) (ts rest : List Piece) → m ≡ n → Marks o p n r ts rest → Marks o p m r ts rest
with_move o p m n r ts rest e h = let P : Move → Type 0 = λ x. Marks o p x r ts rest in subst P (sym e) h

-- some marks, and then what another region's tokens are marked with
then_marks : (o o1 p pre : List Mark) (m n : Move) (r s : Region) (ts us rest : List Piece) → o1 ≡ o ++ pre
    → ((ms tail : List Mark) → Runs n s us ms rest tail → Runs m r ts (pre ++ ms) rest tail)
    → Marks o1 p n s us rest → Marks o p m r ts rest
then_marks o o1 p pre m n r s ts us rest e f h = record {
  written = pre ++ h.written;
  whole = h.whole ∙ ap (λ x. x ++ h.written) e ∙ append_assoc o pre h.written;
  runs = λ tail. let P : List Mark → Type 0 = λ x. Runs m r ts x rest tail in subst P (sym (append_assoc pre h.written tail)) (f (h.written ++ tail) tail (h.runs tail));
}

in_region : (fresh : Bool) (s s' : Region) (us : List Piece) (ms : List Mark) (rest : List Piece) (tail : List Mark) → s ≡ s' → Runs_from fresh s us ms rest tail → Runs_from fresh s' us ms rest tail
in_region fresh s s' us ms rest tail e h = let P : Region → Type 0 = λ x. Runs_from fresh x us ms rest tail in subst P e h

pub word_marks : (o o1 p : List Mark) (r s : Region) (t : Piece) (ts rest : List Piece) → o1 ≡ o ++ Token t ∷ [] → s ≡ behind r t.role
    → Marks o1 p (move s ts) s ts rest → Marks o p (take word) r (t ∷ ts) rest
word_marks o o1 p r s t ts rest eo es h =
    then_marks o o1 p (Token t ∷ []) _ _ r s _ _ rest eo (λ ms tail k. at_word (in_region false s _ ts ms rest tail es k)) h

two : (out o1 o2 : List Mark) (x y : Mark) → o1 ≡ out ++ x ∷ [] → o2 ≡ o1 ++ y ∷ [] → o2 ≡ out ++ x ∷ y ∷ []
two out o1 o2 x y e f = f ∙ ap (λ z. z ++ y ∷ []) e ∙ append_assoc out (x ∷ []) (y ∷ [])

three : (out o1 o2 o3 : List Mark) (x y z : Mark) → o1 ≡ out ++ x ∷ [] → o2 ≡ o1 ++ y ∷ [] → o3 ≡ o2 ++ z ∷ [] → o3 ≡ out ++ x ∷ y ∷ z ∷ []
three out o1 o2 o3 x y z e f g = g ∙ ap (λ w. w ++ z ∷ []) (two out o1 o2 x y e f) ∙ append_assoc out (x ∷ y ∷ []) (z ∷ [])

pub hollow_marks : (o o1 o2 o3 p : List Mark) (r s : Region) (t : Piece) (ts rest : List Piece)
    → o1 ≡ o ++ Token t ∷ [] → o2 ≡ o1 ++ Opens ∷ [] → s ≡ behind r t.role → block_before s ts ≡ hollow → o3 ≡ o2 ++ Closes ∷ []
    → Marks o3 p (move s ts) s ts rest → Marks o p (take (block_before (behind r t.role) ts)) r (t ∷ ts) rest
hollow_marks o o1 o2 o3 p r s t ts rest e1 e2 es b e3 h =
    with_move o p _ (take hollow) r _ rest (ap take (ap (λ x. block_before x ts) (sym es) ∙ b))
    (then_marks o o3 p (Token t ∷ Opens ∷ Closes ∷ []) _ _ r s _ _ rest (three o o1 o2 o3 _ _ _ e1 e2 e3)
    (λ ms tail k. at_hollow (in_region false s _ ts ms rest tail es k)) h)

-- the marks of what is held, one more, and those behind it
held_marks : (o o1 o2 o3 p pre : List Mark) (x : Mark) (m n n' : Move) (r b s : Region) (ts us held vs rest : List Piece) → o1 ≡ o ++ pre
    → ((ms ns tail : List Mark) → Runs n b us ms held (x ∷ ns) → Runs n' s vs ns rest tail → Runs m r ts (pre ++ ms) rest tail)
    → Marks o1 o2 n b us held → o3 ≡ o2 ++ x ∷ [] → Marks o3 p n' s vs rest → Marks o p m r ts rest
held_marks o o1 o2 o3 p pre x m n n' r b s ts us held vs rest e1 f h e3 k = record {
  written = pre ++ (h.written ++ x ∷ k.written);
  whole = k.whole ∙ ap (λ z. z ++ k.written) (e3 ∙ ap (λ z. z ++ x ∷ []) (h.whole ∙ ap (λ z. z ++ h.written) e1))
      ∙ all_joined o pre h.written x k.written;
  runs = λ tail. let P : List Mark → Type 0 = λ z. Runs m r ts z rest tail in
      subst P (sym (tail_joined pre h.written x k.written tail)) (f (h.written ++ x ∷ (k.written ++ tail)) (k.written ++ tail) tail (h.runs (x ∷ (k.written ++ tail))) (k.runs tail));
}
  where
    all_joined : (o a b : List Mark) (x : Mark) (c : List Mark) → (((o ++ a) ++ b) ++ x ∷ []) ++ c ≡ o ++ (a ++ (b ++ x ∷ c))
    all_joined o a b x c = simp append_assoc

    tail_joined : (a b : List Mark) (x : Mark) (c d : List Mark) → (a ++ (b ++ x ∷ c)) ++ d ≡ a ++ (b ++ x ∷ (c ++ d))
    tail_joined a b x c d = simp append_assoc

pub bracket_marks : (o o1 o2 o3 p : List Mark) (r b : Region) (t right : Piece) (ts held us rest : List Piece)
    → o1 ≡ o ++ Token t ∷ [] → b ≡ inside_bracket r → Marks o1 o2 (move b ts) b ts held → held ≡ right ∷ us → o3 ≡ o2 ++ Token right ∷ []
    → Marks o3 p (move r us) r us rest → Marks o p (take bracket) r (t ∷ ts) rest
bracket_marks o o1 o2 o3 p r b t right ts held us rest e1 eb h eh e3 k =
    let P : List Piece → Type 0 = λ x. Marks o1 o2 (move b ts) b ts x in
    held_marks o o1 o2 o3 p (Token t ∷ []) (Token right) _ _ _ r b r _ ts (right ∷ us) us rest e1
    (λ ms ns tail x y. at_bracket (in_region false b _ ts ms _ _ eb x) y) (subst P eh h) e3 k

pub open_bracket_marks : (o o1 p : List Mark) (r b : Region) (t : Piece) (ts held : List Piece)
    → o1 ≡ o ++ Token t ∷ [] → b ≡ inside_bracket r → held ≡ [] → Marks o1 p (move b ts) b ts held → Marks o p (take bracket) r (t ∷ ts) held
open_bracket_marks o o1 p r b t ts held e1 eb eh h =
    let P : List Piece → Type 0 = λ x. Marks o p (take bracket) r (t ∷ ts) x in
    let Q : List Piece → Type 0 = λ x. Marks o1 p (move b ts) b ts x in
    subst P (sym eh) (then_marks o o1 p (Token t ∷ []) _ _ r b _ ts [] e1 (λ ms tail k. at_open_bracket (in_region false b _ ts ms [] tail eb k)) (subst Q eh h))

pub block_marks : (o o1 o2 o3 o4 p : List Mark) (r s b : Region) (t : Piece) (ts us rest : List Piece)
    → o1 ≡ o ++ Token t ∷ [] → o2 ≡ o1 ++ Opens ∷ [] → s ≡ behind r t.role → block_before s ts ≡ block b
    → Marks o2 o3 (first_move b ts) b ts us → o4 ≡ o3 ++ Closes ∷ []
    → Marks o4 p (move s us) s us rest → Marks o p (take (block_before (behind r t.role) ts)) r (t ∷ ts) rest
block_marks o o1 o2 o3 o4 p r s b t ts us rest e1 e2 es eb h e4 k =
    with_move o p _ (take (block b)) r _ rest (ap take (ap (λ x. block_before x ts) (sym es) ∙ eb))
    (held_marks o o2 o3 o4 p (Token t ∷ Opens ∷ []) Closes _ _ _ r b s _ ts us us rest (two o o1 o2 _ _ e1 e2)
    (λ ms ns tail x y. at_block x (in_region false s _ us ns rest tail es y)) h e4 k)

pub item_marks : (o o1 p : List Mark) (r s : Region) (t : Piece) (ts rest : List Piece) → o1 ≡ o ++ Item ∷ [] → s ≡ at_start r t.role
    → Marks o1 p (take (taken s ts t.role)) s (t ∷ ts) rest → Marks o p (first_move r (t ∷ ts)) r (t ∷ ts) rest
item_marks o o1 p r s t ts rest e es h =
    let P : Region → Type 0 = λ x. Marks o1 p (take (taken x ts t.role)) x (t ∷ ts) rest in
    then_marks o o1 p (Item ∷ []) _ _ r (at_start r t.role) _ _ rest e (λ ms tail k. at_item k) (subst P es h)

-- the tokens of a region, by the first of them

pub no_tokens : (o : List Mark) (fresh : Bool) (r : Region) (ts : List Piece) → ts ≡ [] → Marks o o (next_move fresh r ts) r ts ts
no_tokens o fresh r ts e = let P : List Piece → Type 0 = λ x. Marks o o (next_move fresh r x) r x x in subst P (sym e) (by_fresh fresh)
  where
    by_fresh : (b : Bool) → Marks o o (next_move b r []) r [] []
    by_fresh true = nothing_written o _ r [] refl
    by_fresh false = nothing_written o _ r [] refl

stale : (o p : List Mark) (fresh : Bool) (r : Region) (us rest : List Piece) → fresh ≡ false → Marks o p (move r us) r us rest → Marks o p (next_move fresh r us) r us rest
stale o p fresh r us rest f h = let P : Bool → Type 0 = λ b. Marks o p (next_move b r us) r us rest in subst P (sym f) h

pub ended_tokens : (o : List Mark) (fresh : Bool) (r : Region) (t : Piece) (ts us : List Piece) → us ≡ t ∷ ts → fresh ≡ false → ends_at r.container r t ≡ true
    → Marks o o (next_move fresh r us) r us us
ended_tokens o fresh r t ts us e f d = stale o o fresh r us us f (nothing_written o _ r us (ap (move r) e ∙ ended))
  where
    ended : move r (t ∷ ts) ≡ stop
    ended = rw d refl

-- the whole text
pub lays : (o p : List Mark) (r : Region) (ts rest : List Piece) → o ≡ [] → r ≡ the_file → rest ≡ [] → Marks o p (first_move r ts) r ts rest → LaysPieces ts p
lays o p r ts rest eo er ee h =
    let P : Region → Type 0 = λ x. Marks o p (first_move x ts) x ts rest in
    let Q : List Piece → Type 0 = λ x. Marks o p (first_move the_file ts) the_file ts x in
    let k = subst Q ee (subst P er h) in
    let R : List Mark → Type 0 = λ x. LaysPieces ts x in
    let e : p ≡ k.written ++ [] = k.whole ∙ ap (λ x. x ++ k.written) eo ∙ sym (append-nil k.written) in
    subst R (sym e) (k.runs [])
