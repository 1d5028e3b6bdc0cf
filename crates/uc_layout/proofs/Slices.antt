-- The texts of tokens as slices of their text.
use Rattle.std.proofs.Common.{ℕ, zero, suc, List, [], ◌∷◌, drop, refl, sym, subst}
use Rattle.uc_base.specs.declared.place.Place.{Place}
use Rattle.uc_layout.specs.declared.start.Start.{Start}
use Rattle.uc_layout.specs.declared.piece.Mark.{Mark}
use Rattle.uc_layout.specs.declared.piece.Mark.TheVariants as mark
use Rattle.uc_layout.specs.Tokens.{Seen, Ending, Scans, at_text_end, at_fold, at_wrong, at_line_feed, at_white, at_comment, at_token, at_no_token}
use Rattle.uc_layout.specs.Text.{joined, AreSlices, no_slice, behind_byte, next_slice, TokensAreSlices}
use Rattle.uc_layout.proofs.Cut.{take_drop}

behind_bytes : (n : ℕ) (text : List ℕ) (ts : List Seen) → AreSlices (drop n text) ts → AreSlices text ts
behind_bytes zero text ts h = h
behind_bytes (suc n) [] ts h = h
behind_bytes (suc n) (c ∷ cs) ts h = behind_byte (behind_bytes n cs ts h)

scanned : {s : Start} {p : Place} {b : ℕ} {e : Ending} (text : List ℕ) (ts : List Seen) → Scans s p b text ts e → AreSlices text ts
scanned text ts at_text_end = no_slice
scanned text ts at_fold = no_slice
scanned text ts at_wrong = no_slice
scanned text ts (at_line_feed h) = behind_bytes 1 text ts (scanned _ _ h)
scanned text ts (at_white h) = behind_bytes 1 text ts (scanned _ _ h)
scanned text ts (at_comment {n = n} l h) = behind_bytes n text ts (scanned _ _ h)
scanned text ts (at_token {n = n} l j h) =
    next_slice (take_drop n text) (scanned _ _ h)
scanned text ts (at_no_token l j) = no_slice

with_marks : (ms : List Mark) (end : Place) (text : List ℕ) (ts : List Seen) → AreSlices text ts → AreSlices text (joined ms ts end)
with_marks [] end text ts h = no_slice
with_marks (mark.Opens ∷ ms) end text ts h = next_slice refl (with_marks ms end text ts h)
with_marks (mark.Closes ∷ ms) end text ts h = next_slice refl (with_marks ms end text ts h)
with_marks (mark.Item ∷ ms) end text ts h = next_slice refl (with_marks ms end text ts h)
with_marks (mark.Token p ∷ ms) end text [] h = with_marks ms end text [] h
with_marks (mark.Token p ∷ ms) end text (t ∷ ts) (behind_byte h) = behind_byte (with_marks (mark.Token p ∷ ms) end _ (t ∷ ts) h)
with_marks (mark.Token p ∷ ms) end text (t ∷ ts) (next_slice e h) = next_slice e (with_marks ms end _ ts h)

pub tokens_are_slices : TokensAreSlices
tokens_are_slices text blocks h =
    let P : List Seen → Type 0 = λ x. AreSlices text x in
    subst P (sym h.marked.whole) (with_marks h.marked.marks h.end text h.tokens (scanned text h.tokens h.tokenized))
