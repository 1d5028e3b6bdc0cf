-- Pieces that are read or written one after another.
use Rattle.std.proofs.Common.{◌≡◌, ℕ, ◌+◌, ◌-◌, ◌≤◌, List, ◌++◌, length, take, drop, append_assoc, length-append, sym, ap, ◌∙◌, arith}
use Rattle.std.proofs.lemmas.List.{take-append-drop}
use Rattle.ucm.specs.Ends.{GainsFront, IsSplit}
use Rattle.ucm.specs.Program.{text_limit}
use Rattle.ucm.specs.Reading.{Consumes}

-- what was read before a piece, and the piece
pub consumed_on : (old mid new text : List ℕ) → length text ≤ text_limit → old ≡ text ++ mid → Consumes mid new (text_limit + 1 - length text) → Consumes old new (text_limit + 1)
consumed_on old mid new text short before c = record {
  read = text ++ c.read;
  left = before ∙ ap (λ (l : List ℕ). text ++ l) c.left ∙ sym (append_assoc text c.read new);
  few = let few = c.few in omega (arith, length-append text c.read);
}

-- the front that a write took
pub split_at : {tells : Type 0} (text old new : List ℕ) (n : ℕ) → (tells → new ≡ old ++ take n text) → IsSplit text (drop n text) tells old new
split_at text old new n h = record { front = take n text; is = sym (take-append-drop n text); written = h }

-- one write after another
pub split_on : {tells : Type 0} (text rest left old mid new : List ℕ) → IsSplit text rest tells old mid → IsSplit rest left tells mid new → IsSplit text left tells old new
split_on text rest left old mid new a b = record {
  front = a.front ++ b.front;
  is = a.is ∙ ap (λ (l : List ℕ). a.front ++ l) b.is ∙ sym (append_assoc a.front b.front left);
  written = λ t. b.written t ∙ ap (λ (l : List ℕ). l ++ b.front) (a.written t) ∙ append_assoc old a.front b.front;
}

-- a part that was written before a failure
pub front_of_split : {tells : Type 0} (text rest old new : List ℕ) → tells → IsSplit text rest tells old new → GainsFront text old new
front_of_split text rest old new t s = record { front = s.front; rest = rest; is = s.is; written = s.written t }
