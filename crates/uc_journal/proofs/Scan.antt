-- Records read one after another.
use Rattle.std.proofs.Common.{◌≡◌, ℕ, ◌+◌, ◌<◌, ◌≤◌, ◌-◌, List, [], ◌∷◌, ◌++◌, length, get_or, take, drop, sym, ◌∙◌, ap, arith, length-drop}
use Rattle.std.proofs.lemmas.List.{drop_more, drop-drop, take_all}
use Rattle.uc_journal.specs.Text.{framed, front, IsDamagedAt, text_limit}
use Rattle.uc_journal.proofs.Bytes.{front-push}

pub slice_tail : (n : ℕ) (bytes : List ℕ) → take (length bytes - n) (drop n bytes) ≡ drop n bytes
slice_tail n bytes = take_all (length bytes - n) (drop n bytes) (omega (arith, length-drop n bytes))

module _ (ps : List (List ℕ)) (bytes s : List ℕ) (gate : ℕ) (tail : s ≡ drop (gate + 1) bytes) (read : bytes ≡ front ps ++ drop gate bytes) (inside : gate < length bytes) (is_open : get_or bytes gate 0 ≡ 1) where
  behind_gate : bytes ≡ front ps ++ 1 ∷ s
  behind_gate = read ∙ ap (λ (l : List ℕ). front ps ++ l) (drop_more bytes gate 0 inside ∙ ap (λ (g : ℕ). g ∷ drop (gate + 1) bytes) is_open ∙ ap (λ (l : List ℕ). 1 ∷ l) (sym tail))

  pub read_more : (p : List ℕ) (next : ℕ) → s ≡ framed p ++ drop (4 + length p) s → next ≡ gate + (length p + 5) → bytes ≡ front (ps ++ p ∷ []) ++ drop next bytes
  read_more p next whole next_is =
      let end : gate + 1 + (4 + length p) ≡ next = omega arith in
      behind_gate
      ∙ ap (λ (l : List ℕ). front ps ++ 1 ∷ l) (whole ∙ ap (λ (l : List ℕ). framed p ++ l) (ap (λ (l : List ℕ). drop (4 + length p) l) tail ∙ drop-drop (4 + length p) (gate + 1) bytes ∙ ap (λ (n : ℕ). drop n bytes) end))
      ∙ sym (front-push ps p (drop next bytes))

  pub damaged : (room : ℕ) → 9 < length bytes → gate < text_limit → room + gate ≡ text_limit → gate ≡ length (front ps) → ((p : List ℕ) (g : ℕ) (rest : List ℕ) → s ≡ framed p ++ g ∷ rest → room ≤ length p + 5) → IsDamagedAt gate bytes
  damaged room long fits room_is at_is none = record {
    long = long;
    payloads = ps;
    rest = s;
    is = behind_gate;
    at_is = at_is;
    fits = fits;
    none_whole = λ p g rest whole. omega (arith, none p g rest whole, room_is);
  }
