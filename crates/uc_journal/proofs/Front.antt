-- What the front of a file says of the file.
use Rattle.std.proofs.Common.{◌≡◌, ◌⊎◌, inl, inr, ℕ, ◌+◌, ◌≤◌, List, [], ◌∷◌, ◌++◌, length, take, drop, sym, ◌∙◌, ap, arith, append_assoc, length-append, length-take, take-append-drop}
use Rattle.std.proofs.lemmas.List.{append-nil, drop_all, take_at, take-append-le}
use Rattle.std.proofs.lemmas.Bool.{cases_lt}
use Rattle.uc_journal.specs.Text.{text_limit, framed, front, IsTextOf, IsDamagedAt, NoneWhole}
use Rattle.uc_journal.proofs.Bytes.{length-framed}

module _ (n : ℕ) (file bytes : List ℕ) (is : bytes ≡ take n file) where
  whole : bytes ++ drop n file ≡ file
  whole = ap (λ (l : List ℕ). l ++ drop n file) is ∙ take-append-drop n file

  pub text_longer : (ps : List (List ℕ)) → IsTextOf ps bytes → IsTextOf ps file
  text_longer ps text = record {
    gate = text.gate;
    rest = text.rest ++ drop n file;
    closed = text.closed;
    is = sym whole ∙ ap (λ (l : List ℕ). l ++ drop n file) text.is ∙ append_assoc (front ps) (text.gate ∷ text.rest) (drop n file);
    fits = text.fits;
  }

  -- a record that is whole in the file alone goes past the limit
  pub damaged_longer : (at : ℕ) → (length file ≤ n) ⊎ (text_limit ≤ n) → IsDamagedAt at bytes → IsDamagedAt at file
  damaged_longer at enough damaged = record {
    long = omega (arith, damaged.long, ap length (sym whole), length-append bytes (drop n file));
    payloads = damaged.payloads;
    rest = damaged.rest ++ drop n file;
    is = sym whole ∙ ap (λ (l : List ℕ). l ++ drop n file) damaged.is ∙ append_assoc (front damaged.payloads) (1 ∷ damaged.rest) (drop n file);
    at_is = damaged.at_is;
    fits = damaged.fits;
    none_whole = none;
  }
    where
      long : length bytes ≡ at + 1 + length damaged.rest
      long = omega (arith, ap length damaged.is, length-append (front damaged.payloads) (1 ∷ damaged.rest), damaged.at_is)

      none : NoneWhole at (damaged.rest ++ drop n file)
      none p g r e = elim (cases_lt (length damaged.rest) (length p + 5)) [
        | inl short ↦ elim (cases_lt n (length file)) [
          | inl cut ↦
              let full : length bytes ≡ n = omega (arith, ap length is, length-take n file, cut) in
              elim enough [ inl all ↦ absurd (omega (arith, all, cut)) | inr far ↦ omega (arith, long, full, far, short) ]
          | inr all ↦ damaged.none_whole p g r (sym (append-nil damaged.rest) ∙ ap (λ (l : List ℕ). damaged.rest ++ l) (sym (drop_all n file all)) ∙ e)
        ]
        | inr room ↦
            let size : length (framed p ++ g ∷ []) ≡ length p + 5 = omega (arith, length-append (framed p) (g ∷ []), length-framed p) in
            let split : framed p ++ g ∷ r ≡ (framed p ++ g ∷ []) ++ r = sym (append_assoc (framed p) (g ∷ []) r) in
            let k = length p + 5 in
            let front_is : take (length p + 5) damaged.rest ≡ framed p ++ g ∷ [] =
            sym (take-append-le (length p + 5) damaged.rest (drop n file) room) ∙ ap (λ (l : List ℕ). take (length p + 5) l) (e ∙ split) ∙ take_at (framed p ++ g ∷ []) r (length p + 5) size in
            damaged.none_whole p g (drop (length p + 5) damaged.rest)
            (sym (take-append-drop (length p + 5) damaged.rest) ∙ ap (λ (l : List ℕ). l ++ drop (length p + 5) damaged.rest) front_is ∙ append_assoc (framed p) (g ∷ []) (drop (length p + 5) damaged.rest))
      ]
