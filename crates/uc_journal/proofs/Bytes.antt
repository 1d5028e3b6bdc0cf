-- Files that a write changes, as lists.
use Rattle.std.proofs.Common.{◌≡◌, ◌⊎◌, inl, inr, ℕ, ◌+◌, ◌<◌, List, [], ◌∷◌, ◌++◌, length, get_or, take, drop, refl, sym, ◌∙◌, ap, arith, append_assoc, length-append, take-append-drop}
use Rattle.std.proofs.lemmas.List.{append-nil, take_at, drop_at, drop_more}
use Rattle.std.proofs.lemmas.Bool.{cases_eq}
use Rattle.std.specs.Int.{w32, to_be_bytes}
use Rattle.uc_outside.specs.Disk.{Torn, Holds}
use Rattle.uc_journal.specs.Text.{text_limit, framed, records, front, IsTextOf, IsStaged}

module _ (f : List ℕ) (g : ℕ) (rest d c : List ℕ) (at : ℕ) (is : d ≡ f ++ g ∷ rest) where
  split_gate : d ≡ (f ++ g ∷ []) ++ rest
  split_gate = is ∙ sym (append_assoc f (g ∷ []) rest)

  length_gate : length (f ++ g ∷ []) ≡ length f + 1
  length_gate = length-append f (g ∷ [])

  length_all : length d ≡ length f + (length rest + 1)
  length_all = ap length is ∙ length-append f (g ∷ rest) ∙ omega arith

  take_gate : at ≡ length f + 1 → take at d ≡ f ++ g ∷ []
  take_gate at_is = ap (λ (l : List ℕ). take at l) split_gate ∙ take_at (f ++ g ∷ []) rest at (omega (arith, length_gate))

  -- a write behind the gate leaves the gate
  pub torn_behind : (n : ℕ) → at ≡ length f + 1 → Torn at n d c → c ≡ f ++ g ∷ drop at c
  torn_behind n at_is torn =
      sym (take-append-drop at c) ∙ ap (λ (l : List ℕ). l ++ drop at c) (torn.before ∙ take_gate at_is) ∙ append_assoc f (g ∷ []) (drop at c)

  pub held_behind : (bytes : List ℕ) → at ≡ length f + 1 → Holds d at bytes c → c ≡ f ++ g ∷ (bytes ++ drop (at + length bytes) d)
  held_behind bytes at_is holds =
      holds ∙ append_assoc (take at d) bytes (drop (at + length bytes) d)
      ∙ ap (λ (l : List ℕ). l ++ (bytes ++ drop (at + length bytes) d)) (take_gate at_is) ∙ append_assoc f (g ∷ []) (bytes ++ drop (at + length bytes) d)

  take_front : at ≡ length f → take at d ≡ f
  take_front at_is = ap (λ (l : List ℕ). take at l) is ∙ take_at f (g ∷ rest) at (sym at_is)

  drop_gate : at ≡ length f → drop (at + 1) d ≡ rest
  drop_gate at_is = ap (λ (l : List ℕ). drop (at + 1) l) split_gate ∙ drop_at (f ++ g ∷ []) rest (at + 1) (omega (arith, length_gate, at_is))

  -- a write of the gate leaves all else
  pub torn_at : at ≡ length f → Torn at 1 d c → c ≡ f ++ get_or c at 0 ∷ rest
  torn_at at_is torn =
      let long : at < length c = omega (arith, length_all, torn.no_shorter) in
      let back : drop at c ≡ get_or c at 0 ∷ rest = drop_more c at 0 long ∙ ap (λ (l : List ℕ). get_or c at 0 ∷ l) (torn.after ∙ drop_gate at_is) in
      sym (take-append-drop at c) ∙ ap (λ (l : List ℕ). l ++ drop at c) (torn.before ∙ take_front at_is) ∙ ap (λ (l : List ℕ). f ++ l) back

  pub held_at : (b : ℕ) → at ≡ length f → Holds d at (b ∷ []) c → c ≡ f ++ b ∷ rest
  held_at b at_is holds =
      holds ∙ ap (λ (l : List ℕ). l ++ (b ∷ []) ++ drop (at + 1) d) (take_front at_is)
      ∙ ap (λ (l : List ℕ). f ++ (b ∷ []) ++ l) (drop_gate at_is) ∙ append_assoc f (b ∷ []) rest

pub length-bytes : (n : ℕ) → length (to_be_bytes w32 n) ≡ 4
length-bytes n = refl

pub length-framed : (p : List ℕ) → length (framed p) ≡ length p + 4
length-framed p = omega (arith, length-append (to_be_bytes w32 (length p)) p, length-bytes (length p))

pub records-push : (ps : List (List ℕ)) (p : List ℕ) → records (ps ++ p ∷ []) ≡ records ps ++ 1 ∷ framed p
records-push [] p = append-nil (1 ∷ framed p)
records-push (q ∷ ps) p = ap (λ (l : List ℕ). 1 ∷ framed q ++ l) (records-push ps p) ∙ sym (append_assoc (1 ∷ framed q) (records ps) (1 ∷ framed p))

pub front-push : (ps : List (List ℕ)) (p rest : List ℕ) → front (ps ++ p ∷ []) ++ rest ≡ front ps ++ 1 ∷ (framed p ++ rest)
front-push ps p rest =
    ap (λ (l : List ℕ). l ++ rest) (ap (λ (l : List ℕ). front [] ++ l) (records-push ps p) ∙ sym (append_assoc (front []) (records ps) (1 ∷ framed p)))
    ∙ append_assoc (front ps) (1 ∷ framed p) rest

pub length-front-push : (ps : List (List ℕ)) (p : List ℕ) → length (front (ps ++ p ∷ [])) ≡ length (front ps) + 5 + length p
length-front-push ps p =
    omega (arith, ap length (sym (append-nil (front (ps ++ p ∷ []))) ∙ front-push ps p []), length-append (front ps) (1 ∷ (framed p ++ [])), ap length (append-nil (framed p)), length-framed p)

module _ (ps : List (List ℕ)) (p : List ℕ) where
  fewer : length (front (ps ++ p ∷ [])) < text_limit → length (front ps) < text_limit
  fewer fits = omega (arith, fits, length-front-push ps p)

  pub torn_closed : (d c : List ℕ) (at n : ℕ) → at ≡ length (front ps) + 1 → IsTextOf ps d → Torn at n d c → IsTextOf ps c
  torn_closed d c at n at_is text torn = record { gate = text.gate; rest = drop at c; closed = text.closed; is = torn_behind (front ps) text.gate text.rest d c at text.is n at_is torn; fits = text.fits }

  pub torn_staged : (d c : List ℕ) (at : ℕ) → at ≡ length (front ps) → IsStaged ps p d → Torn at 1 d c → IsStaged ps p c
  torn_staged d c at at_is staged torn = record { gate = get_or c at 0; rest = staged.rest; is = torn_at (front ps) staged.gate (framed p ++ 0 ∷ staged.rest) d c at staged.is at_is torn; fits = staged.fits }

  pub held_staged : (d c : List ℕ) (at : ℕ) → length (front (ps ++ p ∷ [])) < text_limit → at ≡ length (front ps) + 1 → IsTextOf ps d → Holds d at (framed p ++ 0 ∷ []) c → IsStaged ps p c × IsTextOf ps c
  held_staged d c at fits at_is text holds =
      let bytes = framed p ++ 0 ∷ [] in
      let behind = drop (at + length bytes) d in
      let whole : c ≡ front ps ++ text.gate ∷ (bytes ++ behind) = held_behind (front ps) text.gate text.rest d c at text.is bytes at_is holds in (
        record { gate = text.gate; rest = behind; is = whole ∙ ap (λ (l : List ℕ). front ps ++ text.gate ∷ l) (append_assoc (framed p) (0 ∷ []) behind); fits = fits },
        record { gate = text.gate; rest = bytes ++ behind; closed = text.closed; is = whole; fits = text.fits },
      )

  opened : (rest c : List ℕ) → length (front (ps ++ p ∷ [])) < text_limit → c ≡ front ps ++ 1 ∷ (framed p ++ 0 ∷ rest) → IsTextOf (ps ++ p ∷ []) c
  opened rest c fits is = record { gate = 0; rest = rest; closed = omega arith; is = is ∙ sym (front-push ps p (0 ∷ rest)); fits = fits }

  pub held_open : (d c : List ℕ) (at : ℕ) → at ≡ length (front ps) → IsStaged ps p d → Holds d at (1 ∷ []) c → IsTextOf (ps ++ p ∷ []) c
  held_open d c at at_is staged holds = opened staged.rest c staged.fits (held_at (front ps) staged.gate (framed p ++ 0 ∷ staged.rest) d c at staged.is 1 at_is holds)

  pub held_closed : (d c : List ℕ) (at : ℕ) → at ≡ length (front ps) → IsStaged ps p d → Holds d at (0 ∷ []) c → IsTextOf ps c
  held_closed d c at at_is staged holds = record { gate = 0; rest = framed p ++ 0 ∷ staged.rest; closed = omega arith; is = held_at (front ps) staged.gate (framed p ++ 0 ∷ staged.rest) d c at staged.is 0 at_is holds; fits = fewer staged.fits }

  -- what is staged counts or it doesn't
  pub staged_counts : (c : List ℕ) → IsStaged ps p c → IsTextOf ps c ⊎ IsTextOf (ps ++ p ∷ []) c
  staged_counts c staged = elim (cases_eq staged.gate 1) [
    | inl is_open ↦ inr (opened staged.rest c staged.fits (staged.is ∙ ap (λ (g : ℕ). front ps ++ g ∷ (framed p ++ 0 ∷ staged.rest)) is_open))
    | inr shut ↦ inl (record { gate = staged.gate; rest = framed p ++ 0 ∷ staged.rest; closed = shut; is = staged.is; fits = fewer staged.fits })
  ]
