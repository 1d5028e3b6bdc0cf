-- A file stands for one list of payloads at most, and for none where it is damaged.
use Rattle.std.proofs.Common.{◌≡◌, ◌≢◌, inl, inr, ℕ, ◌+◌, ◌<◌, ◌^◌, List, [], ◌∷◌, ◌++◌, length, take, drop, refl, sym, ◌∙◌, ap, arith, append_assoc, length-append}
use Rattle.std.specs.Int.{w32, to_be_bytes, from_be_bytes}
use Rattle.std.proofs.lemmas.Nat.{from_be_bytes-to_be_bytes_4}
use Rattle.std.proofs.lemmas.List.{take_at, drop_at}
use Rattle.uc_journal.specs.Text.{text_limit, mark, framed, records, front, IsTextOf, IsFileOf, IsAlien, IsDamagedAt, NoneWhole}
use Rattle.uc_journal.proofs.Bytes.{length-framed}
use Rattle.uc_journal.proofs.Opening.{short_empty}

module _ (p q x y : List ℕ) (e : framed p ++ x ≡ framed q ++ y) (p_short : length p < 2 ^ 32) (q_short : length q < 2 ^ 32) where
  heads : to_be_bytes w32 (length p) ≡ to_be_bytes w32 (length q)
  heads = ap (λ (l : List ℕ). take 4 l) e

  tails : p ++ x ≡ q ++ y
  tails = ap (λ (l : List ℕ). drop 4 l) e

  same_length : length p ≡ length q
  same_length = sym (from_be_bytes-to_be_bytes_4 (length p) p_short) ∙ ap (λ (l : List ℕ). from_be_bytes w32 l) heads ∙ from_be_bytes-to_be_bytes_4 (length q) q_short

  same_payload : p ≡ q
  same_payload = sym (take_at p x (length p) refl) ∙ ap (λ (l : List ℕ). take (length p) l) tails ∙ take_at q y (length p) (sym same_length)

  same_rest : x ≡ y
  same_rest = sym (drop_at p x (length p) refl) ∙ ap (λ (l : List ℕ). drop (length p) l) tails ∙ drop_at q y (length p) (sym same_length)

behind : (p : List ℕ) (ps : List (List ℕ)) (z : List ℕ) → drop 1 (records (p ∷ ps) ++ z) ≡ framed p ++ (records ps ++ z)
behind p ps z = append_assoc (framed p) (records ps) z

length-records : (p : List ℕ) (ps : List (List ℕ)) → length (records (p ∷ ps)) ≡ length p + 5 + length (records ps)
length-records p ps = omega (arith, length-append (1 ∷ framed p) (records ps), length-framed p)

module _ (p q : List ℕ) (ps qs : List (List ℕ)) (z w : List ℕ) (e : records (p ∷ ps) ++ z ≡ records (q ∷ qs) ++ w) where
  stripped : framed p ++ (records ps ++ z) ≡ framed q ++ (records qs ++ w)
  stripped = sym (behind p ps z) ∙ ap (λ (l : List ℕ). drop 1 l) e ∙ behind q qs w

records_unique : (ps qs : List (List ℕ)) (g h : ℕ) (r s : List ℕ) → records ps ++ g ∷ r ≡ records qs ++ h ∷ s → g ≢ 1 → h ≢ 1 → length (records ps) < text_limit → length (records qs) < text_limit → ps ≡ qs
records_unique [] [] g h r s e gc hc pf qf = refl
records_unique [] (q ∷ qs) g h r s e gc hc pf qf = let one : g ≡ 1 = cc in absurd (gc one)
records_unique (p ∷ ps) [] g h r s e gc hc pf qf = let one : h ≡ 1 = cc in absurd (hc one)
records_unique (p ∷ ps) (q ∷ qs) g h r s e gc hc pf qf =
    let p_short : length p < 2 ^ 32 = omega (arith, length-records p ps, pf) in
    let q_short : length q < 2 ^ 32 = omega (arith, length-records q qs, qf) in
    let inner = stripped p q ps qs (g ∷ r) (h ∷ s) e in
    let head = same_payload p q _ _ inner p_short q_short in
    let rest = records_unique ps qs g h r s (same_rest p q _ _ inner p_short q_short) gc hc (omega (arith, length-records p ps, pf)) (omega (arith, length-records q qs, qf)) in
    ap (λ (l : List ℕ). l ∷ ps) head ∙ ap (λ (l : List (List ℕ)). q ∷ l) rest

nonempty : (qs : List (List ℕ)) (g : ℕ) (s : List ℕ) → (h : ℕ) × (t : List ℕ) × (records qs ++ g ∷ s ≡ h ∷ t)
nonempty [] g s = (g, s, refl)
nonempty (q ∷ qs) g s = (1, drop 1 (records (q ∷ qs) ++ g ∷ s), refl)

not_damaged : (base at : ℕ) (ps qs : List (List ℕ)) (rest : List ℕ) (g : ℕ) (s : List ℕ) → records ps ++ 1 ∷ rest ≡ records qs ++ g ∷ s → g ≢ 1 → at ≡ base + length (records ps) → NoneWhole at rest → at < text_limit → base + length (records qs) < text_limit → ⊥
not_damaged base at [] [] rest g s e closed at_is none pf qf = let one : g ≡ 1 = cc in closed one
not_damaged base at [] (q ∷ qs) rest g s e closed at_is none pf qf =
    let more = nonempty qs g s in
    let whole : rest ≡ framed q ++ more.0 ∷ more.1 = ap (λ (l : List ℕ). drop 1 l) e ∙ behind q qs (g ∷ s) ∙ ap (λ (l : List ℕ). framed q ++ l) more.2 in
    omega (arith, none q more.0 more.1 whole, length-records q qs, at_is, qf)
not_damaged base at (p ∷ ps) [] rest g s e closed at_is none pf qf = let one : g ≡ 1 = cc in closed one
not_damaged base at (p ∷ ps) (q ∷ qs) rest g s e closed at_is none pf qf =
    let p_short : length p < 2 ^ 32 = omega (arith, length-records p ps, at_is, pf) in
    let q_short : length q < 2 ^ 32 = omega (arith, length-records q qs, qf) in
    let inner = stripped p q ps qs (1 ∷ rest) (g ∷ s) e in
    let head = same_payload p q _ _ inner p_short q_short in
    not_damaged (base + length p + 5) at ps qs rest g s (same_rest p q _ _ inner p_short q_short) closed (omega (arith, length-records p ps, at_is)) none pf
    (omega (arith, length-records q qs, qf, ap length head))

length-front : (ps : List (List ℕ)) → length (front ps) ≡ 8 + length (records ps)
length-front ps = length-append mark (records ps)

text_unique : (ps qs : List (List ℕ)) (file : List ℕ) → IsTextOf ps file → IsTextOf qs file → ps ≡ qs
text_unique ps qs file p q =
    records_unique ps qs p.gate q.gate p.rest q.rest (ap (λ (l : List ℕ). drop 8 l) (sym p.is ∙ q.is)) p.closed q.closed (omega (arith, length-front ps, p.fits)) (omega (arith, length-front qs, q.fits))

pub file_unique : (ps qs : List (List ℕ)) (file : List ℕ) → IsFileOf ps file → IsFileOf qs file → ps ≡ qs
file_unique ps qs file (inl short) q = short.1 ∙ sym (short_empty qs file q short.0)
file_unique ps qs file (inr text) (inl short) = short_empty ps file (inr text) short.0 ∙ sym short.1
file_unique ps qs file (inr p) (inr q) = text_unique ps qs file p q

pub file_not_damaged : (ps : List (List ℕ)) (file : List ℕ) (at : ℕ) → IsFileOf ps file → IsDamagedAt at file → ⊥
file_not_damaged ps file at (inl short) damaged = omega (arith, short.0, damaged.long)
file_not_damaged ps file at (inr text) damaged =
    not_damaged 8 at damaged.payloads ps damaged.rest text.gate text.rest (ap (λ (l : List ℕ). drop 8 l) (sym damaged.is ∙ text.is)) text.closed (omega (arith, damaged.at_is, length-front damaged.payloads)) damaged.none_whole damaged.fits (omega (arith, length-front ps, text.fits))

pub file_not_alien : (ps : List (List ℕ)) (file : List ℕ) → IsFileOf ps file → IsAlien file → ⊥
file_not_alien ps file (inl short) alien = omega (arith, short.0, alien.long)
file_not_alien ps file (inr text) alien = alien.unmarked (ap (λ (l : List ℕ). take 8 l) text.is)

pub damaged_not_alien : (at : ℕ) (file : List ℕ) → IsDamagedAt at file → IsAlien file → ⊥
damaged_not_alien at file damaged alien = alien.unmarked (ap (λ (l : List ℕ). take 8 l) damaged.is)

-- the first record that is not whole is one
same_damage : (base at at' : ℕ) (ps qs : List (List ℕ)) (r s : List ℕ) → records ps ++ 1 ∷ r ≡ records qs ++ 1 ∷ s → at ≡ base + length (records ps) → at' ≡ base + length (records qs)
    → NoneWhole at r → NoneWhole at' s → at < text_limit → at' < text_limit → at ≡ at'
same_damage base at at' [] [] r s e at_is at_is' none none' fits fits' = omega (arith, at_is, at_is')
same_damage base at at' [] (q ∷ qs) r s e at_is at_is' none none' fits fits' =
    let more = nonempty qs 1 s in
    let whole : r ≡ framed q ++ more.0 ∷ more.1 = ap (λ (l : List ℕ). drop 1 l) e ∙ behind q qs (1 ∷ s) ∙ ap (λ (l : List ℕ). framed q ++ l) more.2 in
    absurd (omega (arith, none q more.0 more.1 whole, length-records q qs, at_is, at_is', fits'))
same_damage base at at' (p ∷ ps) [] r s e at_is at_is' none none' fits fits' =
    let more = nonempty ps 1 r in
    let whole : s ≡ framed p ++ more.0 ∷ more.1 = ap (λ (l : List ℕ). drop 1 l) (sym e) ∙ behind p ps (1 ∷ r) ∙ ap (λ (l : List ℕ). framed p ++ l) more.2 in
    absurd (omega (arith, none' p more.0 more.1 whole, length-records p ps, at_is, at_is', fits))
same_damage base at at' (p ∷ ps) (q ∷ qs) r s e at_is at_is' none none' fits fits' =
    let p_short : length p < 2 ^ 32 = omega (arith, length-records p ps, at_is, fits) in
    let q_short : length q < 2 ^ 32 = omega (arith, length-records q qs, at_is', fits') in
    let inner = stripped p q ps qs (1 ∷ r) (1 ∷ s) e in
    let head = same_payload p q _ _ inner p_short q_short in
    same_damage (base + length p + 5) at at' ps qs r s (same_rest p q _ _ inner p_short q_short) (omega (arith, length-records p ps, at_is)) (omega (arith, length-records q qs, at_is', ap length head)) none none' fits fits'

pub damaged_unique : (at at' : ℕ) (file : List ℕ) → IsDamagedAt at file → IsDamagedAt at' file → at ≡ at'
damaged_unique at at' file d d' =
    same_damage 8 at at' d.payloads d'.payloads d.rest d'.rest (ap (λ (l : List ℕ). drop 8 l) (sym d.is ∙ d'.is)) (omega (arith, d.at_is, length-front d.payloads)) (omega (arith, d'.at_is, length-front d'.payloads))
    d.none_whole d'.none_whole d.fits d'.fits
