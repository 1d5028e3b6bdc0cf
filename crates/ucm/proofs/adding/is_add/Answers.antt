use Rattle.std.proofs.Common.{◌≡◌, ℕ, ◌-◌, ◌≤◌, length, take, drop, length-drop, List, [], ◌∷◌, sym, ◌∙◌, ap, arith, eqb-true}
use Rattle.std.proofs.lemmas.List.{take_all}
use Rattle.ucm.proofs.Endings.{one_text}
use Rattle.ucm.proofs.adding.is_add.Goals as goal

-- nothing stands behind the first
alone : {A : Type 0} (words : List A) → 1 ≤ length words → length (take (length words - 1) (drop 1 words)) ≡ 0 → length words ≡ 1
alone words some none =
    let whole : take (length words - 1) (drop 1 words) ≡ drop 1 words = take_all (length words - 1) (drop 1 words) (omega (arith, length-drop 1 words)) in
    omega (arith, ap length whole, length-drop 1 words)

pub returns-then-is_empty : goal.returns-then-is_empty
returns-then-is_empty c =
    let none = eqb-true _ _ (sym c.is_empty.ensures ∙ c.if-is_empty.true) in
    let one : length c.args.words.now ≡ 1 = alone c.args.words.now c.in-len1-up.len_at_least none in
    let texts = one_text c.args.words.now c.word-item.result c.word-item.is one in
    let word = c.as_str.ensures.value in (
      λ h. texts ∙ ap (λ (w : List ℕ). w ∷ []) (sym word ∙ c.is_add_word.ensures.0 h),
      λ h. c.is_add_word.ensures.1 (word ∙ ap first (sym texts ∙ h)),
    )
  where
    first : List (List ℕ) → List ℕ
    first [] = []
    first (w ∷ ws) = w
