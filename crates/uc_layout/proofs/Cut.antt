-- A text has one cut into tokens.
use Rattle.std.proofs.Common.{◌≡◌, ℕ, zero, suc, ◌≤◌, List, [], ◌∷◌, ◌++◌, length, take, drop, refl, ap, sym, ◌∙◌, subst, length-take, arith}
use Rattle.uc_base.specs.declared.place.Place.{Place}
use Rattle.uc_layout.specs.declared.token.Kind.{Kind}
use Rattle.uc_layout.specs.declared.automaton.State.{State}
use Rattle.uc_layout.specs.declared.automaton.Form.{Form}
use Rattle.uc_layout.specs.declared.start.Wrong.{Wrong}
use Rattle.uc_layout.specs.declared.start.Start.{Start}
use Rattle.uc_layout.specs.declared.judge.Judgement.TheVariants as judgement
use Rattle.uc_layout.specs.Lexeme.{IsLongest}
use Rattle.uc_layout.specs.Start.{start_at}
use Rattle.uc_layout.specs.Judgement.{judged}
use Rattle.uc_layout.specs.Tokens.{Seen, Ending, failed, moved, last_byte, Scans, at_text_end, at_fold, at_wrong, at_line_feed, at_white, at_comment, at_token, at_no_token, TokensAreUnique}

pub take_drop : (n : ℕ) (text : List ℕ) → text ≡ take n text ++ drop n text
take_drop zero text = refl
take_drop (suc n) [] = refl
take_drop (suc n) (c ∷ cs) = ap (λ x. c ∷ x) (take_drop n cs)

no_longer : (s : State) (text : List ℕ) (n m : ℕ) → IsLongest s text n → IsLongest s text m → n ≤ m
no_longer s text zero m l k = omega arith
no_longer s text (suc n) m l k =
    let h : length (take (suc n) text) ≤ m = k.longest (take (suc n) text) (drop (suc n) text) (take_drop (suc n) text) (l.accepted (omega arith)) in
    let w : suc n ≤ length text = l.within in
    omega (arith, h, w, length-take (suc n) text)

same_length : (s : State) (text : List ℕ) (n m : ℕ) → IsLongest s text n → IsLongest s text m → n ≡ m
same_length s text n m l k = omega (arith, no_longer s text n m l k, no_longer s text m n k l)

same_kind : (f : Form) (x y : List ℕ) (k j : Kind) → x ≡ y → judged f x ≡ judgement.Token k → judged f y ≡ judgement.Token j → k ≡ j
same_kind f x y k j e p q = let h : judgement.Token k ≡ judgement.Token j = sym p ∙ ap (λ z. judged f z) e ∙ q in cc

same_wrong : (f : Form) (x y : List ℕ) (w v : Wrong) → x ≡ y → judged f x ≡ judgement.Wrong w → judged f y ≡ judgement.Wrong v → w ≡ v
same_wrong f x y w v e p q = let h : judgement.Wrong w ≡ judgement.Wrong v = sym p ∙ ap (λ z. judged f z) e ∙ q in cc

not_both : (f : Form) (x y : List ℕ) (k : Kind) (w : Wrong) → x ≡ y → judged f x ≡ judgement.Token k → judged f y ≡ judgement.Wrong w → ⊥
not_both f x y k w e p q = let h : judgement.Token k ≡ judgement.Wrong w = sym p ∙ ap (λ z. judged f z) e ∙ q in cc

token_same : (p : Place) (text : List ℕ) (k j : Kind) (n m : ℕ) (x y : List Seen) → k ≡ j → n ≡ m → x ≡ y
    → (record { kind = k; text = take n text; place = p }) ∷ x ≡ (record { kind = j; text = take m text; place = p }) ∷ y
token_same p text k j n m x y e f g =
    let T : Kind → ℕ → Seen = λ a b. record { kind = a; text = take b text; place = p } in
    ap (λ a. T a n ∷ x) e ∙ ap (λ b. T j b ∷ x) f ∙ ap (λ z. T j m ∷ z) g

abbrev Same : List Seen → List Seen → Ending → Ending → Type 0
Same ts us e f = (ts ≡ us) × (e ≡ f)

-- a scan from behind some bytes
abbrev After : Place → List ℕ → List Seen → Ending → ℕ → Type 0
After p text ts e n = Scans (start_at (moved p n text).column (last_byte n text) (drop n text)) (moved p n text) (last_byte n text) (drop n text) ts e

pub one : {s : Start} {b : ℕ} (p : Place) (text : List ℕ) (ts us : List Seen) (e f : Ending) → Scans s p b text ts e → Scans s p b text us f → Same ts us e f
one p text ts us e f at_text_end at_text_end = (refl, refl)
one p text ts us e f at_fold at_fold = (refl, refl)
one p text ts us e f at_wrong at_wrong = (refl, refl)
one p text ts us e f (at_line_feed h) (at_line_feed k) = one _ _ _ _ _ _ h k
one p text ts us e f (at_white h) (at_white k) = one _ _ _ _ _ _ h k
one p text ts us e f (at_comment {n = n} l h) (at_comment {n = m} j k) =
    one _ _ _ _ _ _ h (let P : ℕ → Type 0 = After p text us f in subst P (j ∙ sym l) k)
one p text ts us e f (at_token {f = o} {k = k} {n = n} {ts = ts'} l j h) (at_token {k = k'} {n = m} {ts = us'} l' j' h') =
    let q : n ≡ m = same_length _ text n m l l' in
    let P : ℕ → Type 0 = After p text us' f in
    let r = one _ _ ts' us' e f h (subst P (sym q) h') in
    (token_same p text k k' n m ts' us' (same_kind o _ _ k k' (ap (λ x. take x text) q) j j') q r.0, r.1)
one p text ts us e f (at_token {f = o} {k = k} {n = n} l j h) (at_no_token {w = w} {n = m} l' j') =
    absurd (not_both o _ _ k w (ap (λ x. take x text) (same_length _ text n m l l')) j j')
one p text ts us e f (at_no_token {w = w} {n = m} l' j') (at_token {f = o} {k = k} {n = n} l j h) =
    absurd (not_both o _ _ k w (ap (λ x. take x text) (same_length _ text n m l l')) j j')
one p text ts us e f (at_no_token {f = o} {w = w} {n = n} l j) (at_no_token {w = v} {n = m} l' j') =
    (refl, ap (λ x. failed x p) (same_wrong o _ _ w v (ap (λ x. take x text) (same_length _ text n m l l')) j j'))

pub tokens_unique : TokensAreUnique
tokens_unique text ts us e f h k = one _ _ _ _ _ _ h k
