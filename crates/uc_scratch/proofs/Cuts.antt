-- How a walk over the tokens of a text cuts off its first item.
use Rattle.std.proofs.Common.{◌≡◌, ℕ, zero, suc, ◌+◌, ◌<◌, ◌≤◌, Bool, ◌==◌, ◌||◌, true, false, List, [], ◌∷◌, ◌++◌, length, get_or, take, drop, refl, sym, ap, ◌∙◌, arith, tests}
use Rattle.std.proofs.lemmas.Bool.{true≢false}
use Rattle.std.proofs.lemmas.List.{take_more, drop_more}
use Rattle.uc_layout.specs.declared.token.Kind.{Kind}
use Rattle.uc_layout.specs.declared.token.Kind.TheVariants as kind
use Rattle.uc_layout.specs.declared.token.Token.{Token}
use Rattle.uc_layout.specs.Tokens.{Seen, seen_one, seen}
use Rattle.uc_scratch.specs.ItemGrammar.{blocks_behind, begins_item, with_token, cut_from, items_among}

-- what is neither the begin nor the end of a block leaves the count of blocks
pub same_blocks : (n : ℕ) (k : Kind) → (k ≡ kind.Opens → ⊥) → (k ≡ kind.Closes → ⊥) → n ≡ blocks_behind n k
same_blocks n kind.Opens o c = absurd (o refl)
same_blocks n kind.Closes o c = absurd (c refl)
same_blocks n _ o c = refl

-- tokens before the first of some lists
abbrev pub with_tokens : List Seen → List (List Seen) → List (List Seen)
with_tokens [] tss = tss
with_tokens (t ∷ ts) tss = with_token t (with_tokens ts tss)

one_more : (ts : List Seen) (t : Seen) (tss : List (List Seen)) → with_tokens (ts ++ t ∷ []) tss ≡ with_tokens ts (with_token t tss)
one_more [] t tss = refl
one_more (u ∷ ts) t tss = ap (with_token u) (one_more ts t tss)

to_the_first : (ts us : List Seen) (tss : List (List Seen)) → with_tokens ts (us ∷ tss) ≡ (ts ++ us) ∷ tss
to_the_first [] us tss = refl
to_the_first (t ∷ ts) us tss = ap (with_token t) (to_the_first ts us tss)

-- an item begins where no block is open
no_block : (n : ℕ) (ts : List Seen) → begins_item n ts ≡ true → n ≡ 0
no_block zero ts e = refl
no_block (suc n) [] e = cc
no_block (suc n) (t ∷ ts) e = cc

seen_more : (ts us : List Token) → seen (ts ++ us) ≡ seen ts ++ seen us
seen_more [] us = refl
seen_more (t ∷ ts) us = ap (λ l. seen_one t ∷ l) (seen_more ts us)

-- Behind some tokens so many blocks are open, and no item has begun but the first.
pub record Passed (tokens : List Token) (i blocks : ℕ) : Type 0 where
  pub bound : blocks ≤ i
  pub cut : cut_from 0 (seen tokens) ≡ with_tokens (seen (take i tokens)) (cut_from blocks (seen (drop i tokens)))
  pub unended : length (drop i tokens) ≡ 0 → tokens ≡ []

none_left : (tokens : List Token) → length tokens ≡ 0 → tokens ≡ []
none_left [] e = refl
none_left (t ∷ ts) e = absurd (omega arith)

one_step : (n : ℕ) (t : Seen) (ts : List Seen) → begins_item (blocks_behind n t.kind) ts ≡ false → cut_from n (t ∷ ts) ≡ with_token t (cut_from (blocks_behind n t.kind) ts)
one_step n t ts e = rw e refl

last_step : (n : ℕ) (t : Seen) (ts : List Seen) → begins_item (blocks_behind n t.kind) ts ≡ true → cut_from n (t ∷ ts) ≡ (t ∷ []) ∷ cut_from 0 ts
last_step n t ts e = rw e (ap (λ m. (t ∷ []) ∷ cut_from m ts) (no_block (blocks_behind n t.kind) ts e))

blocks_bound : (n : ℕ) (k : Kind) → blocks_behind n k ≤ n + 1
blocks_bound n kind.Opens = omega arith
blocks_bound n kind.Closes = omega arith
blocks_bound n _ = omega arith

-- the token at a place of a list
pub record IsAt (tokens : List Token) (i : ℕ) (t : Token) : Type 0 where
  pub rest : drop i tokens ≡ t ∷ drop (i + 1) tokens
  pub front : take (i + 1) tokens ≡ take i tokens ++ t ∷ []

begins_none : (x y : Bool) → (x || y) ≡ false → y ≡ false
begins_none true y e = cc
begins_none false y e = e

begins_at_end : (n : ℕ) (y : Bool) → n ≡ 0 → (n == 0 || y) ≡ true
begins_at_end n y z = rw z refl

-- a token that ends no item
one_passed : (tokens : List Token) (i : ℕ) (t : Token) (n : ℕ) → IsAt tokens i t
    → (length (drop (i + 1) tokens) == 0 || begins_item (blocks_behind n t.kind) (seen (drop (i + 1) tokens))) ≡ false
    → Passed tokens i n → Passed tokens (i + 1) (blocks_behind n t.kind)
one_passed tokens i t n a e p = record {
  bound = omega (arith, p.bound, blocks_bound n t.kind);
  cut = p.cut ∙ ap (λ l. with_tokens (seen (take i tokens)) (cut_from n (seen l))) a.rest
      ∙ ap (with_tokens (seen (take i tokens))) (one_step n (seen_one t) (seen (drop (i + 1) tokens)) (begins_none _ _ e))
      ∙ sym (one_more (seen (take i tokens)) (seen_one t) _)
      ∙ ap (λ l. with_tokens l (cut_from (blocks_behind n t.kind) (seen (drop (i + 1) tokens)))) (sym (seen_more (take i tokens) (t ∷ [])) ∙ ap seen (sym a.front));
  unended = λ z. absurd (true≢false (sym (begins_at_end _ _ z) ∙ e));
}

not_empty : (u : Token) (ts : List Token) (y : Bool) → (length (u ∷ ts) == 0 || y) ≡ y
not_empty u ts y = grind (arith, tests)

either_step : (n : ℕ) (t : Seen) (ts : List Token) → (length ts == 0 || begins_item (blocks_behind n t.kind) (seen ts)) ≡ true → cut_from n (t ∷ seen ts) ≡ (t ∷ []) ∷ items_among (seen ts)
either_step n t [] e = refl
either_step n t (u ∷ ts) e = last_step n t (seen (u ∷ ts)) (sym (not_empty u ts _) ∙ e)

-- a token behind which an item begins, or nothing stands
first_cut : (tokens : List Token) (i : ℕ) (t : Token) (n : ℕ) → IsAt tokens i t
    → (length (drop (i + 1) tokens) == 0 || begins_item (blocks_behind n t.kind) (seen (drop (i + 1) tokens))) ≡ true
    → Passed tokens i n → items_among (seen tokens) ≡ seen (take (i + 1) tokens) ∷ items_among (seen (drop (i + 1) tokens))
first_cut tokens i t n a e p =
    p.cut ∙ ap (λ l. with_tokens (seen (take i tokens)) (cut_from n (seen l))) a.rest
    ∙ ap (with_tokens (seen (take i tokens))) (either_step n (seen_one t) (drop (i + 1) tokens) e)
    ∙ to_the_first (seen (take i tokens)) (seen_one t ∷ []) _
    ∙ ap (λ l. l ∷ items_among (seen (drop (i + 1) tokens))) (sym (seen_more (take i tokens) (t ∷ [])) ∙ ap seen (sym a.front))

is_at : (tokens : List Token) (i : ℕ) (d : Token) → i < length tokens → IsAt tokens i (get_or tokens i d)
is_at tokens i d h = record { rest = drop_more tokens i d h; front = take_more tokens i d h }

-- how an iteration goes on, and how it ends the walk, by what its calls gave
pub goes_on : (tokens after : List Token) (i n m : ℕ) (d : Token) → i < length tokens → m ≡ blocks_behind n (get_or tokens i d).kind
    → after ≡ drop (i + 1) tokens → (length after == 0 || begins_item m (seen after)) ≡ false → Passed tokens i n → Passed tokens (i + 1) m
goes_on tokens after i n m d h e f b p =
    rw e (one_passed tokens i (get_or tokens i d) n (is_at tokens i d h)
    (sym (ap (λ l. length l == 0 || begins_item m (seen l)) f ∙ ap (λ k. length (drop (i + 1) tokens) == 0 || begins_item k (seen (drop (i + 1) tokens))) e) ∙ b) p)

pub ends : (tokens item after : List Token) (i n m : ℕ) (d : Token) → i < length tokens → m ≡ blocks_behind n (get_or tokens i d).kind
    → item ≡ take (i + 1) tokens → after ≡ drop (i + 1) tokens → (length after == 0 || begins_item m (seen after)) ≡ true → Passed tokens i n
    → items_among (seen tokens) ≡ seen item ∷ items_among (seen after)
ends tokens item after i n m d h e k f b p =
    first_cut tokens i (get_or tokens i d) n (is_at tokens i d h)
    (sym (ap (λ l. length l == 0 || begins_item m (seen l)) f ∙ ap (λ k. length (drop (i + 1) tokens) == 0 || begins_item k (seen (drop (i + 1) tokens))) e) ∙ b) p
    ∙ ap (λ l. seen l ∷ items_among (seen (drop (i + 1) tokens))) (sym k) ∙ ap (λ l. seen item ∷ items_among (seen l)) (sym f)
