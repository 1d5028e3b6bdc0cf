-- Where a text nests nowhere too deep, an item that has a reading has enough levels for its readers.
use Rattle.std.proofs.Common.{◌≡◌, ℕ, zero, suc, ◌+◌, ◌<◌, ◌≤◌, Bool, true, false, not, ◌&&◌, ◌==◌, List, [], ◌∷◌, ◌++◌, length, refl, subst, sym, ap, ◌∙◌, arith, tests}
use Rattle.std.proofs.lemmas.Bool.{true≢false}
use Rattle.std.specs.Prelude.{Option, None, if◌then◌else◌}
use Rattle.std.specs.Option.{option_or, option_map_or}
use Rattle.uc_base.specs.declared.place.Place.{Place}
use Rattle.uc_layout.specs.Tokens.{Seen}
use Rattle.uc_scratch.specs.declared.nesting.Open.{Open}
use Rattle.uc_scratch.specs.declared.nesting.Open.TheVariants.{Bracket, Block}
use Rattle.uc_scratch.specs.declared.nesting.Nests.{Nests}
use Rattle.uc_scratch.specs.declared.nesting.Nests.TheVariants.{OpensBracket, ClosesBracket, OpensBlock, ClosesBlock, Neither}
use Rattle.uc_scratch.specs.declared.terminal.Terminal.{Terminal}
use Rattle.uc_scratch.specs.declared.terminal.Terminal.TheVariants.{Opens, Closes}
use Rattle.uc_scratch.specs.Files.{Item}
use Rattle.uc_scratch.specs.Terminals.{terminal_of, terminals_of}
use Rattle.uc_scratch.specs.ItemGrammar.{ReadsItem}
use Rattle.uc_scratch.specs.Nesting.{nests_of, behind_block, behind_bracket, open_behind, opened_place, too_deep_from, levels_behind, fits}
use Rattle.uc_scratch.specs.Rooms.{opens, has_room, HasRoom}
use Rattle.uc_scratch.proofs.Closed.{Closed, closed_end, closed_past, closed_around, closed_inside, closed_item}

both : (a b : Bool) → (a && b) ≡ true → (a ≡ true) × (b ≡ true)
both true true e = (refl, refl)
both true false e = cc
both false b e = cc

-- what holds behind a token that nests so
room_behind : (os : List Open) (t : Terminal) (ts : List Terminal) (n : Nests) → nests_of t ≡ n → has_room os (t ∷ ts) ≡ true
    → (not (length os == 128 && opens n) ≡ true) × (has_room (open_behind n os) ts ≡ true)
room_behind os t ts n e r =
    let P : Nests → Type 0 = λ z. (not (length os == 128 && opens z) ≡ true) × (has_room (open_behind z os) ts ≡ true) in
    subst P e (both _ _ r)

one_more : (n : ℕ) → n ≤ 128 → not (n == 128 && true) ≡ true → n < 128
one_more n p q = search (tests, arith)

fits_past : (n : ℕ) (t : Terminal) (ts : List Terminal) → nests_of t ≡ Neither → fits n ts ≡ true → fits n (t ∷ ts) ≡ true
fits_past n t ts e f = ap (λ z. option_map_or (λ m. fits m ts) (levels_behind n z) false) e ∙ f

fits_opened : (n : ℕ) (t : Terminal) (ts : List Terminal) → nests_of t ≡ OpensBracket → fits n ts ≡ true → fits (suc n) (t ∷ ts) ≡ true
fits_opened n t ts e f = ap (λ z. option_map_or (λ m. fits m ts) (levels_behind (suc n) z) false) e ∙ f

fits_closed : (n : ℕ) (t : Terminal) (ts : List Terminal) → nests_of t ≡ ClosesBracket → fits (suc n) ts ≡ true → fits n (t ∷ ts) ≡ true
fits_closed n t ts e f = ap (λ z. option_map_or (λ m. fits m ts) (levels_behind n z) false) e ∙ f

-- what is open before tokens that are closed up to others is open behind them, and there are enough levels for them
record Passed (os : List Open) (ts us : List Terminal) : Type 0 where
  room : has_room os us ≡ true
  enough : (n : ℕ) → 128 ≤ length os + n → fits n us ≡ true → fits n ts ≡ true

pass : {ts us : List Terminal} (os : List Open) → Closed ts us → length os ≤ 128 → has_room os ts ≡ true → Passed os ts us
pass os closed_end p r = record { room = r; enough = λ n q f. f }
pass os (closed_past {t = t} {ts = ts} e i) p r =
    let x = pass os i p ((room_behind os t ts Neither e r).1) in record { room = x.room; enough = λ n q f. fits_past n t ts e (x.enough n q f) }
pass os (closed_around {t = t} {u = u} {ts = ts} {us = us} e f i j) p r =
    let a = room_behind os t ts OpensBracket e r in
    let b = one_more (length os) p a.0 in
    let x = pass (Bracket ∷ os) i (omega arith) a.1 in
    let c = room_behind (Bracket ∷ os) u us ClosesBracket f x.room in
    let y = pass os j p c.1 in record { room = y.room; enough = λ n q g. around n t u ts us e f (length os) b q (y.enough n q g) x.enough }
  where
    around : (n : ℕ) (t u : Terminal) (ts us : List Terminal) → nests_of t ≡ OpensBracket → nests_of u ≡ ClosesBracket → (l : ℕ) → l < 128 → 128 ≤ l + n → fits n us ≡ true
        → ((m : ℕ) → 128 ≤ suc l + m → fits m (u ∷ us) ≡ true → fits m ts ≡ true) → fits n (t ∷ ts) ≡ true
    around zero t u ts us e f l b q g h = absurd (omega arith)
    around (suc n) t u ts us e f l b q g h = fits_opened n t ts e (h n (omega arith) (fits_closed n u us f g))
pass os (closed_inside {ts = ts} {us = us} i j) p r =
    let a = both _ _ r in
    let b = one_more (length os) p a.0 in
    let x = pass (Block ∷ os) i (omega arith) a.1 in
    let y = pass os j p ((both _ _ x.room).1) in record { room = y.room; enough = λ n q g. inside n ts us (length os) b q (y.enough n q g) x.enough }
  where
    inside : (n : ℕ) (ts us : List Terminal) (l : ℕ) → l < 128 → 128 ≤ l + n → fits n us ≡ true
        → ((m : ℕ) → 128 ≤ suc l + m → fits m (Closes ∷ us) ≡ true → fits m ts ≡ true) → fits n (Opens ∷ ts) ≡ true
    inside zero ts us l b q g h = absurd (omega arith)
    inside (suc n) ts us l b q g h = h n (omega arith) g

-- an item that has a reading fits
pub item_fits : (ts : List Terminal) (i : Item) → HasRoom ts → ReadsItem ts i → fits 128 ts ≡ true
item_fits ts i h k = (pass h.levels (closed_item k) h.few h.room).enough 128 (omega arith) refl

-- an item that has room and doesn't fit has no reading
pub no_reading : (ts us : List Terminal) → us ≡ ts → HasRoom ts → fits 128 us ≡ false → (i : Item) → ReadsItem ts i → ⊥
no_reading ts us e h f i r = true≢false (sym (item_fits ts i h r) ∙ sym (ap (fits 128) e) ∙ f)

-- where nothing is too deep, there is room

found_none : (b : Bool) (n : Nests) (p q : Place) (rest : Option Place) → option_or (if b then opened_place p q n else None) rest ≡ None → (not (b && opens n) ≡ true) × (rest ≡ None)
found_none true OpensBracket p q rest e = cc
found_none true OpensBlock p q rest e = cc
found_none true ClosesBracket p q rest e = (refl, e)
found_none true ClosesBlock p q rest e = (refl, e)
found_none true Neither p q rest e = (refl, e)
found_none false n p q rest e = (refl, e)

and_true : (a b : Bool) → a ≡ true → b ≡ true → (a && b) ≡ true
and_true a b e f = cc

room_of : (before : Place) (os : List Open) (ts : List Seen) → too_deep_from before os ts ≡ None → has_room os (terminals_of ts) ≡ true
room_of before os [] e = refl
room_of before os (t ∷ ts) e =
    let x = found_none (length os == 128) (nests_of (terminal_of t)) before t.place (too_deep_from t.place (open_behind (nests_of (terminal_of t)) os) ts) e in
    and_true _ _ x.0 (room_of t.place _ ts x.1)

pub text_has_room : (ts : List Seen) → too_deep_from (record { line = 1; column = 1 }) [] ts ≡ None → HasRoom (terminals_of ts)
text_has_room ts e = record { levels = []; few = omega arith; room = room_of _ [] ts e }

-- what is open behind a token stays within the bound
few_behind : (os : List Open) (n : Nests) → length os ≤ 128 → not (length os == 128 && opens n) ≡ true → length (open_behind n os) ≤ 128
few_behind os OpensBracket p q = let b = one_more (length os) p q in omega arith
few_behind os OpensBlock p q = let b = one_more (length os) p q in omega arith
few_behind os ClosesBracket p q = omega (arith, less_behind os)
  where
    less_behind : (os : List Open) → length (behind_bracket os) ≤ length os
    less_behind [] = omega arith
    less_behind (Bracket ∷ os) = omega arith
    less_behind (Block ∷ os) = omega arith
few_behind os ClosesBlock p q = omega (arith, less_behind os)
  where
    less_behind : (os : List Open) → length (behind_block os) ≤ length os
    less_behind [] = omega arith
    less_behind (Bracket ∷ os) = omega (arith, less_behind os)
    less_behind (Block ∷ os) = omega arith
few_behind os Neither p q = p

-- the tokens up to a place and those behind it both have room
first_room : (os : List Open) (ts us : List Terminal) → has_room os (ts ++ us) ≡ true → has_room os ts ≡ true
first_room os [] us r = refl
first_room os (t ∷ ts) us r = let x = both _ _ r in and_true _ _ x.0 (first_room (open_behind (nests_of t) os) ts us x.1)

rest_room : (os : List Open) (ts us : List Terminal) → length os ≤ 128 → has_room os (ts ++ us) ≡ true → HasRoom us
rest_room os [] us p r = record { levels = os; few = p; room = r }
rest_room os (t ∷ ts) us p r = let x = both _ _ r in rest_room (open_behind (nests_of t) os) ts us (few_behind os (nests_of t) p x.0) x.1

pub room_first : (ts us : List Terminal) → HasRoom (ts ++ us) → HasRoom ts
room_first ts us h = record { levels = h.levels; few = h.few; room = first_room h.levels ts us h.room }

pub room_rest : (ts us : List Terminal) → HasRoom (ts ++ us) → HasRoom us
room_rest ts us h = rest_room h.levels ts us h.few h.room

-- as many levels as tokens are enough
enough_behind : (n : ℕ) (x : Nests) (ts : List Terminal) → ((m : ℕ) → length ts ≤ m → fits m ts ≡ true) → length ts < n → option_map_or (λ m. fits m ts) (levels_behind n x) false ≡ true
enough_behind zero x ts f h = absurd (omega arith)
enough_behind (suc n) OpensBracket ts f h = f n (omega arith)
enough_behind (suc n) OpensBlock ts f h = f n (omega arith)
enough_behind (suc n) ClosesBracket ts f h = f (suc (suc n)) (omega arith)
enough_behind (suc n) ClosesBlock ts f h = f (suc (suc n)) (omega arith)
enough_behind (suc n) Neither ts f h = f (suc n) (omega arith)

pub fits_enough : (n : ℕ) (ts : List Terminal) → length ts ≤ n → fits n ts ≡ true
fits_enough n [] h = refl
fits_enough n (t ∷ ts) h = enough_behind n (nests_of t) ts (λ m k. fits_enough m ts k) (omega arith)
