-- The steps of a scan.
use Rattle.std.proofs.Common.{◌≡◌, ℕ, zero, suc, ◌<◌, Bool, true, false, List, [], ◌∷◌, ◌++◌, length, take, drop, refl, ap, sym, ◌∙◌, subst, append_assoc, length-take, arith, ◌==◌, if◌then◌else◌}
use Rattle.std.proofs.lemmas.List.{append-nil}
use Rattle.uc_base.specs.declared.place.Place.{Place}
use Rattle.uc_base.specs.declared.fault.Fault.{Fault}
use Rattle.uc_layout.specs.declared.token.Kind.{Kind}
use Rattle.uc_layout.specs.declared.automaton.Form.{Form}
use Rattle.uc_layout.specs.declared.start.Wrong.{Wrong}
use Rattle.uc_layout.specs.declared.start.Wrong.TheVariants.{Bad}
use Rattle.uc_layout.specs.declared.start.Start.{Start}
use Rattle.uc_layout.specs.declared.start.Start.TheVariants as start
use Rattle.uc_layout.specs.declared.judge.Judgement.TheVariants as judgement
use Rattle.uc_layout.specs.declared.scan.Cursor.{Cursor}
use Rattle.uc_layout.specs.Lexeme.{initial, IsLongest}
use Rattle.uc_layout.specs.Start.{line_len, start_at}
use Rattle.uc_layout.specs.Judgement.{judged}
use Rattle.uc_layout.specs.Tokens.{Seen, Ending, ended, first_place, moved, last_byte, next_line, Scans, ScansFrom, IsTokenized, at_text_end, at_fold, at_wrong, at_line_feed, at_white, at_comment, at_token, at_no_token}
use Rattle.uc_layout.specs.Scan.{Completes, Refuses, fault_of, IsTokenFault}

-- a scan from here, where this begins
abbrev Begun : Start → Cursor → List Seen → Ending → Type 0
Begun s here ts e = Scans s here.place here.before here.rest.now ts e

begun : (here : Cursor) (s : Start) (ts : List Seen) (e : Ending) → start_at here.place.column here.before here.rest.now ≡ s
    → Begun s here ts e → ScansFrom here.place here.before here.rest.now ts e
begun here s ts e p h = let P : Start → Type 0 = λ x. Begun x here ts e in subst P (sym p) h

-- the next cursor is that behind some bytes
abbrev pub IsBehind : ℕ → Cursor → Cursor → Type 0
IsBehind n here next = (next.place ≡ moved here.place n here.rest.now) × (next.before ≡ last_byte n here.rest.now) × (next.rest.now ≡ drop n here.rest.now)

from_next : (next : Cursor) (p : Place) (b : ℕ) (text : List ℕ) (ts : List Seen) (e : Ending) → next.place ≡ p → next.before ≡ b → next.rest.now ≡ text
    → ScansFrom next.place next.before next.rest.now ts e → ScansFrom p b text ts e
from_next next p b text ts e x y z h =
    let P : Place → Type 0 = λ q. ScansFrom q next.before next.rest.now ts e in
    let Q : ℕ → Type 0 = λ q. ScansFrom p q next.rest.now ts e in
    let R : List ℕ → Type 0 = λ q. ScansFrom p b q ts e in
    subst R z (subst Q y (subst P x h))

-- nothing is taken
gap : (here next : Cursor) (out all : List Seen) (e : Ending)
    → ((ts : List Seen) → ScansFrom next.place next.before next.rest.now ts e → ScansFrom here.place here.before here.rest.now ts e)
    → Completes out next all e → Completes out here all e
gap here next out all e f h = record { tokens = h.tokens; whole = h.whole; scans = f h.tokens h.scans }

pub white : (here next : Cursor) (out all : List Seen) (e : Ending) → start.White ≡ start_at here.place.column here.before here.rest.now
    → IsBehind 1 here next → Completes out next all e → Completes out here all e
white here next out all e s b h =
    gap here next out all e (λ ts k. begun here _ ts e (sym s) (at_white (from_next next _ _ _ ts e b.0 b.1 b.2 k))) h

pub comment : (here next : Cursor) (n : ℕ) (out all : List Seen) (e : Ending) → start.Comment ≡ start_at here.place.column here.before here.rest.now
    → n ≡ line_len here.rest.now → IsBehind n here next → Completes out next all e → Completes out here all e
comment here next n out all e s l b h =
    gap here next out all e (λ ts k. begun here _ ts e (sym s) (at_comment l (from_next next _ _ _ ts e b.0 b.1 b.2 k))) h

pub line_feed : (here next : Cursor) (out all : List Seen) (e : Ending) → start.LineFeed ≡ start_at here.place.column here.before here.rest.now
    → (next.place ≡ next_line here.place) × (next.before ≡ 10) × (next.rest.now ≡ drop 1 here.rest.now) → Completes out next all e → Completes out here all e
line_feed here next out all e s b h =
    gap here next out all e (λ ts k. begun here _ ts e (sym s) (at_line_feed (from_next next _ _ _ ts e b.0 b.1 b.2 k))) h

pub token : (here next : Cursor) (f : Form) (k : Kind) (n : ℕ) (text : List ℕ) (out out' all : List Seen) (e : Ending)
    → start.Lexeme f ≡ start_at here.place.column here.before here.rest.now
    → IsLongest (initial f) here.rest.now n → text ≡ take n here.rest.now → judgement.Token k ≡ judged f text → IsBehind n here next
    → out' ≡ out ++ (record { kind = k; text = text; place = here.place }) ∷ [] → Completes out' next all e → Completes out here all e
token here next f k n text out out' all e s l x j b o h =
    let J : List ℕ → Type 0 = λ y. judgement.Token k ≡ judged f y in
    let t : Seen = record { kind = k; text = take n here.rest.now; place = here.place } in
    let w : text ≡ take n here.rest.now = x in
    record {
      tokens = t ∷ h.tokens;
      whole = h.whole ∙ ap (λ y. y ++ h.tokens) (o ∙ ap (λ y. out ++ (record { kind = k; text = y; place = here.place }) ∷ []) w) ∙ append_assoc out (t ∷ []) h.tokens;
      scans = begun here _ _ e (sym s) (at_token l (sym (subst J w j)) (from_next next _ _ _ h.tokens e b.0 b.1 b.2 h.scans));
    }

nothing_more : (here : Cursor) (out : List Seen) (e : Ending) → ScansFrom here.place here.before here.rest.now [] e → Completes out here out e
nothing_more here out e h = record { tokens = []; whole = sym (append-nil _); scans = h }

pub text_end : (here : Cursor) (out : List Seen) → start.TextEnd ≡ start_at here.place.column here.before here.rest.now → Completes out here out (ended here.place)
text_end here out s = nothing_more here out _ (begun here _ [] _ (sym s) at_text_end)

pub fold : (here : Cursor) (out : List Seen) → start.Fold ≡ start_at here.place.column here.before here.rest.now → Completes out here out (ended here.place)
fold here out s = nothing_more here out _ (begun here _ [] _ (sym s) at_fold)

pub wrong : (here : Cursor) (out : List Seen) (w : Wrong) (fault : Fault) → start.Wrong w ≡ start_at here.place.column here.before here.rest.now
    → fault ≡ fault_of w here.place → Refuses out here fault
wrong here out w fault s f = record { wrong = w; cause = f; completes = nothing_more here out _ (begun here _ [] _ (sym s) at_wrong) }

pub no_token : (here : Cursor) (out : List Seen) (f : Form) (w : Wrong) (n : ℕ) (text : List ℕ) (fault : Fault)
    → start.Lexeme f ≡ start_at here.place.column here.before here.rest.now → IsLongest (initial f) here.rest.now n → text ≡ take n here.rest.now
    → judgement.Wrong w ≡ judged f text → fault ≡ fault_of w here.place → Refuses out here fault
no_token here out f w n text fault s l x j c =
    let J : List ℕ → Type 0 = λ y. judgement.Wrong w ≡ judged f y in
    record { wrong = w; cause = c; completes = nothing_more here out _ (begun here _ [] _ (sym s) (at_no_token l (sym (subst J x j)))) }

-- something is left where anything but the end begins
pub left : (column before : ℕ) (text : List ℕ) → (start_at column before text ≡ start.TextEnd → ⊥) → 0 < length text
unfolding start_at
left column before [] h = absurd (h refl)
left column before (c ∷ cs) h = omega arith

-- a comment has at least one byte
pub comment_some : (column before : ℕ) (text : List ℕ) → start.Comment ≡ start_at column before text → 0 < line_len text
unfolding start_at
comment_some column before [] h = cc
comment_some column before (c ∷ cs) h = by_break (c == 10) _ refl h
  where
    by_break : (x : Bool) (s : Start) → (c == 10) ≡ x → start.Comment ≡ (if x then start.LineFeed else s) → 0 < line_len (c ∷ cs)
    by_break true s e h = cc
    by_break false s e h = rw e (simp length-take (omega arith))

-- a token has at least one byte
pub token_some : (f : Form) (k : Kind) (n : ℕ) (text rest : List ℕ) → text ≡ take n rest → judgement.Token k ≡ judged f text → 0 < n
unfolding judged
token_some f k zero text rest x h = let e : text ≡ [] = x in let J : List ℕ → Type 0 = λ y. judgement.Token k ≡ judged f y in differ (subst J e h)
  where
    differ : judgement.Token k ≡ judgement.Wrong Bad → 0 < zero
    differ p = cc
token_some f k (suc n) text rest x h = omega arith

-- where a whole text is scanned
pub whole : (text : List ℕ) (here : Cursor) (all : List Seen) (e : Ending) → here.place ≡ first_place → here.before ≡ 10 → here.rest.now ≡ text
    → Completes [] here all e → IsTokenized text all e
whole text here all e x y z h =
    let P : List Seen → Type 0 = λ a. IsTokenized text a e in subst P (sym h.whole) (from_next here _ _ _ h.tokens e x y z h.scans)

pub refused : (text : List ℕ) (out : List Seen) (here : Cursor) (fault : Fault) → ((all : List Seen) (e : Ending) → Completes out here all e → IsTokenized text all e)
    → Refuses out here fault → IsTokenFault text fault
refused text out here fault f h = record { tokens = out; wrong = h.wrong; place = here.place; cause = h.cause; scanned = f out _ h.completes }
