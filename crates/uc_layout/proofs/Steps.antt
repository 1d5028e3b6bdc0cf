-- What each step of the layout leaves to mark.
use Rattle.std.proofs.Common.{◌≡◌, ◌<◌, Bool, true, false, List, [], ◌∷◌, ◌++◌, length, ◌&&◌, not, refl, subst, sym, ap, ◌∙◌, append_assoc, arith, if◌then◌else◌}
use Rattle.std.proofs.lemmas.List.{append-nil}
use Rattle.uc_layout.specs.declared.piece.Role.{Role}
use Rattle.uc_layout.specs.declared.piece.Role.TheVariants.{Left}
use Rattle.uc_layout.specs.declared.piece.Piece.{Piece}
use Rattle.uc_layout.specs.declared.piece.Mark.{Mark}
use Rattle.uc_layout.specs.declared.piece.Mark.TheVariants.{Opens, Closes, Item, Token}
use Rattle.uc_layout.specs.declared.piece.Container.{Container}
use Rattle.uc_layout.specs.declared.piece.Container.TheVariants.{File, Bracket, Block, Inline}
use Rattle.uc_layout.specs.declared.piece.Region.{Region}
use Rattle.uc_layout.specs.Layout.{Act, Move, stop, item, take, word, bracket, hollow, block, move, first_move, act_of, taken, opens, block_before, ends_at, begins_at, at_start, behind, inside_bracket, the_file, Runs, at_end, at_item, at_word, at_bracket, at_open_bracket, at_hollow, at_block, LaysPieces}
use Rattle.uc_layout.specs.Run.{innermost, outer, is_block, is_left, ends_a_block, Around, around_file, around_block, around_bracket, around_open, Ahead, Completes, Leads, next_move, Opened, opened_hollow, opened_block}

differ : {A : Type 0} (b : Bool) → b ≡ true → b ≡ false → A
differ b p q = absurd (let h : true ≡ false = sym p ∙ q in cc)

-- more marks are there, and the rest of the marks begins so
after_marks : (out pre : List Mark) (m m' : Move) (rs rs' : List Region) (ts ts' : List Piece) (all : List Mark)
    → ((ms : List Mark) → Ahead m' rs' ts' ms → Ahead m rs ts (pre ++ ms))
    → Completes (out ++ pre) m' rs' ts' all → Completes out m rs ts all
after_marks out pre m m' rs rs' ts ts' all f h = record {
  marks = pre ++ h.marks;
  whole = h.whole ∙ append_assoc out pre h.marks;
  ahead = f h.marks h.ahead;
}

with_move : (m m' : Move) (rs : List Region) (ts : List Piece) (out all : List Mark) → m ≡ m' → Completes out m' rs ts all → Completes out m rs ts all
with_move m m' rs ts out all e h = let P : Move → Type 0 = λ x. Completes out x rs ts all in subst P (sym e) h

with_out : (out out' : List Mark) (m : Move) (rs : List Region) (ts : List Piece) (all : List Mark) → out ≡ out' → Completes out m rs ts all → Completes out' m rs ts all
with_out out out' m rs ts all e h = let P : List Mark → Type 0 = λ x. Completes x m rs ts all in subst P e h

with_next : (fresh : Bool) (out : List Mark) (rs rs' : List Region) (ts : List Piece) (all : List Mark) → rs ≡ rs'
    → Completes out (next_move fresh (innermost rs) ts) rs ts all → Completes out (next_move fresh (innermost rs') ts) rs' ts all
with_next fresh out rs rs' ts all e h = let P : List Region → Type 0 = λ x. Completes out (next_move fresh (innermost x) ts) x ts all in subst P e h

stop_move : (r : Region) (t : Piece) (ts : List Piece) → ends_at r.container r t ≡ true → move r (t ∷ ts) ≡ stop
stop_move r t ts h = rw h refl

-- the innermost region in another state

top_around : (rs : List Region) (s : Region) (us : List Piece) (ns : List Mark) → s.container ≡ (innermost rs).container → Around (s ∷ outer rs) us ns → Around rs us ns
top_around [] s us ns e (around_block k r a) = differ _ k (ap is_block e)
top_around [] s us ns e (around_bracket k r a) = absurd (let h : Bracket ≡ File = sym k ∙ e in cc)
top_around [] s us ns e (around_open k around_file) = around_file
top_around (r ∷ rs) s us ns e (around_block k h a) = around_block (ap is_block (sym e) ∙ k) h a
top_around (r ∷ rs) s us ns e (around_bracket k h a) = around_bracket (sym e ∙ k) h a
top_around (r ∷ rs) s us ns e (around_open k a) = around_open (ap is_block (sym e) ∙ k) a

-- ends of regions

end_block : (r : Region) (rs : List Region) (ts : List Piece) (ms : List Mark) → is_block r.container ≡ true → Ahead (move (innermost rs) ts) rs ts ms → Ahead stop (r ∷ rs) ts (Closes ∷ ms)
end_block r rs ts ms k h = record { us = ts; ns = Closes ∷ ms; runs = at_end; around = around_block k h.runs h.around }

end_bracket : (r : Region) (t : Piece) (rs : List Region) (ts : List Piece) (ms : List Mark) → r.container ≡ Bracket → Ahead (move (innermost rs) ts) rs ts ms → Ahead stop (r ∷ rs) (t ∷ ts) (Token t ∷ ms)
end_bracket r t rs ts ms k h = record { us = t ∷ ts; ns = Token t ∷ ms; runs = at_end; around = around_bracket k h.runs h.around }

block_and_end : (b e : Bool) → b && e ≡ true → (b ≡ true) × (e ≡ true)
block_and_end true true h = (refl, refl)
block_and_end true false h = cc
block_and_end false e h = cc

pub block_ends : (out : List Mark) (rs : List Region) (t : Piece) → ends_a_block (innermost rs) t ≡ true → Leads out rs (out ++ Closes ∷ []) (outer rs) t
block_ends out [] t e ts all h = cc
block_ends out (r ∷ rs) t e ts all h =
    let p = block_and_end _ _ e in
    with_move _ _ _ _ _ _ (stop_move r t ts p.1) (after_marks out (Closes ∷ []) stop _ _ rs _ _ all (λ ms a. end_block r rs (t ∷ ts) ms p.0 a) h)

-- what ends and is no block is a bracket
bracket_is : (r : Region) (t : Piece) → ends_a_block r t ≡ false → ends_at r.container r t ≡ true → r.container ≡ Bracket
bracket_is r t n e = by_container r.container refl n e
  where
    by_container : (p : Container) → r.container ≡ p → is_block p && ends_at p r t ≡ false → ends_at p r t ≡ true → r.container ≡ Bracket
    by_container File i n e = cc
    by_container Bracket i n e = i
    by_container Block i n e = differ _ e n
    by_container Inline i n e = differ _ e n

pub bracket_ends : (out : List Mark) (rs : List Region) (t : Piece) (ts : List Piece) (all : List Mark)
    → ends_a_block (innermost rs) t ≡ false → ends_at (innermost rs).container (innermost rs) t ≡ true
    → Completes (out ++ Token t ∷ []) (move (innermost (outer rs)) ts) (outer rs) ts all
    → Completes out (move (innermost rs) (t ∷ ts)) rs (t ∷ ts) all
bracket_ends out [] t ts all n e h = cc
bracket_ends out (r ∷ rs) t ts all n e h =
    let k = bracket_is r t n e in
    with_move _ _ _ _ _ _ (stop_move r t ts e) (after_marks out (Token t ∷ []) stop _ _ rs _ _ all (λ ms a. end_bracket r t rs ts ms k a) h)

-- a word

word_taken : (rs : List Region) (s : Region) (t : Piece) (ts : List Piece) (ms : List Mark) → s ≡ behind (innermost rs) t.role
    → Ahead (move s ts) (s ∷ outer rs) ts ms → Ahead (take word) rs (t ∷ ts) (Token t ∷ ms)
word_taken rs s t ts ms e h =
    let P : Region → Type 0 = λ x. Runs (move x ts) x ts ms h.us h.ns in
    record { us = h.us; ns = h.ns; runs = at_word (subst P e h.runs); around = top_around rs s _ _ (ap (λ x. x.container) e) h.around }

-- a bracket

bracket_around : (b : Region) (rs : List Region) (t : Piece) (ts us : List Piece) (ms ns : List Mark) → b ≡ inside_bracket (innermost rs)
    → Runs (move b ts) b ts ms us ns → Around (b ∷ rs) us ns → Ahead (take bracket) rs (t ∷ ts) (Token t ∷ ms)
bracket_around b rs t ts us ms ns e h (around_block k r a) = differ _ k (ap (λ x. is_block x.container) e)
bracket_around b rs t ts us ms ns e h (around_bracket k r a) =
    let P : Region → Type 0 = λ x. Runs (move x ts) x ts ms us ns in
    record { us = _; ns = _; runs = at_bracket (subst P e h) r; around = a }
bracket_around b rs t ts us ms ns e h (around_open k a) =
    let P : Region → Type 0 = λ x. Runs (move x ts) x ts ms us ns in
    record { us = _; ns = _; runs = at_open_bracket (subst P e h); around = a }

bracket_taken : (b : Region) (rs : List Region) (t : Piece) (ts : List Piece) (ms : List Mark) → b ≡ inside_bracket (innermost rs)
    → Ahead (move b ts) (b ∷ rs) ts ms → Ahead (take bracket) rs (t ∷ ts) (Token t ∷ ms)
bracket_taken b rs t ts ms e h = bracket_around b rs t ts _ ms _ e h.runs h.around

-- an opener

hollow_taken : (rs : List Region) (s : Region) (t : Piece) (ts : List Piece) (ms : List Mark) → s ≡ behind (innermost rs) t.role
    → Ahead (move s ts) (s ∷ outer rs) ts ms → Ahead (take hollow) rs (t ∷ ts) (Token t ∷ Opens ∷ Closes ∷ ms)
hollow_taken rs s t ts ms e h =
    let P : Region → Type 0 = λ x. Runs (move x ts) x ts ms h.us h.ns in
    record { us = h.us; ns = h.ns; runs = at_hollow (subst P e h.runs); around = top_around rs s _ _ (ap (λ x. x.container) e) h.around }

block_around : (s b : Region) (rs : List Region) (t : Piece) (ts us : List Piece) (ms ns : List Mark) → b ≡ behind (innermost rs) t.role → is_block s.container ≡ true
    → Runs (first_move s ts) s ts ms us ns → Around (s ∷ b ∷ outer rs) us ns → Ahead (take (block s)) rs (t ∷ ts) (Token t ∷ Opens ∷ ms)
block_around s b rs t ts us ms ns e k h (around_block {us = us'} {ms = ms'} {ns = ns'} j r a) =
    let P : Region → Type 0 = λ x. Runs (move x us) x us ms' us' ns' in
    record { us = us'; ns = ns'; runs = at_block h (subst P e r); around = top_around rs b _ _ (ap (λ x. x.container) e) a }
block_around s b rs t ts us ms ns e k h (around_bracket j r a) = differ _ k (ap is_block j)
block_around s b rs t ts us ms ns e k h (around_open j a) = differ _ k j

block_taken : (s b : Region) (rs : List Region) (t : Piece) (ts : List Piece) (ms : List Mark) → b ≡ behind (innermost rs) t.role → is_block s.container ≡ true
    → Ahead (first_move s ts) (s ∷ b ∷ outer rs) ts ms → Ahead (take (block s)) rs (t ∷ ts) (Token t ∷ Opens ∷ ms)
block_taken s b rs t ts ms e k h = block_around s b rs t ts _ ms _ e k h.runs h.around

-- an item

item_taken : (a : Act) (s : Region) (rs : List Region) (t : Piece) (ts : List Piece) (ms : List Mark) → s ≡ at_start (innermost rs) t.role
    → Ahead (take a) (s ∷ outer rs) (t ∷ ts) ms → Ahead (item a) rs (t ∷ ts) (Item ∷ ms)
item_taken a s rs t ts ms e h =
    let P : Region → Type 0 = λ x. Runs (take a) x (t ∷ ts) ms h.us h.ns in
    record { us = h.us; ns = h.ns; runs = at_item (subst P e h.runs); around = top_around rs s _ _ (ap (λ x. x.container) e) h.around }

-- what a token does

act_is : (r : Region) (after : List Piece) (k : Role) → is_left k ≡ false → act_of r after k ≡ (if opens k && not r.types then block_before r after else word)
act_is r after Left h = cc
act_is r after k h = refl

left_act : (r : Region) (after : List Piece) (k : Role) → is_left k ≡ true → act_of r after k ≡ bracket
left_act r after Left h = refl
left_act r after k h = cc

two : (out : List Mark) (x y : Mark) → (out ++ x ∷ []) ++ y ∷ [] ≡ out ++ x ∷ y ∷ []
two out x y = simp append_assoc

three : (out : List Mark) (x y z : Mark) → (out ++ x ∷ []) ++ y ∷ z ∷ [] ≡ out ++ x ∷ y ∷ z ∷ []
three out x y z = simp append_assoc

-- the same, as the code has it: each list by an equation

pub left_step : (out o1 : List Mark) (r b : Region) (rs rs' : List Region) (t : Piece) (ts : List Piece) (all : List Mark)
    → r ≡ innermost rs → is_left t.role ≡ true → o1 ≡ out ++ Token t ∷ [] → b ≡ inside_bracket r → rs' ≡ b ∷ rs
    → Completes o1 (move (innermost rs') ts) rs' ts all → Completes out (take (taken (innermost rs) ts t.role)) rs (t ∷ ts) all
left_step out o1 r b rs rs' t ts all i k eo eb er h =
    let c : b ≡ inside_bracket (innermost rs) = eb ∙ ap inside_bracket i in
    with_move _ _ _ _ _ _ (ap take (left_act (behind (innermost rs) t.role) ts t.role k))
    (after_marks out (Token t ∷ []) (take bracket) (move b ts) rs (b ∷ rs) _ _ all (λ ms a. bracket_taken b rs t ts ms c a)
    (with_out _ _ _ _ _ _ eo (with_next false _ _ _ _ _ er h)))

pub word_step : (out o1 : List Mark) (r s : Region) (rs rs' : List Region) (t : Piece) (ts : List Piece) (all : List Mark)
    → r ≡ innermost rs → is_left t.role ≡ false → o1 ≡ out ++ Token t ∷ [] → s ≡ behind r t.role → rs' ≡ s ∷ outer rs → opens t.role && not s.types ≡ false
    → Completes o1 (move (innermost rs') ts) rs' ts all → Completes out (take (taken (innermost rs) ts t.role)) rs (t ∷ ts) all
word_step out o1 r s rs rs' t ts all i k eo es er n h =
    let c : s ≡ behind (innermost rs) t.role = es ∙ ap (λ x. behind x t.role) i in
    let P : Bool → Type 0 = λ b. (if b then block_before (behind (innermost rs) t.role) ts else word) ≡ word in
    let w : opens t.role && not (behind (innermost rs) t.role).types ≡ false = ap (λ x. opens t.role && not x.types) (sym c) ∙ n in
    with_move _ _ _ _ _ _ (ap take (act_is (behind (innermost rs) t.role) ts t.role k ∙ subst P (sym w) refl))
    (after_marks out (Token t ∷ []) (take word) (move s ts) rs (s ∷ outer rs) _ _ all (λ ms a. word_taken rs s t ts ms c a)
    (with_out _ _ _ _ _ _ eo (with_next false _ _ _ _ _ er h)))

opened_step : (out : List Mark) (s : Region) (rs : List Region) (t : Piece) (ts : List Piece) (act : Act) (all : List Mark) → s ≡ behind (innermost rs) t.role
    → Opened (out ++ Token t ∷ []) act (s ∷ outer rs) ts all → Completes out (take act) rs (t ∷ ts) all
opened_step out s rs t ts act all e (opened_hollow h) =
    after_marks out (Token t ∷ Opens ∷ Closes ∷ []) (take hollow) (move s ts) rs (s ∷ outer rs) _ _ all (λ ms a. hollow_taken rs s t ts ms e a) (with_out _ _ _ _ _ _ (three out _ _ _) h)
opened_step out s rs t ts act all e (opened_block {s = b} k h) =
    after_marks out (Token t ∷ Opens ∷ []) (take (block b)) (first_move b ts) rs (b ∷ s ∷ outer rs) _ _ all (λ ms a. block_taken b s rs t ts ms e k a) (with_out _ _ _ _ _ _ (two out _ _) h)

pub opener_step : (out o1 : List Mark) (r s : Region) (rs rs' : List Region) (t : Piece) (ts : List Piece) (all : List Mark)
    → r ≡ innermost rs → is_left t.role ≡ false → o1 ≡ out ++ Token t ∷ [] → s ≡ behind r t.role → rs' ≡ s ∷ outer rs → opens t.role && not s.types ≡ true
    → Opened o1 (block_before (innermost rs') ts) rs' ts all → Completes out (take (taken (innermost rs) ts t.role)) rs (t ∷ ts) all
opener_step out o1 r s rs rs' t ts all i k eo es er n h =
    let c : s ≡ behind (innermost rs) t.role = es ∙ ap (λ x. behind x t.role) i in
    let P : Bool → Type 0 = λ b. (if b then block_before (behind (innermost rs) t.role) ts else word) ≡ block_before (behind (innermost rs) t.role) ts in
    let w : opens t.role && not (behind (innermost rs) t.role).types ≡ true = ap (λ x. opens t.role && not x.types) (sym c) ∙ n in
    let Q : List Mark → Type 0 = λ x. Opened x (block_before (innermost rs') ts) rs' ts all in
    let R : List Region → Type 0 = λ x. Opened (out ++ Token t ∷ []) (block_before (innermost x) ts) x ts all in
    with_move _ _ _ _ _ _ (ap take (act_is (behind (innermost rs) t.role) ts t.role k ∙ subst P (sym w) refl ∙ ap (λ x. block_before x ts) (sym c)))
    (opened_step out s rs t ts _ all c (subst R er (subst Q eo h)))

pub no_block : (out o1 o2 : List Mark) (r : Region) (rs : List Region) (ts : List Piece) (all : List Mark) → r ≡ innermost rs → block_before r ts ≡ hollow
    → o1 ≡ out ++ Opens ∷ [] → o2 ≡ o1 ++ Closes ∷ [] → Completes o2 (move (innermost rs) ts) rs ts all → Opened out (block_before (innermost rs) ts) rs ts all
no_block out o1 o2 r rs ts all i b e1 e2 h =
    let P : Act → Type 0 = λ x. Opened out x rs ts all in
    subst P (sym b ∙ ap (λ x. block_before x ts) i) (opened_hollow (with_out _ _ _ _ _ _ (e2 ∙ ap (λ x. x ++ Closes ∷ []) e1 ∙ two out _ _) h))

pub some_block : (out o1 : List Mark) (r s : Region) (rs rs' : List Region) (ts : List Piece) (all : List Mark) → r ≡ innermost rs → block_before r ts ≡ block s
    → is_block s.container ≡ true → o1 ≡ out ++ Opens ∷ [] → rs' ≡ s ∷ rs
    → Completes o1 (first_move (innermost rs') ts) rs' ts all → Opened out (block_before (innermost rs) ts) rs ts all
some_block out o1 r s rs rs' ts all i b k e1 er h =
    let P : Act → Type 0 = λ x. Opened out x rs ts all in
    subst P (sym b ∙ ap (λ x. block_before x ts) i) (opened_block k (with_out _ _ _ _ _ _ e1 (with_next true _ _ _ _ _ er h)))

pub item_step : (out o1 : List Mark) (r s : Region) (rs rs' : List Region) (t : Piece) (ts : List Piece) (all : List Mark)
    → r ≡ innermost rs → s ≡ at_start r t.role → o1 ≡ out ++ Item ∷ [] → rs' ≡ s ∷ outer rs
    → Completes o1 (take (taken (innermost rs') ts t.role)) rs' (t ∷ ts) all → Completes out (first_move (innermost rs) (t ∷ ts)) rs (t ∷ ts) all
item_step out o1 r s rs rs' t ts all i es eo er h =
    let e : s ≡ at_start (innermost rs) t.role = es ∙ ap (λ x. at_start x t.role) i in
    let P : List Region → Type 0 = λ x. Completes o1 (take (taken (innermost x) ts t.role)) x (t ∷ ts) all in
    with_move _ _ _ _ _ _ (ap (λ x. item (taken x ts t.role)) (sym e))
    (after_marks out (Item ∷ []) _ _ rs (s ∷ outer rs) _ _ all (λ ms a. item_taken (taken s ts t.role) s rs t ts ms e a) (with_out _ _ _ _ _ _ eo (subst P er h)))

pub block_step : (out o1 : List Mark) (r : Region) (rs rs1 : List Region) (t : Piece)
    → r ≡ innermost rs → ends_a_block r t ≡ true → rs1 ≡ outer rs → o1 ≡ out ++ Closes ∷ [] → Leads out rs o1 rs1 t
block_step out o1 r rs rs1 t i e er eo ts all h =
    block_ends out rs t (ap (λ x. ends_a_block x t) (sym i) ∙ e) ts all (with_out _ _ _ _ _ _ eo (with_next false _ _ _ _ _ er h))

pub bracket_step : (out o0 o1 : List Mark) (r : Region) (rs rs0 rs1 : List Region) (t : Piece) (ts : List Piece) (all : List Mark)
    → Leads out rs o0 rs0 t → ends_a_block (innermost rs0) t ≡ false → r ≡ innermost rs0 → ends_at r.container r t ≡ true → rs1 ≡ outer rs0 → o1 ≡ o0 ++ Token t ∷ []
    → Completes o1 (move (innermost rs1) ts) rs1 ts all → Completes out (move (innermost rs) (t ∷ ts)) rs (t ∷ ts) all
bracket_step out o0 o1 r rs rs0 rs1 t ts all l n i e er eo h =
    l ts all (bracket_ends o0 rs0 t ts all n (ap (λ x. ends_at x.container x t) (sym i) ∙ e) (with_out _ _ _ _ _ _ eo (with_next false _ _ _ _ _ er h)))

pub begun_step : (out o0 : List Mark) (r : Region) (rs rs0 : List Region) (t : Piece) (ts : List Piece) (all : List Mark)
    → Leads out rs o0 rs0 t → r ≡ innermost rs0 → ends_at r.container r t ≡ false → begins_at r.container r t ≡ true
    → Completes o0 (first_move (innermost rs0) (t ∷ ts)) rs0 (t ∷ ts) all → Completes out (move (innermost rs) (t ∷ ts)) rs (t ∷ ts) all
begun_step out o0 r rs rs0 t ts all l i e b h =
    l ts all (with_move _ _ _ _ _ _ (begun_move _ (ap (λ x. ends_at x.container x t) (sym i) ∙ e) (ap (λ x. begins_at x.container x t) (sym i) ∙ b)) h)
  where
    begun_move : (x : Region) → ends_at x.container x t ≡ false → begins_at x.container x t ≡ true → move x (t ∷ ts) ≡ first_move x (t ∷ ts)
    begun_move x p q = rw (p, q) refl

pub plain_step : (out o0 : List Mark) (r : Region) (rs rs0 : List Region) (t : Piece) (ts : List Piece) (all : List Mark)
    → Leads out rs o0 rs0 t → r ≡ innermost rs0 → ends_at r.container r t ≡ false → begins_at r.container r t ≡ false
    → Completes o0 (take (taken (innermost rs0) ts t.role)) rs0 (t ∷ ts) all → Completes out (move (innermost rs) (t ∷ ts)) rs (t ∷ ts) all
plain_step out o0 r rs rs0 t ts all l i e b h =
    l ts all (with_move _ _ _ _ _ _ (plain_move _ (ap (λ x. ends_at x.container x t) (sym i) ∙ e) (ap (λ x. begins_at x.container x t) (sym i) ∙ b)) h)
  where
    plain_move : (x : Region) → ends_at x.container x t ≡ false → begins_at x.container x t ≡ false → move x (t ∷ ts) ≡ take (taken x ts t.role)
    plain_move x p q = rw (p, q) refl

pub shorter : (rs : List Region) (t : Piece) → ends_a_block (innermost rs) t ≡ true → length (outer rs) < length rs
shorter [] t e = cc
shorter (r ∷ rs) t e = omega arith

-- the end of the text

around_same : {r : Region} {ts us : List Piece} {ms ns : List Mark} {rs : List Region} → Runs stop r ts ms us ns → Around rs us ns → Around rs ts ms
around_same at_end a = a

open_ends : (r : Region) (rs : List Region) (ms : List Mark) → is_block r.container ≡ false → Ahead stop rs [] ms → Ahead stop (r ∷ rs) [] ms
open_ends r rs ms k h = record { us = []; ns = ms; runs = at_end; around = around_open k (around_same h.runs h.around) }

pub last_open_step : (out : List Mark) (r : Region) (rs rs1 : List Region) (all : List Mark) → rs ≡ r ∷ rs1 → is_block r.container ≡ false
    → Completes out stop rs1 [] all → Completes out stop rs [] all
last_open_step out r rs rs1 all e k h =
    let P : List Region → Type 0 = λ x. Completes out stop x [] all in
    subst P (sym e) (record { marks = h.marks; whole = h.whole; ahead = open_ends r rs1 h.marks k h.ahead })

pub last_block_step : (out o1 : List Mark) (r : Region) (rs rs1 : List Region) (all : List Mark) → rs ≡ r ∷ rs1 → is_block r.container ≡ true → o1 ≡ out ++ Closes ∷ []
    → Completes o1 stop rs1 [] all → Completes out stop rs [] all
last_block_step out o1 r rs rs1 all e k eo h =
    let P : List Region → Type 0 = λ x. Completes out stop x [] all in
    subst P (sym e) (after_marks out (Closes ∷ []) stop stop _ rs1 _ _ all (λ ms a. end_block r rs1 [] ms k a) (with_out _ _ _ _ _ _ eo h))

pub all_done : (out : List Mark) (rs : List Region) → rs ≡ [] → Completes out stop rs [] out
all_done out rs e =
    let P : List Region → Type 0 = λ x. Completes out stop x [] out in
    subst P (sym e) (record { marks = []; whole = sym (append-nil _); ahead = record { us = []; ns = []; runs = at_end; around = around_file } })

-- the whole text

file_around : (us : List Piece) (ns : List Mark) → Around (the_file ∷ []) us ns → (us ≡ []) × (ns ≡ [])
file_around us ns (around_block k r a) = cc
file_around us ns (around_bracket k r a) = cc
file_around us ns (around_open k around_file) = (refl, refl)

pub lays : (ts : List Piece) (rs : List Region) (all : List Mark) → rs ≡ the_file ∷ [] → Completes [] (first_move (innermost rs) ts) rs ts all → LaysPieces ts all
lays ts rs all e h =
    let k = with_next true [] rs (the_file ∷ []) ts all e h in
    let w = file_around k.ahead.us k.ahead.ns k.ahead.around in
    let P : List Mark → Type 0 = λ x. LaysPieces ts x in
    let Q : List Piece → Type 0 = λ x. Runs (first_move the_file ts) the_file ts k.marks x k.ahead.ns in
    let R : List Mark → Type 0 = λ x. Runs (first_move the_file ts) the_file ts k.marks [] x in
    subst P (sym k.whole) (subst R w.1 (subst Q w.0 k.ahead.runs))

no_token_left : (fresh : Bool) (r : Region) → next_move fresh r [] ≡ stop
no_token_left true r = refl
no_token_left false r = refl

pub ended : (fresh : Bool) (out : List Mark) (rs : List Region) (rest : List Piece) (all : List Mark) → rest ≡ [] → Completes out stop rs [] all → Completes out (next_move fresh (innermost rs) rest) rs rest all
ended fresh out rs rest all e h = let P : List Piece → Type 0 = λ x. Completes out (next_move fresh (innermost rs) x) rs x all in
    subst P (sym e) (with_move _ _ _ _ _ _ (no_token_left fresh (innermost rs)) h)

pub begins_lay : (out : List Mark) (r : Region) (rs rs0 : List Region) (ts : List Piece) (all : List Mark) → out ≡ [] → rs ≡ r ∷ rs0 → rs0 ≡ [] → r ≡ the_file
    → Completes out (first_move (innermost rs) ts) rs ts all → LaysPieces ts all
begins_lay out r rs rs0 ts all o e n f h =
    lays ts rs all (e ∙ ap (λ x. x ∷ rs0) f ∙ ap (λ x. the_file ∷ x) n) (with_out _ _ _ _ _ _ o h)
