-- The one form of line has one reading.
use Rattle.std.proofs.Common.{◌≡◌, ℕ, zero, suc, ◌-◌, ◌<◌, ◌≤◌, ◌==◌, not, Bool, true, false, ◌&&◌, if◌then◌else◌, List, [], ◌∷◌, ◌++◌, length, take, drop, get_or, Option, Some, None, MatchOption, refl, ap, ◌∙◌, arith, length-drop, eqb-true}
use Rattle.std.proofs.lemmas.Bool.{and_parts}
use Rattle.std.proofs.lemmas.List.{take_all}
use Rattle.std.proofs.Math.Seq.{take-append_seam, drop-append_seam}
use Rattle.std.specs.List.{list_all}
use Rattle.uc_base.specs.Name.{IsName, IsPath, are_segments, is_word, is_wordy, is_letter, has_word_form, segments_of, with_first}
use Rattle.ucm.specs.NumberLine.{IsNumberLine, IsParted, CanStandFor, is_no_space}

abbrev no_space : List ℕ → Bool
no_space = list_all is_no_space

not_space : (d : ℕ) → d ≡ 32 → is_no_space d ≡ true → ⊥
not_space d e h = let z : false ≡ true = rw e at h in absurd cc

-- the front without spaces ends at the first space
front_length : (name rest : List ℕ) (end : ℕ) → end ≤ length (name ++ 32 ∷ rest) → no_space (take end (name ++ 32 ∷ rest)) ≡ true
    → (end < length (name ++ 32 ∷ rest) → get_or (name ++ 32 ∷ rest) end 0 ≡ 32) → no_space name ≡ true → end ≡ length name
front_length [] rest zero le before space here = refl
front_length [] rest (suc end) le before space here = absurd cc
front_length (c ∷ cs) rest zero le before space here =
    let is : c ≡ 32 = space (omega arith) in
    absurd (not_space c is (and_parts (is_no_space c) (no_space cs) here).0)
front_length (c ∷ cs) rest (suc end) le before space here =
    ap suc (front_length cs rest end (omega arith) (and_parts (is_no_space c) _ before).1 (λ lt. space (omega arith)) (and_parts (is_no_space c) (no_space cs) here).1)

-- the rest of a line behind ` = `, up to and with its line feed
abbrev pub after_name : List ℕ → List ℕ
after_name digits = 32 ∷ 61 ∷ 32 ∷ (digits ++ 10 ∷ [])

abbrev pub rest_at : ℕ → List ℕ → List ℕ
rest_at end text = take (length text - end) (drop end text)

-- where the first space of a line is known, its parts are
pub record PartsAt (text name digits : List ℕ) (end : ℕ) : Type 0 where
  pub name_is : take end text ≡ name
  pub rest_is : rest_at end text ≡ after_name digits

whole_rest : (end : ℕ) (text : List ℕ) → rest_at end text ≡ drop end text
whole_rest end text = take_all (length text - end) (drop end text) (omega (arith, length-drop end text))

pub parts_at : (text name digits : List ℕ) (end : ℕ) → end ≤ length text → no_space (take end text) ≡ true
    → (end < length text → get_or text end 0 ≡ 32) → IsParted text name digits → PartsAt text name digits end
parts_at text name digits end le before space parted =
    let behind : List ℕ = 61 ∷ 32 ∷ (digits ++ 10 ∷ []) in
    let is : text ≡ name ++ 32 ∷ behind = parted.is in
    let at : end ≡ length name =
    front_length name behind end (rw is at le) (rw is at before) (rw is at space) parted.no_space in
    record {
      name_is = rw (at, is) (take-append_seam name (32 ∷ behind));
      rest_is = whole_rest end text ∙ rw (at, is) (drop-append_seam name (32 ∷ behind));
    }

-- ---- a path has no space

abbrev wordy : List ℕ → Bool
wordy = list_all is_wordy

letter_wordy : (c : ℕ) → is_letter c ≡ true → is_wordy c ≡ true
letter_wordy c h = rw h refl

word_wordy : (s : List ℕ) → is_word s ≡ true → wordy s ≡ true
word_wordy s h = form s (and_parts (has_word_form s) _ h).0
  where
    form : (t : List ℕ) → has_word_form t ≡ true → wordy t ≡ true
    form [] h = refl
    form (c ∷ cs) h = let p = and_parts (is_letter c) (wordy cs) h in rw (letter_wordy c p.0, p.1) refl

words_wordy : (ss : List (List ℕ)) → list_all is_word ss ≡ true → list_all wordy ss ≡ true
words_wordy [] h = refl
words_wordy (s ∷ ss) h = let p = and_parts (is_word s) (list_all is_word ss) h in rw (word_wordy s p.0, words_wordy ss p.1) refl

wordy_no_space : (c : ℕ) → is_wordy c ≡ true → is_no_space c ≡ true
wordy_no_space c h = go (c == 32) refl
  where
    go : (b : Bool) → (c == 32) ≡ b → not (c == 32) ≡ true
    go false e = rw e refl
    go true e = let is : c ≡ 32 = eqb-true c 32 e in let z : false ≡ true = rw is at h in absurd cc

-- a first segment goes on with a character
first_wordy : (c : ℕ) (ss : List (List ℕ)) → list_all wordy (with_first c ss) ≡ true → (is_wordy c ≡ true) × (list_all wordy ss ≡ true)
first_wordy c [] h = let p = and_parts (is_wordy c && true) true h in ((and_parts (is_wordy c) true p.0).0, refl)
first_wordy c (s ∷ ss) h =
    let p = and_parts (is_wordy c && wordy s) (list_all wordy ss) h in
    let q = and_parts (is_wordy c) (wordy s) p.0 in
    (q.0, rw (q.1, p.1) refl)

-- a character before a text whose segments hold no space
no_space_on : (c : ℕ) (cs : List ℕ) (ss : List (List ℕ)) (b : Bool) → (c == 46) ≡ b
    → list_all wordy (if b then [] ∷ ss else with_first c ss) ≡ true → (list_all wordy ss ≡ true → no_space cs ≡ true) → no_space (c ∷ cs) ≡ true
no_space_on c cs ss true e p rest =
    let is : c ≡ 46 = eqb-true c 46 e in
    let this : is_no_space c ≡ true = rw is refl in
    rw (this, rest p) refl
no_space_on c cs ss false e p rest =
    let q = first_wordy c ss p in
    rw (wordy_no_space c q.0, rest q.1) refl

segments_no_space : (text : List ℕ) → list_all wordy (segments_of text) ≡ true → no_space text ≡ true
segments_no_space [] h = refl
segments_no_space (c ∷ cs) h = no_space_on c cs (segments_of cs) (c == 46) refl h (segments_no_space cs)

pub path_no_space : (text : List ℕ) → IsPath text → no_space text ≡ true
path_no_space text path = segments_no_space text (words_wordy (segments_of text) path.words)

-- ---- a path is a name

first_is_some : (c : ℕ) (ss : List (List ℕ)) → with_first c ss ≡ [] → ⊥
first_is_some c [] e = cc
first_is_some c (s ∷ ss) e = cc

segments_some : (text : List ℕ) → segments_of text ≡ [] → ⊥
segments_some [] e = cc
segments_some (c ∷ cs) e = go (c == 46) e
  where
    go : (b : Bool) → (if b then [] ∷ segments_of cs else with_first c (segments_of cs)) ≡ [] → ⊥
    go true p = cc
    go false p = first_is_some c (segments_of cs) p

words_segments : (ss : List (List ℕ)) → (ss ≡ [] → ⊥) → list_all is_word ss ≡ true → are_segments ss ≡ true
words_segments [] some h = absurd (some refl)
words_segments (s ∷ []) some h = rw ((and_parts (is_word s) true h).0) refl
words_segments (s ∷ t ∷ ss) some h =
    let p = and_parts (is_word s) (list_all is_word (t ∷ ss)) h in
    rw (p.0, words_segments (t ∷ ss) (λ e. cc) p.1) refl

pub path_is_name : (text : List ℕ) → IsPath text → IsName text
path_is_name text path = record { segments = words_segments (segments_of text) (segments_some text) path.words; short = path.short }

-- ---- what a line is made of

pub line_parted : (text name digits : List ℕ) → IsNumberLine text name digits → IsParted text name digits
line_parted text name digits line = record { no_space = path_no_space name line.path; is = line.is }

pub line_number : (text name digits : List ℕ) → IsNumberLine text name digits → CanStandFor name digits
line_number text name digits line = record { free = line.free; number = line.number; short = line.short }

pub stands_for : (name digits name' digits' : List ℕ) → name ≡ name' → digits ≡ digits' → CanStandFor name' digits' → CanStandFor name digits
stands_for name digits name' digits' e f h = rw (e, f) h

pub where_none : {A : Type 0} (o : Option A) (P : Type 0) (Q : A → Type 0) → o ≡ None → MatchOption o P Q → P
where_none None P Q e h = h
where_none (Some x) P Q e h = absurd cc
