-- Texts that are told of names that end in them.
use Rattle.std.proofs.Common.{◌≡◌, ℕ, ◌+◌, ◌<◌, Bool, true, false, cond, ◌||◌, ◌&&◌, List, [], ◌∷◌, map, drop, length, get_or, refl, sym, ap, ◌∙◌, subst, inl, inr, Option, Some, None, arith, eqb}
use Rattle.std.specs.Prelude.{bytes_eq, is_some, Vec, IsSome, MatchOption, ⊤, ◌==◌}
use Rattle.std.specs.declared.cmp.Ordering.{Ordering}
use Rattle.std.specs.declared.cmp.Ordering.TheVariants.{Less, Equal, Greater}
use Rattle.std.specs.Ordering.{nat_cmp, is_eq, match_ordering}
use Rattle.std.specs.Cmp.Lexicographic.{slice_cmp, nat_list_cmp_total}
use Rattle.std.specs.Map.{lookup, keys_of, set_value}
use Rattle.std.specs.BTreeMap.{insert_entry, is_at}
use Rattle.std.proofs.lemmas.Bool.{or_cases, and_parts}
use Rattle.std.proofs.lemmas.Cmp.{tied_itself}
use Rattle.std.proofs.lemmas.List.{drop_more}
use Rattle.std.proofs.lemmas.Map.Text.{is_eq-slice_cmp}
use Rattle.std.proofs.lemmas.Slice.Eq.{bytes_eq-Decides}
use Rattle.uc_base.specs.Name.{is_one_of}
use Rattle.uc_tree.specs.declared.target.Target.{Target}
use Rattle.uc_meaning.specs.declared.senses.Ending.{Ending}
use Rattle.uc_meaning.specs.Entries.{Entry, IsInOrder, entries_over, unhidden}
use Rattle.uc_meaning.specs.Candidates.{ends_in, ending_in}
use Rattle.uc_meaning.specs.Senses.{with_name, no_names, ending_of}
use Rattle.uc_meaning.specs.Suffixes.{Suffixes, TellsEndings, suffixes_of, ending_at, told, told_all}
use Rattle.uc_meaning.proofs.Names.{same_name}
use Rattle.uc_meaning.proofs.SenseSteps.{name_swap, all_told}
use Rattle.uc_meaning.proofs.Unhidden.{walk_over}

-- ---- maps

hidden_again : (b : Bool) (u v r : Option Ending) → cond b u r ≡ cond b u (cond b v r)
hidden_again true u v r = refl
hidden_again false u v r = refl

other_first : (a b : Bool) (u v r : Option Ending) → (a ≡ true → b ≡ true → ⊥) → cond a u (cond b v r) ≡ cond b v (cond a u r)
other_first true true u v r n = absurd (n refl refl)
other_first true false u v r n = refl
other_first false true u v r n = refl
other_first false false u v r n = refl

module _ {A : Type 0} (cmp : Vec ℕ A → Vec ℕ A → Ordering) (by_items : (v w : Vec ℕ A) → cmp v w ≡ slice_cmp nat_cmp v.items w.items) where
  same_text : (v w : Vec ℕ A) → cmp v w ≡ Equal → v.items ≡ w.items
  same_text v w e = same_name v.items w.items (sym (by_items v w) ∙ e)

  put_placed : (o : Ordering) (w : List ℕ) (k : Vec ℕ A) (x : Ending) (e : Vec ℕ A × Ending) (es : List (Vec ℕ A × Ending)) → cmp k e.0 ≡ o
      → ending_at (suffixes_of (insert_entry cmp es k x)) w ≡ cond (bytes_eq w k.items) (Some x) (ending_at (suffixes_of es) w)
      → ending_at (suffixes_of (match_ordering o ((k, x) ∷ e ∷ es) ((e.0, x) ∷ es) (e ∷ insert_entry cmp es k x))) w
      ≡ cond (bytes_eq w k.items) (Some x) (cond (bytes_eq w e.0.items) (Some e.1) (ending_at (suffixes_of es) w))
  put_placed Less w k x e es h t = refl
  put_placed Equal w k x e es h t =
      ap (λ j. cond (bytes_eq w j) (Some x) (ending_at (suffixes_of es) w)) (sym (same_text k e.0 h))
      ∙ hidden_again (bytes_eq w k.items) (Some x) (Some e.1) (ending_at (suffixes_of es) w)
      ∙ ap (λ j. cond (bytes_eq w k.items) (Some x) (cond (bytes_eq w j) (Some e.1) (ending_at (suffixes_of es) w))) (same_text k e.0 h)
  put_placed Greater w k x e es h t =
      ap (λ r. cond (bytes_eq w e.0.items) (Some e.1) r) t
      ∙ other_first (bytes_eq w e.0.items) (bytes_eq w k.items) (Some e.1) (Some x) (ending_at (suffixes_of es) w) (λ a b.
      let same : k.items ≡ e.0.items = sym ((bytes_eq-Decides w k.items).0 b) ∙ (bytes_eq-Decides w e.0.items).0 a in
      let tied : slice_cmp nat_cmp k.items e.0.items ≡ Equal = subst (λ v. slice_cmp nat_cmp k.items v ≡ Equal) same (tied_itself nat_list_cmp_total k.items) in
      let other = by_items k e.0 in cc)

  -- a map with one more text
  pub text_put : (w : List ℕ) (es : List (Vec ℕ A × Ending)) (k : Vec ℕ A) (x : Ending)
      → ending_at (suffixes_of (insert_entry cmp es k x)) w ≡ cond (bytes_eq w k.items) (Some x) (ending_at (suffixes_of es) w)
  text_put w [] k x = refl
  text_put w (e ∷ es) k x = put_placed (cmp k e.0) w k x e es refl (text_put w es k x)

module _ {A : Type 0} (text : List ℕ) (compare : Vec ℕ A → Ordering) (by_items : (v : Vec ℕ A) → compare v ≡ slice_cmp nat_cmp text v.items) where
  at_text : (v : Vec ℕ A) → is_at compare v ≡ bytes_eq text v.items
  at_text v = ap is_eq (by_items v) ∙ is_eq-slice_cmp text v.items

  -- what a map has at a text
  pub text_found : (es : List (Vec ℕ A × Ending)) → lookup (is_at compare) es ≡ ending_at (suffixes_of es) text
  text_found [] = refl
  text_found (e ∷ es) =
      ap (λ b. cond b (Some e.1) (lookup (is_at compare) es)) (at_text e.0) ∙ ap (λ r. cond (bytes_eq text e.0.items) (Some e.1) r) (text_found es)

  set_first : (b : Bool) (w : List ℕ) (y : Ending) (e : Vec ℕ A × Ending) (es : List (Vec ℕ A × Ending)) → is_at compare e.0 ≡ b
      → IsSome (cond b (Some e.1) (lookup (is_at compare) es))
      → (IsSome (lookup (is_at compare) es) → ending_at (suffixes_of (set_value (is_at compare) es y)) w ≡ cond (bytes_eq w text) (Some y) (ending_at (suffixes_of es) w))
      → ending_at (suffixes_of (cond b ((e.0, y) ∷ es) (e ∷ set_value (is_at compare) es y))) w
      ≡ cond (bytes_eq w text) (Some y) (cond (bytes_eq w e.0.items) (Some e.1) (ending_at (suffixes_of es) w))
  set_first true w y e es h s t =
      let same : text ≡ e.0.items = (bytes_eq-Decides text e.0.items).0 (sym (at_text e.0) ∙ h) in
      hidden_again (bytes_eq w e.0.items) (Some y) (Some e.1) (ending_at (suffixes_of es) w)
      ∙ ap (λ j. cond (bytes_eq w j) (Some y) (cond (bytes_eq w e.0.items) (Some e.1) (ending_at (suffixes_of es) w))) (sym same)
  set_first false w y e es h s t =
      ap (λ r. cond (bytes_eq w e.0.items) (Some e.1) r) (t s)
      ∙ other_first (bytes_eq w e.0.items) (bytes_eq w text) (Some e.1) (Some y) (ending_at (suffixes_of es) w) (λ a b.
      let same : text ≡ e.0.items = sym ((bytes_eq-Decides w text).0 b) ∙ (bytes_eq-Decides w e.0.items).0 a in
      let it : bytes_eq text e.0.items ≡ true = (bytes_eq-Decides text e.0.items).1 same in
      let other = at_text e.0 in
      cc)

  -- a map with another value at a text that it has
  pub text_set : (w : List ℕ) (y : Ending) (es : List (Vec ℕ A × Ending)) → IsSome (lookup (is_at compare) es)
      → ending_at (suffixes_of (set_value (is_at compare) es y)) w ≡ cond (bytes_eq w text) (Some y) (ending_at (suffixes_of es) w)
  text_set w y [] s = cc
  text_set w y (e ∷ es) s = set_first (is_at compare e.0) w y e es refl s (text_set w y es)

-- ---- names

-- what is found at a text and at an equal one
pub found_at : (w text : List ℕ) (es : Suffixes) (x : Option Ending) → x ≡ ending_at es text → bytes_eq w text ≡ true → ending_at es w ≡ x
found_at w text es x h e = ap (ending_at es) ((bytes_eq-Decides w text).0 e) ∙ sym h

-- a name that doesn't end in a text
untold : (t : Target) (x : Option Ending) → told false t x ≡ x
untold t None = refl
untold t (Some y) = refl

-- a text that is told by its new value
pub told_once : (b : Bool) (t : Target) (x : Option Ending) (y : Ending) → (b ≡ true → x ≡ Some y) → cond b (Some (with_name t y)) x ≡ told b t x
told_once true t x y h = sym (ap (told true t) (h refl))
told_once false t x y h = sym (untold t x)

-- a text that isn't there
pub told_nothing : (b : Bool) (t : Target) (x : Option Ending) → (b ≡ true → x ≡ None) → x ≡ told b t x
told_nothing true t x h = h refl ∙ sym (ap (told true t) (h refl))
told_nothing false t x h = sym (untold t x)

-- a name is longer than a text in which it ends
longer : (w whole : List ℕ) → ends_in w whole ≡ true → length w < length whole
longer w [] h = absurd cc
longer w (c ∷ whole) h = elim (or_cases (eqb c 46 && bytes_eq w whole) (ends_in w whole) h) [
  | inl k ↦ let same : w ≡ whole = (bytes_eq-Decides w whole).0 (and_parts (eqb c 46) (bytes_eq w whole) k).1 in let n : length w ≡ length whole = ap length same in omega arith
  | inr k ↦ let n = longer w whole k in omega arith
]

not_itself : (w whole : List ℕ) (b : Bool) → bytes_eq w whole ≡ true → ends_in w whole ≡ b → b ≡ false
not_itself w whole true h k = let n = longer w whole k in let m : length w ≡ length whole = ap length ((bytes_eq-Decides w whole).0 h) in absurd (omega arith)
not_itself w whole false h k = refl

told_either : (a b : Bool) (t : Target) (x : Option Ending) → (a ≡ true → b ≡ false) → told b t (told a t x) ≡ told (a || b) t x
told_either true b t x n = ap (λ c. told c t (told true t x)) (n refl) ∙ untold t (told true t x)
told_either false b t x n = ap (told b t) (untold t x)

-- the next byte of a name is a dot
pub told_dot : (t : Target) (w rest : List ℕ) (c : ℕ) (x : Option Ending) → (c == 46) ≡ true → told (ends_in w rest) t (told (bytes_eq w rest) t x) ≡ told (ends_in w (c ∷ rest)) t x
told_dot t w rest c x h =
    told_either (bytes_eq w rest) (ends_in w rest) t x (λ k. not_itself w rest (ends_in w rest) k refl)
    ∙ sym (ap (λ b. told ((b && bytes_eq w rest) || ends_in w rest) t x) h)

-- ---- the texts

words_first : (a b : Bool) (x : Ending) (o : Option Ending) → cond b (Some x) (cond a (Some x) o) ≡ cond (a || b) (Some x) o
words_first true true x o = refl
words_first true false x o = refl
words_first false b x o = refl

-- the next text goes in
pub word_put : {V : Type 0} (f : V → List ℕ) (vs : List V) (i : ℕ) (d : V) (w : List ℕ) (x : Ending) (o : Option Ending) → i < length vs
    → cond (is_one_of (map f (drop (i + 1) vs)) w) (Some x) (cond (bytes_eq w (f (get_or vs i d))) (Some x) o) ≡ cond (is_one_of (map f (drop i vs)) w) (Some x) o
word_put f vs i d w x o h =
    words_first (bytes_eq w (f (get_or vs i d))) (is_one_of (map f (drop (i + 1) vs)) w) x o
    ∙ sym (ap (λ us. cond (is_one_of (map f us) w) (Some x) o) (drop_more vs i d h))

-- what a text is told of the names of a file and of those of a head that it doesn't hide
pub tells : (w : List ℕ) (own head : List Entry) (b : Bool) (x : Option Ending) → IsInOrder own → IsInOrder head
    → x ≡ told_all (ending_in (unhidden own head) w) (told_all (ending_in own w) (cond b (Some no_names) None))
    → MatchOption x ⊤ (λ y. y ≡ ending_of (ending_in (entries_over own head) w))
tells w own head true x r s h =
    subst (λ o. MatchOption o ⊤ (λ y. y ≡ ending_of (ending_in (entries_over own head) w))) (sym h)
    (sym (walk_over with_name name_swap (ends_in w) no_names own head r s) ∙ all_told (ending_in (entries_over own head) w))
tells w own head false x r s h = subst (λ o. MatchOption o ⊤ (λ y. y ≡ ending_of (ending_in (entries_over own head) w))) (sym h) tt

-- ---- the words

first_word : (b : Bool) (x : Ending) (a : Bool) (o : Option Ending) → a ≡ is_some o → (b || a) ≡ is_some (cond b (Some x) o)
first_word true x a o h = refl
first_word false x a o h = h

-- the words are the texts at which something is found
word_found : (w : List ℕ) (suffixes : Suffixes) → is_one_of (keys_of suffixes) w ≡ is_some (ending_at suffixes w)
word_found w [] = refl
word_found w (s ∷ suffixes) = first_word (bytes_eq w s.0) s.1 (is_one_of (keys_of suffixes) w) (ending_at suffixes w) (word_found w suffixes)

still_there : (es os : List Entry) (b : Bool) → is_some (told_all es (told_all os (cond b (Some no_names) None))) ≡ b
still_there es os true = refl
still_there es os false = refl

-- telling the texts leaves which ones there are
pub same_words : (w : List ℕ) (es os : List Entry) (suffixes : Suffixes) (b : Bool)
    → ending_at suffixes w ≡ told_all es (told_all os (cond b (Some no_names) None)) → is_one_of (keys_of suffixes) w ≡ b
same_words w es os suffixes b h = word_found w suffixes ∙ ap is_some h ∙ still_there es os b

one_told : (x : Option Ending) (y : Ending) → MatchOption x ⊤ (λ z. z ≡ y) → x ≡ cond (is_some x) (Some y) None
one_told None y h = refl
one_told (Some z) y h = ap Some h

-- what is found at a text, where it is one of the words
pub found_among : (w : List ℕ) (es : List Entry) (suffixes : Suffixes) → TellsEndings es suffixes
    → ending_at suffixes w ≡ cond (is_one_of (keys_of suffixes) w) (Some (ending_of (ending_in es w))) None
found_among w es suffixes t =
    one_told (ending_at suffixes w) (ending_of (ending_in es w)) (t w)
    ∙ ap (λ b. cond b (Some (ending_of (ending_in es w))) None) (sym (word_found w suffixes))
