-- Contexts that go on from others.
use Rattle.std.proofs.Common.{◌≡◌, ℕ, Bool, true, false, cond, eqb, ◌||◌, List, [], ◌∷◌, ◌++◌, map, refl, sym, ap, subst, ◌∙◌}
use Rattle.std.specs.List.{list_any}
use Rattle.std.proofs.lemmas.Bool.{or_left, or_right, or_parts, or_from, eqb-true, false≢true}
use Rattle.std.proofs.lemmas.List.Folds.{list_any-append}
use Rattle.uc_context.specs.declared.entry.Entry.{Entry}
use Rattle.uc_context.specs.declared.entry.Entry.TheVariants.{Rigid, Exists, Solved, Mark, Binder}
use Rattle.uc_context.specs.Opens.{Open}
use Rattle.uc_context.specs.Entries.{ContextEntries, is_unsolved, is_same_entry, dropped_from}
use Rattle.uc_context.specs.Solving.{exchanged, solved, solved_with}
use Rattle.uc_context.specs.Variables.{is_monotype}
use Rattle.uc_subtyping.specs.InHand.{SolvesByMonotypes}

-- unsolved existentials of a context may be solved in another, by monotypes, and new existentials come in
pub data ExtendsByMonotypes : ContextEntries → ContextEntries → Type 0 where
  extends_nothing : ExtendsByMonotypes [] []
  extends_same : {e : Entry} {es fs : ContextEntries} → ExtendsByMonotypes es fs → ExtendsByMonotypes (e ∷ es) (e ∷ fs)
  extends_solved : {x : ℕ} {t : Open} {es fs : ContextEntries} → is_monotype t ≡ true → ExtendsByMonotypes es fs → ExtendsByMonotypes (Exists x ∷ es) (Solved x t ∷ fs)
  extends_by_unsolved : {n : ℕ} {es fs : ContextEntries} → ExtendsByMonotypes es fs → ExtendsByMonotypes es (Exists n ∷ fs)
  extends_by_solved : {n : ℕ} {t : Open} {es fs : ContextEntries} → is_monotype t ≡ true → ExtendsByMonotypes es fs → ExtendsByMonotypes es (Solved n t ∷ fs)

pub extends-refl : (es : ContextEntries) → ExtendsByMonotypes es es
extends-refl [] = extends_nothing
extends-refl (e ∷ es) = extends_same (extends-refl es)

pub extends-trans : {es fs gs : ContextEntries} → ExtendsByMonotypes es fs → ExtendsByMonotypes fs gs → ExtendsByMonotypes es gs
extends-trans d extends_nothing = d
extends-trans (extends_same d) (extends_same e) = extends_same (extends-trans d e)
extends-trans (extends_solved m d) (extends_same e) = extends_solved m (extends-trans d e)
extends-trans (extends_by_unsolved d) (extends_same e) = extends_by_unsolved (extends-trans d e)
extends-trans (extends_by_solved m d) (extends_same e) = extends_by_solved m (extends-trans d e)
extends-trans (extends_same d) (extends_solved m e) = extends_solved m (extends-trans d e)
extends-trans (extends_by_unsolved d) (extends_solved m e) = extends_by_solved m (extends-trans d e)
extends-trans d (extends_by_unsolved e) = extends_by_unsolved (extends-trans d e)
extends-trans d (extends_by_solved m e) = extends_by_solved m (extends-trans d e)

pub extends-monotypes : {es fs : ContextEntries} → ExtendsByMonotypes es fs → SolvesByMonotypes es → SolvesByMonotypes fs
extends-monotypes extends_nothing h = tt
extends-monotypes (extends_same {e = Rigid x} d) h = extends-monotypes d h
extends-monotypes (extends_same {e = Exists x} d) h = extends-monotypes d h
extends-monotypes (extends_same {e = Solved x t} d) h = (h.0, extends-monotypes d h.1)
extends-monotypes (extends_same {e = Mark x} d) h = extends-monotypes d h
extends-monotypes (extends_same {e = Binder x t} d) h = extends-monotypes d h
extends-monotypes (extends_solved m d) h = (m, extends-monotypes d h)
extends-monotypes (extends_by_unsolved d) h = extends-monotypes d h
extends-monotypes (extends_by_solved m d) h = (m, extends-monotypes d h)

-- a test that passes a solved existential where it passes the unsolved one
module _ (test : Entry → Bool) (solved_passes : (x : ℕ) (t : Open) → test (Exists x) ≡ true → test (Solved x t) ≡ true) where
  or_more : (c d a b : Bool) → (c ≡ true → d ≡ true) → (a ≡ true → b ≡ true) → (c || a) ≡ true → (d || b) ≡ true
  or_more true d a b f g h = or_left d b (f refl)
  or_more false d a b f g h = or_right d b (g h)

  pub extends-passes : {es fs : ContextEntries} → ExtendsByMonotypes es fs → list_any test es ≡ true → list_any test fs ≡ true
  extends-passes extends_nothing h = h
  extends-passes (extends_same {e = e} {es = es} {fs = fs} d) h = or_more (test e) (test e) (list_any test es) (list_any test fs) (λ p. p) (extends-passes d) h
  extends-passes (extends_solved {x = x} {t = t} {es = es} {fs = fs} m d) h = or_more (test (Exists x)) (test (Solved x t)) (list_any test es) (list_any test fs) (solved_passes x t) (extends-passes d) h
  extends-passes (extends_by_unsolved {n = n} {fs = fs} d) h = or_right (test (Exists n)) (list_any test fs) (extends-passes d h)
  extends-passes (extends_by_solved {n = n} {t = t} {fs = fs} m d) h = or_right (test (Solved n t)) (list_any test fs) (extends-passes d h)

-- the entry of an unsolved existential
pub unsolved_entry : (x : ℕ) (e : Entry) → is_unsolved x e ≡ true → Exists x ≡ e
unsolved_entry x (Rigid y) p = absurd cc
unsolved_entry x (Exists y) p = ap Exists (sym (eqb-true y x p))
unsolved_entry x (Solved y t) p = absurd cc
unsolved_entry x (Mark y) p = absurd cc
unsolved_entry x (Binder y t) p = absurd cc

module _ (x : ℕ) (new : ContextEntries) (adds : (es : ContextEntries) → ExtendsByMonotypes (Exists x ∷ es) (new ++ es)) where
  exchanged_first : (e : Entry) (es : ContextEntries) (b : Bool) → is_unsolved x e ≡ b → ExtendsByMonotypes es (exchanged x new es) → ExtendsByMonotypes (e ∷ es) (cond b (new ++ es) (e ∷ exchanged x new es))
  exchanged_first e es true p d = subst (λ (c : Entry). ExtendsByMonotypes (c ∷ es) (new ++ es)) (unsolved_entry x e p) (adds es)
  exchanged_first e es false p d = extends_same d

  extends-exchanged : (es : ContextEntries) → ExtendsByMonotypes es (exchanged x new es)
  extends-exchanged [] = extends_nothing
  extends-exchanged (e ∷ es) = exchanged_first e es (is_unsolved x e) refl (extends-exchanged es)

with_new : (x : ℕ) (ns : List ℕ) (t : Open) → is_monotype t ≡ true → (es : ContextEntries) → ExtendsByMonotypes (Exists x ∷ es) ((map (λ n. Exists n) ns ++ Solved x t ∷ []) ++ es)
with_new x [] t m es = extends_solved m (extends-refl es)
with_new x (n ∷ ns) t m es = extends_by_unsolved (with_new x ns t m es)

pub extends-solved : (es : ContextEntries) (x : ℕ) (t : Open) → is_monotype t ≡ true → ExtendsByMonotypes es (solved es x t)
extends-solved es x t m = extends-exchanged x (Solved x t ∷ []) (λ ds. extends_solved m (extends-refl ds)) es

pub extends-solved_with : (es : ContextEntries) (x : ℕ) (ns : List ℕ) (t : Open) → is_monotype t ≡ true → ExtendsByMonotypes es (solved_with es x ns t)
extends-solved_with es x ns t m = extends-exchanged x (map (λ n. Exists n) ns ++ Solved x t ∷ []) (with_new x ns t m) es

head_is : (d e : Entry) (ds es : ContextEntries) → d ∷ ds ≡ e ∷ es → d ≡ e
head_is d e ds es h = cc

tail_is : (d e : Entry) (ds es : ContextEntries) → d ∷ ds ≡ e ∷ es → ds ≡ es
tail_is d e ds es h = cc

-- a context that goes on from one with an entry that isn't an existential, cut at that entry
pub record Cut (d : Entry) (es rest gs : ContextEntries) : Type 0 where
  pub front : ContextEntries
  pub tail : ContextEntries
  pub whole : gs ≡ front ++ d ∷ tail
  pub extends : ExtendsByMonotypes es front
  pub behind : ExtendsByMonotypes rest tail
  pub dropped : dropped_from d gs ≡ front

module _ (d : Entry) (self : is_same_entry d d ≡ true) (not_exists : (m : ℕ) → is_same_entry d (Exists m) ≡ false) (not_solved : (m : ℕ) (t : Open) → is_same_entry d (Solved m t) ≡ false) where
  others : (rest tail : ContextEntries) → ExtendsByMonotypes rest tail → list_any (is_same_entry d) rest ≡ false → list_any (is_same_entry d) tail ≡ false
  others rest tail extends_nothing n = n
  others rest tail (extends_same {e = e} {es = es} {fs = fs} h) n = let p = or_parts (is_same_entry d e) (list_any (is_same_entry d) es) n in or_from (is_same_entry d e) (list_any (is_same_entry d) fs) p.0 (others es fs h p.1)
  others rest tail (extends_solved {x = x} {t = t} {es = es} {fs = fs} m h) n =
      let p = or_parts (is_same_entry d (Exists x)) (list_any (is_same_entry d) es) n in or_from (is_same_entry d (Solved x t)) (list_any (is_same_entry d) fs) (not_solved x t) (others es fs h p.1)
  others rest tail (extends_by_unsolved {n = m} {es = es} {fs = fs} h) n = or_from (is_same_entry d (Exists m)) (list_any (is_same_entry d) fs) (not_exists m) (others es fs h n)
  others rest tail (extends_by_solved {n = m} {t = t} {es = es} {fs = fs} k h) n = or_from (is_same_entry d (Solved m t)) (list_any (is_same_entry d) fs) (not_solved m t) (others es fs h n)

  dropped_at : (front tail : ContextEntries) → list_any (is_same_entry d) tail ≡ false → dropped_from d (front ++ d ∷ tail) ≡ front
  dropped_at [] tail n = rw (n, self) refl
  dropped_at (e ∷ front) tail n =
      let some : list_any (is_same_entry d) (front ++ d ∷ tail) ≡ true = list_any-append (is_same_entry d) front (d ∷ tail)
      ∙ or_right (list_any (is_same_entry d) front) (list_any (is_same_entry d) (d ∷ tail)) (or_left (is_same_entry d d) (list_any (is_same_entry d) tail) self) in
      rw some (ap (λ (cs : ContextEntries). e ∷ cs) (dropped_at front tail n))

  record Split (es rest gs : ContextEntries) : Type 0 where
    front : ContextEntries
    tail : ContextEntries
    whole : gs ≡ front ++ d ∷ tail
    extends : ExtendsByMonotypes es front
    behind : ExtendsByMonotypes rest tail

  is_exists : (x : ℕ) → Exists x ≡ d → ⊥
  is_exists x e = false≢true (sym (not_exists x) ∙ ap (is_same_entry d) e ∙ self)

  split : (es rest : ContextEntries) {cs gs : ContextEntries} → cs ≡ es ++ d ∷ rest → ExtendsByMonotypes cs gs → Split es rest gs
  split [] rest q extends_nothing = absurd cc
  split (e ∷ es) rest q extends_nothing = absurd cc
  split [] rest q (extends_same {e = c} {es = es'} {fs = fs} h) = record {
    front = [];
    tail = fs;
    whole = ap (λ (a : Entry). a ∷ fs) (head_is c d es' rest q);
    extends = extends_nothing;
    behind = subst (λ (cs : ContextEntries). ExtendsByMonotypes cs fs) (tail_is c d es' rest q) h;
  }
  split (e ∷ es) rest q (extends_same {e = c} {es = es'} {fs = fs} h) =
      let r : Split es rest fs = split es rest (tail_is c e es' (es ++ d ∷ rest) q) h in
      record {
        front = c ∷ r.front;
        tail = r.tail;
        whole = ap (λ (cs : ContextEntries). c ∷ cs) r.whole;
        extends = subst (λ (a : Entry). ExtendsByMonotypes (a ∷ es) (c ∷ r.front)) (head_is c e es' (es ++ d ∷ rest) q) (extends_same r.extends);
        behind = r.behind;
      }
  split [] rest q (extends_solved {x = x} {es = es'} m h) = absurd (is_exists x (head_is (Exists x) d es' rest q))
  split (e ∷ es) rest q (extends_solved {x = x} {t = t} {es = es'} {fs = fs} m h) =
      let r : Split es rest fs = split es rest (tail_is (Exists x) e es' (es ++ d ∷ rest) q) h in
      record {
        front = Solved x t ∷ r.front;
        tail = r.tail;
        whole = ap (λ (cs : ContextEntries). Solved x t ∷ cs) r.whole;
        extends = subst (λ (a : Entry). ExtendsByMonotypes (a ∷ es) (Solved x t ∷ r.front)) (head_is (Exists x) e es' (es ++ d ∷ rest) q) (extends_solved m r.extends);
        behind = r.behind;
      }
  split es rest q (extends_by_unsolved {n = n} {fs = fs} h) =
      let r : Split es rest fs = split es rest q h in
      record {
        front = Exists n ∷ r.front;
        tail = r.tail;
        whole = ap (λ (cs : ContextEntries). Exists n ∷ cs) r.whole;
        extends = extends_by_unsolved r.extends;
        behind = r.behind;
      }
  split es rest q (extends_by_solved {n = n} {t = t} {fs = fs} m h) =
      let r : Split es rest fs = split es rest q h in
      record {
        front = Solved n t ∷ r.front;
        tail = r.tail;
        whole = ap (λ (cs : ContextEntries). Solved n t ∷ cs) r.whole;
        extends = extends_by_solved m r.extends;
        behind = r.behind;
      }

  pub extends-cut : (es rest gs : ContextEntries) → list_any (is_same_entry d) rest ≡ false → ExtendsByMonotypes (es ++ d ∷ rest) gs → Cut d es rest gs
  extends-cut es rest gs n h =
      let r : Split es rest gs = split es rest refl h in
      record {
        front = r.front;
        tail = r.tail;
        whole = r.whole;
        extends = r.extends;
        behind = r.behind;
        dropped = ap (dropped_from d) r.whole ∙ dropped_at r.front r.tail (others rest r.tail r.behind n);
      }
