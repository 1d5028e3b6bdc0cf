-- Contexts that extend others.
use Rattle.std.proofs.Common.{◌≡◌, ℕ, Bool, true, false, cond, ◌||◌, List, [], ◌∷◌, ◌++◌, map, refl, sym, ap, subst, ◌∙◌, append_assoc}
use Rattle.std.specs.List.{list_any}
use Rattle.std.proofs.lemmas.Bool.{or_left, or_right, eqb-true}
use Rattle.std.proofs.lemmas.List.Folds.{list_any-append}
use Rattle.uc_context.specs.declared.entry.Entry.{Entry}
use Rattle.uc_context.specs.declared.entry.Entry.TheVariants.{Rigid, Exists, Solved, Mark, Binder}
use Rattle.uc_context.specs.Opens.{Open}
use Rattle.uc_context.specs.Entries.{ContextEntries, is_unsolved, is_rigid, declares, is_same_entry, dropped_from}
use Rattle.uc_context.specs.Solving.{exchanged, solved, solved_with}
use Rattle.uc_soundness.specs.Extending.{Extends, extends_none, extends_same, extends_solved, extends_new, extends_new_solved}
use Rattle.uc_soundness.specs.Valuations.{rigids}

pub Extends-refl : (es : ContextEntries) → Extends es es
Extends-refl [] = extends_none
Extends-refl (e ∷ es) = extends_same (Extends-refl es)

pub Extends-trans : {es fs gs : ContextEntries} → Extends es fs → Extends fs gs → Extends es gs
Extends-trans d extends_none = d
Extends-trans (extends_same d) (extends_same k) = extends_same (Extends-trans d k)
Extends-trans (extends_solved d) (extends_same k) = extends_solved (Extends-trans d k)
Extends-trans (extends_new d) (extends_same k) = extends_new (Extends-trans d k)
Extends-trans (extends_new_solved d) (extends_same k) = extends_new_solved (Extends-trans d k)
Extends-trans (extends_same d) (extends_solved k) = extends_solved (Extends-trans d k)
Extends-trans (extends_new d) (extends_solved k) = extends_new_solved (Extends-trans d k)
Extends-trans d (extends_new k) = extends_new (Extends-trans d k)
Extends-trans d (extends_new_solved k) = extends_new_solved (Extends-trans d k)

-- with more behind both
pub Extends-append : {es fs cs ds : ContextEntries} → Extends es fs → Extends cs ds → Extends (es ++ cs) (fs ++ ds)
Extends-append extends_none k = k
Extends-append (extends_same d) k = extends_same (Extends-append d k)
Extends-append (extends_solved d) k = extends_solved (Extends-append d k)
Extends-append (extends_new d) k = extends_new (Extends-append d k)
Extends-append (extends_new_solved d) k = extends_new_solved (Extends-append d k)

-- new existentials
Extends-new : (numbers : List ℕ) {es fs : ContextEntries} → Extends es fs → Extends es (map (λ n. Exists n) numbers ++ fs)
Extends-new [] d = d
Extends-new (n ∷ numbers) d = extends_new (Extends-new numbers d)

-- what passes the test for an unsolved existential is it
pub unsolved_entry : (x : ℕ) (e : Entry) → is_unsolved x e ≡ true → e ≡ Exists x
unsolved_entry x (Rigid y) p = absurd cc
unsolved_entry x (Exists y) p = ap Exists (eqb-true y x p)
unsolved_entry x (Solved y t) p = absurd cc
unsolved_entry x (Mark y) p = absurd cc
unsolved_entry x (Binder y t) p = absurd cc

-- entries in place of an unsolved existential
Extends-exchanged : (x : ℕ) (new : ContextEntries) → ((ds : ContextEntries) → Extends (Exists x ∷ ds) (new ++ ds)) → (es : ContextEntries) → Extends es (exchanged x new es)
Extends-exchanged x new extends [] = extends_none
Extends-exchanged x new extends (e ∷ es) = go (is_unsolved x e) refl (Extends-exchanged x new extends es)
  where
    go : (b : Bool) → is_unsolved x e ≡ b → Extends es (exchanged x new es) → Extends (e ∷ es) (cond b (new ++ es) (e ∷ exchanged x new es))
    go true is rest = subst (λ (d : Entry). Extends (d ∷ es) (new ++ es)) (sym (unsolved_entry x e is)) (extends es)
    go false is rest = extends_same rest

pub Extends-solved_with : (es : ContextEntries) (x : ℕ) (numbers : List ℕ) (t : Open) → Extends es (solved_with es x numbers t)
Extends-solved_with es x numbers t =
    Extends-exchanged x (map (λ n. Exists n) numbers ++ Solved x t ∷ [])
    (λ ds. subst (Extends (Exists x ∷ ds)) (sym (append_assoc (map (λ n. Exists n) numbers) (Solved x t ∷ []) ds)) (Extends-new numbers (extends_solved (Extends-refl ds)))) es

pub Extends-solved : (es : ContextEntries) (x : ℕ) (t : Open) → Extends es (solved es x t)
Extends-solved es x t = Extends-solved_with es x [] t

-- what passes a test that asks for no solution goes on to pass it
module _ (test : Entry → Bool) (same : (x : ℕ) (t : Open) → test (Exists x) ≡ test (Solved x t)) where
  or_on : (a b c : Bool) → (b ≡ true → c ≡ true) → (a || b) ≡ true → (a || c) ≡ true
  or_on true b c on h = refl
  or_on false b c on h = on h

  passes_on : {es fs : ContextEntries} → Extends es fs → list_any test es ≡ true → list_any test fs ≡ true
  passes_on extends_none h = h
  passes_on (extends_same {e} {es} {fs} d) h = or_on (test e) (list_any test es) (list_any test fs) (passes_on d) h
  passes_on (extends_solved {x} {t} {es} {fs} d) h =
      ap (λ (b : Bool). b || list_any test fs) (sym (same x t)) ∙ or_on (test (Exists x)) (list_any test es) (list_any test fs) (passes_on d) h
  passes_on (extends_new {x} {es} {fs} d) h = or_right (test (Exists x)) (list_any test fs) (passes_on d h)
  passes_on (extends_new_solved {x} {t} {es} {fs} d) h = or_right (test (Solved x t)) (list_any test fs) (passes_on d h)

pub declares_on : (x : ℕ) {es fs : ContextEntries} → Extends es fs → list_any (declares x) es ≡ true → list_any (declares x) fs ≡ true
declares_on x d h = passes_on (declares x) (λ y t. refl) d h

-- a test that no existential passes has the same answer
module _ (test : Entry → Bool) (unsolved : (x : ℕ) → test (Exists x) ≡ false) (solved : (x : ℕ) (t : Open) → test (Solved x t) ≡ false) where
  pub same_test : {es fs : ContextEntries} → Extends es fs → list_any test fs ≡ list_any test es
  same_test extends_none = refl
  same_test (extends_same {e} d) = ap (λ (b : Bool). test e || b) (same_test d)
  same_test (extends_solved {x} {t} {es} {fs} d) = rw (solved x t, unsolved x) (same_test d)
  same_test (extends_new {x} {es} {fs} d) = rw (unsolved x) (same_test d)
  same_test (extends_new_solved {x} {t} {es} {fs} d) = rw (solved x t) (same_test d)

pub rigid_on : (x : ℕ) {es fs : ContextEntries} → Extends es fs → list_any (is_rigid x) es ≡ true → list_any (is_rigid x) fs ≡ true
rigid_on x d h = same_test (is_rigid x) (λ y. refl) (λ y t. refl) d ∙ h

-- rigid variables are the same
pub rigids-step : (outer : ℕ) (xs : List ℕ) (e : Entry) (es : ContextEntries) → rigids outer xs (e ∷ es) ≡ rigids outer (rigids outer xs (e ∷ [])) es
rigids-step outer xs (Rigid x) es = refl
rigids-step outer xs (Exists x) es = refl
rigids-step outer xs (Solved x t) es = refl
rigids-step outer xs (Mark x) es = refl
rigids-step outer xs (Binder x t) es = refl

pub rigids-append : (outer : ℕ) (xs : List ℕ) (es ds : ContextEntries) → rigids outer xs (es ++ ds) ≡ rigids outer (rigids outer xs es) ds
rigids-append outer xs [] ds = refl
rigids-append outer xs (e ∷ es) ds =
    rigids-step outer xs e (es ++ ds) ∙ rigids-append outer (rigids outer xs (e ∷ [])) es ds ∙ ap (λ (ys : List ℕ). rigids outer ys ds) (sym (rigids-step outer xs e es))

pub same_rigids : (outer : ℕ) (xs : List ℕ) {es fs : ContextEntries} → Extends es fs → rigids outer xs fs ≡ rigids outer xs es
same_rigids outer xs extends_none = refl
same_rigids outer xs (extends_same {e} {es} {fs} d) = rigids-step outer xs e fs ∙ same_rigids outer (rigids outer xs (e ∷ [])) d ∙ sym (rigids-step outer xs e es)
same_rigids outer xs (extends_solved d) = same_rigids outer xs d
same_rigids outer xs (extends_new d) = same_rigids outer xs d
same_rigids outer xs (extends_new_solved d) = same_rigids outer xs d

-- an entry that is no existential, so that it stays as it is
abbrev pub IsFixed : Entry → Type 0
IsFixed (Rigid x) = Unit {0}
IsFixed (Exists x) = ⊥
IsFixed (Solved x t) = ⊥
IsFixed (Mark x) = Unit {0}
IsFixed (Binder x t) = Unit {0}

-- entries with one among them; those in front of it extend the ones that stood there, and so do those behind it
pub record Cut (es : ContextEntries) (e : Entry) (ds fs : ContextEntries) : Type 0 where
  pub left : ContextEntries
  pub right : ContextEntries
  pub whole : fs ≡ left ++ e ∷ right
  pub front : Extends es left
  pub behind : Extends ds right

-- what extends entries with a fixed one among them has it among its own
pub cut_at : (es : ContextEntries) (e : Entry) (ds : ContextEntries) {gs fs : ContextEntries} → IsFixed e → gs ≡ es ++ e ∷ ds → Extends gs fs → Cut es e ds fs
cut_at [] e ds fixed is extends_none = absurd cc
cut_at (c ∷ es) e ds fixed is extends_none = absurd cc
cut_at [] e ds fixed is (extends_same {e = d} {es = cs} {fs = bs} k) =
    let head : d ≡ e = cc in
    let rest : cs ≡ ds = cc in
    record { left = []; right = bs; whole = ap (λ (c : Entry). c ∷ bs) head; front = extends_none; behind = subst (λ (cs : ContextEntries). Extends cs bs) rest k }
cut_at (c ∷ es) e ds fixed is (extends_same {e = d} {es = cs} {fs = bs} k) =
    let head : d ≡ c = cc in
    let r : Cut es e ds bs = cut_at es e ds fixed (let rest : cs ≡ es ++ e ∷ ds = cc in rest) k in
    record { left = c ∷ r.left; right = r.right; whole = ap (λ (b : Entry). b ∷ bs) head ∙ ap (λ (cs : ContextEntries). c ∷ cs) r.whole; front = extends_same r.front; behind = r.behind }
cut_at [] e ds fixed is (extends_solved {x} {t} {es = cs} {fs = bs} k) = absurd (subst IsFixed (let head : e ≡ Exists x = cc in head) fixed)
cut_at (c ∷ es) e ds fixed is (extends_solved {x} {t} {es = cs} {fs = bs} k) =
    let head : Exists x ≡ c = cc in
    let r : Cut es e ds bs = cut_at es e ds fixed (let rest : cs ≡ es ++ e ∷ ds = cc in rest) k in
    record {
      left = Solved x t ∷ r.left;
      right = r.right;
      whole = ap (λ (cs : ContextEntries). Solved x t ∷ cs) r.whole;
      front = subst (λ (b : Entry). Extends (b ∷ es) (Solved x t ∷ r.left)) head (extends_solved r.front);
      behind = r.behind;
    }
cut_at es e ds fixed is (extends_new {x} {es = cs} {fs = bs} k) =
    let r : Cut es e ds bs = cut_at es e ds fixed is k in
    record { left = Exists x ∷ r.left; right = r.right; whole = ap (λ (cs : ContextEntries). Exists x ∷ cs) r.whole; front = extends_new r.front; behind = r.behind }
cut_at es e ds fixed is (extends_new_solved {x} {t} {es = cs} {fs = bs} k) =
    let r : Cut es e ds bs = cut_at es e ds fixed is k in
    record { left = Solved x t ∷ r.left; right = r.right; whole = ap (λ (cs : ContextEntries). Solved x t ∷ cs) r.whole; front = extends_new_solved r.front; behind = r.behind }

-- entries dropped from the last one of its kind
pub dropped_at : (e : Entry) (left right : ContextEntries) → is_same_entry e e ≡ true → list_any (is_same_entry e) right ≡ false → dropped_from e (left ++ e ∷ right) ≡ left
dropped_at e [] right same none = rw (none, same) refl
dropped_at e (d ∷ left) right same none =
    rw (list_any-append (is_same_entry e) left (e ∷ right) ∙ or_right (list_any (is_same_entry e) left) (list_any (is_same_entry e) (e ∷ right)) (or_left (is_same_entry e e) (list_any (is_same_entry e) right) same))
    (ap (λ (cs : ContextEntries). d ∷ cs) (dropped_at e left right same none))
