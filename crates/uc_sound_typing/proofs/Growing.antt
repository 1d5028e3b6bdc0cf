-- Contexts that grow by what patterns bind.
use Rattle.std.proofs.Common.{◌≡◌, ℕ, true, false, List, [], ◌∷◌, ◌++◌, refl, sym, ap, subst, ◌∙◌, append_assoc, append-nil}
use Rattle.std.specs.List.{list_any}
use Rattle.std.proofs.lemmas.Bool.{or_parts, eqb-true, false_from_ne_true}
use Rattle.std.proofs.lemmas.List.Folds.{list_any-append}
use Rattle.uc_kinds.specs.WellFormed.{Arity}
use Rattle.uc_context.specs.declared.entry.Entry.{Entry}
use Rattle.uc_context.specs.declared.entry.Entry.TheVariants.{Rigid, Exists, Solved, Mark, Binder}
use Rattle.uc_context.specs.Opens.{Open}
use Rattle.uc_context.specs.Entries.{ContextEntries, number_of, is_numbered, is_binder}
use Rattle.uc_context.specs.Fresh.{fresh_number}
use Rattle.uc_context.proofs.FreshNumbers.{fresh_number-IsFresh}
use Rattle.uc_context.proofs.Noting.{numbered_fails}
use Rattle.uc_soundness.specs.Extending.{Extends, extends_none, extends_same, extends_solved, extends_new, extends_new_solved}
use Rattle.uc_soundness.specs.Valuations.{Valuation, rigids, all_below, scope_of, Fits}
use Rattle.uc_soundness.proofs.Extending.{Extends-refl, Extends-trans, same_test, same_rigids, rigids-append}
use Rattle.uc_soundness.proofs.Fitting.{fits_before, values_front}
use Rattle.uc_soundness.proofs.Types.{Covered, Covered-trans, Covered-front, Covered-extends}
use Rattle.uc_sound_typing.specs.Growing.{IsNewEntry, AreNewEntries, Grows}

-- what extends entries behind others is split there
pub record Split (es ds fs : ContextEntries) : Type 0 where
  pub left : ContextEntries
  pub right : ContextEntries
  pub whole : fs ≡ left ++ right
  pub front : Extends es left
  pub behind : Extends ds right

split_at : (es ds : ContextEntries) {gs fs : ContextEntries} → gs ≡ es ++ ds → Extends gs fs → Split es ds fs
split_at [] ds {gs = gs} {fs = fs} is k = record { left = []; right = fs; whole = refl; front = extends_none; behind = subst (λ (cs : ContextEntries). Extends cs fs) is k }
split_at (c ∷ es) ds is extends_none = absurd cc
split_at (c ∷ es) ds is (extends_same {e = d} {es = cs} {fs = bs} k) =
    let head : d ≡ c = cc in
    let r : Split es ds bs = split_at es ds (let rest : cs ≡ es ++ ds = cc in rest) k in
    record { left = c ∷ r.left; right = r.right; whole = ap (λ (b : Entry). b ∷ bs) head ∙ ap (λ (cs : ContextEntries). c ∷ cs) r.whole; front = extends_same r.front; behind = r.behind }
split_at (c ∷ es) ds is (extends_solved {x} {t} {es = cs} {fs = bs} k) =
    let head : Exists x ≡ c = cc in
    let r : Split es ds bs = split_at es ds (let rest : cs ≡ es ++ ds = cc in rest) k in
    record {
      left = Solved x t ∷ r.left;
      right = r.right;
      whole = ap (λ (cs : ContextEntries). Solved x t ∷ cs) r.whole;
      front = subst (λ (b : Entry). Extends (b ∷ es) (Solved x t ∷ r.left)) head (extends_solved r.front);
      behind = r.behind;
    }
split_at (c ∷ es) ds is (extends_new {x} {es = cs} {fs = bs} k) =
    let r : Split (c ∷ es) ds bs = split_at (c ∷ es) ds is k in
    record { left = Exists x ∷ r.left; right = r.right; whole = ap (λ (cs : ContextEntries). Exists x ∷ cs) r.whole; front = extends_new r.front; behind = r.behind }
split_at (c ∷ es) ds is (extends_new_solved {x} {t} {es = cs} {fs = bs} k) =
    let r : Split (c ∷ es) ds bs = split_at (c ∷ es) ds is k in
    record { left = Solved x t ∷ r.left; right = r.right; whole = ap (λ (cs : ContextEntries). Solved x t ∷ cs) r.whole; front = extends_new_solved r.front; behind = r.behind }

-- new entries stay new
new_on : (es : ContextEntries) {ds fs : ContextEntries} → Extends ds fs → AreNewEntries es ds → AreNewEntries es fs
new_on es extends_none h = h
new_on es (extends_same d) h = (h.0, new_on es d h.1)
new_on es (extends_solved d) h = (tt, new_on es d h.1)
new_on es (extends_new d) h = (tt, new_on es d h)
new_on es (extends_new_solved d) h = (tt, new_on es d h)

new_append : (es ds cs : ContextEntries) → AreNewEntries es ds → AreNewEntries es cs → AreNewEntries es (ds ++ cs)
new_append es [] cs h k = k
new_append es (d ∷ ds) cs h k = (h.0, new_append es ds cs h.1 k)

module _ (es fs : ContextEntries) (unbound : (n : ℕ) → list_any (is_binder n) fs ≡ false → list_any (is_binder n) es ≡ false) where
  one_before : (d : Entry) → IsNewEntry fs d → IsNewEntry es d
  one_before (Rigid x) h = h
  one_before (Exists x) h = tt
  one_before (Solved x t) h = tt
  one_before (Mark x) h = h
  one_before (Binder x t) h = unbound x h

  new_before : (ds : ContextEntries) → AreNewEntries fs ds → AreNewEntries es ds
  new_before [] h = tt
  new_before (d ∷ ds) h = (one_before d h.0, new_before ds h.1)

binders_same : (n : ℕ) {es fs : ContextEntries} → Extends es fs → list_any (is_binder n) fs ≡ list_any (is_binder n) es
binders_same n d = same_test (is_binder n) (λ y. refl) (λ y t. refl) d

pub Grows-extends : {es fs : ContextEntries} → Extends es fs → Grows es fs
Grows-extends {fs = fs} d = record { front = fs; new = []; whole = sym (append-nil fs); extends = d; behind = tt }

pub Grows-trans : {es fs gs : ContextEntries} → Grows es fs → Grows fs gs → Grows es gs
Grows-trans {es = es} {fs = fs} g h =
    let s : Split g.front g.new h.front = split_at g.front g.new g.whole h.extends in
    record {
      front = s.left;
      new = s.right ++ h.new;
      whole = h.whole ∙ ap (λ (cs : ContextEntries). cs ++ h.new) s.whole ∙ append_assoc s.left s.right h.new;
      extends = Extends-trans g.extends s.front;
      behind = new_append es s.right h.new (new_on es s.behind g.behind) (new_before es fs unbound h.new h.behind);
    }
  where
    unbound : (n : ℕ) → list_any (is_binder n) fs ≡ false → list_any (is_binder n) es ≡ false
    unbound n none =
        let p = or_parts (list_any (is_binder n) g.front) (list_any (is_binder n) g.new) (sym (list_any-append (is_binder n) g.front g.new) ∙ ap (list_any (is_binder n)) (sym g.whole) ∙ none) in
        sym (binders_same n g.extends) ∙ p.0

-- a binder with a fresh number
binder_by_number : (n : ℕ) (e : Entry) → is_binder n e ≡ true → number_of e ≡ n
binder_by_number n (Rigid x) h = absurd cc
binder_by_number n (Exists x) h = absurd cc
binder_by_number n (Solved x t) h = absurd cc
binder_by_number n (Mark x) h = absurd cc
binder_by_number n (Binder x t) h = eqb-true x n h

pub unnumbered_unbound : (es : ContextEntries) (n : ℕ) → list_any (is_numbered n) es ≡ false → list_any (is_binder n) es ≡ false
unnumbered_unbound es n none = numbered_fails is_binder binder_by_number n es none

pub fresh_unbound : (es : ContextEntries) (n : ℕ) → n ≡ fresh_number es → list_any (is_binder n) es ≡ false
fresh_unbound es n is = unnumbered_unbound es n (subst (λ (m : ℕ). list_any (is_numbered m) es ≡ false) (sym is) (false_from_ne_true (list_any (is_numbered (fresh_number es)) es) (λ used. (fresh_number-IsFresh es).unused used)))

pub Grows-binder : (es : ContextEntries) (n : ℕ) (s : Open) → list_any (is_binder n) es ≡ false → Grows es (es ++ Binder n s ∷ [])
Grows-binder es n s none = record { front = es; new = Binder n s ∷ []; whole = refl; extends = Extends-refl es; behind = (none, tt) }

pub Covered-grows : {es fs : ContextEntries} → Grows es fs → Covered es fs
Covered-grows g = Covered-trans (Covered-extends g.extends) (subst (Covered g.front) (sym g.whole) (Covered-front g.front g.new))

-- no rigid variable is new
new_rigids : (outer : ℕ) (xs : List ℕ) (es ds : ContextEntries) → AreNewEntries es ds → rigids outer xs ds ≡ xs
new_rigids outer xs es [] h = refl
new_rigids outer xs es (Rigid x ∷ ds) h = absurd h.0
new_rigids outer xs es (Exists x ∷ ds) h = new_rigids outer xs es ds h.1
new_rigids outer xs es (Solved x t ∷ ds) h = new_rigids outer xs es ds h.1
new_rigids outer xs es (Mark x ∷ ds) h = absurd h.0
new_rigids outer xs es (Binder x t ∷ ds) h = new_rigids outer xs es ds h.1

pub same_scope : (outer : ℕ) {es fs : ContextEntries} → Grows es fs → scope_of outer fs ≡ scope_of outer es
same_scope outer {es = es} g =
    ap (scope_of outer) g.whole ∙ rigids-append outer (all_below outer) g.front g.new ∙ new_rigids outer (scope_of outer g.front) es g.new g.behind ∙ same_rigids outer (all_below outer) g.extends

pub fits_grown : (arity : Arity) {outer : ℕ} (σ : Valuation outer) {es fs : ContextEntries} → Grows es fs → Fits arity σ fs → Fits arity σ es
fits_grown arity {outer = outer} σ g v = fits_before arity σ g.extends (values_front arity σ (all_below outer) g.front g.new (subst (Fits arity σ) g.whole v))
