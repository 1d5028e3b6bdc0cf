-- What types stand for.
use Rattle.std.proofs.Common.{◌≡◌, ℕ, suc, ◌+◌, Bool, true, false, cond, eqb, List, Contains, Some, refl, sym, ap, ◌∙◌, arith, add-one}
use Rattle.std.specs.List.{list_any}
use Rattle.std.proofs.lemmas.Bool.{and_parts, eqb-true}
use Rattle.uc_kinds.specs.WellFormed.{Arity}
use Rattle.uc_kinds.specs.Polytypes as poly
use Rattle.uc_kinds.specs.Polytypes.{Poly, Polys, polys_count}
use Rattle.uc_kinds.specs.Subtyping.{IsMono, mono_rigid, mono_arrow, mono_unit, mono_tuple, mono_applied, AreMono, no_mono, more_mono, IsSubtype, below_rigid, below_unit, below_arrow, below_tuple, below_applied, AreSubtypes, no_subtypes, more_subtypes}
use Rattle.uc_context.specs.Opens.{Open, bound, rigid, existential, quantified, arrow, unit, tuple, applied, Opens, none, more}
use Rattle.uc_context.specs.Entries.{ContextEntries, is_rigid, declares}
use Rattle.uc_context.specs.Variables.{opened_at, opened_all_at, replaced, replaced_all, declares_all, declares_all_of}
use Rattle.uc_subtyping.specs.Instances.{opens_count}
use Rattle.uc_soundness.specs.Valuations.{Valuation, value, values}
use Rattle.uc_soundness.specs.WellFormed.{IsMonoIn, AreMonoIn}

-- as many types
pub values_count : {outer : ℕ} (σ : Valuation outer) (ts : Opens) → polys_count (values σ ts) ≡ opens_count ts
values_count σ none = refl
values_count σ (more t ts) = omega (arith, values_count σ ts)

-- monotypes stay monotypes where more rigid variables are in scope
module _ (arity : Arity) (xs ys : List ℕ) (more_in : (x : ℕ) → Contains xs x → Contains ys x) where
  mutual
    pub mono_more : {t : Poly} → IsMono arity xs t → IsMono arity ys t
    mono_more (mono_rigid {x = x} h) = mono_rigid (more_in x h)
    mono_more (mono_arrow a b) = mono_arrow (mono_more a) (mono_more b)
    mono_more mono_unit = mono_unit
    mono_more (mono_tuple ms) = mono_tuple (all_mono_more ms)
    mono_more (mono_applied takes ms) = mono_applied takes (all_mono_more ms)

    all_mono_more : {ts : Polys} → AreMono arity xs ts → AreMono arity ys ts
    all_mono_more no_mono = no_mono
    all_mono_more (more_mono m ms) = more_mono (mono_more m) (all_mono_more ms)

module _ (arity : Arity) (xs : List ℕ) where
  -- a monotype is below itself
  mutual
    pub reflexive : {t : Poly} → IsMono arity xs t → IsSubtype arity xs t t
    reflexive (mono_rigid h) = below_rigid h
    reflexive (mono_arrow a b) = below_arrow (reflexive a) (reflexive b)
    reflexive mono_unit = below_unit
    reflexive (mono_tuple ms) = below_tuple (all_reflexive ms)
    reflexive (mono_applied takes ms) = below_applied (all_reflexive ms)

    all_reflexive : {ts : Polys} → AreMono arity xs ts → AreSubtypes arity xs ts ts
    all_reflexive no_mono = no_subtypes
    all_reflexive (more_mono m ms) = more_subtypes (reflexive m) (all_reflexive ms)

  -- it has no bound variable
  mutual
    pub opened_mono : (k : ℕ) (s : Poly) {t : Poly} → IsMono arity xs t → poly.opened_at k s t ≡ t
    opened_mono k s (mono_rigid h) = refl
    opened_mono k s (mono_arrow {s = a} {t = b} m n) = ap (λ (c : Poly). poly.arrow c (poly.opened_at k s b)) (opened_mono k s m) ∙ ap (poly.arrow a) (opened_mono k s n)
    opened_mono k s mono_unit = refl
    opened_mono k s (mono_tuple ms) = ap poly.tuple (all_opened_mono k s ms)
    opened_mono k s (mono_applied {h = h} takes ms) = ap (poly.applied h) (all_opened_mono k s ms)

    all_opened_mono : (k : ℕ) (s : Poly) {ts : Polys} → AreMono arity xs ts → poly.all_opened_at k s ts ≡ ts
    all_opened_mono k s no_mono = refl
    all_opened_mono k s (more_mono {t = t} {ts = ts} m ms) = ap (λ (c : Poly). poly.more c (poly.all_opened_at k s ts)) (opened_mono k s m) ∙ ap (poly.more t) (all_opened_mono k s ms)

module _ {outer : ℕ} (σ : Valuation outer) where
  -- a solution in place of an existential that stands for it
  module _ (x : ℕ) (s : Open) (stands_for : σ.stands_for x ≡ value σ s) where
    mutual
      pub value_replaced : (t : Open) → value σ (replaced x s t) ≡ value σ t
      value_replaced (bound i) = refl
      value_replaced (rigid y) = refl
      value_replaced (existential y) = go (eqb y x) refl
        where
          go : (b : Bool) → eqb y x ≡ b → value σ (cond b s (existential y)) ≡ σ.stands_for y
          go true is = sym stands_for ∙ ap σ.stands_for (sym (eqb-true y x is))
          go false is = refl
      value_replaced (quantified t) = ap poly.quantified (value_replaced t)
      value_replaced (arrow a b) = ap (λ (c : Poly). poly.arrow c (value σ (replaced x s b))) (value_replaced a) ∙ ap (poly.arrow (value σ a)) (value_replaced b)
      value_replaced unit = refl
      value_replaced (tuple ts) = ap poly.tuple (values_replaced ts)
      value_replaced (applied h ts) = ap (poly.applied h) (values_replaced ts)

      values_replaced : (ts : Opens) → values σ (replaced_all x s ts) ≡ values σ ts
      values_replaced none = refl
      values_replaced (more t ts) = ap (λ (c : Poly). poly.more c (values σ (replaced_all x s ts))) (value_replaced t) ∙ ap (poly.more (value σ t)) (values_replaced ts)

  -- a type in place of the variable of the outermost quantifier, where existentials stand for types without bound variables
  module _ (es : ContextEntries) (s : Open) (closed : (x : ℕ) → list_any (declares x) es ≡ true → (k : ℕ) → poly.opened_at k (value σ s) (σ.stands_for x) ≡ σ.stands_for x) where
    mutual
      pub value_opened : (k : ℕ) (t : Open) → declares_all es t ≡ true → value σ (opened_at k s t) ≡ poly.opened_at k (value σ s) (value σ t)
      value_opened k (bound i) h = go (eqb i k)
        where
          go : (b : Bool) → value σ (cond b s (bound i)) ≡ cond b (value σ s) (poly.bound i)
          go true = refl
          go false = refl
      value_opened k (rigid y) h = refl
      value_opened k (existential y) h = sym (closed y h k)
      value_opened k (quantified t) h = ap poly.quantified (value_opened (suc k) t h ∙ ap (λ (n : ℕ). poly.opened_at n (value σ s) (value σ t)) (sym (add-one k)))
      value_opened k (arrow a b) h =
          let p = and_parts (declares_all es a) (declares_all es b) h in
          ap (λ (c : Poly). poly.arrow c (value σ (opened_at k s b))) (value_opened k a p.0) ∙ ap (poly.arrow (poly.opened_at k (value σ s) (value σ a))) (value_opened k b p.1)
      value_opened k unit h = refl
      value_opened k (tuple ts) h = ap poly.tuple (values_opened k ts h)
      value_opened k (applied y ts) h = ap (poly.applied y) (values_opened k ts h)

      values_opened : (k : ℕ) (ts : Opens) → declares_all_of es ts ≡ true → values σ (opened_all_at k s ts) ≡ poly.all_opened_at k (value σ s) (values σ ts)
      values_opened k none h = refl
      values_opened k (more t ts) h =
          let p = and_parts (declares_all es t) (declares_all_of es ts) h in
          ap (λ (c : Poly). poly.more c (values σ (opened_all_at k s ts))) (value_opened k t p.0) ∙ ap (poly.more (poly.opened_at k (value σ s) (value σ t))) (values_opened k ts p.1)

-- two valuations say the same of the existentials that entries declare
abbrev pub Agree : {outer : ℕ} → Valuation outer → Valuation outer → ContextEntries → Type 0
Agree σ ρ es = (x : ℕ) → list_any (declares x) es ≡ true → ρ.stands_for x ≡ σ.stands_for x

module _ {outer : ℕ} (σ ρ : Valuation outer) (es : ContextEntries) (agree : Agree σ ρ es) where
  mutual
    pub value_agree : (t : Open) → declares_all es t ≡ true → value ρ t ≡ value σ t
    value_agree (bound i) h = refl
    value_agree (rigid y) h = refl
    value_agree (existential y) h = agree y h
    value_agree (quantified t) h = ap poly.quantified (value_agree t h)
    value_agree (arrow a b) h =
        let p = and_parts (declares_all es a) (declares_all es b) h in
        ap (λ (c : Poly). poly.arrow c (value ρ b)) (value_agree a p.0) ∙ ap (poly.arrow (value σ a)) (value_agree b p.1)
    value_agree unit h = refl
    value_agree (tuple ts) h = ap poly.tuple (values_agree ts h)
    value_agree (applied x ts) h = ap (poly.applied x) (values_agree ts h)

    pub values_agree : (ts : Opens) → declares_all_of es ts ≡ true → values ρ ts ≡ values σ ts
    values_agree none h = refl
    values_agree (more t ts) h =
        let p = and_parts (declares_all es t) (declares_all_of es ts) h in
        ap (λ (c : Poly). poly.more c (values ρ ts)) (value_agree t p.0) ∙ ap (poly.more (value σ t)) (values_agree ts p.1)

-- each existential of entries stands for a monotype, and each rigid variable is in scope
pub record Knows {outer : ℕ} (arity : Arity) (σ : Valuation outer) (xs : List ℕ) (es : ContextEntries) : Type 0 where
  pub existentials : (x : ℕ) → list_any (declares x) es ≡ true → IsMono arity xs (σ.stands_for x)
  pub in_scope : (x : ℕ) → list_any (is_rigid x) es ≡ true → Contains xs (outer + x)

-- then a monotype over them stands for a monotype
module _ (arity : Arity) {outer : ℕ} (σ : Valuation outer) (xs : List ℕ) (es : ContextEntries) (knows : Knows arity σ xs es) where
  mutual
    pub mono_value : (t : Open) → IsMonoIn arity es 0 t → IsMono arity xs (value σ t)
    mono_value (bound i) h = absurd (omega arith)
    mono_value (rigid x) h = mono_rigid (knows.in_scope x h)
    mono_value (existential x) h = knows.existentials x h
    mono_value (quantified t) h = absurd h
    mono_value (arrow a b) h = mono_arrow (mono_value a h.0) (mono_value b h.1)
    mono_value unit h = mono_unit
    mono_value (tuple ts) h = mono_tuple (all_mono_value ts h)
    mono_value (applied x ts) h = mono_applied (h.0 ∙ ap Some (sym (values_count σ ts))) (all_mono_value ts h.1)

    pub all_mono_value : (ts : Opens) → AreMonoIn arity es 0 ts → AreMono arity xs (values σ ts)
    all_mono_value none h = no_mono
    all_mono_value (more t ts) h = more_mono (mono_value t h.0) (all_mono_value ts h.1)
