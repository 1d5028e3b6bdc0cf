-- Types with existentials quantified at their front, opened with rigid variables from outside in.
use Rattle.std.proofs.Common.{◌≡◌, ℕ, zero, suc, ◌+◌, ◌<◌, Bool, true, false, cond, eqb, List, [], ◌∷◌, length, Contains, refl, sym, ap, subst, ◌∙◌, arith}
use Rattle.std.proofs.lemmas.Bool.{or_left, or_right, and_parts, eqb-true, eq-eqb, false_from_ne_true}
use Rattle.uc_base.proofs.GraphOrder.{head_in, tail_in}
use Rattle.uc_tree.specs.Terms.{Term}
use Rattle.uc_tree.specs.Types.{Ty, Tys}
use Rattle.uc_tree.specs.Types as types
use Rattle.uc_kinds.specs.PatternTyping.{Known}
use Rattle.uc_kinds.specs.Polytypes as poly
use Rattle.uc_kinds.specs.Polytypes.{Poly, Polys}
use Rattle.uc_kinds.specs.Subtyping.{IsMono, mono_rigid, mono_unit}
use Rattle.uc_kinds.specs.Typing.{Scope, HasType, for_all}
use Rattle.uc_kinds.specs.WellFormed.{Arity}
use Rattle.uc_context.specs.Closing.{open_from, opens_from, is_closed, are_closed}
use Rattle.uc_context.specs.Entries.{ContextEntries}
use Rattle.uc_context.specs.Generalising.{bound_by, all_bound_at, each_bound_at, behind_quantifiers, generalised}
use Rattle.uc_context.specs.Opens.{Open, bound, rigid, existential, quantified, arrow, unit, tuple, applied, Opens, none, more}
use Rattle.uc_context.specs.Variables.{mentions, some_mentions}
use Rattle.uc_soundness.specs.Valuations.{Valuation, value, values, all_below}
use Rattle.uc_soundness.specs.WellFormed.{AreMonoIn, IsTypeIn}
use Rattle.uc_soundness.proofs.Fitting.{none_in_scope}
use Rattle.uc_soundness.proofs.Types.{mono_type}

abbrev mutual
  -- a type where each existential stands for a type that depends on how many quantifiers it is under
  pub value_by : ℕ → (ℕ → ℕ → Poly) → ℕ → Open → Poly
  value_by outer f k (bound i) = poly.bound i
  value_by outer f k (rigid x) = poly.rigid (outer + x)
  value_by outer f k (existential x) = f k x
  value_by outer f k (quantified t) = poly.quantified (value_by outer f (suc k) t)
  value_by outer f k (arrow a b) = poly.arrow (value_by outer f k a) (value_by outer f k b)
  value_by outer f k unit = poly.unit
  value_by outer f k (tuple ts) = poly.tuple (values_by outer f k ts)
  value_by outer f k (applied h ts) = poly.applied h (values_by outer f k ts)

  values_by : ℕ → (ℕ → ℕ → Poly) → ℕ → Opens → Polys
  values_by outer f k none = poly.none
  values_by outer f k (more t ts) = poly.more (value_by outer f k t) (values_by outer f k ts)

-- the rigid variables that the existentials of a list stand for, which take numbers from a given one on
abbrev pub numbered : ℕ → List ℕ → ℕ → Poly
numbered j [] x = poly.unit
numbered j (y ∷ ys) x = cond (eqb y x) (poly.rigid j) (numbered (suc j) ys x)

-- the variables of quantifiers that they stand for
abbrev pub counted : List ℕ → ℕ → ℕ → Poly
counted [] k x = poly.unit
counted (y ∷ ys) k x = cond (eqb y x) (poly.bound (length ys + k)) (counted ys k x)

-- a type behind as many quantifiers
abbrev pub quantifiers : List ℕ → Poly → Poly
quantifiers [] p = p
quantifiers (y ∷ ys) p = poly.quantified (quantifiers ys p)

-- each number up to another is in scope where so many are
above_in : (d n k : ℕ) → k ≡ d + n → Contains (all_below (suc k)) n
above_in zero n k is = let same : n ≡ k = omega (arith, is) in subst (λ (m : ℕ). Contains (all_below (suc m)) n) same (head_in n (all_below n))
above_in (suc d) n zero is = absurd (omega arith)
above_in (suc d) n (suc k) is = let before : k ≡ d + n = omega (arith, is) in tail_in (suc k) n (all_below (suc k)) (above_in d n k before)

pub numbered_mono : (arity : Arity) (outer j : ℕ) (ys : List ℕ) (x : ℕ) → length ys + j ≡ outer → IsMono arity (all_below outer) (numbered j ys x)
numbered_mono arity outer j [] x total = mono_unit
numbered_mono arity outer j (y ∷ ys) x total =
    let all : suc (length ys + j) ≡ outer = omega (arith, total) in
    let rest : length ys + suc j ≡ outer = omega (arith, total) in
    go (eqb y x) (mono_rigid (subst (λ (n : ℕ). Contains (all_below n) j) all (above_in (length ys) j (length ys + j) refl))) (numbered_mono arity outer (suc j) ys x rest)
  where
    go : (b : Bool) → IsMono arity (all_below outer) (poly.rigid j) → IsMono arity (all_below outer) (numbered (suc j) ys x) → IsMono arity (all_below outer) (cond b (poly.rigid j) (numbered (suc j) ys x))
    go true m n = m
    go false m n = n

-- a valuation and what it says of the existentials that a type mentions
module _ {outer : ℕ} (σ : Valuation outer) (c : ℕ → Poly) where
  mutual
    pub value_mentioned : (k : ℕ) (t : Open) → ((x : ℕ) → mentions x t ≡ true → σ.stands_for x ≡ c x) → value σ t ≡ value_by outer (λ j x. c x) k t
    value_mentioned k (bound i) h = refl
    value_mentioned k (rigid x) h = refl
    value_mentioned k (existential x) h = h x (eq-eqb x x refl)
    value_mentioned k (quantified t) h = ap poly.quantified (value_mentioned (suc k) t h)
    value_mentioned k (arrow a b) h =
        let left : value σ a ≡ value_by outer (λ j x. c x) k a = value_mentioned k a (λ x m. h x (or_left (mentions x a) (mentions x b) m)) in
        let right : value σ b ≡ value_by outer (λ j x. c x) k b = value_mentioned k b (λ x m. h x (or_right (mentions x a) (mentions x b) m)) in
        ap (λ (p : Poly). poly.arrow p (value σ b)) left ∙ ap (poly.arrow (value_by outer (λ j x. c x) k a)) right
    value_mentioned k unit h = refl
    value_mentioned k (tuple ts) h = ap poly.tuple (values_mentioned k ts h)
    value_mentioned k (applied y ts) h = ap (poly.applied y) (values_mentioned k ts h)

    values_mentioned : (k : ℕ) (ts : Opens) → ((x : ℕ) → some_mentions x ts ≡ true → σ.stands_for x ≡ c x) → values σ ts ≡ values_by outer (λ j x. c x) k ts
    values_mentioned k none h = refl
    values_mentioned k (more t ts) h =
        let left : value σ t ≡ value_by outer (λ j x. c x) k t = value_mentioned k t (λ x m. h x (or_left (mentions x t) (some_mentions x ts) m)) in
        let right : values σ ts ≡ values_by outer (λ j x. c x) k ts = values_mentioned k ts (λ x m. h x (or_right (mentions x t) (some_mentions x ts) m)) in
        ap (λ (p : Poly). poly.more p (values σ ts)) left ∙ ap (poly.more (value_by outer (λ j x. c x) k t)) right

-- a type in which all existentials are bound
module _ {outer : ℕ} (σ : Valuation outer) where
  bound_value : (ys : List ℕ) (k x : ℕ) → is_closed (bound_by ys k x) ≡ true → value σ (bound_by ys k x) ≡ counted ys k x
  bound_value [] k x h = absurd cc
  bound_value (y ∷ ys) k x h = go (eqb y x) (bound_value ys k x) h
    where
      go : (b : Bool) → (is_closed (bound_by ys k x) ≡ true → value σ (bound_by ys k x) ≡ counted ys k x)
          → is_closed (cond b (bound (length ys + k)) (bound_by ys k x)) ≡ true → value σ (cond b (bound (length ys + k)) (bound_by ys k x)) ≡ cond b (poly.bound (length ys + k)) (counted ys k x)
      go true rest h = refl
      go false rest h = rest h

  module _ (xs : List ℕ) where
    mutual
      pub value_bound : (k : ℕ) (t : Open) → is_closed (all_bound_at xs k t) ≡ true → value σ (all_bound_at xs k t) ≡ value_by outer (counted xs) k t
      value_bound k (bound i) h = refl
      value_bound k (rigid x) h = refl
      value_bound k (existential x) h = bound_value xs k x h
      value_bound k (quantified t) h = ap poly.quantified (value_bound (suc k) t h)
      value_bound k (arrow a b) h =
          let p = and_parts (is_closed (all_bound_at xs k a)) (is_closed (all_bound_at xs k b)) h in
          ap (λ (q : Poly). poly.arrow q (value σ (all_bound_at xs k b))) (value_bound k a p.0) ∙ ap (poly.arrow (value_by outer (counted xs) k a)) (value_bound k b p.1)
      value_bound k unit h = refl
      value_bound k (tuple ts) h = ap poly.tuple (values_bound k ts h)
      value_bound k (applied y ts) h = ap (poly.applied y) (values_bound k ts h)

      values_bound : (k : ℕ) (ts : Opens) → are_closed (each_bound_at xs k ts) ≡ true → values σ (each_bound_at xs k ts) ≡ values_by outer (counted xs) k ts
      values_bound k none h = refl
      values_bound k (more t ts) h =
          let p = and_parts (is_closed (all_bound_at xs k t)) (are_closed (each_bound_at xs k ts)) h in
          ap (λ (q : Poly). poly.more q (values σ (each_bound_at xs k ts))) (value_bound k t p.0) ∙ ap (poly.more (value_by outer (counted xs) k t)) (values_bound k ts p.1)

  value_behind : (xs : List ℕ) (t : Open) → value σ (behind_quantifiers xs t) ≡ quantifiers xs (value σ t)
  value_behind [] t = refl
  value_behind (x ∷ xs) t = ap poly.quantified (value_behind xs t)

  closed_behind : (xs : List ℕ) (t : Open) → is_closed (behind_quantifiers xs t) ≡ is_closed t
  closed_behind [] t = refl
  closed_behind (x ∷ xs) t = closed_behind xs t

  pub value_generalised : (xs : List ℕ) (t : Open) → is_closed (generalised xs t) ≡ true → value σ (generalised xs t) ≡ quantifiers xs (value_by outer (counted xs) 0 t)
  value_generalised xs t h = value_behind xs (all_bound_at xs 0 t) ∙ ap (quantifiers xs) (value_bound xs 0 t (sym (closed_behind xs (all_bound_at xs 0 t)) ∙ h))

-- a written type has no free variables
mutual
  pub closed_from : (ty : Ty) → is_closed (open_from ty) ≡ true
  closed_from (types.variable i) = refl
  closed_from (types.quantified t) = closed_from t
  closed_from (types.arrow a b) = rw (closed_from a) (closed_from b)
  closed_from types.unit = refl
  closed_from (types.tuple ts) = all_closed_from ts
  closed_from (types.applied x ts) = all_closed_from ts

  all_closed_from : (ts : Tys) → are_closed (opens_from ts) ≡ true
  all_closed_from types.none = refl
  all_closed_from (types.more t ts) = rw (closed_from t) (all_closed_from ts)

-- a number below another is another
apart : (a n : ℕ) → a < n → eqb a n ≡ false
apart a n less = false_from_ne_true (eqb a n) (λ same. let e : a ≡ n = eqb-true a n same in absurd (omega arith))

-- variables of inner quantifiers stay where an outer one's is replaced
untouched : (n : ℕ) (s : Poly) (ys : List ℕ) (k x : ℕ) → length ys + k < suc n → poly.opened_at n s (counted ys k x) ≡ counted ys k x
untouched n s [] k x within = refl
untouched n s (y ∷ ys) k x within =
    let less : length ys + k < n = omega (arith, within) in
    let still : length ys + k < suc n = omega (arith, within) in
    go (eqb y x) (apart (length ys + k) n less) (untouched n s ys k x still)
  where
    go : (b : Bool) → eqb (length ys + k) n ≡ false → poly.opened_at n s (counted ys k x) ≡ counted ys k x
        → poly.opened_at n s (cond b (poly.bound (length ys + k)) (counted ys k x)) ≡ cond b (poly.bound (length ys + k)) (counted ys k x)
    go true other rest = rw other refl
    go false other rest = rest

opened_counted : (s : Poly) (y : ℕ) (ys : List ℕ) (k x : ℕ) → poly.opened_at (length ys + k) s (counted (y ∷ ys) k x) ≡ cond (eqb y x) s (counted ys k x)
opened_counted s y ys k x = go (eqb y x)
  where
    go : (b : Bool) → poly.opened_at (length ys + k) s (cond b (poly.bound (length ys + k)) (counted ys k x)) ≡ cond b s (counted ys k x)
    go true = rw (eq-eqb (length ys + k) (length ys + k) refl) refl
    go false = untouched (length ys + k) s ys k x (omega arith)

-- a type in place of the variable of a quantifier around a type
module _ (arity : Arity) (es : ContextEntries) (outer m : ℕ) (s : Poly) (f g : ℕ → ℕ → Poly) (by : (k x : ℕ) → poly.opened_at (m + k) s (f k x) ≡ g k x) where
  mutual
    opened_by : (k : ℕ) (t : Open) → IsTypeIn arity es k t → poly.opened_at (m + k) s (value_by outer f k t) ≡ value_by outer g k t
    opened_by k (bound i) h = let other : eqb i (m + k) ≡ false = apart i (m + k) (omega arith) in rw other refl
    opened_by k (rigid x) h = refl
    opened_by k (existential x) h = by k x
    opened_by k (quantified t) h =
        let deeper : (m + k) + 1 ≡ m + suc k = omega arith in
        ap poly.quantified (ap (λ (n : ℕ). poly.opened_at n s (value_by outer f (suc k) t)) deeper ∙ opened_by (suc k) t h)
    opened_by k (arrow a b) h =
        ap (λ (q : Poly). poly.arrow q (poly.opened_at (m + k) s (value_by outer f k b))) (opened_by k a h.0) ∙ ap (poly.arrow (value_by outer g k a)) (opened_by k b h.1)
    opened_by k unit h = refl
    opened_by k (tuple ts) h = ap poly.tuple (all_opened_by k ts h)
    opened_by k (applied y ts) h = ap (poly.applied y) (all_opened_by k ts h.1)

    all_opened_by : (k : ℕ) (ts : Opens) → AreMonoIn arity es k ts → poly.all_opened_at (m + k) s (values_by outer f k ts) ≡ values_by outer g k ts
    all_opened_by k none h = refl
    all_opened_by k (more t ts) h =
        ap (λ (q : Poly). poly.more q (poly.all_opened_at (m + k) s (values_by outer f k ts))) (opened_by k t (mono_type arity es k t h.0)) ∙ ap (poly.more (value_by outer g k t)) (all_opened_by k ts h.1)

opened_behind : (n : ℕ) (s : Poly) (ys : List ℕ) (p : Poly) → poly.opened_at n s (quantifiers ys p) ≡ quantifiers ys (poly.opened_at (length ys + n) s p)
opened_behind n s [] p = let same : n ≡ 0 + n = omega arith in ap (λ (m : ℕ). poly.opened_at m s p) same
opened_behind n s (y ∷ ys) p =
    let deeper : length ys + (n + 1) ≡ suc (length ys) + n = omega arith in
    ap poly.quantified (opened_behind (n + 1) s ys p ∙ ap (λ (m : ℕ). quantifiers ys (poly.opened_at m s p)) deeper)

-- what is chosen for existentials, or else a type: replacing a variable in it does so in that type
abbrev pub Commutes : (ℕ → Poly → Poly) → Type 0
Commutes h = (n : ℕ) (s : Poly) (x : ℕ) (p : Poly) → poly.opened_at n s (h x p) ≡ h x (poly.opened_at n s p)

abbrev with_next : (ℕ → Poly → Poly) → ℕ → ℕ → ℕ → Poly → Poly
with_next h y j x p = h x (cond (eqb y x) (poly.rigid j) p)

commutes_next : (h : ℕ → Poly → Poly) (y j : ℕ) → Commutes h → Commutes (with_next h y j)
commutes_next h y j commutes n s x p = commutes n s x (cond (eqb y x) (poly.rigid j) p) ∙ ap (h x) (go (eqb y x))
  where
    go : (b : Bool) → poly.opened_at n s (cond b (poly.rigid j) p) ≡ cond b (poly.rigid j) (poly.opened_at n s p)
    go true = refl
    go false = refl

-- so many rigid variables are in scope
abbrev pub numbers_scope : ℕ → Scope
numbers_scope j = record { rigids = all_below j; seen = []; types = [] }

next_number : (j : ℕ) → Contains (all_below j) j → ⊥
next_number j m = let same : j ≡ j + 0 = omega arith in none_in_scope j [] 0 refl (subst (Contains (all_below j)) same m)

-- a term that has a type with rigid variables in place of existentials has it with quantifiers
module _ (known : Known) (es : ContextEntries) (outer : ℕ) (e : Term) (t : Open) (typed : IsTypeIn known.arity es 0 t) where
  opened_next : (y : ℕ) (ys : List ℕ) (j : ℕ) (h : ℕ → Poly → Poly) → Commutes h
      → poly.opened (poly.rigid j) (quantifiers ys (value_by outer (λ k x. h x (counted (y ∷ ys) k x)) 0 t)) ≡ quantifiers ys (value_by outer (λ k x. with_next h y j x (counted ys k x)) 0 t)
  opened_next y ys j h commutes =
      let f : ℕ → ℕ → Poly = λ k x. h x (counted (y ∷ ys) k x) in
      let g : ℕ → ℕ → Poly = λ k x. with_next h y j x (counted ys k x) in
      opened_behind 0 (poly.rigid j) ys (value_by outer f 0 t)
      ∙ ap (quantifiers ys) (opened_by known.arity es outer (length ys) (poly.rigid j) f g
      (λ k x. commutes (length ys + k) (poly.rigid j) x (counted (y ∷ ys) k x) ∙ ap (h x) (opened_counted (poly.rigid j) y ys k x)) 0 t typed)

  pub quantified_type : (ys : List ℕ) (j : ℕ) (h : ℕ → Poly → Poly) → Commutes h → length ys + j ≡ outer
      → HasType known (numbers_scope outer) e (value_by outer (λ k x. h x (numbered j ys x)) 0 t) → HasType known (numbers_scope j) e (quantifiers ys (value_by outer (λ k x. h x (counted ys k x)) 0 t))
  quantified_type [] j h commutes total d = let same : outer ≡ j = omega (arith, total) in subst (λ (n : ℕ). HasType known (numbers_scope n) e (value_by outer (λ k x. h x poly.unit) 0 t)) same d
  quantified_type (y ∷ ys) j h commutes total d =
      let rest : length ys + suc j ≡ outer = omega (arith, total) in
      let inside : HasType known (numbers_scope (suc j)) e (quantifiers ys (value_by outer (λ k x. with_next h y j x (counted ys k x)) 0 t)) = quantified_type ys (suc j) (with_next h y j) (commutes_next h y j commutes) rest d in
      for_all j (next_number j) (subst (HasType known (numbers_scope (suc j)) e) (sym (opened_next y ys j h commutes)) inside)
