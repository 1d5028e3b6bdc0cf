-- Types that stay well-formed.
use Rattle.std.proofs.Common.{◌≡◌, ℕ, suc, ◌<◌, Bool, true, false, cond, eqb, ◌++◌, Some, refl, sym, ap, ◌∙◌, arith}
use Rattle.std.specs.List.{list_any}
use Rattle.std.proofs.lemmas.Bool.{or_left, and_parts, and_from, eqb-false}
use Rattle.std.proofs.lemmas.List.Folds.{list_any-append}
use Rattle.uc_kinds.specs.WellFormed.{Arity}
use Rattle.uc_context.specs.Opens.{Open, bound, rigid, existential, quantified, arrow, unit, tuple, applied, Opens, none, more}
use Rattle.uc_context.specs.Entries.{ContextEntries, is_rigid, declares}
use Rattle.uc_context.specs.Variables.{opened_at, opened_all_at, replaced, replaced_all, is_monotype, declares_all, declares_all_of, has_variables, has_variables_of}
use Rattle.uc_subtyping.specs.Instances.{opens_count}
use Rattle.uc_soundness.specs.Extending.{Extends}
use Rattle.uc_soundness.specs.WellFormed.{IsMonoIn, AreMonoIn, IsTypeIn}
use Rattle.uc_soundness.proofs.Extending.{declares_on, rigid_on}

-- each rigid variable and each existential of entries stands among others
pub record Covered (es fs : ContextEntries) : Type 0 where
  pub rigid_too : (x : ℕ) → list_any (is_rigid x) es ≡ true → list_any (is_rigid x) fs ≡ true
  pub existential_too : (x : ℕ) → list_any (declares x) es ≡ true → list_any (declares x) fs ≡ true

pub Covered-refl : (es : ContextEntries) → Covered es es
Covered-refl es = record { rigid_too = λ x h. h; existential_too = λ x h. h }

pub Covered-trans : {es fs gs : ContextEntries} → Covered es fs → Covered fs gs → Covered es gs
Covered-trans c d = record { rigid_too = λ x h. d.rigid_too x (c.rigid_too x h); existential_too = λ x h. d.existential_too x (c.existential_too x h) }

pub Covered-extends : {es fs : ContextEntries} → Extends es fs → Covered es fs
Covered-extends d = record { rigid_too = λ x h. rigid_on x d h; existential_too = λ x h. declares_on x d h }

pub Covered-front : (es ds : ContextEntries) → Covered es (es ++ ds)
Covered-front es ds = record {
  rigid_too = λ x h. list_any-append (is_rigid x) es ds ∙ or_left (list_any (is_rigid x) es) (list_any (is_rigid x) ds) h;
  existential_too = λ x h. list_any-append (declares x) es ds ∙ or_left (list_any (declares x) es) (list_any (declares x) ds) h;
}

-- types stay well-formed where more variables are
module _ (arity : Arity) (es fs : ContextEntries) (c : Covered es fs) where
  mutual
    pub mono_covered : (k : ℕ) (t : Open) → IsMonoIn arity es k t → IsMonoIn arity fs k t
    mono_covered k (bound i) h = h
    mono_covered k (rigid x) h = c.rigid_too x h
    mono_covered k (existential x) h = c.existential_too x h
    mono_covered k (quantified t) h = h
    mono_covered k (arrow a b) h = (mono_covered k a h.0, mono_covered k b h.1)
    mono_covered k unit h = tt
    mono_covered k (tuple ts) h = all_mono_covered k ts h
    mono_covered k (applied x ts) h = (h.0, all_mono_covered k ts h.1)

    all_mono_covered : (k : ℕ) (ts : Opens) → AreMonoIn arity es k ts → AreMonoIn arity fs k ts
    all_mono_covered k none h = tt
    all_mono_covered k (more t ts) h = (mono_covered k t h.0, all_mono_covered k ts h.1)

  pub type_covered : (k : ℕ) (t : Open) → IsTypeIn arity es k t → IsTypeIn arity fs k t
  type_covered k (bound i) h = h
  type_covered k (rigid x) h = c.rigid_too x h
  type_covered k (existential x) h = c.existential_too x h
  type_covered k (quantified t) h = type_covered (suc k) t h
  type_covered k (arrow a b) h = (type_covered k a h.0, type_covered k b h.1)
  type_covered k unit h = tt
  type_covered k (tuple ts) h = all_mono_covered k ts h
  type_covered k (applied x ts) h = (h.0, all_mono_covered k ts h.1)

module _ (arity : Arity) (es : ContextEntries) where
  -- a monotype is a type
  pub mono_type : (k : ℕ) (t : Open) → IsMonoIn arity es k t → IsTypeIn arity es k t
  mono_type k (bound i) h = h
  mono_type k (rigid x) h = h
  mono_type k (existential x) h = h
  mono_type k (quantified t) h = absurd h
  mono_type k (arrow a b) h = (mono_type k a h.0, mono_type k b h.1)
  mono_type k unit h = tt
  mono_type k (tuple ts) h = h
  mono_type k (applied x ts) h = h

  -- a monotype with no bound variable of the outside is one under any quantifiers
  mutual
    pub mono_anywhere : (k : ℕ) (t : Open) → IsMonoIn arity es 0 t → IsMonoIn arity es k t
    mono_anywhere k (bound i) h = absurd (omega arith)
    mono_anywhere k (rigid x) h = h
    mono_anywhere k (existential x) h = h
    mono_anywhere k (quantified t) h = h
    mono_anywhere k (arrow a b) h = (mono_anywhere k a h.0, mono_anywhere k b h.1)
    mono_anywhere k unit h = tt
    mono_anywhere k (tuple ts) h = all_mono_anywhere k ts h
    mono_anywhere k (applied x ts) h = (h.0, all_mono_anywhere k ts h.1)

    all_mono_anywhere : (k : ℕ) (ts : Opens) → AreMonoIn arity es 0 ts → AreMonoIn arity es k ts
    all_mono_anywhere k none h = tt
    all_mono_anywhere k (more t ts) h = (mono_anywhere k t h.0, all_mono_anywhere k ts h.1)

  -- its existentials are declared
  mutual
    pub mono_declared : (k : ℕ) (t : Open) → IsMonoIn arity es k t → declares_all es t ≡ true
    mono_declared k (bound i) h = refl
    mono_declared k (rigid x) h = refl
    mono_declared k (existential x) h = h
    mono_declared k (quantified t) h = absurd h
    mono_declared k (arrow a b) h = and_from (declares_all es a) (declares_all es b) (mono_declared k a h.0) (mono_declared k b h.1)
    mono_declared k unit h = refl
    mono_declared k (tuple ts) h = all_mono_declared k ts h
    mono_declared k (applied x ts) h = all_mono_declared k ts h.1

    all_mono_declared : (k : ℕ) (ts : Opens) → AreMonoIn arity es k ts → declares_all_of es ts ≡ true
    all_mono_declared k none h = refl
    all_mono_declared k (more t ts) h = and_from (declares_all es t) (declares_all_of es ts) (mono_declared k t h.0) (all_mono_declared k ts h.1)

  pub type_declared : (k : ℕ) (t : Open) → IsTypeIn arity es k t → declares_all es t ≡ true
  type_declared k (bound i) h = refl
  type_declared k (rigid x) h = refl
  type_declared k (existential x) h = h
  type_declared k (quantified t) h = type_declared (suc k) t h
  type_declared k (arrow a b) h = and_from (declares_all es a) (declares_all es b) (type_declared k a h.0) (type_declared k b h.1)
  type_declared k unit h = refl
  type_declared k (tuple ts) h = all_mono_declared k ts h
  type_declared k (applied x ts) h = all_mono_declared k ts h.1

  -- a type without quantifiers whose variables other entries have is a monotype over them
  module _ (fs : ContextEntries) where
    mutual
      mono_over : (k : ℕ) (t : Open) → IsMonoIn arity es k t → has_variables fs t ≡ true → IsMonoIn arity fs k t
      mono_over k (bound i) h v = h
      mono_over k (rigid x) h v = v
      mono_over k (existential x) h v = v
      mono_over k (quantified t) h v = h
      mono_over k (arrow a b) h v = let p = and_parts (has_variables fs a) (has_variables fs b) v in (mono_over k a h.0 p.0, mono_over k b h.1 p.1)
      mono_over k unit h v = tt
      mono_over k (tuple ts) h v = all_mono_over k ts h v
      mono_over k (applied x ts) h v = (h.0, all_mono_over k ts h.1 v)

      all_mono_over : (k : ℕ) (ts : Opens) → AreMonoIn arity es k ts → has_variables_of fs ts ≡ true → AreMonoIn arity fs k ts
      all_mono_over k none h v = tt
      all_mono_over k (more t ts) h v = let p = and_parts (has_variables fs t) (has_variables_of fs ts) v in (mono_over k t h.0 p.0, all_mono_over k ts h.1 p.1)

    pub monotype_over : (k : ℕ) (t : Open) → IsTypeIn arity es k t → is_monotype t ≡ true → has_variables fs t ≡ true → IsMonoIn arity fs k t
    monotype_over k (bound i) h m v = h
    monotype_over k (rigid x) h m v = v
    monotype_over k (existential x) h m v = v
    monotype_over k (quantified t) h m v = absurd cc
    monotype_over k (arrow a b) h m v =
        let p = and_parts (has_variables fs a) (has_variables fs b) v in
        let q = and_parts (is_monotype a) (is_monotype b) m in
        (monotype_over k a h.0 q.0 p.0, monotype_over k b h.1 q.1 p.1)
    monotype_over k unit h m v = tt
    monotype_over k (tuple ts) h m v = all_mono_over k ts h v
    monotype_over k (applied x ts) h m v = (h.0, all_mono_over k ts h.1 v)

-- the number of types in a list stays
pub count-replaced : (x : ℕ) (s : Open) (ts : Opens) → opens_count (replaced_all x s ts) ≡ opens_count ts
count-replaced x s none = refl
count-replaced x s (more t ts) = ap suc (count-replaced x s ts)

pub count-opened : (k : ℕ) (s : Open) (ts : Opens) → opens_count (opened_all_at k s ts) ≡ opens_count ts
count-opened k s none = refl
count-opened k s (more t ts) = ap suc (count-opened k s ts)

-- types stay well-formed where a monotype comes in place of an existential
module _ (arity : Arity) (es : ContextEntries) (x : ℕ) (s : Open) (mono : (k : ℕ) → IsMonoIn arity es k s) where
  mutual
    mono_replaced : (k : ℕ) (t : Open) → IsMonoIn arity es k t → IsMonoIn arity es k (replaced x s t)
    mono_replaced k (bound i) h = h
    mono_replaced k (rigid y) h = h
    mono_replaced k (existential y) h = go (eqb y x)
      where
        go : (b : Bool) → IsMonoIn arity es k (cond b s (existential y))
        go true = mono k
        go false = h
    mono_replaced k (quantified t) h = absurd h
    mono_replaced k (arrow a b) h = (mono_replaced k a h.0, mono_replaced k b h.1)
    mono_replaced k unit h = tt
    mono_replaced k (tuple ts) h = all_mono_replaced k ts h
    mono_replaced k (applied y ts) h = (h.0 ∙ ap Some (sym (count-replaced x s ts)), all_mono_replaced k ts h.1)

    all_mono_replaced : (k : ℕ) (ts : Opens) → AreMonoIn arity es k ts → AreMonoIn arity es k (replaced_all x s ts)
    all_mono_replaced k none h = tt
    all_mono_replaced k (more t ts) h = (mono_replaced k t h.0, all_mono_replaced k ts h.1)

  pub type_replaced : (k : ℕ) (t : Open) → IsTypeIn arity es k t → IsTypeIn arity es k (replaced x s t)
  type_replaced k (bound i) h = h
  type_replaced k (rigid y) h = h
  type_replaced k (existential y) h = go (eqb y x)
    where
      go : (b : Bool) → IsTypeIn arity es k (cond b s (existential y))
      go true = mono_type arity es k s (mono k)
      go false = h
  type_replaced k (quantified t) h = type_replaced (suc k) t h
  type_replaced k (arrow a b) h = (type_replaced k a h.0, type_replaced k b h.1)
  type_replaced k unit h = tt
  type_replaced k (tuple ts) h = all_mono_replaced k ts h
  type_replaced k (applied y ts) h = (h.0 ∙ ap Some (sym (count-replaced x s ts)), all_mono_replaced k ts h.1)

-- and where one comes in place of the variable of the outermost quantifier
module _ (arity : Arity) (es fs : ContextEntries) (c : Covered es fs) (s : Open) (mono : (k : ℕ) → IsMonoIn arity fs k s) where
  within_or_here : (k i : ℕ) (b : Bool) → eqb i k ≡ b → i < suc k → IsMonoIn arity fs k (cond b s (bound i))
  within_or_here k i true is h = mono k
  within_or_here k i false is h = let other = eqb-false i k is in omega arith

  mutual
    mono_opened : (k : ℕ) (t : Open) → IsMonoIn arity es (suc k) t → IsMonoIn arity fs k (opened_at k s t)
    mono_opened k (bound i) h = within_or_here k i (eqb i k) refl h
    mono_opened k (rigid y) h = c.rigid_too y h
    mono_opened k (existential y) h = c.existential_too y h
    mono_opened k (quantified t) h = absurd h
    mono_opened k (arrow a b) h = (mono_opened k a h.0, mono_opened k b h.1)
    mono_opened k unit h = tt
    mono_opened k (tuple ts) h = all_mono_opened k ts h
    mono_opened k (applied y ts) h = (h.0 ∙ ap Some (sym (count-opened k s ts)), all_mono_opened k ts h.1)

    all_mono_opened : (k : ℕ) (ts : Opens) → AreMonoIn arity es (suc k) ts → AreMonoIn arity fs k (opened_all_at k s ts)
    all_mono_opened k none h = tt
    all_mono_opened k (more t ts) h = (mono_opened k t h.0, all_mono_opened k ts h.1)

  pub type_opened : (k : ℕ) (t : Open) → IsTypeIn arity es (suc k) t → IsTypeIn arity fs k (opened_at k s t)
  type_opened k (bound i) h = mono_type arity fs k (opened_at k s (bound i)) (within_or_here k i (eqb i k) refl h)
  type_opened k (rigid y) h = c.rigid_too y h
  type_opened k (existential y) h = c.existential_too y h
  type_opened k (quantified t) h = type_opened (suc k) t h
  type_opened k (arrow a b) h = (type_opened k a h.0, type_opened k b h.1)
  type_opened k unit h = tt
  type_opened k (tuple ts) h = all_mono_opened k ts h
  type_opened k (applied y ts) h = (h.0 ∙ ap Some (sym (count-opened k s ts)), all_mono_opened k ts h.1)
