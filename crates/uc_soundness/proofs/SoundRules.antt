-- Existentials that are solved stand for what the declarative rules ask for, one rule after another.
use Rattle.std.proofs.Common.{◌≡◌, ℕ, ◌+◌, true, List, [], ◌∷◌, ◌++◌, map, length, Contains, refl, sym, ap, subst, ◌∙◌}
use Rattle.std.specs.List.{list_any}
use Rattle.std.proofs.lemmas.Bool.{false_from_ne_true, false≢true}
use Rattle.uc_kinds.specs.WellFormed.{Arity}
use Rattle.uc_kinds.specs.Polytypes as poly
use Rattle.uc_kinds.specs.Polytypes.{Poly, Polys}
use Rattle.uc_kinds.specs.Subtyping.{IsMono, IsSubtype, below_arrow, below_tuple, below_applied, AreSubtypes, no_subtypes, more_subtypes}
use Rattle.uc_tree.specs.declared.target.Target.{Target}
use Rattle.uc_context.specs.declared.entry.Entry.TheVariants.{Exists, Mark}
use Rattle.uc_context.specs.Opens.{Open, existential, arrow, tuple, applied, Opens, none, more, opens_of}
use Rattle.uc_context.specs.Entries.{ContextEntries, is_rigid, is_unsolved}
use Rattle.uc_context.specs.Fresh.{fresh_number}
use Rattle.uc_context.specs.Solving.{solved, solved_with, solved_with_arrow, solved_with_data, solved_with_tuple}
use Rattle.uc_context.specs.Variables.{opened_at}
use Rattle.uc_subtyping.specs.declared.side.Side.{Side}
use Rattle.uc_subtyping.specs.declared.side.Side.TheVariants.{Below, Above}
use Rattle.uc_subtyping.specs.Instances.{Instances, no_instances, instance, other, all_at, opens_count}
use Rattle.uc_subtyping.specs.Outcomes.{done}
use Rattle.uc_soundness.specs.Laws.{IsSubtypeAt}
use Rattle.uc_soundness.specs.Valuations.{Valuation, value, values, all_below, scope_of, Fits}
use Rattle.uc_soundness.specs.WellFormed.{IsTypeIn, IsWellFormedContext}
use Rattle.uc_soundness.proofs.Extending.{Extends-solved_with, same_rigids}
use Rattle.uc_soundness.proofs.Fitting.{values_behind, fits_before, knows_all, stands_for, none_in_scope}
use Rattle.uc_soundness.proofs.Instances.{fresh_apart}
use Rattle.uc_soundness.proofs.Outcomes.{Given}
use Rattle.uc_soundness.proofs.Tests.{unsolved_declared, rigid_variable}
use Rattle.uc_soundness.proofs.Types.{type_declared}
use Rattle.uc_soundness.proofs.Values.{reflexive, opened_mono, value_opened, Agree, value_agree}

-- subtypes at either side
module _ (arity : Arity) (xs : List ℕ) where
  pub subtype_same : (s : Side) (p q : Poly) → IsMono arity xs p → p ≡ q → IsSubtypeAt s arity xs p q
  subtype_same Below p q m e = subst (IsSubtype arity xs p) e (reflexive arity xs m)
  subtype_same Above p q m e = subst (λ (r : Poly). IsSubtype arity xs r p) e (reflexive arity xs m)

  pub subtype_along : (s : Side) (p q r u : Poly) → p ≡ q → r ≡ u → IsSubtypeAt s arity xs p r → IsSubtypeAt s arity xs q u
  subtype_along s p q r u e f d = subst (λ (z : Poly). IsSubtypeAt s arity xs z u) e (subst (IsSubtypeAt s arity xs p) f d)

  arrow_at : (s : Side) (p q a b : Poly) → IsSubtypeAt (other s) arity xs p a → IsSubtypeAt s arity xs q b → IsSubtypeAt s arity xs (poly.arrow p q) (poly.arrow a b)
  arrow_at Below p q a b d k = below_arrow d k
  arrow_at Above p q a b d k = below_arrow d k

  AreSubtypesAt : Side → Polys → Polys → Type 0
  AreSubtypesAt Below ps qs = AreSubtypes arity xs ps qs
  AreSubtypesAt Above ps qs = AreSubtypes arity xs qs ps

  none_at : (s : Side) → AreSubtypesAt s poly.none poly.none
  unfolding AreSubtypesAt
  none_at Below = no_subtypes
  none_at Above = no_subtypes

  more_at : (s : Side) (p q : Poly) (ps qs : Polys) → IsSubtypeAt s arity xs p q → AreSubtypesAt s ps qs → AreSubtypesAt s (poly.more p ps) (poly.more q qs)
  unfolding AreSubtypesAt
  more_at Below p q ps qs d ds = more_subtypes d ds
  more_at Above p q ps qs d ds = more_subtypes d ds

  tuple_at : (s : Side) (ps qs : Polys) → AreSubtypesAt s ps qs → IsSubtypeAt s arity xs (poly.tuple ps) (poly.tuple qs)
  unfolding AreSubtypesAt
  tuple_at Below ps qs ds = below_tuple ds
  tuple_at Above ps qs ds = below_tuple ds

  applied_at : (s : Side) (h : Target) (ps qs : Polys) → AreSubtypesAt s ps qs → IsSubtypeAt s arity xs (poly.applied h ps) (poly.applied h qs)
  unfolding AreSubtypesAt
  applied_at Below h ps qs ds = below_applied ds
  applied_at Above h ps qs ds = below_applied ds

-- each existential of instances stands for a type at its side of the other
abbrev pub AllAt : {outer : ℕ} → Arity → List ℕ → Valuation outer → Instances → Type 0
AllAt arity xs σ no_instances = Unit {0}
AllAt arity xs σ (instance s x t rest) = IsSubtypeAt s arity xs (σ.stands_for x) (value σ t) × AllAt arity xs σ rest

module _ (arity : Arity) (xs : List ℕ) {outer : ℕ} (σ : Valuation outer) (s : Side) where
  lists_at : (ns : List ℕ) (ts : Opens) → length ns ≡ opens_count ts → AllAt arity xs σ (all_at s ns ts) → AreSubtypesAt arity xs s (values σ (opens_of (map (λ n. existential n) ns))) (values σ ts)
  lists_at [] none same h = none_at arity xs s
  lists_at [] (more t ts) same h = absurd cc
  lists_at (n ∷ ns) none same h = absurd cc
  lists_at (n ∷ ns) (more t ts) same h =
      more_at arity xs s (σ.stands_for n) (value σ t) (values σ (opens_of (map (λ n. existential n) ns))) (values σ ts) h.0 (lists_at ns ts (let e : length ns ≡ opens_count ts = cc in e) h.1)

-- the values of a type in which a quantifier's variable is replaced
module _ (arity : Arity) {outer : ℕ} (es : ContextEntries) (σ ρ : Valuation outer) (fits : Fits arity ρ es) (agree : Agree σ ρ es) (k : ℕ) (t : Open) (h : IsTypeIn arity es k t) where
  pub value_opened_agree : (s : Open) → value ρ (opened_at 0 s t) ≡ poly.opened (value ρ s) (value σ t)
  value_opened_agree s =
      value_opened ρ es s (λ x there j. opened_mono arity (scope_of outer es) j (value ρ s) ((knows_all arity ρ es fits).existentials x there)) 0 t (type_declared arity es k t h)
      ∙ ap (poly.opened (value ρ s)) (value_agree σ ρ es agree t (type_declared arity es k t h))

-- no rigid variable in scope has a fresh number
pub fresh_in_scope : (outer : ℕ) (es : ContextEntries) (n : ℕ) → n ≡ fresh_number es → Contains (scope_of outer es) (outer + n) → ⊥
fresh_in_scope outer es n is = none_in_scope outer es n (false_from_ne_true (list_any (is_rigid n) es) (λ there. false≢true (sym (fresh_apart es n is) ∙ rigid_variable n es there)))

-- what a new existential stands for is a monotype over the rigid variables before it
pub marked_mono : (arity : Arity) {outer : ℕ} (es : ContextEntries) (n : ℕ) (ρ : Valuation outer) → Fits arity ρ (es ++ Mark n ∷ Exists n ∷ []) → IsMono arity (scope_of outer es) (ρ.stands_for n)
marked_mono arity {outer = outer} es n ρ fits = (values_behind arity ρ (all_below outer) es (Mark n ∷ Exists n ∷ []) fits).0

module _ (arity : Arity) (outer : ℕ) where
  -- an existential solved by a type, or another by it
  module _ (es : ContextEntries) (x : ℕ) (wf : IsWellFormedContext arity es) (unsolved : list_any (is_unsolved x) es ≡ true) (s : Side) where
    pub sound_whole : (t : Open) (fs : ContextEntries) → fs ≡ solved es x t → Given arity outer (done fs) (λ σ. IsSubtypeAt s arity (scope_of outer es) (σ.stands_for x) (value σ t))
    sound_whole t fs is σ fits =
        let f : Fits arity σ (solved es x t) = subst (Fits arity σ) is fits in
        let before : Fits arity σ es = fits_before arity σ (Extends-solved_with es x [] t) f in
        subtype_same arity (scope_of outer es) s (σ.stands_for x) (value σ t) ((knows_all arity σ es before).existentials x (unsolved_declared x es unsolved)) (stands_for arity σ es wf x unsolved [] t f)

    pub sound_reached : (y : ℕ) → list_any (is_unsolved y) es ≡ true → (fs : ContextEntries) → fs ≡ solved es y (existential x) → Given arity outer (done fs) (λ σ. IsSubtypeAt s arity (scope_of outer es) (σ.stands_for x) (σ.stands_for y))
    sound_reached y h fs is σ fits =
        let f : Fits arity σ (solved es y (existential x)) = subst (Fits arity σ) is fits in
        let before : Fits arity σ es = fits_before arity σ (Extends-solved_with es y [] (existential x)) f in
        subtype_same arity (scope_of outer es) s (σ.stands_for x) (σ.stands_for y) ((knows_all arity σ es before).existentials x (unsolved_declared x es unsolved)) (sym (stands_for arity σ es wf y h [] (existential x) f))

    -- and by a type of new ones
    pub sound_arrow : (argument result : ℕ) (a b : Open) (σ : Valuation outer) → Fits arity σ (solved_with_arrow es x argument result)
        → AllAt arity (scope_of outer (solved_with_arrow es x argument result)) σ (instance (other s) argument a (instance s result b no_instances)) → IsSubtypeAt s arity (scope_of outer es) (σ.stands_for x) (poly.arrow (value σ a) (value σ b))
    sound_arrow argument result a b σ fits all =
        let t : Open = arrow (existential argument) (existential result) in
        let here : AllAt arity (scope_of outer es) σ (instance (other s) argument a (instance s result b no_instances)) =
        subst (λ (ys : List ℕ). AllAt arity ys σ (instance (other s) argument a (instance s result b no_instances))) (same_rigids outer (all_below outer) (Extends-solved_with es x (result ∷ argument ∷ []) t)) all in
        subtype_along arity (scope_of outer es) s (value σ t) (σ.stands_for x) (poly.arrow (value σ a) (value σ b)) (poly.arrow (value σ a) (value σ b)) (sym (stands_for arity σ es wf x unsolved (result ∷ argument ∷ []) t fits)) refl
        (arrow_at arity (scope_of outer es) s (σ.stands_for argument) (σ.stands_for result) (value σ a) (value σ b) here.0 here.1.0)

    module _ (numbers : List ℕ) (ts : Opens) (same_length : length numbers ≡ opens_count ts) (σ : Valuation outer) where
      sound_lists : (t : Open) → AllAt arity (scope_of outer (solved_with es x numbers t)) σ (all_at s numbers ts) → AreSubtypesAt arity (scope_of outer es) s (values σ (opens_of (map (λ n. existential n) numbers))) (values σ ts)
      sound_lists t all =
          lists_at arity (scope_of outer es) σ s numbers ts same_length
          (subst (λ (ys : List ℕ). AllAt arity ys σ (all_at s numbers ts)) (same_rigids outer (all_below outer) (Extends-solved_with es x numbers t)) all)

      pub sound_tuple : Fits arity σ (solved_with_tuple es x numbers) → AllAt arity (scope_of outer (solved_with_tuple es x numbers)) σ (all_at s numbers ts) → IsSubtypeAt s arity (scope_of outer es) (σ.stands_for x) (poly.tuple (values σ ts))
      sound_tuple fits all =
          let t : Open = tuple (opens_of (map (λ n. existential n) numbers)) in
          subtype_along arity (scope_of outer es) s (value σ t) (σ.stands_for x) (poly.tuple (values σ ts)) (poly.tuple (values σ ts)) (sym (stands_for arity σ es wf x unsolved numbers t fits)) refl
          (tuple_at arity (scope_of outer es) s (values σ (opens_of (map (λ n. existential n) numbers))) (values σ ts) (sound_lists t all))

      pub sound_data : (h : Target) → Fits arity σ (solved_with_data es x h numbers) → AllAt arity (scope_of outer (solved_with_data es x h numbers)) σ (all_at s numbers ts) → IsSubtypeAt s arity (scope_of outer es) (σ.stands_for x) (poly.applied h (values σ ts))
      sound_data h fits all =
          let t : Open = applied h (opens_of (map (λ n. existential n) numbers)) in
          subtype_along arity (scope_of outer es) s (value σ t) (σ.stands_for x) (poly.applied h (values σ ts)) (poly.applied h (values σ ts)) (sym (stands_for arity σ es wf x unsolved numbers t fits)) refl
          (applied_at arity (scope_of outer es) s h (values σ (opens_of (map (λ n. existential n) numbers))) (values σ ts) (sound_lists t all))
