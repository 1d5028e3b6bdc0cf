-- Types that are well-formed are below themselves.
use Rattle.std.proofs.Common.{◌≡◌, ℕ, zero, suc, ◌+◌, ◌<◌, Bool, true, false, cond, eqb, List, [], ◌∷◌, ◌++◌, refl, subst, arith}
use Rattle.uc_base.proofs.GraphOrder.{head_in}
use Rattle.uc_kinds.specs.WellFormed.{Arity}
use Rattle.uc_kinds.specs.Polytypes as poly
use Rattle.uc_kinds.specs.Polytypes.{Poly}
use Rattle.uc_kinds.specs.Subtyping.{mono_rigid, IsSubtype, below_arrow, below_left, below_right}
use Rattle.uc_context.specs.declared.entry.Entry.TheVariants.{Rigid}
use Rattle.uc_context.specs.Entries.{ContextEntries}
use Rattle.uc_context.specs.Fresh.{fresh_number}
use Rattle.uc_context.specs.Opens.{Open, bound, rigid, existential, quantified, arrow, unit, tuple, applied, Opens, none, more, open_size, opens_size}
use Rattle.uc_context.specs.Variables.{opened_at, opened_all_at}
use Rattle.uc_soundness.specs.Valuations.{Valuation, value, all_below, scope_of, Fits}
use Rattle.uc_soundness.specs.WellFormed.{IsMonoIn, IsTypeIn, IsWellFormedContext}
use Rattle.uc_soundness.proofs.Extending.{rigids-append}
use Rattle.uc_soundness.proofs.Fitting.{values_append, knows_all}
use Rattle.uc_soundness.proofs.Instances.{rigid_formed, rigid_typed}
use Rattle.uc_soundness.proofs.SoundRules.{value_opened_agree, fresh_in_scope}
use Rattle.uc_soundness.proofs.Values.{reflexive, mono_value}

-- a type is no larger with a rigid variable in place of a quantifier's
mutual
  opened-size : (k n : ℕ) (t : Open) → open_size (opened_at k (rigid n) t) ≡ open_size t
  opened-size k n (bound i) = go (eqb i k)
    where
      go : (b : Bool) → open_size (cond b (rigid n) (bound i)) ≡ 1
      go true = refl
      go false = refl
  opened-size k n (rigid x) = refl
  opened-size k n (existential x) = refl
  opened-size k n (quantified t) = omega (arith, opened-size (suc k) n t)
  opened-size k n (arrow a b) = omega (arith, opened-size k n a, opened-size k n b)
  opened-size k n unit = refl
  opened-size k n (tuple ts) = omega (arith, all_opened-size k n ts)
  opened-size k n (applied h ts) = omega (arith, all_opened-size k n ts)

  all_opened-size : (k n : ℕ) (ts : Opens) → opens_size (opened_all_at k (rigid n) ts) ≡ opens_size ts
  all_opened-size k n none = refl
  all_opened-size k n (more t ts) = omega (arith, opened-size k n t, all_opened-size k n ts)

module _ (arity : Arity) {outer : ℕ} (σ : Valuation outer) where
  mono_reflexive : (es : ContextEntries) (t : Open) → Fits arity σ es → IsMonoIn arity es 0 t → IsSubtype arity (scope_of outer es) (value σ t) (value σ t)
  mono_reflexive es t fits h = reflexive arity (scope_of outer es) (mono_value arity σ (scope_of outer es) es (knows_all arity σ es fits) t h)

  -- under a fresh rigid variable it is below itself with that in place of the quantifier's
  under_rigid : (es : ContextEntries) (n : ℕ) (t : Open) → n ≡ fresh_number es → Fits arity σ es → IsTypeIn arity es 1 t
      → IsSubtype arity (scope_of outer (es ++ Rigid n ∷ [])) (value σ (opened_at 0 (rigid n) t)) (value σ (opened_at 0 (rigid n) t)) → IsSubtype arity (scope_of outer es) (poly.quantified (value σ t)) (poly.quantified (value σ t))
  under_rigid es n t is fits typed d =
      let scope : scope_of outer (es ++ Rigid n ∷ []) ≡ (outer + n) ∷ scope_of outer es = rigids-append outer (all_below outer) es (Rigid n ∷ []) in
      let same : value σ (opened_at 0 (rigid n) t) ≡ poly.opened (poly.rigid (outer + n)) (value σ t) = value_opened_agree arity es σ σ fits (λ x h. refl) 1 t typed (rigid n) in
      let inside : IsSubtype arity ((outer + n) ∷ scope_of outer es) (poly.opened (poly.rigid (outer + n)) (value σ t)) (poly.opened (poly.rigid (outer + n)) (value σ t)) =
      subst (λ (p : Poly). IsSubtype arity ((outer + n) ∷ scope_of outer es) p p) same (subst (λ (ys : List ℕ). IsSubtype arity ys (value σ (opened_at 0 (rigid n) t)) (value σ (opened_at 0 (rigid n) t))) scope d) in
      below_right (outer + n) (fresh_in_scope outer es n is) (below_left (poly.rigid (outer + n)) (mono_rigid (head_in (outer + n) (scope_of outer es))) inside)

  -- by the size of the type
  reflexive_within : (limit : ℕ) (es : ContextEntries) (t : Open) → open_size t < limit → IsWellFormedContext arity es → Fits arity σ es → IsTypeIn arity es 0 t → IsSubtype arity (scope_of outer es) (value σ t) (value σ t)
  reflexive_within zero es t less wf fits typed = absurd (omega arith)
  reflexive_within (suc limit) es (bound i) less wf fits typed = absurd (omega arith)
  reflexive_within (suc limit) es (rigid x) less wf fits typed = mono_reflexive es (rigid x) fits typed
  reflexive_within (suc limit) es (existential x) less wf fits typed = mono_reflexive es (existential x) fits typed
  reflexive_within (suc limit) es (quantified t) less wf fits typed =
      let n : ℕ = fresh_number es in
      let small : open_size (opened_at 0 (rigid n) t) < limit = omega (arith, opened-size 0 n t) in
      let fits' : Fits arity σ (es ++ Rigid n ∷ []) = values_append arity σ (all_below outer) es (Rigid n ∷ []) fits tt in
      under_rigid es n t refl fits typed (reflexive_within limit (es ++ Rigid n ∷ []) (opened_at 0 (rigid n) t) small (rigid_formed arity es n wf refl) fits' (rigid_typed arity es n t typed))
  reflexive_within (suc limit) es (arrow a b) less wf fits typed = below_arrow (reflexive_within limit es a (omega arith) wf fits typed.0) (reflexive_within limit es b (omega arith) wf fits typed.1)
  reflexive_within (suc limit) es unit less wf fits typed = mono_reflexive es unit fits typed
  reflexive_within (suc limit) es (tuple ts) less wf fits typed = mono_reflexive es (tuple ts) fits typed
  reflexive_within (suc limit) es (applied h ts) less wf fits typed = mono_reflexive es (applied h ts) fits typed

  pub type_reflexive : (es : ContextEntries) (t : Open) → IsWellFormedContext arity es → Fits arity σ es → IsTypeIn arity es 0 t → IsSubtype arity (scope_of outer es) (value σ t) (value σ t)
  type_reflexive es t wf fits typed = reflexive_within (suc (open_size t)) es t (omega arith) wf fits typed
