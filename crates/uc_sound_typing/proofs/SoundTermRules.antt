-- Terms have the types that are found, for each rule with premises in other contexts.
use Rattle.uc_kinds.specs.Typing as kinds
use Rattle.uc_kinds.specs.Polytypes as poly
use Rattle.uc_kinds.specs.Subtyping as below
use Rattle.uc_tree.specs.Terms as terms
use Rattle.std.proofs.Common.{◌≡◌, ℕ, ◌+◌, List, [], ◌∷◌, ◌++◌, map, length, Some, refl, sym, ap, subst, ◌∙◌, reverse, true, false, None}
use Rattle.uc_tree.specs.Patterns.{Pattern}
use Rattle.uc_tree.specs.Terms.{Term, Terms, Cases}
use Rattle.uc_kinds.specs.PatternTyping.{Known, PatternBinds}
use Rattle.uc_kinds.specs.Typing.{uses, binders_in, for_all, by_lambda, by_tuple, by_list, by_conditional, by_signed, by_binding, by_match, by_subtype, of_variable, of_link, of_literal, of_unit, of_annotated, of_lambda, of_application, of_tuple, of_list, of_and, of_or, of_conditional, of_binding, of_match, at_monotype, at_argument, under_quantifier, at_rest, have_none, have_more, no_cases, more_cases, more_guarded, HasType, Infers, MeetsSignature, HaveTypes, CasesHaveType, IsInstance}
use Rattle.uc_context.specs.declared.entry.Entry.TheVariants.{Rigid, Exists, Mark, Binder}
use Rattle.uc_context.specs.Entries.{ContextEntries, is_binder, is_unsolved}
use Rattle.uc_context.specs.Fresh.{fresh_number, fresh_numbers}
use Rattle.uc_context.specs.Opens.{Open, existential, arrow, tuple, Opens, opens_of, rigid, quantified, none, more}
use Rattle.uc_context.specs.Solving.{solved_with_arrow}
use Rattle.uc_soundness.specs.Extending.{Extends}
use Rattle.uc_soundness.specs.WellFormed.{IsTypeIn, IsWellFormedContext}
use Rattle.uc_soundness.proofs.Extending.{Extends-trans, same_rigids, rigids-append}
use Rattle.uc_soundness.proofs.Instances.{all_new, length-fresh_numbers, new_declared}
use Rattle.uc_soundness.proofs.Subtypes.{AreTypesIn}
use Rattle.uc_soundness.proofs.Types.{type_declared}
use Rattle.uc_typing.specs.Fronts.{front_count, existentials, boolean, behind_front}
use Rattle.uc_typing.specs.Scopes.{Sight, under, with_variables, with_seen}
use Rattle.uc_typing.specs.Stops.{matched, TypeOutcome, gives, Variables, gives_none}
use Rattle.uc_sound_typing.specs.Seeing.{AreValues, value_of_binder, value_of_unused, scope_in}
use Rattle.uc_sound_typing.proofs.Binders.{binder_last, keeps_grown, keeps_rigid, keeps_marked, values_on, values_agreed}
use Rattle.uc_sound_typing.proofs.Growing.{fresh_unbound, Grows-extends, Grows-binder, same_scope}
use Rattle.uc_sound_typing.proofs.Terms.{TypeExtended, new_behind}
use Rattle.uc_sound_typing.proofs.NewExistentials.{Extends-existentials}
use Rattle.uc_sound_typing.proofs.WrittenTypes.{value_written}
use Rattle.uc_kinds.specs.Polytypes.{Poly, poly_of}
use Rattle.uc_kinds.specs.Subtyping.{IsMono, IsSubtype}
use Rattle.uc_soundness.specs.Valuations.{Valuation, value, values, all_below, scope_of, renumbered, Fits}
use Rattle.uc_soundness.proofs.Fitting.{fits_before, values_front, knows_all, stands_for}
use Rattle.uc_soundness.proofs.SoundRules.{value_opened_agree, fresh_in_scope}
use Rattle.uc_soundness.proofs.SoundSubtypes.{AllSound}
use Rattle.uc_soundness.proofs.Values.{Agree, value_agree, values_agree, all_mono_value}
use Rattle.uc_sound_typing.proofs.SoundForms.{Termed, Inferred, Applied, Signed, AllTermed, CasesTermed, CaseTermed, GivenType, GivenApplied, type_along, signed_along, types_along, agree_before, types_declared, first_has, rest_have, instance_at}
use Rattle.uc_sound_typing.proofs.SoundPatterns.{Bound, SoundPattern, first_subtype}
use Rattle.uc_sound_typing.specs.Growing.{Grows}
use Rattle.std.specs.List.{list_any}
use Rattle.uc_tree.specs.Types.{Ty}
use Rattle.uc_context.specs.Variables.{opened_at}
use Rattle.uc_typing.specs.WrittenTypes.{written}

-- a type in scope at another scope
module _ (known : Known) (outer : ℕ) where
  pub subsumed : (es fs gs : ContextEntries) (sight : Sight) (e : Term) (s t : Open) → Extends es fs → GivenType known outer es sight e (gives s fs)
      → (σ : Valuation outer) → Fits known.arity σ fs → AllSound known.arity outer fs (more s none) (more t none) σ → Termed known outer es sight e t σ
  subsumed es fs gs sight e s t d inferred σ fits all ps v =
      by_subtype (value σ s) (inferred σ fits ps v) (subst (λ (xs : List ℕ). IsSubtype known.arity xs (value σ s) (value σ t)) (same_rigids outer (all_below outer) d) (first_subtype all))

  -- under a rigid variable
  pub rigid_on : (es : ContextEntries) (sight : Sight) (n : ℕ) (e : Term) (t : Open) → n ≡ fresh_number es → IsWellFormedContext known.arity es → IsTypeIn known.arity es 1 t
      → (σ ρ : Valuation outer) → Fits known.arity ρ (es ++ Rigid n ∷ []) → Agree σ ρ es → Termed known outer (es ++ Rigid n ∷ []) sight e (opened_at 0 (rigid n) t) ρ → Termed known outer es sight e (quantified t) σ
  rigid_on es sight n e t is wf typed σ ρ fits agree f ps v =
      let before : Fits known.arity ρ es = values_front known.arity ρ (all_below outer) es (Rigid n ∷ []) fits in
      for_all (outer + n) (fresh_in_scope outer es n is)
      (type_along known (renumbered outer sight.seen) ps (scope_of outer (es ++ Rigid n ∷ [])) ((outer + n) ∷ scope_of outer es) (rigids-append outer (all_below outer) es (Rigid n ∷ [])) e
      (value ρ (opened_at 0 (rigid n) t)) (poly.opened (poly.rigid (outer + n)) (value σ t)) (value_opened_agree known.arity es σ ρ before agree 1 t typed (rigid n)) (f ps (values_on (values_agreed known.arity v wf ρ agree) (keeps_rigid es n))))

  pub signed_on : (es : ContextEntries) (sight : Sight) (n : ℕ) (e : Term) (t : Open) → n ≡ fresh_number es → IsWellFormedContext known.arity es → IsTypeIn known.arity es 1 t
      → (σ ρ : Valuation outer) → Fits known.arity ρ (es ++ Rigid n ∷ []) → Agree σ ρ es → Signed known outer (es ++ Rigid n ∷ []) (with_seen n sight) e (opened_at 0 (rigid n) t) ρ → Signed known outer es sight e (quantified t) σ
  signed_on es sight n e t is wf typed σ ρ fits agree f ps v =
      let before : Fits known.arity ρ es = values_front known.arity ρ (all_below outer) es (Rigid n ∷ []) fits in
      under_quantifier (outer + n) (fresh_in_scope outer es n is)
      (signed_along known ((outer + n) ∷ renumbered outer sight.seen) ps (scope_of outer (es ++ Rigid n ∷ [])) ((outer + n) ∷ scope_of outer es) (rigids-append outer (all_below outer) es (Rigid n ∷ [])) e
      (value ρ (opened_at 0 (rigid n) t)) (poly.opened (poly.rigid (outer + n)) (value σ t)) (value_opened_agree known.arity es σ ρ before agree 1 t typed (rigid n)) (f ps (values_on (values_agreed known.arity v wf ρ agree) (keeps_rigid es n))))

  -- under a binder
  pub binder_values : (es : ContextEntries) (n : ℕ) (s : Open) (sight : Sight) (ρ : Valuation outer) (p : Poly) (ps : List Poly) → n ≡ fresh_number es → p ≡ value ρ s → AreValues ρ es sight.variables ps
      → AreValues ρ (es ++ Binder n s ∷ []) (under (Some n) sight).variables (p ∷ ps)
  binder_values es n s sight ρ p ps is same v = value_of_binder (binder_last n es s) same (values_on v (keeps_grown (Grows-binder es n s (fresh_unbound es n is))))

  pub binder_scope : (es : ContextEntries) (n : ℕ) (s : Open) → scope_of outer (es ++ Binder n s ∷ []) ≡ scope_of outer es
  binder_scope es n s = rigids-append outer (all_below outer) es (Binder n s ∷ [])

  pub lambda_on : (es : ContextEntries) (sight : Sight) (n : ℕ) (e : Term) (a b : Open) → n ≡ fresh_number es → IsWellFormedContext known.arity es → IsTypeIn known.arity es 0 a → IsTypeIn known.arity es 0 b
      → (σ ρ : Valuation outer) → Fits known.arity ρ (es ++ Binder n a ∷ []) → Agree σ ρ es → Termed known outer (es ++ Binder n a ∷ []) (under (Some n) sight) e b ρ → Termed known outer es sight (terms.lambda e) (arrow a b) σ
  lambda_on es sight n e a b is wf a_typed b_typed σ ρ fits agree f ps v =
      by_lambda
      (type_along known (renumbered outer sight.seen) (value σ a ∷ ps) (scope_of outer (es ++ Binder n a ∷ [])) (scope_of outer es) (binder_scope es n a) e (value ρ b) (value σ b) (value_agree σ ρ es agree b (type_declared known.arity es 0 b b_typed))
      (f (value σ a ∷ ps) (binder_values es n a sight ρ (value σ a) ps is (sym (value_agree σ ρ es agree a (type_declared known.arity es 0 a a_typed))) (values_agreed known.arity v wf ρ agree))))

  -- a body that meets its signature, and the term behind
  abbrev pub SignedPair : ContextEntries → Sight → ℕ → Term → Term → Open → Open → Valuation outer → Type 0
  SignedPair es sight n a b s t σ = (ps : List Poly) → AreValues σ es (under (Some n) sight).variables ps
      → MeetsSignature known (scope_in outer es (under (Some n) sight) ps) a (value σ s) × HasType known (scope_in outer es (under (Some n) sight) ps) b (value σ t)

  pub pair_on : (es fs : ContextEntries) (sight : Sight) (n : ℕ) (a b : Term) (s t : Open) → Extends es fs → ((σ : Valuation outer) → Fits known.arity σ fs → Signed known outer es (under (Some n) sight) a s σ)
      → (σ : Valuation outer) → Fits known.arity σ fs → Termed known outer fs (under (Some n) sight) b t σ → SignedPair es sight n a b s t σ
  pair_on es fs sight n a b s t d first σ fits f ps v = (
    first σ fits ps v,
    type_along known (renumbered outer sight.seen) ps (scope_of outer fs) (scope_of outer es) (same_rigids outer (all_below outer) d) b (value σ t) (value σ t) refl (f ps (values_on v (keeps_grown (Grows-extends d)))),
  )

  pub signed_binding_on : (es : ContextEntries) (sight : Sight) (n : ℕ) (ty : Ty) (a b : Term) (s t : Open) → n ≡ fresh_number es → s ≡ written sight.seen ty → IsWellFormedContext known.arity es → IsTypeIn known.arity es 0 t
      → (σ ρ : Valuation outer) → Fits known.arity ρ (es ++ Binder n s ∷ []) → Agree σ ρ es → SignedPair (es ++ Binder n s ∷ []) sight n a b s t ρ → Termed known outer es sight (terms.binding (Some ty) a b) t σ
  signed_binding_on es sight n ty a b s t is s_is wf typed σ ρ fits agree f ps v =
      let signature : Poly = poly_of (renumbered outer sight.seen) ty in
      let same : value ρ s ≡ signature = ap (value ρ) s_is ∙ value_written ρ sight.seen ty in
      let r = f (signature ∷ ps) (binder_values es n s sight ρ signature ps is (sym same) (values_agreed known.arity v wf ρ agree)) in
      by_signed (signed_along known (renumbered outer sight.seen) (signature ∷ ps) (scope_of outer (es ++ Binder n s ∷ [])) (scope_of outer es) (binder_scope es n s) a (value ρ s) signature same r.0)
      (type_along known (renumbered outer sight.seen) (signature ∷ ps) (scope_of outer (es ++ Binder n s ∷ [])) (scope_of outer es) (binder_scope es n s) b (value ρ t) (value σ t) (value_agree σ ρ es agree t (type_declared known.arity es 0 t typed)) r.1)

  -- a binding without a signature
  pub binding_on : (es fs : ContextEntries) (sight : Sight) (n : ℕ) (a b : Term) (s t : Open) → Extends es fs → uses 0 a ≡ false → n ≡ fresh_number fs → IsWellFormedContext known.arity es → IsTypeIn known.arity es 0 t
      → GivenType known outer es (under None sight) a (gives s fs)
      → (σ ρ : Valuation outer) → Fits known.arity ρ (fs ++ Binder n s ∷ []) → Agree σ ρ fs → Termed known outer (fs ++ Binder n s ∷ []) (under (Some n) sight) b t ρ → Termed known outer es sight (terms.binding None a b) t σ
  binding_on es fs sight n a b s t d unused is wf typed inferred σ ρ fits agree f ps v =
      let before : Fits known.arity ρ fs = values_front known.arity ρ (all_below outer) fs (Binder n s ∷ []) fits in
      let front : Agree σ ρ es = agree_before σ ρ d agree in
      let w : AreValues ρ es sight.variables ps = values_agreed known.arity v wf ρ front in
      by_binding (value ρ s) unused (inferred ρ before (value ρ s ∷ ps) (value_of_unused w))
      (type_along known (renumbered outer sight.seen) (value ρ s ∷ ps) (scope_of outer (fs ++ Binder n s ∷ [])) (scope_of outer es) (binder_scope fs n s ∙ same_rigids outer (all_below outer) d) b (value ρ t) (value σ t)
      (value_agree σ ρ es front t (type_declared known.arity es 0 t typed)) (f (value ρ s ∷ ps) (binder_values fs n s sight ρ (value ρ s) ps is refl (values_on w (keeps_grown (Grows-extends d))))))

  -- a match
  pub match_on : (es fs : ContextEntries) (sight : Sight) (e : Term) (cs : Cases) (s t : Open) (ns : List ℕ) → Extends es fs → ns ≡ fresh_numbers (front_count s) fs → IsTypeIn known.arity fs 0 s → GivenType known outer es sight e (gives s fs)
      → (σ : Valuation outer) → Fits known.arity σ (fs ++ map (λ n. Exists n) ns) → CasesTermed known outer (fs ++ map (λ n. Exists n) ns) sight cs (behind_front (existentials ns) s) t σ → Termed known outer es sight (terms.match e cs) t σ
  match_on es fs sight e cs s t ns d are typed inferred σ fits f ps v =
      let gs : ContextEntries = fs ++ map (λ n. Exists n) ns in
      let grown : Extends fs gs = Extends-existentials fs ns in
      let same : scope_of outer gs ≡ scope_of outer es = same_rigids outer (all_below outer) (Extends-trans d grown) in
      by_match (value σ s) (value σ (behind_front (existentials ns) s)) (inferred σ (fits_before known.arity σ grown fits) ps v)
      (subst (λ (xs : List ℕ). IsInstance known.arity xs (value σ s) (value σ (behind_front (existentials ns) s))) same
      (instance_at known.arity σ gs fits ns s (ap length are ∙ length-fresh_numbers (front_count s) fs) (all_new known.arity fs ns) (new_behind known.arity fs ns s typed)))
      (subst (λ (xs : List ℕ). CasesHaveType known (record { rigids = xs; seen = renumbered outer sight.seen; types = ps }) cs (value σ (behind_front (existentials ns) s)) (value σ t)) same
      (f ps (values_on v (keeps_grown (Grows-extends (Extends-trans d grown))))))

  -- what is typed in a context that extends another
  pub termed_before : (es fs : ContextEntries) (sight : Sight) (e : Term) (t : Open) (σ : Valuation outer) → Extends es fs → Termed known outer fs sight e t σ → Termed known outer es sight e t σ
  termed_before es fs sight e t σ d f ps v =
      type_along known (renumbered outer sight.seen) ps (scope_of outer fs) (scope_of outer es) (same_rigids outer (all_below outer) d) e (value σ t) (value σ t) refl (f ps (values_on v (keeps_grown (Grows-extends d))))

  pub all_before : (es fs : ContextEntries) (sight : Sight) (parts : Terms) (ts : Opens) (σ : Valuation outer) → Extends es fs → AllTermed known outer fs sight parts ts σ → AllTermed known outer es sight parts ts σ
  all_before es fs sight parts ts σ d f ps v =
      types_along known (renumbered outer sight.seen) ps (scope_of outer fs) (scope_of outer es) (same_rigids outer (all_below outer) d) parts (values σ ts) (values σ ts) refl (f ps (values_on v (keeps_grown (Grows-extends d))))

  pub cases_before : (es fs : ContextEntries) (sight : Sight) (cs : Cases) (s t : Open) (σ : Valuation outer) → Extends es fs → CasesTermed known outer fs sight cs s t σ → CasesTermed known outer es sight cs s t σ
  cases_before es fs sight cs s t σ d f ps v =
      subst (λ (xs : List ℕ). CasesHaveType known (record { rigids = xs; seen = renumbered outer sight.seen; types = ps }) cs (value σ s) (value σ t)) (same_rigids outer (all_below outer) d) (f ps (values_on v (keeps_grown (Grows-extends d))))

  -- a new existential stands for a monotype over what is in scope before it
  pub new_mono : (es : ContextEntries) (n : ℕ) (σ : Valuation outer) → Fits known.arity σ (es ++ Exists n ∷ []) → IsMono known.arity (scope_of outer es) (σ.stands_for n)
  new_mono es n σ fits =
      subst (λ (xs : List ℕ). IsMono known.arity xs (σ.stands_for n)) (rigids-append outer (all_below outer) es (Exists n ∷ [])) ((knows_all known.arity σ (es ++ Exists n ∷ []) fits).existentials n (new_declared es n []))

  -- a function that has a type found
  pub found_lambda_on : (es front : ContextEntries) (sight : Sight) (n argument result : ℕ) (e : Term) → Extends es front → list_any (is_binder n) front ≡ false → IsWellFormedContext known.arity es
      → IsTypeIn known.arity front 0 (arrow (existential argument) (existential result))
      → (σ ρ : Valuation outer) → Fits known.arity ρ (front ++ Binder n (existential argument) ∷ []) → Agree σ ρ front → Termed known outer (front ++ Binder n (existential argument) ∷ []) (under (Some n) sight) e (existential result) ρ
      → Inferred known outer es sight (terms.lambda e) (arrow (existential argument) (existential result)) σ
  found_lambda_on es front sight n argument result e d unbound wf typed σ ρ fits agree f ps v =
      let a : Poly = ρ.stands_for argument in
      let before : Fits known.arity ρ front = values_front known.arity ρ (all_below outer) front (Binder n (existential argument) ∷ []) fits in
      let same : scope_of outer front ≡ scope_of outer es = same_rigids outer (all_below outer) d in
      let w : AreValues ρ front sight.variables ps = values_on (values_agreed known.arity v wf ρ (agree_before σ ρ d agree)) (keeps_grown (Grows-extends d)) in
      let inside : AreValues ρ (front ++ Binder n (existential argument) ∷ []) (under (Some n) sight).variables (a ∷ ps) =
      value_of_binder (binder_last n front (existential argument)) refl (values_on w (keeps_grown (Grows-binder front n (existential argument) unbound))) in
      subst (Infers known (scope_in outer es sight ps) (terms.lambda e)) (value_agree σ ρ front agree (arrow (existential argument) (existential result)) (type_declared known.arity front 0 (arrow (existential argument) (existential result)) typed))
      (of_lambda a (ρ.stands_for result) (subst (λ (xs : List ℕ). IsMono known.arity xs a) same ((knows_all known.arity ρ front before).existentials argument typed.0))
      (subst (λ (xs : List ℕ). IsMono known.arity xs (ρ.stands_for result)) same ((knows_all known.arity ρ front before).existentials result typed.1))
      (type_along known (renumbered outer sight.seen) (a ∷ ps) (scope_of outer (front ++ Binder n (existential argument) ∷ [])) (scope_of outer es) (binder_scope front n (existential argument) ∙ same) e (ρ.stands_for result) (ρ.stands_for result) refl (f (a ∷ ps) inside)))

  -- an application
  pub application_sound : (es fs : ContextEntries) (sight : Sight) (f e : Term) (s : Open) (o : TypeOutcome) → Extends es fs → GivenType known outer es sight f (gives s fs) → TypeExtended known.arity fs o → GivenApplied known outer fs sight s e o
      → GivenType known outer es sight (terms.apply f e) o
  application_sound es fs sight f e s (gives t gs) d inferred h g = λ σ fits ps v.
      of_application (value σ s) (inferred σ (fits_before known.arity σ h.1 fits) ps v)
      (subst (λ (xs : List ℕ). kinds.Applies known (record { rigids = xs; seen = renumbered outer sight.seen; types = ps }) (value σ s) e (value σ t)) (same_rigids outer (all_below outer) d) (g σ fits ps (values_on v (keeps_grown (Grows-extends d)))))
  application_sound es fs sight f e s (gives_none stop) d inferred h g = tt

  pub applied_quantified : (es : ContextEntries) (sight : Sight) (n : ℕ) (t : Open) (e : Term) (o : TypeOutcome) → IsTypeIn known.arity es 1 t → TypeExtended known.arity (es ++ Exists n ∷ []) o
      → GivenApplied known outer (es ++ Exists n ∷ []) sight (opened_at 0 (existential n) t) e o → GivenApplied known outer es sight (quantified t) e o
  applied_quantified es sight n t e (gives u fs) typed h g = λ σ fits ps v.
      let here : Fits known.arity σ (es ++ Exists n ∷ []) = fits_before known.arity σ h.1 fits in
      let grown : Extends es (es ++ Exists n ∷ []) = Extends-existentials es (n ∷ []) in
      at_monotype (σ.stands_for n) (new_mono es n σ here)
      (subst (λ (z : Poly). kinds.Applies known (scope_in outer es sight ps) z e (value σ u)) (value_opened_agree known.arity es σ σ (fits_before known.arity σ grown here) (λ x there. refl) 1 t typed (existential n))
      (subst (λ (xs : List ℕ). kinds.Applies known (record { rigids = xs; seen = renumbered outer sight.seen; types = ps }) (value σ (opened_at 0 (existential n) t)) e (value σ u)) (same_rigids outer (all_below outer) grown)
      (g σ fits ps (values_on v (keeps_grown (Grows-extends grown))))))
  applied_quantified es sight n t e (gives_none stop) typed h g = tt

  -- a case
  pub case_on : (es fs : ContextEntries) (sight : Sight) (n : ℕ) (q : Pattern) (bodies : Terms) (s : Open) (ts : Opens) (vars : Variables) → Grows (es ++ Mark n ∷ []) fs → IsWellFormedContext known.arity es → IsTypeIn known.arity es 0 s → AreTypesIn known.arity es ts
      → SoundPattern known outer (es ++ Mark n ∷ []) q s sight.variables (matched vars fs)
      → (σ ρ : Valuation outer) → Fits known.arity ρ fs → Agree σ ρ es → AllTermed known outer fs (with_variables vars sight) bodies ts ρ → CaseTermed known outer es sight q bodies s ts σ
  case_on es fs sight n q bodies s ts vars g wf s_typed typed pattern σ ρ fits agree f ps v =
      let marked : ContextEntries = es ++ Mark n ∷ [] in
      let r : Bound known ρ marked fs q s vars ps = pattern ρ fits ps (values_on (values_agreed known.arity v wf ρ agree) (keeps_marked es n)) in
      let front : scope_of outer marked ≡ scope_of outer es = rigids-append outer (all_below outer) es (Mark n ∷ []) in (
        r.types,
        subst (λ (xs : List ℕ). PatternBinds known xs q (value σ s) r.types) front (subst (λ (z : Poly). PatternBinds known (scope_of outer marked) q z r.types) (value_agree σ ρ es agree s (type_declared known.arity es 0 s s_typed)) r.binds),
        types_along known (renumbered outer sight.seen) (reverse r.types ++ ps) (scope_of outer fs) (scope_of outer es) (same_scope outer g ∙ front) bodies (values ρ ts) (values σ ts) (values_agree σ ρ es agree ts (types_declared known.arity es ts typed)) (f (reverse r.types ++ ps) r.values),
      )

  -- an annotated term
  pub annotated_on : (es : ContextEntries) (sight : Sight) (e : Term) (ty : Ty) (t : Open) → t ≡ written sight.seen ty → (σ : Valuation outer) → Termed known outer es sight e t σ → Inferred known outer es sight (terms.annotated e ty) t σ
  annotated_on es sight e ty t is σ f ps v =
      let same : value σ t ≡ poly_of (renumbered outer sight.seen) ty = ap (value σ) is ∙ value_written σ sight.seen ty in
      subst (Infers known (scope_in outer es sight ps) (terms.annotated e ty)) (sym same) (of_annotated (subst (HasType known (scope_in outer es sight ps) e) same (f ps v)))

  -- a tuple and a conditional that have types found
  pub found_tuple_on : (es : ContextEntries) (sight : Sight) (parts : Terms) (ns : List ℕ) (σ : Valuation outer) → Fits known.arity σ (es ++ map (λ n. Exists n) ns)
      → AllTermed known outer (es ++ map (λ n. Exists n) ns) sight parts (opens_of (existentials ns)) σ → Inferred known outer es sight (terms.tuple parts) (tuple (opens_of (existentials ns))) σ
  found_tuple_on es sight parts ns σ fits f ps v =
      let fs : ContextEntries = es ++ map (λ n. Exists n) ns in
      let ts : Opens = opens_of (existentials ns) in
      let grown : Extends es fs = Extends-existentials es ns in
      of_tuple (values σ ts) (subst (λ (xs : List ℕ). below.AreMono known.arity xs (values σ ts)) (same_rigids outer (all_below outer) grown) (all_mono_value known.arity σ (scope_of outer fs) fs (knows_all known.arity σ fs fits) ts (all_new known.arity es ns)))
      (all_before es fs sight parts ts σ grown f ps v)

  pub found_conditional_on : (es fs : ContextEntries) (sight : Sight) (n : ℕ) (a b c : Term) → Extends es fs → ((σ : Valuation outer) → Fits known.arity σ fs → Termed known outer es sight a boolean σ)
      → (σ : Valuation outer) → Fits known.arity σ (fs ++ Exists n ∷ []) → AllTermed known outer (fs ++ Exists n ∷ []) sight (terms.more b (terms.more c terms.none)) (more (existential n) (more (existential n) none)) σ
      → Inferred known outer es sight (terms.conditional a b c) (existential n) σ
  found_conditional_on es fs sight n a b c d first σ fits f ps v =
      let gs : ContextEntries = fs ++ Exists n ∷ [] in
      let grown : Extends fs gs = Extends-existentials fs (n ∷ []) in
      let both = all_before es gs sight (terms.more b (terms.more c terms.none)) (more (existential n) (more (existential n) none)) σ (Extends-trans d grown) f ps v in
      of_conditional (σ.stands_for n) (subst (λ (xs : List ℕ). IsMono known.arity xs (σ.stands_for n)) (same_rigids outer (all_below outer) d) (new_mono fs n σ fits))
      (by_conditional (first σ (fits_before known.arity σ grown fits) ps v) (first_has both) (first_has (rest_have both)))

  -- an existential that is applied
  pub existential_on : (es : ContextEntries) (sight : Sight) (x argument result : ℕ) (e : Term) → IsWellFormedContext known.arity es → list_any (is_unsolved x) es ≡ true → Extends es (solved_with_arrow es x argument result)
      → (σ : Valuation outer) → Fits known.arity σ (solved_with_arrow es x argument result) → Termed known outer (solved_with_arrow es x argument result) sight e (existential argument) σ → Applied known outer es sight (existential x) e (existential result) σ
  existential_on es sight x argument result e wf unsolved d σ fits f ps v =
      let t : Open = arrow (existential argument) (existential result) in
      subst (λ (z : Poly). kinds.Applies known (scope_in outer es sight ps) z e (σ.stands_for result)) (sym (stands_for known.arity σ es wf x unsolved (result ∷ argument ∷ []) t fits))
      (at_argument (termed_before es (solved_with_arrow es x argument result) sight e (existential argument) σ d f ps v))
