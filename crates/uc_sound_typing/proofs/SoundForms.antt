-- Terms have the types that are found, one rule after another.
use Rattle.std.proofs.Common.{◌≡◌, ℕ, zero, suc, true, false, List, [], ◌∷◌, ◌++◌, length, Some, None, refl, sym, ap, subst, ◌∙◌}
use Rattle.std.specs.Prelude.{slice_get}
use Rattle.std.proofs.lemmas.Option.{none-some, same_Some}
use Rattle.std.proofs.lemmas.Bool.{and_from}
use Rattle.uc_tree.specs.Patterns.{Pattern}
use Rattle.uc_tree.specs.Terms.{Term, Terms, Cases}
use Rattle.uc_tree.specs.Terms as terms
use Rattle.uc_kinds.specs.PatternTyping.{Known, PatternBinds}
use Rattle.uc_kinds.specs.Polytypes as poly
use Rattle.uc_kinds.specs.Polytypes.{Poly, Polys, poly_of}
use Rattle.uc_kinds.specs.Subtyping.{IsMono, mono_rigid, mono_arrow, mono_unit, mono_tuple, mono_applied}
use Rattle.uc_kinds.specs.Typing as kinds
use Rattle.uc_kinds.specs.Typing.{Scope, IsInstance, instance_of, itself, HasType, Infers, MeetsSignature, HaveTypes, have_none, have_more, AllHaveType, all_none, all_more, CasesHaveType, under_all}
use Rattle.uc_kinds.specs.WellFormed.{Arity}
use Rattle.uc_context.specs.declared.entry.Entry.TheVariants.{Mark}
use Rattle.uc_context.specs.Contexts.{binder_type}
use Rattle.uc_context.specs.Entries.{ContextEntries}
use Rattle.uc_context.specs.Opens.{Open, bound, rigid, existential, quantified, arrow, unit, tuple, applied, Opens, none, more, opens_of}
use Rattle.uc_context.specs.Variables.{opened_at, declares_all, declares_all_of}
use Rattle.uc_subtyping.specs.Outcomes.{Outcome, done, refused}
use Rattle.uc_subtyping.specs.Subtyping.{is_quantified}
use Rattle.uc_soundness.specs.Extending.{Extends}
use Rattle.uc_soundness.specs.Valuations.{Valuation, value, values, scope_of, Fits}
use Rattle.uc_soundness.specs.WellFormed.{AreMonoIn, IsTypeIn, IsWellFormedContext}
use Rattle.uc_soundness.proofs.Extending.{declares_on}
use Rattle.uc_soundness.proofs.Fitting.{fits_before, knows_all}
use Rattle.uc_soundness.proofs.GoingOn.{valuations_go_on}
use Rattle.uc_soundness.proofs.Outcomes.{Extended, Given}
use Rattle.uc_soundness.proofs.SoundRules.{value_opened_agree}
use Rattle.uc_soundness.proofs.Subtypes.{AreTypesIn}
use Rattle.uc_soundness.proofs.Types.{Covered-refl, type_declared, type_opened}
use Rattle.uc_soundness.proofs.Values.{Agree}
use Rattle.uc_typing.specs.Fronts.{front_count, behind_front, existentials, repeated}
use Rattle.uc_typing.specs.Scopes.{Sight}
use Rattle.uc_typing.specs.Stops.{Variables, TermOutcome, leaves, stops, TypeOutcome, gives, gives_none, left_before, giving}
use Rattle.uc_typing.specs.Terms.{terms_count}
use Rattle.uc_sound_typing.specs.Growing.{Grows}
use Rattle.uc_sound_typing.specs.Seeing.{AreValues, no_values, value_of_binder, value_of_unused, scope_in}
use Rattle.uc_sound_typing.proofs.Cuts.{ended, MarkCut, mark_cut}
use Rattle.uc_sound_typing.proofs.Growing.{Grows-extends, Grows-trans}
use Rattle.uc_sound_typing.proofs.Sights.{front_opened}

-- what is said of each valuation
module _ (known : Known) (outer : ℕ) (es : ContextEntries) (sight : Sight) where
  abbrev pub Termed : Term → Open → Valuation outer → Type 0
  Termed e t σ = (ps : List Poly) → AreValues σ es sight.variables ps → HasType known (scope_in outer es sight ps) e (value σ t)

  abbrev pub Inferred : Term → Open → Valuation outer → Type 0
  Inferred e t σ = (ps : List Poly) → AreValues σ es sight.variables ps → Infers known (scope_in outer es sight ps) e (value σ t)

  abbrev pub Applied : Open → Term → Open → Valuation outer → Type 0
  Applied s e t σ = (ps : List Poly) → AreValues σ es sight.variables ps → kinds.Applies known (scope_in outer es sight ps) (value σ s) e (value σ t)

  abbrev pub Signed : Term → Open → Valuation outer → Type 0
  Signed e t σ = (ps : List Poly) → AreValues σ es sight.variables ps → MeetsSignature known (scope_in outer es sight ps) e (value σ t)

  abbrev pub AllTermed : Terms → Opens → Valuation outer → Type 0
  AllTermed parts ts σ = (ps : List Poly) → AreValues σ es sight.variables ps → HaveTypes known (scope_in outer es sight ps) parts (values σ ts)

  abbrev pub CasesTermed : Cases → Open → Open → Valuation outer → Type 0
  CasesTermed cs s t σ = (ps : List Poly) → AreValues σ es sight.variables ps → CasesHaveType known (scope_in outer es sight ps) cs (value σ s) (value σ t)

  abbrev pub CaseTermed : Pattern → Terms → Open → Opens → Valuation outer → Type 0
  CaseTermed q bodies s ts σ = (ps : List Poly) → AreValues σ es sight.variables ps
      → (bs : List Poly) × PatternBinds known (scope_of outer es) q (value σ s) bs × HaveTypes known (under_all bs (scope_in outer es sight ps)) bodies (values σ ts)

  abbrev pub GivenType : Term → TypeOutcome → Type 0
  GivenType e (gives t fs) = (σ : Valuation outer) → Fits known.arity σ fs → Inferred e t σ
  GivenType e (gives_none stop) = Unit {0}

  abbrev pub GivenApplied : Open → Term → TypeOutcome → Type 0
  GivenApplied s e (gives t fs) = (σ : Valuation outer) → Fits known.arity σ fs → Applied s e t σ
  GivenApplied s e (gives_none stop) = Unit {0}

  pub giving_type : (e : Term) (t : Open) (o : TermOutcome) (p : TypeOutcome) → p ≡ giving t o → Given known.arity outer (ended o) (Inferred e t) → GivenType e p
  giving_type e t (leaves fs) p is g = subst (GivenType e) (sym is) g
  giving_type e t (stops s) p is g = subst (GivenType e) (sym is) tt

  pub giving_applied : (s : Open) (e : Term) (t : Open) (o : TermOutcome) (p : TypeOutcome) → p ≡ giving t o → Given known.arity outer (ended o) (Applied s e t) → GivenApplied s e p
  giving_applied s e t (leaves fs) p is g = subst (GivenApplied s e) (sym is) g
  giving_applied s e t (stops stop) p is g = subst (GivenApplied s e) (sym is) tt

-- the same in another scope, and against another type
module _ (known : Known) (seen : List ℕ) (ps : List Poly) (xs ys : List ℕ) (same : xs ≡ ys) where
  abbrev in_scope : List ℕ → Scope
  in_scope zs = record { rigids = zs; seen = seen; types = ps }

  pub type_along : (e : Term) (p q : Poly) → p ≡ q → HasType known (record { rigids = xs; seen = seen; types = ps }) e p → HasType known (record { rigids = ys; seen = seen; types = ps }) e q
  type_along e p q is d = subst (λ (zs : List ℕ). HasType known (in_scope zs) e q) same (subst (HasType known (in_scope xs) e) is d)

  pub signed_along : (e : Term) (p q : Poly) → p ≡ q → MeetsSignature known (record { rigids = xs; seen = seen; types = ps }) e p → MeetsSignature known (record { rigids = ys; seen = seen; types = ps }) e q
  signed_along e p q is d = subst (λ (zs : List ℕ). MeetsSignature known (in_scope zs) e q) same (subst (MeetsSignature known (in_scope xs) e) is d)

  pub types_along : (es : Terms) (p q : Polys) → p ≡ q → HaveTypes known (record { rigids = xs; seen = seen; types = ps }) es p → HaveTypes known (record { rigids = ys; seen = seen; types = ps }) es q
  types_along es p q is d = subst (λ (zs : List ℕ). HaveTypes known (in_scope zs) es q) same (subst (HaveTypes known (in_scope xs) es) is d)

-- what is given of an outcome
module _ (arity : Arity) (outer : ℕ) where
  pub given_map : (o : Outcome) (P Q : Valuation outer → Type 0) → ((σ : Valuation outer) → P σ → Q σ) → Given arity outer o P → Given arity outer o Q
  given_map (done fs) P Q on g = λ σ fits. on σ (g σ fits)
  given_map (refused why) P Q on g = tt

  pub given_marked : (es : ContextEntries) (n : ℕ) (fs : ContextEntries) (o p : TermOutcome) (P Q : Valuation outer → Type 0) → Grows (es ++ Mark n ∷ []) fs → p ≡ left_before (Mark n) o → Extended arity fs (ended o)
      → ((σ ρ : Valuation outer) → Fits arity ρ fs → Agree σ ρ es → P ρ → Q σ) → Given arity outer (ended o) P → Given arity outer (ended p) Q
  given_marked es n fs (leaves gs) p P Q g is h on given = subst (λ (q : TermOutcome). Given arity outer (ended q) Q) (sym is) by
    where
      c : MarkCut es n gs
      c = mark_cut es n gs (Grows-trans g (Grows-extends h.1))

      by : Given arity outer (ended (left_before (Mark n) (leaves gs))) Q
      by σ fits =
          let r = valuations_go_on arity outer c.left (Mark n ∷ c.behind) (subst (IsWellFormedContext arity) c.whole h.0) σ (subst (Fits arity σ) c.dropped fits) in
          let all : Fits arity r.0 gs = subst (Fits arity r.0) (sym c.whole) r.1 in
          on σ r.0 (fits_before arity r.0 h.1 all) (λ x there. r.2 x (declares_on x c.front there)) (given r.0 all)
  given_marked es n fs (stops s) p P Q g is h on given = subst (λ (q : TermOutcome). Given arity outer (ended q) Q) (sym is) tt

pub agree_before : {outer : ℕ} (σ ρ : Valuation outer) {es fs : ContextEntries} → Extends es fs → Agree σ ρ fs → Agree σ ρ es
agree_before σ ρ d agree x there = agree x (declares_on x d there)

pub types_declared : (arity : Arity) (es : ContextEntries) (ts : Opens) → AreTypesIn arity es ts → declares_all_of es ts ≡ true
types_declared arity es none h = refl
types_declared arity es (more t ts) h = and_from (declares_all es t) (declares_all_of es ts) (type_declared arity es 0 t h.0) (types_declared arity es ts h.1)

-- the type of a variable
pub variable_value : {outer : ℕ} {σ : Valuation outer} {es : ContextEntries} {vars : Variables} {ps : List Poly} → AreValues σ es vars ps
    → (i n : ℕ) (t : Open) → slice_get vars i ≡ Some (Some n) → binder_type es n ≡ Some t → slice_get ps i ≡ Some (value σ t)
variable_value no_values i n t slot is = absurd (none-some (Some n) slot)
variable_value {σ = σ} {es = es} (value_of_binder {n = m} {t = s} found same v) zero n t slot is =
    let here : m ≡ n = same_Some m n (same_Some (Some m) (Some n) slot) in
    let types : s ≡ t = same_Some s t (sym found ∙ ap (binder_type es) here ∙ is) in
    ap Some (same ∙ ap (value σ) types)
variable_value (value_of_binder found same v) (suc i) n t slot is = variable_value v i n t slot is
variable_value (value_of_unused v) zero n t slot is = absurd (none-some n (same_Some None (Some n) slot))
variable_value (value_of_unused v) (suc i) n t slot is = variable_value v i n t slot is

-- terms each of one type
pub all_have : {known : Known} {scope : Scope} {es : Terms} {ts : Polys} → HaveTypes known scope es ts → {outer : ℕ} (σ : Valuation outer) (u : Open) → ts ≡ values σ (repeated (terms_count es) u) → AllHaveType known scope es (value σ u)
all_have have_none σ u is = all_none
all_have (have_more {known = known} {scope = scope} {e = e} {es = es} {t = t} {ts = ts} d ds) σ u is =
    let head : t ≡ value σ u = cc in
    let tail : ts ≡ values σ (repeated (terms_count es) u) = cc in
    all_more (subst (HasType known scope e) head d) (all_have ds σ u tail)

pub first_has : {known : Known} {scope : Scope} {e : Term} {es : Terms} {t : Poly} {ts : Polys} → HaveTypes known scope (terms.more e es) (poly.more t ts) → HasType known scope e t
first_has (have_more d ds) = d

pub rest_have : {known : Known} {scope : Scope} {e : Term} {es : Terms} {t : Poly} {ts : Polys} → HaveTypes known scope (terms.more e es) (poly.more t ts) → HaveTypes known scope es ts
rest_have (have_more d ds) = ds

-- a monotype has no quantifier at its front
pub mono_plain : {arity : Arity} {xs : List ℕ} {p : Poly} → IsMono arity xs p → poly.is_quantified p ≡ false
mono_plain (mono_rigid h) = refl
mono_plain (mono_arrow a b) = refl
mono_plain mono_unit = refl
mono_plain (mono_tuple ms) = refl
mono_plain (mono_applied takes ms) = refl

module _ (arity : Arity) {outer : ℕ} (σ : Valuation outer) (fs : ContextEntries) (fits : Fits arity σ fs) where
  pub plain_value : (t : Open) → IsTypeIn arity fs 0 t → is_quantified t ≡ false → poly.is_quantified (value σ t) ≡ false
  plain_value (bound i) typed h = refl
  plain_value (rigid x) typed h = refl
  plain_value (existential x) typed h = mono_plain ((knows_all arity σ fs fits).existentials x typed)
  plain_value (quantified t) typed h = absurd cc
  plain_value (arrow a b) typed h = refl
  plain_value unit typed h = refl
  plain_value (tuple ts) typed h = refl
  plain_value (applied x ts) typed h = refl

  -- a type at what existentials stand for is an instance
  pub instance_at : (ns : List ℕ) (t : Open) → length ns ≡ front_count t → AreMonoIn arity fs 0 (opens_of (existentials ns)) → IsTypeIn arity fs 0 t
      → IsInstance arity (scope_of outer fs) (value σ t) (value σ (behind_front (existentials ns) t))
  instance_at [] (bound i) same d typed = itself refl
  instance_at [] (rigid x) same d typed = itself refl
  instance_at [] (existential x) same d typed = itself (plain_value (existential x) typed refl)
  instance_at [] (quantified t) same d typed = absurd cc
  instance_at [] (arrow a b) same d typed = itself refl
  instance_at [] unit same d typed = itself refl
  instance_at [] (tuple ts) same d typed = itself refl
  instance_at [] (applied x ts) same d typed = itself refl
  instance_at (n ∷ ns) (quantified t) same d typed =
      let rest : length ns ≡ front_count t = cc in
      let t' : Open = opened_at 0 (existential n) t in
      instance_of (σ.stands_for n) ((knows_all arity σ fs fits).existentials n d.0)
      (subst (λ (z : Poly). IsInstance arity (scope_of outer fs) z (value σ (behind_front (existentials ns) t'))) (value_opened_agree arity fs σ σ fits (λ x there. refl) 1 t typed (existential n))
      (instance_at ns t' (rest ∙ sym (front_opened (existential n) refl 0 t)) d.1 (type_opened arity fs fs (Covered-refl fs) (existential n) (λ k. d.0) 0 t typed)))
  instance_at (n ∷ ns) (bound i) same d typed = absurd cc
  instance_at (n ∷ ns) (rigid x) same d typed = absurd cc
  instance_at (n ∷ ns) (existential x) same d typed = absurd cc
  instance_at (n ∷ ns) (arrow a b) same d typed = absurd cc
  instance_at (n ∷ ns) unit same d typed = absurd cc
  instance_at (n ∷ ns) (tuple ts) same d typed = absurd cc
  instance_at (n ∷ ns) (applied x ts) same d typed = absurd cc
