-- What patterns expect, by the declarative rules.
use Rattle.std.proofs.Common.{◌≡◌, ℕ, suc, List, [], ◌∷◌, ◌++◌, map, length, Some, refl, sym, ap, subst, ◌∙◌, append-nil}
use Rattle.std.proofs.lemmas.Option.{none-some, same_Some}
use Rattle.uc_tree.specs.declared.literal.Literal.{Literal}
use Rattle.uc_tree.specs.declared.literal.Literal.TheVariants as literals
use Rattle.uc_tree.specs.Patterns.{Pattern, Patterns}
use Rattle.uc_tree.specs.Patterns as patterns
use Rattle.uc_tree.specs.Types.{Ty}
use Rattle.uc_tree.specs.Types as types
use Rattle.uc_tree.specs.declared.target.Target.{Target}
use Rattle.uc_kinds.specs.PatternTyping as kinds
use Rattle.uc_kinds.specs.PatternTyping.{Known, target_type, IsConstructorAt, at_parameter, at_field, at_result, PatternBinds, binds_literal, binds_unit, binds_tuple, binds_list, binds_constructor, binds_cons, binds_snoc, PatternsBind, bind_none, bind_more, AllBind, all_bind_none, all_bind_more}
use Rattle.uc_kinds.specs.Polytypes as poly
use Rattle.uc_kinds.specs.Polytypes.{Poly, Polys}
use Rattle.uc_kinds.specs.Subtyping as below
use Rattle.uc_kinds.specs.Subtyping.{IsMono, IsSubtype}
use Rattle.uc_kinds.specs.WellFormed.{Arity}
use Rattle.uc_context.specs.declared.entry.Entry.TheVariants.{Exists}
use Rattle.uc_context.specs.Closing.{open_from}
use Rattle.uc_context.specs.Entries.{ContextEntries}
use Rattle.uc_context.specs.Fresh.{fresh_number, fresh_numbers}
use Rattle.uc_context.specs.Opens.{Open, bound, rigid, existential, quantified, arrow, unit, tuple, applied, none, more, opens_of}
use Rattle.uc_context.specs.Variables.{opened_at}
use Rattle.uc_soundness.specs.Valuations.{Valuation, value, values, scope_of, Fits}
use Rattle.uc_soundness.specs.WellFormed.{AreMonoIn, IsTypeIn}
use Rattle.uc_soundness.proofs.Fitting.{knows_all}
use Rattle.uc_soundness.proofs.Instances.{length-fresh_numbers, all_new}
use Rattle.uc_soundness.proofs.SoundRules.{value_opened_agree}
use Rattle.uc_soundness.proofs.Types.{Covered-refl, type_opened}
use Rattle.uc_soundness.proofs.Values.{all_mono_value}
use Rattle.uc_typing.specs.Fronts.{front_count, behind_front, existentials, arguments_of, result_of, repeated, list_of, literal_type}
use Rattle.uc_typing.specs.PatternMatching.{patterns_count, Expectation, expects_type, expects_tuple, expects_list, expects_fields, expected}
use Rattle.uc_sound_typing.specs.Formed.{IsFormedKnown, IsTyped, IsFieldsType, IsConstructorType, IsFormedPattern}
use Rattle.uc_sound_typing.proofs.Patterns.{constructor_is}
use Rattle.uc_sound_typing.proofs.Sights.{front_opened}
use Rattle.uc_sound_typing.proofs.WrittenTypes.{open_typed, value_open}

-- types of constructors, with their quantifiers and without
abbrev pub IsFieldsOpen : Open → Type 0
IsFieldsOpen (arrow a b) = IsFieldsOpen b
IsFieldsOpen (applied x ts) = Unit {0}
IsFieldsOpen t = ⊥

abbrev pub IsConstructorOpen : Open → Type 0
IsConstructorOpen (quantified t) = IsConstructorOpen t
IsConstructorOpen (arrow a b) = IsFieldsOpen b
IsConstructorOpen (applied x ts) = Unit {0}
IsConstructorOpen t = ⊥

fields_from : (ty : Ty) → IsFieldsType ty → IsFieldsOpen (open_from ty)
fields_from (types.variable i) h = absurd h
fields_from (types.quantified t) h = absurd h
fields_from (types.arrow a b) h = fields_from b h
fields_from types.unit h = absurd h
fields_from (types.tuple ts) h = absurd h
fields_from (types.applied x ts) h = tt

constructor_from : (ty : Ty) → IsConstructorType ty → IsConstructorOpen (open_from ty)
constructor_from (types.variable i) h = absurd h
constructor_from (types.quantified t) h = constructor_from t h
constructor_from (types.arrow a b) h = fields_from b h
constructor_from types.unit h = absurd h
constructor_from (types.tuple ts) h = absurd h
constructor_from (types.applied x ts) h = tt

module _ (s : Open) where
  fields_opened : (k : ℕ) (t : Open) → IsFieldsOpen t → IsFieldsOpen (opened_at k s t)
  fields_opened k (bound i) h = absurd h
  fields_opened k (rigid x) h = absurd h
  fields_opened k (existential x) h = absurd h
  fields_opened k (quantified t) h = absurd h
  fields_opened k (arrow a b) h = fields_opened k b h
  fields_opened k unit h = absurd h
  fields_opened k (tuple ts) h = absurd h
  fields_opened k (applied x ts) h = tt

  constructor_opened : (k : ℕ) (t : Open) → IsConstructorOpen t → IsConstructorOpen (opened_at k s t)
  constructor_opened k (bound i) h = absurd h
  constructor_opened k (rigid x) h = absurd h
  constructor_opened k (existential x) h = absurd h
  constructor_opened k (quantified t) h = constructor_opened (suc k) t h
  constructor_opened k (arrow a b) h = fields_opened k b h
  constructor_opened k unit h = absurd h
  constructor_opened k (tuple ts) h = absurd h
  constructor_opened k (applied x ts) h = tt

-- a constructor at what the existentials of a context stand for
module _ (arity : Arity) {outer : ℕ} (σ : Valuation outer) (fs : ContextEntries) (fits : Fits arity σ fs) where
  fields_at : (t : Open) → IsFieldsOpen t → IsConstructorAt arity (scope_of outer fs) (value σ t) (values σ (arguments_of t)) (value σ (result_of t))
  fields_at (bound i) h = absurd h
  fields_at (rigid x) h = absurd h
  fields_at (existential x) h = absurd h
  fields_at (quantified t) h = absurd h
  fields_at (arrow a b) h = at_field (fields_at b h)
  fields_at unit h = absurd h
  fields_at (tuple ts) h = absurd h
  fields_at (applied x ts) h = at_result

  pub constructor_at : (ns : List ℕ) (t : Open) → IsConstructorOpen t → length ns ≡ front_count t → AreMonoIn arity fs 0 (opens_of (existentials ns)) → IsTypeIn arity fs 0 t
      → IsConstructorAt arity (scope_of outer fs) (value σ t) (values σ (arguments_of (behind_front (existentials ns) t))) (value σ (result_of (behind_front (existentials ns) t)))
  constructor_at [] (bound i) h same d typed = absurd h
  constructor_at [] (rigid x) h same d typed = absurd h
  constructor_at [] (existential x) h same d typed = absurd h
  constructor_at [] (quantified t) h same d typed = absurd cc
  constructor_at [] (arrow a b) h same d typed = at_field (fields_at b h)
  constructor_at [] unit h same d typed = absurd h
  constructor_at [] (tuple ts) h same d typed = absurd h
  constructor_at [] (applied x ts) h same d typed = at_result
  constructor_at (n ∷ ns) (bound i) h same d typed = absurd h
  constructor_at (n ∷ ns) (rigid x) h same d typed = absurd h
  constructor_at (n ∷ ns) (existential x) h same d typed = absurd h
  constructor_at (n ∷ ns) (quantified t) h same d typed =
      let rest : length ns ≡ front_count t = cc in
      let t' : Open = opened_at 0 (existential n) t in
      at_parameter (σ.stands_for n) ((knows_all arity σ fs fits).existentials n d.0)
      (subst (λ (z : Poly). IsConstructorAt arity (scope_of outer fs) z (values σ (arguments_of (behind_front (existentials ns) t'))) (value σ (result_of (behind_front (existentials ns) t'))))
      (value_opened_agree arity fs σ σ fits (λ x there. refl) 1 t typed (existential n))
      (constructor_at ns t' (constructor_opened (existential n) 0 t h) (rest ∙ sym (front_opened (existential n) refl 0 t)) d.1 (type_opened arity fs fs (Covered-refl fs) (existential n) (λ k. d.0) 0 t typed)))
  constructor_at (n ∷ ns) (arrow a b) h same d typed = absurd cc
  constructor_at (n ∷ ns) unit h same d typed = absurd h
  constructor_at (n ∷ ns) (tuple ts) h same d typed = absurd h
  constructor_at (n ∷ ns) (applied x ts) h same d typed = absurd cc

pub value_literal : {outer : ℕ} (σ : Valuation outer) (l : Literal) → value σ (literal_type l) ≡ kinds.literal_type l
value_literal σ (literals.Nat n) = refl
value_literal σ (literals.Int z) = refl
value_literal σ (literals.Boolean b) = refl
value_literal σ (literals.Text text) = refl
value_literal σ (literals.Char c) = refl

-- what lists of patterns bind
no_bound : {known : Known} {xs : List ℕ} {bs : List Poly} → PatternsBind known xs patterns.none poly.none bs → bs ≡ []
no_bound bind_none = refl

record Two (known : Known) (xs : List ℕ) (p q : Pattern) (t u : Poly) (bs : List Poly) : Type 0 where
  pub first : List Poly
  pub second : List Poly
  pub at_first : PatternBinds known xs p t first
  pub at_second : PatternBinds known xs q u second
  pub whole : first ++ second ≡ bs

two_bound : {known : Known} {xs : List ℕ} {p q : Pattern} {t u : Poly} {bs : List Poly} → PatternsBind known xs (patterns.more p (patterns.more q patterns.none)) (poly.more t (poly.more u poly.none)) bs → Two known xs p q t u bs
two_bound (bind_more {bs = bs} b (bind_more {bs = cs} c bind_none)) = record { first = bs; second = cs; at_first = b; at_second = c; whole = ap (λ (ds : List Poly). bs ++ ds) (sym (append-nil cs)) }

all_of : {known : Known} {xs : List ℕ} {ps : Patterns} {ts : Polys} {bs : List Poly} → PatternsBind known xs ps ts bs → {outer : ℕ} (σ : Valuation outer) (u : Open) → ts ≡ values σ (repeated (patterns_count ps) u) → AllBind known xs ps (value σ u) bs
all_of bind_none σ u is = all_bind_none
all_of (bind_more {known = known} {xs = xs} {p = p} {ps = ps} {t = t} {ts = ts} {bs = bs} b rest) σ u is =
    let head : t ≡ value σ u = cc in
    let tail : ts ≡ values σ (repeated (patterns_count ps) u) = cc in
    all_bind_more (subst (λ (z : Poly). PatternBinds known xs p z bs) head b) (all_of rest σ u tail)

-- a pattern binds what its parts bind, against types below the one that it expects
abbrev pub BindsAs : Known → ℕ → Pattern → Expectation → Type 0
BindsAs known outer q x = (σ : Valuation outer) → Fits known.arity σ x.context → (p : Poly) → IsSubtype known.arity (scope_of outer x.context) p (value σ x.type)
    → (bs : List Poly) → PatternsBind known (scope_of outer x.context) x.parts (values σ x.types) bs → PatternBinds known (scope_of outer x.context) q p bs

module _ (known : Known) (formed : IsFormedKnown known) (outer : ℕ) (es : ContextEntries) where
  literal_binds : (l : Literal) → BindsAs known outer (patterns.literal l) (expects_type es (literal_type l))
  literal_binds l σ fits p sub bs b =
      subst (PatternBinds known (scope_of outer es) (patterns.literal l) p) (sym (no_bound b)) (binds_literal (subst (IsSubtype known.arity (scope_of outer es) p) (value_literal σ l) sub))

  unit_binds : BindsAs known outer patterns.unit (expects_type es unit)
  unit_binds σ fits p sub bs b = subst (PatternBinds known (scope_of outer es) patterns.unit p) (sym (no_bound b)) (binds_unit sub)

  tuple_binds : (ps : Patterns) (ns : List ℕ) → BindsAs known outer (patterns.tuple ps) (expects_tuple es ps ns)
  tuple_binds ps ns σ fits p sub bs b =
      let fs : ContextEntries = es ++ map (λ n. Exists n) ns in
      binds_tuple (values σ (opens_of (existentials ns))) (all_mono_value known.arity σ (scope_of outer fs) fs (knows_all known.arity σ fs fits) (opens_of (existentials ns)) (all_new known.arity es ns)) sub b

  module _ (n : ℕ) where
    new_mono : (σ : Valuation outer) → Fits known.arity σ (es ++ Exists n ∷ []) → IsMono known.arity (scope_of outer (es ++ Exists n ∷ [])) (σ.stands_for n)
    new_mono σ fits = (knows_all known.arity σ (es ++ Exists n ∷ []) fits).existentials n (all_new known.arity es (n ∷ [])).0

    list_binds : (ps : Patterns) → BindsAs known outer (patterns.list ps) (expects_list es ps (repeated (patterns_count ps)) n)
    list_binds ps σ fits p sub bs b = binds_list (σ.stands_for n) (new_mono σ fits) sub (all_of b σ (existential n) refl)

    cons_binds : (a b : Pattern) → BindsAs known outer (patterns.cons a b) (expects_list es (patterns.more a (patterns.more b patterns.none)) (λ t. more t (more (list_of t) none)) n)
    cons_binds a b σ fits p sub bs both =
        let r : Two known (scope_of outer (es ++ Exists n ∷ [])) a b (σ.stands_for n) (below.list_of (σ.stands_for n)) bs = two_bound both in
        subst (PatternBinds known (scope_of outer (es ++ Exists n ∷ [])) (patterns.cons a b) p) r.whole (binds_cons (σ.stands_for n) (new_mono σ fits) sub r.at_first r.at_second)

    snoc_binds : (a b : Pattern) → BindsAs known outer (patterns.snoc a b) (expects_list es (patterns.more a (patterns.more b patterns.none)) (λ t. more (list_of t) (more t none)) n)
    snoc_binds a b σ fits p sub bs both =
        let r : Two known (scope_of outer (es ++ Exists n ∷ [])) a b (below.list_of (σ.stands_for n)) (σ.stands_for n) bs = two_bound both in
        subst (PatternBinds known (scope_of outer (es ++ Exists n ∷ [])) (patterns.snoc a b) p) r.whole (binds_snoc (σ.stands_for n) (new_mono σ fits) sub r.at_first r.at_second)

  fields_bind : (c : Target) (ps : Patterns) (typed : IsTyped IsConstructorType known c) → BindsAs known outer (patterns.constructor c ps) (expects_fields es ps (open_from typed.ty) (fresh_numbers (front_count (open_from typed.ty)) es))
  fields_bind c ps typed σ fits p sub bs b =
      let t : Open = open_from typed.ty in
      let ns : List ℕ = fresh_numbers (front_count t) es in
      let fs : ContextEntries = es ++ map (λ n. Exists n) ns in
      binds_constructor (values σ (arguments_of (behind_front (existentials ns) t))) typed.is
      (subst (λ (z : Poly). IsConstructorAt known.arity (scope_of outer fs) z (values σ (arguments_of (behind_front (existentials ns) t))) (value σ (result_of (behind_front (existentials ns) t)))) (value_open σ typed.ty)
      (constructor_at known.arity σ fs fits ns t (constructor_from typed.ty typed.fits) (length-fresh_numbers (front_count t) es) (all_new known.arity es ns) (open_typed known.arity fs typed.ty (formed.types c typed.ty typed.is))))
      sub b

  pub expected_binds : (q : Pattern) (x : Expectation) → IsFormedPattern known q → expected known es q ≡ Some x → BindsAs known outer q x
  expected_binds patterns.any x h e = absurd (none-some x e)
  expected_binds patterns.variable x h e = absurd (none-some x e)
  expected_binds (patterns.alias p) x h e = absurd (none-some x e)
  expected_binds (patterns.literal l) x h e = subst (BindsAs known outer (patterns.literal l)) (same_Some (expects_type es (literal_type l)) x e) (literal_binds l)
  expected_binds patterns.unit x h e = subst (BindsAs known outer patterns.unit) (same_Some (expects_type es unit) x e) unit_binds
  expected_binds (patterns.tuple ps) x h e = subst (BindsAs known outer (patterns.tuple ps)) (same_Some (expects_tuple es ps (fresh_numbers (patterns_count ps) es)) x e) (tuple_binds ps (fresh_numbers (patterns_count ps) es))
  expected_binds (patterns.list ps) x h e = subst (BindsAs known outer (patterns.list ps)) (same_Some (expects_list es ps (repeated (patterns_count ps)) (fresh_number es)) x e) (list_binds (fresh_number es) ps)
  expected_binds (patterns.constructor c ps) x h e = subst (BindsAs known outer (patterns.constructor c ps)) (constructor_is known es c ps x h.0.ty h.0.is e) (fields_bind c ps h.0)
  expected_binds (patterns.cons a b) x h e =
      subst (BindsAs known outer (patterns.cons a b)) (same_Some (expects_list es (patterns.more a (patterns.more b patterns.none)) (λ t. more t (more (list_of t) none)) (fresh_number es)) x e) (cons_binds (fresh_number es) a b)
  expected_binds (patterns.snoc a b) x h e =
      subst (BindsAs known outer (patterns.snoc a b)) (same_Some (expects_list es (patterns.more a (patterns.more b patterns.none)) (λ t. more (list_of t) (more t none)) (fresh_number es)) x e) (snoc_binds (fresh_number es) a b)
