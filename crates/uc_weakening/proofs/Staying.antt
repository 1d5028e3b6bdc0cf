-- Derivations, one rule after another.
use Rattle.std.proofs.Common.{◌≡◌, ℕ, List, Some, ap, sym, ◌∙◌}
use Rattle.std.specs.Prelude.{slice_get, Option}
use Rattle.uc_tree.specs.declared.definition.Definition.{Definition}
use Rattle.uc_tree.specs.declared.target.Target.{Target}
use Rattle.uc_tree.specs.declared.target.Target.TheVariants.{Stored, Own, OwnCtor}
use Rattle.uc_tree.specs.Patterns.{Pattern, Patterns}
use Rattle.uc_tree.specs.Terms.{Term, Terms, Cases}
use Rattle.uc_tree.specs.Types.{Ty}
use Rattle.uc_kinds.specs.PatternTyping.{Known, if_signed, target_type, IsConstructorAt, at_parameter, at_field, at_result, PatternBinds, binds_any, binds_variable, binds_alias, binds_literal, binds_unit, binds_tuple, binds_list, binds_constructor, binds_cons, binds_snoc, PatternsBind, bind_none, bind_more, AllBind, all_bind_none, all_bind_more}
use Rattle.uc_kinds.specs.Polytypes.{Poly, Polys}
use Rattle.uc_kinds.specs.Subtyping.{IsMono, mono_rigid, mono_arrow, mono_unit, mono_tuple, mono_applied, AreMono, no_mono, more_mono, IsSubtype, below_rigid, below_unit, below_arrow, below_tuple, below_applied, below_left, below_right, AreSubtypes, no_subtypes, more_subtypes}
use Rattle.uc_kinds.specs.Typing.{Scope, IsInstance, instance_of, itself, HasType, for_all, by_lambda, by_unit, by_tuple, by_list, by_conditional, by_signed, by_binding, by_match, by_subtype, Infers, of_variable, of_link, of_literal, of_unit, of_annotated, of_lambda, of_application, of_tuple, of_list, of_and, of_or, of_conditional, of_binding, of_match, Applies, at_monotype, at_argument, MeetsSignature, under_quantifier, at_rest, HaveTypes, have_none, have_more, AllHaveType, all_none, all_more, CasesHaveType, no_cases, more_cases, more_guarded, DefinitionHasType, with_signature, without_signature}
use Rattle.uc_kinds.specs.WellFormed.{Arity}
use Rattle.uc_weakening.specs.Growing.{Adds}

-- what arities tell stays
abbrev pub KeepsArities : Arity → Arity → Type 0
KeepsArities arity arity' = (x : Target) (n : ℕ) → arity x ≡ Some n → arity' x ≡ Some n

mutual
  mono_stays : {arity : Arity} {xs : List ℕ} {t : Poly} → IsMono arity xs t → (arity' : Arity) → KeepsArities arity arity' → IsMono arity' xs t
  mono_stays (mono_rigid c) arity' keeps = mono_rigid c
  mono_stays (mono_arrow s t) arity' keeps = mono_arrow (mono_stays s arity' keeps) (mono_stays t arity' keeps)
  mono_stays mono_unit arity' keeps = mono_unit
  mono_stays (mono_tuple ts) arity' keeps = mono_tuple (monos_stay ts arity' keeps)
  mono_stays (mono_applied {h = h} is ts) arity' keeps = mono_applied (keeps h _ is) (monos_stay ts arity' keeps)

  monos_stay : {arity : Arity} {xs : List ℕ} {ts : Polys} → AreMono arity xs ts → (arity' : Arity) → KeepsArities arity arity' → AreMono arity' xs ts
  monos_stay no_mono arity' keeps = no_mono
  monos_stay (more_mono t ts) arity' keeps = more_mono (mono_stays t arity' keeps) (monos_stay ts arity' keeps)

mutual
  pub subtype_stays : {arity : Arity} {xs : List ℕ} {a b : Poly} → IsSubtype arity xs a b → (arity' : Arity) → KeepsArities arity arity' → IsSubtype arity' xs a b
  subtype_stays (below_rigid c) arity' keeps = below_rigid c
  subtype_stays below_unit arity' keeps = below_unit
  subtype_stays (below_arrow d e) arity' keeps = below_arrow (subtype_stays d arity' keeps) (subtype_stays e arity' keeps)
  subtype_stays (below_tuple ds) arity' keeps = below_tuple (subtypes_stay ds arity' keeps)
  subtype_stays (below_applied ds) arity' keeps = below_applied (subtypes_stay ds arity' keeps)
  subtype_stays (below_left t m d) arity' keeps = below_left t (mono_stays m arity' keeps) (subtype_stays d arity' keeps)
  subtype_stays (below_right x new d) arity' keeps = below_right x new (subtype_stays d arity' keeps)

  subtypes_stay : {arity : Arity} {xs : List ℕ} {ts us : Polys} → AreSubtypes arity xs ts us → (arity' : Arity) → KeepsArities arity arity' → AreSubtypes arity' xs ts us
  subtypes_stay no_subtypes arity' keeps = no_subtypes
  subtypes_stay (more_subtypes d ds) arity' keeps = more_subtypes (subtype_stays d arity' keeps) (subtypes_stay ds arity' keeps)

constructor_stays : {arity : Arity} {xs : List ℕ} {a r : Poly} {fields : Polys} → IsConstructorAt arity xs a fields r → (arity' : Arity) → KeepsArities arity arity' → IsConstructorAt arity' xs a fields r
constructor_stays (at_parameter t m d) arity' keeps = at_parameter t (mono_stays m arity' keeps) (constructor_stays d arity' keeps)
constructor_stays (at_field d) arity' keeps = at_field (constructor_stays d arity' keeps)
constructor_stays at_result arity' keeps = at_result

instance_stays : {arity : Arity} {xs : List ℕ} {a b : Poly} → IsInstance arity xs a b → (arity' : Arity) → KeepsArities arity arity' → IsInstance arity' xs a b
instance_stays (instance_of t m d) arity' keeps = instance_of t (mono_stays m arity' keeps) (instance_stays d arity' keeps)
instance_stays (itself plain) arity' keeps = itself plain

-- the type of what a target stands for stays
target_stays : (known known' : Known) → Adds known known' → (x : Target) (ty : Ty) → target_type known x ≡ Some ty → target_type known' x ≡ Some ty
target_stays known known' adds (Stored r) ty is = adds.types r ty is
target_stays known known' adds (Own k) ty is = ap (λ (ss : List (Option Ty)). if_signed (slice_get ss k)) adds.signatures ∙ is
target_stays known known' adds (OwnCtor k c) ty is = is

mutual
  pub pattern_stays : {known : Known} {xs : List ℕ} {p : Pattern} {s : Poly} {bs : List Poly} → PatternBinds known xs p s bs → (known' : Known) → Adds known known' → PatternBinds known' xs p s bs
  pattern_stays binds_any known' adds = binds_any
  pattern_stays binds_variable known' adds = binds_variable
  pattern_stays (binds_alias d) known' adds = binds_alias (pattern_stays d known' adds)
  pattern_stays (binds_literal d) known' adds = binds_literal (subtype_stays d known'.arity adds.arities)
  pattern_stays (binds_unit d) known' adds = binds_unit (subtype_stays d known'.arity adds.arities)
  pattern_stays (binds_tuple ts m d ds) known' adds = binds_tuple ts (monos_stay m known'.arity adds.arities) (subtype_stays d known'.arity adds.arities) (patterns_stay ds known' adds)
  pattern_stays (binds_list t m d ds) known' adds = binds_list t (mono_stays m known'.arity adds.arities) (subtype_stays d known'.arity adds.arities) (all_stay ds known' adds)
  pattern_stays (binds_constructor {known = known} {x = x} {ty = ty} fields is c d ds) known' adds =
      binds_constructor fields (target_stays known known' adds x ty is) (constructor_stays c known'.arity adds.arities) (subtype_stays d known'.arity adds.arities) (patterns_stay ds known' adds)
  pattern_stays (binds_cons t m d p q) known' adds = binds_cons t (mono_stays m known'.arity adds.arities) (subtype_stays d known'.arity adds.arities) (pattern_stays p known' adds) (pattern_stays q known' adds)
  pattern_stays (binds_snoc t m d p q) known' adds = binds_snoc t (mono_stays m known'.arity adds.arities) (subtype_stays d known'.arity adds.arities) (pattern_stays p known' adds) (pattern_stays q known' adds)

  patterns_stay : {known : Known} {xs : List ℕ} {ps : Patterns} {ts : Polys} {bs : List Poly} → PatternsBind known xs ps ts bs → (known' : Known) → Adds known known' → PatternsBind known' xs ps ts bs
  patterns_stay bind_none known' adds = bind_none
  patterns_stay (bind_more d ds) known' adds = bind_more (pattern_stays d known' adds) (patterns_stay ds known' adds)

  all_stay : {known : Known} {xs : List ℕ} {ps : Patterns} {t : Poly} {bs : List Poly} → AllBind known xs ps t bs → (known' : Known) → Adds known known' → AllBind known' xs ps t bs
  all_stay all_bind_none known' adds = all_bind_none
  all_stay (all_bind_more d ds) known' adds = all_bind_more (pattern_stays d known' adds) (all_stay ds known' adds)

mutual
  pub check_stays : {known : Known} {scope : Scope} {e : Term} {t : Poly} → HasType known scope e t → (known' : Known) → Adds known known' → HasType known' scope e t
  check_stays (for_all x new d) known' adds = for_all x new (check_stays d known' adds)
  check_stays (by_lambda d) known' adds = by_lambda (check_stays d known' adds)
  check_stays by_unit known' adds = by_unit
  check_stays (by_tuple ds) known' adds = by_tuple (checks_stay ds known' adds)
  check_stays (by_list ds) known' adds = by_list (each_stays ds known' adds)
  check_stays (by_conditional a b c) known' adds = by_conditional (check_stays a known' adds) (check_stays b known' adds) (check_stays c known' adds)
  check_stays (by_signed a b) known' adds = by_signed (meets_stays a known' adds) (check_stays b known' adds)
  check_stays (by_binding s unused a b) known' adds = by_binding s unused (found_stays a known' adds) (check_stays b known' adds)
  check_stays (by_match s s' e i cs) known' adds = by_match s s' (found_stays e known' adds) (instance_stays i known'.arity adds.arities) (cases_stay cs known' adds)
  check_stays (by_subtype a e d) known' adds = by_subtype a (found_stays e known' adds) (subtype_stays d known'.arity adds.arities)

  pub found_stays : {known : Known} {scope : Scope} {e : Term} {t : Poly} → Infers known scope e t → (known' : Known) → Adds known known' → Infers known' scope e t
  found_stays (of_variable is) known' adds = of_variable is
  found_stays (of_link {known = known} {x = x} {t = t} is) known' adds = of_link (target_stays known known' adds x t is)
  found_stays of_literal known' adds = of_literal
  found_stays of_unit known' adds = of_unit
  found_stays (of_annotated d) known' adds = of_annotated (check_stays d known' adds)
  found_stays (of_lambda s t m n d) known' adds = of_lambda s t (mono_stays m known'.arity adds.arities) (mono_stays n known'.arity adds.arities) (check_stays d known' adds)
  found_stays (of_application a f d) known' adds = of_application a (found_stays f known' adds) (applies_stays d known' adds)
  found_stays (of_tuple ts m ds) known' adds = of_tuple ts (monos_stay m known'.arity adds.arities) (checks_stay ds known' adds)
  found_stays (of_list t m ds) known' adds = of_list t (mono_stays m known'.arity adds.arities) (each_stays ds known' adds)
  found_stays (of_and a b) known' adds = of_and (check_stays a known' adds) (check_stays b known' adds)
  found_stays (of_or a b) known' adds = of_or (check_stays a known' adds) (check_stays b known' adds)
  found_stays (of_conditional t m d) known' adds = of_conditional t (mono_stays m known'.arity adds.arities) (check_stays d known' adds)
  found_stays (of_binding t m d) known' adds = of_binding t (mono_stays m known'.arity adds.arities) (check_stays d known' adds)
  found_stays (of_match t m d) known' adds = of_match t (mono_stays m known'.arity adds.arities) (check_stays d known' adds)

  applies_stays : {known : Known} {scope : Scope} {a c : Poly} {e : Term} → Applies known scope a e c → (known' : Known) → Adds known known' → Applies known' scope a e c
  applies_stays (at_monotype t m d) known' adds = at_monotype t (mono_stays m known'.arity adds.arities) (applies_stays d known' adds)
  applies_stays (at_argument d) known' adds = at_argument (check_stays d known' adds)

  meets_stays : {known : Known} {scope : Scope} {e : Term} {a : Poly} → MeetsSignature known scope e a → (known' : Known) → Adds known known' → MeetsSignature known' scope e a
  meets_stays (under_quantifier x new d) known' adds = under_quantifier x new (meets_stays d known' adds)
  meets_stays (at_rest plain d) known' adds = at_rest plain (check_stays d known' adds)

  checks_stay : {known : Known} {scope : Scope} {es : Terms} {ts : Polys} → HaveTypes known scope es ts → (known' : Known) → Adds known known' → HaveTypes known' scope es ts
  checks_stay have_none known' adds = have_none
  checks_stay (have_more d ds) known' adds = have_more (check_stays d known' adds) (checks_stay ds known' adds)

  each_stays : {known : Known} {scope : Scope} {es : Terms} {t : Poly} → AllHaveType known scope es t → (known' : Known) → Adds known known' → AllHaveType known' scope es t
  each_stays all_none known' adds = all_none
  each_stays (all_more d ds) known' adds = all_more (check_stays d known' adds) (each_stays ds known' adds)

  cases_stay : {known : Known} {scope : Scope} {cs : Cases} {s t : Poly} → CasesHaveType known scope cs s t → (known' : Known) → Adds known known' → CasesHaveType known' scope cs s t
  cases_stay no_cases known' adds = no_cases
  cases_stay (more_cases p b cs) known' adds = more_cases (pattern_stays p known' adds) (check_stays b known' adds) (cases_stay cs known' adds)
  cases_stay (more_guarded p g b cs) known' adds = more_guarded (pattern_stays p known' adds) (check_stays g known' adds) (check_stays b known' adds) (cases_stay cs known' adds)

pub definition_stays : {known : Known} {d : Definition} {ty : Ty} → DefinitionHasType known d ty → (known' : Known) → Adds known known' → DefinitionHasType known' d ty
definition_stays (with_signature d) known' adds = with_signature (meets_stays d known' adds)
definition_stays (without_signature d) known' adds = without_signature (check_stays d known' adds)
