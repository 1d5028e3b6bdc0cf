-- Declarative typing: Dunfield and Krishnaswami 2013, figure 4, with data types, literals, tuples, lists, conditionals, bindings and matches. Wherever the algorithm takes a fresh existential, a monotype is guessed.
use Rattle.std.specs.Prelude.{◌≡◌, ◌≢◌, ℕ, ◌+◌, ◌==◌, Bool, true, false, ◌||◌, List, [], ◌∷◌, ◌++◌, reverse, length, Option, Some, None, slice_get}
use Rattle.std.specs.List.{Contains}
use Rattle.uc_tree.specs.declared.target.Target.{Target}
use Rattle.uc_tree.specs.declared.literal.Literal.{Literal}
use Rattle.uc_tree.specs.declared.definition.Definition.{Definition}
use Rattle.uc_tree.specs.Types.{Ty}
use Rattle.uc_tree.specs.Patterns.{Pattern, Patterns}
use Rattle.uc_tree.specs.Patterns as patterns
use Rattle.uc_tree.specs.Terms.{Term, Terms, Cases}
use Rattle.uc_tree.specs.Terms as terms
use Rattle.uc_kinds.specs.WellFormed.{Arity}
use Rattle.uc_kinds.specs.Polytypes.{Poly, Polys, rigid, quantified, arrow, unit, tuple, none, more, opened, poly_of, closed_poly, is_quantified}
use Rattle.uc_kinds.specs.Subtyping.{boolean, list_of, IsMono, AreMono, IsSubtype}
use Rattle.uc_kinds.specs.PatternTyping.{Known, target_type, literal_type, PatternBinds}

-- how many variables a pattern binds
abbrev mutual
  pub binders_in : Pattern → ℕ
  binders_in patterns.any = 0
  binders_in patterns.variable = 1
  binders_in (patterns.alias p) = binders_in p + 1
  binders_in (patterns.literal l) = 0
  binders_in patterns.unit = 0
  binders_in (patterns.tuple ps) = binders_among ps
  binders_in (patterns.list ps) = binders_among ps
  binders_in (patterns.constructor x ps) = binders_among ps
  binders_in (patterns.cons p q) = binders_in p + binders_in q
  binders_in (patterns.snoc p q) = binders_in p + binders_in q

  pub binders_among : Patterns → ℕ
  binders_among patterns.none = 0
  binders_among (patterns.more p ps) = binders_in p + binders_among ps

abbrev mutual
  -- whether a term uses the variable that counts so many binders outwards
  pub uses : ℕ → Term → Bool
  uses n (terms.variable m) = m == n
  uses n (terms.literal l) = false
  uses n terms.unit = false
  uses n (terms.link x) = false
  uses n (terms.lambda e) = uses (n + 1) e
  uses n (terms.apply f e) = uses n f || uses n e
  uses n (terms.annotated e t) = uses n e
  uses n (terms.tuple es) = some_uses n es
  uses n (terms.list es) = some_uses n es
  uses n (terms.conditional a b c) = uses n a || (uses n b || uses n c)
  uses n (terms.and a b) = uses n a || uses n b
  uses n (terms.or a b) = uses n a || uses n b
  uses n (terms.binding s a b) = uses (n + 1) a || uses (n + 1) b
  uses n (terms.match e cs) = uses n e || some_case_uses n cs

  pub some_uses : ℕ → Terms → Bool
  some_uses n terms.none = false
  some_uses n (terms.more e es) = uses n e || some_uses n es

  pub some_case_uses : ℕ → Cases → Bool
  some_case_uses n terms.no_case = false
  some_case_uses n (terms.case p b cs) = uses (n + binders_in p) b || some_case_uses n cs
  some_case_uses n (terms.guarded p g b cs) = uses (n + binders_in p) g || (uses (n + binders_in p) b || some_case_uses n cs)

-- What is in scope: the rigid variables; those of them that annotations see, the innermost first; and the types of the term variables, the innermost first.
pub record Scope : Type 0 where
  pub rigids : List ℕ
  pub seen : List ℕ
  pub types : List Poly

-- nothing is in scope
abbrev pub no_scope : Scope
no_scope = record { rigids = []; seen = []; types = [] }

-- under a binder of this type
abbrev pub under : Poly → Scope → Scope
under t scope = record scope { types = t ∷ scope.types }

-- under the binders of a pattern, of which the last is the innermost
abbrev pub under_all : List Poly → Scope → Scope
under_all ts scope = record scope { types = reverse ts ++ scope.types }

-- with one more rigid variable, which annotations don't see
abbrev pub with_rigid : ℕ → Scope → Scope
with_rigid x scope = record scope { rigids = x ∷ scope.rigids }

-- with one more that they see
abbrev pub with_seen : ℕ → Scope → Scope
with_seen x scope = record { rigids = x ∷ scope.rigids; seen = x ∷ scope.seen; types = scope.types }

-- a type with monotypes in place of the quantifiers at its front
pub data IsInstance : Arity → List ℕ → Poly → Poly → Type 0 where
  instance_of : {arity : Arity} {xs : List ℕ} {a b : Poly} (t : Poly) → IsMono arity xs t → IsInstance arity xs (opened t a) b → IsInstance arity xs (quantified a) b
  itself : {arity : Arity} {xs : List ℕ} {a : Poly} → is_quantified a ≡ false → IsInstance arity xs a a

mutual
  -- a term checks against a type
  pub data HasType : Known → Scope → Term → Poly → Type 0 where
    for_all : {known : Known} {scope : Scope} {e : Term} {a : Poly} (x : ℕ)
        → (Contains scope.rigids x → ⊥) → HasType known (with_rigid x scope) e (opened (rigid x) a) → HasType known scope e (quantified a)
    by_lambda : {known : Known} {scope : Scope} {e : Term} {a b : Poly} → HasType known (under a scope) e b → HasType known scope (terms.lambda e) (arrow a b)
    by_unit : {known : Known} {scope : Scope} → HasType known scope terms.unit unit
    by_tuple : {known : Known} {scope : Scope} {es : Terms} {ts : Polys} → HaveTypes known scope es ts → HasType known scope (terms.tuple es) (tuple ts)
    by_list : {known : Known} {scope : Scope} {es : Terms} {t : Poly} → AllHaveType known scope es t → HasType known scope (terms.list es) (list_of t)
    by_conditional : {known : Known} {scope : Scope} {a b c : Term} {t : Poly}
        → HasType known scope a boolean → HasType known scope b t → HasType known scope c t → HasType known scope (terms.conditional a b c) t
    by_signed : {known : Known} {scope : Scope} {s : Ty} {a b : Term} {t : Poly}
        → MeetsSignature known (under (poly_of scope.seen s) scope) a (poly_of scope.seen s) → HasType known (under (poly_of scope.seen s) scope) b t
        → HasType known scope (terms.binding (Some s) a b) t
    by_binding : {known : Known} {scope : Scope} {a b : Term} {t : Poly} (s : Poly)
        → uses 0 a ≡ false → Infers known (under s scope) a s → HasType known (under s scope) b t → HasType known scope (terms.binding None a b) t
    by_match : {known : Known} {scope : Scope} {e : Term} {cs : Cases} {t : Poly} (s s' : Poly)
        → Infers known scope e s → IsInstance known.arity scope.rigids s s' → CasesHaveType known scope cs s' t → HasType known scope (terms.match e cs) t
    by_subtype : {known : Known} {scope : Scope} {e : Term} {b : Poly} (a : Poly)
        → Infers known scope e a → IsSubtype known.arity scope.rigids a b → HasType known scope e b

  -- a term synthesises a type
  pub data Infers : Known → Scope → Term → Poly → Type 0 where
    of_variable : {known : Known} {scope : Scope} {n : ℕ} {a : Poly} → slice_get scope.types n ≡ Some a → Infers known scope (terms.variable n) a
    of_link : {known : Known} {scope : Scope} {x : Target} {t : Ty} → target_type known x ≡ Some t → Infers known scope (terms.link x) (closed_poly t)
    of_literal : {known : Known} {scope : Scope} {l : Literal} → Infers known scope (terms.literal l) (literal_type l)
    of_unit : {known : Known} {scope : Scope} → Infers known scope terms.unit unit
    of_annotated : {known : Known} {scope : Scope} {e : Term} {t : Ty} → HasType known scope e (poly_of scope.seen t) → Infers known scope (terms.annotated e t) (poly_of scope.seen t)
    of_lambda : {known : Known} {scope : Scope} {e : Term} (s t : Poly)
        → IsMono known.arity scope.rigids s → IsMono known.arity scope.rigids t → HasType known (under s scope) e t → Infers known scope (terms.lambda e) (arrow s t)
    of_application : {known : Known} {scope : Scope} {f e : Term} {c : Poly} (a : Poly) → Infers known scope f a → Applies known scope a e c → Infers known scope (terms.apply f e) c
    of_tuple : {known : Known} {scope : Scope} {es : Terms} (ts : Polys)
        → AreMono known.arity scope.rigids ts → HaveTypes known scope es ts → Infers known scope (terms.tuple es) (tuple ts)
    of_list : {known : Known} {scope : Scope} {es : Terms} (t : Poly)
        → IsMono known.arity scope.rigids t → AllHaveType known scope es t → Infers known scope (terms.list es) (list_of t)
    of_and : {known : Known} {scope : Scope} {a b : Term} → HasType known scope a boolean → HasType known scope b boolean → Infers known scope (terms.and a b) boolean
    of_or : {known : Known} {scope : Scope} {a b : Term} → HasType known scope a boolean → HasType known scope b boolean → Infers known scope (terms.or a b) boolean
    -- a conditional, a binding and a match synthesise a monotype against which they check
    of_conditional : {known : Known} {scope : Scope} {a b c : Term} (t : Poly)
        → IsMono known.arity scope.rigids t → HasType known scope (terms.conditional a b c) t → Infers known scope (terms.conditional a b c) t
    of_binding : {known : Known} {scope : Scope} {s : Option Ty} {a b : Term} (t : Poly)
        → IsMono known.arity scope.rigids t → HasType known scope (terms.binding s a b) t → Infers known scope (terms.binding s a b) t
    of_match : {known : Known} {scope : Scope} {e : Term} {cs : Cases} (t : Poly)
        → IsMono known.arity scope.rigids t → HasType known scope (terms.match e cs) t → Infers known scope (terms.match e cs) t

  -- a function of the first type, applied to a term, synthesises the second
  pub data Applies : Known → Scope → Poly → Term → Poly → Type 0 where
    at_monotype : {known : Known} {scope : Scope} {a c : Poly} {e : Term} (t : Poly)
        → IsMono known.arity scope.rigids t → Applies known scope (opened t a) e c → Applies known scope (quantified a) e c
    at_argument : {known : Known} {scope : Scope} {a c : Poly} {e : Term} → HasType known scope e a → Applies known scope (arrow a c) e c

  -- A body meets its signature: under the variables of the quantifiers at the front, which annotations see, it checks against the rest.
  pub data MeetsSignature : Known → Scope → Term → Poly → Type 0 where
    under_quantifier : {known : Known} {scope : Scope} {e : Term} {a : Poly} (x : ℕ)
        → (Contains scope.rigids x → ⊥) → MeetsSignature known (with_seen x scope) e (opened (rigid x) a) → MeetsSignature known scope e (quantified a)
    at_rest : {known : Known} {scope : Scope} {e : Term} {a : Poly} → is_quantified a ≡ false → HasType known scope e a → MeetsSignature known scope e a

  -- terms check against as many types, in order
  pub data HaveTypes : Known → Scope → Terms → Polys → Type 0 where
    have_none : {known : Known} {scope : Scope} → HaveTypes known scope terms.none none
    have_more : {known : Known} {scope : Scope} {e : Term} {es : Terms} {t : Poly} {ts : Polys}
        → HasType known scope e t → HaveTypes known scope es ts → HaveTypes known scope (terms.more e es) (more t ts)

  -- terms all check against one type
  pub data AllHaveType : Known → Scope → Terms → Poly → Type 0 where
    all_none : {known : Known} {scope : Scope} {t : Poly} → AllHaveType known scope terms.none t
    all_more : {known : Known} {scope : Scope} {e : Term} {es : Terms} {t : Poly}
        → HasType known scope e t → AllHaveType known scope es t → AllHaveType known scope (terms.more e es) t

  -- cases: patterns against the first type, guards against `Boolean`, bodies against the second type
  pub data CasesHaveType : Known → Scope → Cases → Poly → Poly → Type 0 where
    no_cases : {known : Known} {scope : Scope} {s t : Poly} → CasesHaveType known scope terms.no_case s t
    more_cases : {known : Known} {scope : Scope} {p : Pattern} {b : Term} {cs : Cases} {s t : Poly} {bs : List Poly}
        → PatternBinds known scope.rigids p s bs → HasType known (under_all bs scope) b t → CasesHaveType known scope cs s t
        → CasesHaveType known scope (terms.case p b cs) s t
    more_guarded : {known : Known} {scope : Scope} {p : Pattern} {g b : Term} {cs : Cases} {s t : Poly} {bs : List Poly}
        → PatternBinds known scope.rigids p s bs → HasType known (under_all bs scope) g boolean → HasType known (under_all bs scope) b t
        → CasesHaveType known scope cs s t → CasesHaveType known scope (terms.guarded p g b cs) s t

-- A definition has a type: with a signature that is the signature, which its body meets; without one its body checks against it.
pub data DefinitionHasType : Known → Definition → Ty → Type 0 where
  with_signature : {known : Known} {e : Term} {t : Ty} → MeetsSignature known no_scope e (closed_poly t) → DefinitionHasType known (record { signature = Some t; body = e }) t
  without_signature : {known : Known} {e : Term} {t : Ty} → HasType known no_scope e (closed_poly t) → DefinitionHasType known (record { signature = None; body = e }) t
