-- Trees with their targets replaced, as a relation, and what it keeps.
use Rattle.std.proofs.Common.{◌≡◌, ℕ, List, [], ◌∷◌, Option, Some, None, refl, subst, ap, ◌∙◌}
use Rattle.uc_tree.specs.declared.literal.Literal.{Literal}
use Rattle.uc_tree.specs.declared.target.Target.{Target}
use Rattle.uc_tree.specs.declared.item.Item.{Item}
use Rattle.uc_tree.specs.declared.item.Item.TheVariants as item
use Rattle.uc_tree.specs.Types.{Ty, Tys}
use Rattle.uc_tree.specs.Types as types
use Rattle.uc_tree.specs.Patterns.{Pattern, Patterns}
use Rattle.uc_tree.specs.Patterns as patterns
use Rattle.uc_tree.specs.Terms.{Term, Terms, Cases}
use Rattle.uc_tree.specs.Terms as terms
use Rattle.uc_tree.specs.Replacing.{◌>>=◌, Replacement, target_under, constructor_under, replaced, replaced_definition, replaced_declaration, replaced_fields, replaced_ty, replaced_tys, replaced_signature, replaced_pattern, replaced_patterns, replaced_term, replaced_terms, replaced_cases}
use Rattle.uc_tree.specs.Counts.{ty_levels, tys_levels, signature_levels, pattern_levels, patterns_levels, term_levels, terms_levels, cases_levels}

pub some_is : {A : Type 0} (x y : A) → ◌≡◌ {A = Option A} (Some x) (Some y) → x ≡ y
some_is x y e = cc

pub bound : {A B : Type 0} (o : Option A) (f : A → Option B) (y : B) → (o >>= f) ≡ Some y → (x : A) × (o ≡ Some x) × (f x ≡ Some y)
bound None f y e = absurd cc
bound (Some x) f y e = (x, refl, e)

-- a type and what it became
mutual
  pub data ReplacedTy : Replacement → Ty → Ty → Type 0 where
    ty_variable : {m : Replacement} {a0 : ℕ} → ReplacedTy m (types.variable a0) (types.variable a0)
    ty_quantified : {m : Replacement} {a0 b0 : Ty} → ReplacedTy m a0 b0 → ReplacedTy m (types.quantified a0) (types.quantified b0)
    ty_arrow : {m : Replacement} {a0 b0 : Ty} {a1 b1 : Ty} → ReplacedTy m a0 b0 → ReplacedTy m a1 b1 → ReplacedTy m (types.arrow a0 a1) (types.arrow b0 b1)
    ty_unit : {m : Replacement} → ReplacedTy m types.unit types.unit
    ty_tuple : {m : Replacement} {a0 b0 : Tys} → ReplacedTys m a0 b0 → ReplacedTy m (types.tuple a0) (types.tuple b0)
    ty_applied : {m : Replacement} {a0 b0 : Target} {a1 b1 : Tys} → target_under m a0 ≡ Some b0 → ReplacedTys m a1 b1 → ReplacedTy m (types.applied a0 a1) (types.applied b0 b1)

  pub data ReplacedTys : Replacement → Tys → Tys → Type 0 where
    tys_none : {m : Replacement} → ReplacedTys m types.none types.none
    tys_more : {m : Replacement} {a0 b0 : Ty} {a1 b1 : Tys} → ReplacedTy m a0 b0 → ReplacedTys m a1 b1 → ReplacedTys m (types.more a0 a1) (types.more b0 b1)

-- a pattern and what it became
mutual
  pub data ReplacedPattern : Replacement → Pattern → Pattern → Type 0 where
    pattern_any : {m : Replacement} → ReplacedPattern m patterns.any patterns.any
    pattern_variable : {m : Replacement} → ReplacedPattern m patterns.variable patterns.variable
    pattern_alias : {m : Replacement} {a0 b0 : Pattern} → ReplacedPattern m a0 b0 → ReplacedPattern m (patterns.alias a0) (patterns.alias b0)
    pattern_literal : {m : Replacement} {a0 : Literal} → ReplacedPattern m (patterns.literal a0) (patterns.literal a0)
    pattern_unit : {m : Replacement} → ReplacedPattern m patterns.unit patterns.unit
    pattern_tuple : {m : Replacement} {a0 b0 : Patterns} → ReplacedPatterns m a0 b0 → ReplacedPattern m (patterns.tuple a0) (patterns.tuple b0)
    pattern_list : {m : Replacement} {a0 b0 : Patterns} → ReplacedPatterns m a0 b0 → ReplacedPattern m (patterns.list a0) (patterns.list b0)
    pattern_constructor : {m : Replacement} {a0 b0 : Target} {a1 b1 : Patterns} → constructor_under m a0 ≡ Some b0 → ReplacedPatterns m a1 b1 → ReplacedPattern m (patterns.constructor a0 a1) (patterns.constructor b0 b1)
    pattern_cons : {m : Replacement} {a0 b0 : Pattern} {a1 b1 : Pattern} → ReplacedPattern m a0 b0 → ReplacedPattern m a1 b1 → ReplacedPattern m (patterns.cons a0 a1) (patterns.cons b0 b1)
    pattern_snoc : {m : Replacement} {a0 b0 : Pattern} {a1 b1 : Pattern} → ReplacedPattern m a0 b0 → ReplacedPattern m a1 b1 → ReplacedPattern m (patterns.snoc a0 a1) (patterns.snoc b0 b1)

  pub data ReplacedPatterns : Replacement → Patterns → Patterns → Type 0 where
    patterns_none : {m : Replacement} → ReplacedPatterns m patterns.none patterns.none
    patterns_more : {m : Replacement} {a0 b0 : Pattern} {a1 b1 : Patterns} → ReplacedPattern m a0 b0 → ReplacedPatterns m a1 b1 → ReplacedPatterns m (patterns.more a0 a1) (patterns.more b0 b1)

-- a signature and what it became
pub data ReplacedSignature : Replacement → Option Ty → Option Ty → Type 0 where
  no_signature : {m : Replacement} → ReplacedSignature m None None
  some_signature : {m : Replacement} {t u : Ty} → ReplacedTy m t u → ReplacedSignature m (Some t) (Some u)

-- a term and what it became
mutual
  pub data ReplacedTerm : Replacement → Term → Term → Type 0 where
    term_variable : {m : Replacement} {a0 : ℕ} → ReplacedTerm m (terms.variable a0) (terms.variable a0)
    term_literal : {m : Replacement} {a0 : Literal} → ReplacedTerm m (terms.literal a0) (terms.literal a0)
    term_unit : {m : Replacement} → ReplacedTerm m terms.unit terms.unit
    term_link : {m : Replacement} {a0 b0 : Target} → target_under m a0 ≡ Some b0 → ReplacedTerm m (terms.link a0) (terms.link b0)
    term_lambda : {m : Replacement} {a0 b0 : Term} → ReplacedTerm m a0 b0 → ReplacedTerm m (terms.lambda a0) (terms.lambda b0)
    term_apply : {m : Replacement} {a0 b0 : Term} {a1 b1 : Term} → ReplacedTerm m a0 b0 → ReplacedTerm m a1 b1 → ReplacedTerm m (terms.apply a0 a1) (terms.apply b0 b1)
    term_annotated : {m : Replacement} {a0 b0 : Term} {a1 b1 : Ty} → ReplacedTerm m a0 b0 → ReplacedTy m a1 b1 → ReplacedTerm m (terms.annotated a0 a1) (terms.annotated b0 b1)
    term_tuple : {m : Replacement} {a0 b0 : Terms} → ReplacedTerms m a0 b0 → ReplacedTerm m (terms.tuple a0) (terms.tuple b0)
    term_list : {m : Replacement} {a0 b0 : Terms} → ReplacedTerms m a0 b0 → ReplacedTerm m (terms.list a0) (terms.list b0)
    term_conditional : {m : Replacement} {a0 b0 : Term} {a1 b1 : Term} {a2 b2 : Term} → ReplacedTerm m a0 b0 → ReplacedTerm m a1 b1 → ReplacedTerm m a2 b2 → ReplacedTerm m (terms.conditional a0 a1 a2) (terms.conditional b0 b1 b2)
    term_and : {m : Replacement} {a0 b0 : Term} {a1 b1 : Term} → ReplacedTerm m a0 b0 → ReplacedTerm m a1 b1 → ReplacedTerm m (terms.and a0 a1) (terms.and b0 b1)
    term_or : {m : Replacement} {a0 b0 : Term} {a1 b1 : Term} → ReplacedTerm m a0 b0 → ReplacedTerm m a1 b1 → ReplacedTerm m (terms.or a0 a1) (terms.or b0 b1)
    term_binding : {m : Replacement} {a0 b0 : Option Ty} {a1 b1 : Term} {a2 b2 : Term} → ReplacedSignature m a0 b0 → ReplacedTerm m a1 b1 → ReplacedTerm m a2 b2 → ReplacedTerm m (terms.binding a0 a1 a2) (terms.binding b0 b1 b2)
    term_match : {m : Replacement} {a0 b0 : Term} {a1 b1 : Cases} → ReplacedTerm m a0 b0 → ReplacedCases m a1 b1 → ReplacedTerm m (terms.match a0 a1) (terms.match b0 b1)

  pub data ReplacedTerms : Replacement → Terms → Terms → Type 0 where
    terms_none : {m : Replacement} → ReplacedTerms m terms.none terms.none
    terms_more : {m : Replacement} {a0 b0 : Term} {a1 b1 : Terms} → ReplacedTerm m a0 b0 → ReplacedTerms m a1 b1 → ReplacedTerms m (terms.more a0 a1) (terms.more b0 b1)

  pub data ReplacedCases : Replacement → Cases → Cases → Type 0 where
    cases_no_case : {m : Replacement} → ReplacedCases m terms.no_case terms.no_case
    cases_case : {m : Replacement} {a0 b0 : Pattern} {a1 b1 : Term} {a2 b2 : Cases} → ReplacedPattern m a0 b0 → ReplacedTerm m a1 b1 → ReplacedCases m a2 b2 → ReplacedCases m (terms.case a0 a1 a2) (terms.case b0 b1 b2)
    cases_guarded : {m : Replacement} {a0 b0 : Pattern} {a1 b1 : Term} {a2 b2 : Term} {a3 b3 : Cases} → ReplacedPattern m a0 b0 → ReplacedTerm m a1 b1 → ReplacedTerm m a2 b2 → ReplacedCases m a3 b3 → ReplacedCases m (terms.guarded a0 a1 a2 a3) (terms.guarded b0 b1 b2 b3)

mutual
  pub ty_from : (m : Replacement) (t u : Ty) → replaced_ty m t ≡ Some u → ReplacedTy m t u
  ty_from m (types.variable a0) u e = subst (λ (v : Ty). ReplacedTy m (types.variable a0) v) (some_is (types.variable a0) u e) ty_variable
  ty_from m (types.quantified a0) u e =
      let p0 = bound (replaced_ty m a0) (λ y0. Some (types.quantified y0)) u e in
      subst (λ (v : Ty). ReplacedTy m (types.quantified a0) v) (some_is (types.quantified p0.0) u p0.2) (ty_quantified (ty_from m a0 p0.0 p0.1))
  ty_from m (types.arrow a0 a1) u e =
      let p0 = bound (replaced_ty m a0) (λ y0. replaced_ty m a1 >>= λ y1. Some (types.arrow y0 y1)) u e in
      let p1 = bound (replaced_ty m a1) (λ y1. Some (types.arrow p0.0 y1)) u p0.2 in
      subst (λ (v : Ty). ReplacedTy m (types.arrow a0 a1) v) (some_is (types.arrow p0.0 p1.0) u p1.2) (ty_arrow (ty_from m a0 p0.0 p0.1) (ty_from m a1 p1.0 p1.1))
  ty_from m types.unit u e = subst (λ (v : Ty). ReplacedTy m types.unit v) (some_is types.unit u e) ty_unit
  ty_from m (types.tuple a0) u e =
      let p0 = bound (replaced_tys m a0) (λ y0. Some (types.tuple y0)) u e in
      subst (λ (v : Ty). ReplacedTy m (types.tuple a0) v) (some_is (types.tuple p0.0) u p0.2) (ty_tuple (tys_from m a0 p0.0 p0.1))
  ty_from m (types.applied a0 a1) u e =
      let p0 = bound (target_under m a0) (λ y0. replaced_tys m a1 >>= λ y1. Some (types.applied y0 y1)) u e in
      let p1 = bound (replaced_tys m a1) (λ y1. Some (types.applied p0.0 y1)) u p0.2 in
      subst (λ (v : Ty). ReplacedTy m (types.applied a0 a1) v) (some_is (types.applied p0.0 p1.0) u p1.2) (ty_applied p0.1 (tys_from m a1 p1.0 p1.1))

  pub tys_from : (m : Replacement) (t u : Tys) → replaced_tys m t ≡ Some u → ReplacedTys m t u
  tys_from m types.none u e = subst (λ (v : Tys). ReplacedTys m types.none v) (some_is types.none u e) tys_none
  tys_from m (types.more a0 a1) u e =
      let p0 = bound (replaced_ty m a0) (λ y0. replaced_tys m a1 >>= λ y1. Some (types.more y0 y1)) u e in
      let p1 = bound (replaced_tys m a1) (λ y1. Some (types.more p0.0 y1)) u p0.2 in
      subst (λ (v : Tys). ReplacedTys m (types.more a0 a1) v) (some_is (types.more p0.0 p1.0) u p1.2) (tys_more (ty_from m a0 p0.0 p0.1) (tys_from m a1 p1.0 p1.1))

mutual
  pub pattern_from : (m : Replacement) (t u : Pattern) → replaced_pattern m t ≡ Some u → ReplacedPattern m t u
  pattern_from m patterns.any u e = subst (λ (v : Pattern). ReplacedPattern m patterns.any v) (some_is patterns.any u e) pattern_any
  pattern_from m patterns.variable u e = subst (λ (v : Pattern). ReplacedPattern m patterns.variable v) (some_is patterns.variable u e) pattern_variable
  pattern_from m (patterns.alias a0) u e =
      let p0 = bound (replaced_pattern m a0) (λ y0. Some (patterns.alias y0)) u e in
      subst (λ (v : Pattern). ReplacedPattern m (patterns.alias a0) v) (some_is (patterns.alias p0.0) u p0.2) (pattern_alias (pattern_from m a0 p0.0 p0.1))
  pattern_from m (patterns.literal a0) u e = subst (λ (v : Pattern). ReplacedPattern m (patterns.literal a0) v) (some_is (patterns.literal a0) u e) pattern_literal
  pattern_from m patterns.unit u e = subst (λ (v : Pattern). ReplacedPattern m patterns.unit v) (some_is patterns.unit u e) pattern_unit
  pattern_from m (patterns.tuple a0) u e =
      let p0 = bound (replaced_patterns m a0) (λ y0. Some (patterns.tuple y0)) u e in
      subst (λ (v : Pattern). ReplacedPattern m (patterns.tuple a0) v) (some_is (patterns.tuple p0.0) u p0.2) (pattern_tuple (patterns_from m a0 p0.0 p0.1))
  pattern_from m (patterns.list a0) u e =
      let p0 = bound (replaced_patterns m a0) (λ y0. Some (patterns.list y0)) u e in
      subst (λ (v : Pattern). ReplacedPattern m (patterns.list a0) v) (some_is (patterns.list p0.0) u p0.2) (pattern_list (patterns_from m a0 p0.0 p0.1))
  pattern_from m (patterns.constructor a0 a1) u e =
      let p0 = bound (constructor_under m a0) (λ y0. replaced_patterns m a1 >>= λ y1. Some (patterns.constructor y0 y1)) u e in
      let p1 = bound (replaced_patterns m a1) (λ y1. Some (patterns.constructor p0.0 y1)) u p0.2 in
      subst (λ (v : Pattern). ReplacedPattern m (patterns.constructor a0 a1) v) (some_is (patterns.constructor p0.0 p1.0) u p1.2) (pattern_constructor p0.1 (patterns_from m a1 p1.0 p1.1))
  pattern_from m (patterns.cons a0 a1) u e =
      let p0 = bound (replaced_pattern m a0) (λ y0. replaced_pattern m a1 >>= λ y1. Some (patterns.cons y0 y1)) u e in
      let p1 = bound (replaced_pattern m a1) (λ y1. Some (patterns.cons p0.0 y1)) u p0.2 in
      subst (λ (v : Pattern). ReplacedPattern m (patterns.cons a0 a1) v) (some_is (patterns.cons p0.0 p1.0) u p1.2) (pattern_cons (pattern_from m a0 p0.0 p0.1) (pattern_from m a1 p1.0 p1.1))
  pattern_from m (patterns.snoc a0 a1) u e =
      let p0 = bound (replaced_pattern m a0) (λ y0. replaced_pattern m a1 >>= λ y1. Some (patterns.snoc y0 y1)) u e in
      let p1 = bound (replaced_pattern m a1) (λ y1. Some (patterns.snoc p0.0 y1)) u p0.2 in
      subst (λ (v : Pattern). ReplacedPattern m (patterns.snoc a0 a1) v) (some_is (patterns.snoc p0.0 p1.0) u p1.2) (pattern_snoc (pattern_from m a0 p0.0 p0.1) (pattern_from m a1 p1.0 p1.1))

  pub patterns_from : (m : Replacement) (t u : Patterns) → replaced_patterns m t ≡ Some u → ReplacedPatterns m t u
  patterns_from m patterns.none u e = subst (λ (v : Patterns). ReplacedPatterns m patterns.none v) (some_is patterns.none u e) patterns_none
  patterns_from m (patterns.more a0 a1) u e =
      let p0 = bound (replaced_pattern m a0) (λ y0. replaced_patterns m a1 >>= λ y1. Some (patterns.more y0 y1)) u e in
      let p1 = bound (replaced_patterns m a1) (λ y1. Some (patterns.more p0.0 y1)) u p0.2 in
      subst (λ (v : Patterns). ReplacedPatterns m (patterns.more a0 a1) v) (some_is (patterns.more p0.0 p1.0) u p1.2) (patterns_more (pattern_from m a0 p0.0 p0.1) (patterns_from m a1 p1.0 p1.1))

pub signature_from : (m : Replacement) (s r : Option Ty) → replaced_signature m s ≡ Some r → ReplacedSignature m s r
signature_from m None r e = subst (λ (v : Option Ty). ReplacedSignature m None v) (some_is None r e) no_signature
signature_from m (Some t) r e =
    let p = bound (replaced_ty m t) (λ u. Some (Some u)) r e in
    subst (λ (v : Option Ty). ReplacedSignature m (Some t) v) (some_is (Some p.0) r p.2) (some_signature (ty_from m t p.0 p.1))

mutual
  pub term_from : (m : Replacement) (t u : Term) → replaced_term m t ≡ Some u → ReplacedTerm m t u
  term_from m (terms.variable a0) u e = subst (λ (v : Term). ReplacedTerm m (terms.variable a0) v) (some_is (terms.variable a0) u e) term_variable
  term_from m (terms.literal a0) u e = subst (λ (v : Term). ReplacedTerm m (terms.literal a0) v) (some_is (terms.literal a0) u e) term_literal
  term_from m terms.unit u e = subst (λ (v : Term). ReplacedTerm m terms.unit v) (some_is terms.unit u e) term_unit
  term_from m (terms.link a0) u e =
      let p0 = bound (target_under m a0) (λ y0. Some (terms.link y0)) u e in
      subst (λ (v : Term). ReplacedTerm m (terms.link a0) v) (some_is (terms.link p0.0) u p0.2) (term_link p0.1)
  term_from m (terms.lambda a0) u e =
      let p0 = bound (replaced_term m a0) (λ y0. Some (terms.lambda y0)) u e in
      subst (λ (v : Term). ReplacedTerm m (terms.lambda a0) v) (some_is (terms.lambda p0.0) u p0.2) (term_lambda (term_from m a0 p0.0 p0.1))
  term_from m (terms.apply a0 a1) u e =
      let p0 = bound (replaced_term m a0) (λ y0. replaced_term m a1 >>= λ y1. Some (terms.apply y0 y1)) u e in
      let p1 = bound (replaced_term m a1) (λ y1. Some (terms.apply p0.0 y1)) u p0.2 in
      subst (λ (v : Term). ReplacedTerm m (terms.apply a0 a1) v) (some_is (terms.apply p0.0 p1.0) u p1.2) (term_apply (term_from m a0 p0.0 p0.1) (term_from m a1 p1.0 p1.1))
  term_from m (terms.annotated a0 a1) u e =
      let p0 = bound (replaced_term m a0) (λ y0. replaced_ty m a1 >>= λ y1. Some (terms.annotated y0 y1)) u e in
      let p1 = bound (replaced_ty m a1) (λ y1. Some (terms.annotated p0.0 y1)) u p0.2 in
      subst (λ (v : Term). ReplacedTerm m (terms.annotated a0 a1) v) (some_is (terms.annotated p0.0 p1.0) u p1.2) (term_annotated (term_from m a0 p0.0 p0.1) (ty_from m a1 p1.0 p1.1))
  term_from m (terms.tuple a0) u e =
      let p0 = bound (replaced_terms m a0) (λ y0. Some (terms.tuple y0)) u e in
      subst (λ (v : Term). ReplacedTerm m (terms.tuple a0) v) (some_is (terms.tuple p0.0) u p0.2) (term_tuple (terms_from m a0 p0.0 p0.1))
  term_from m (terms.list a0) u e =
      let p0 = bound (replaced_terms m a0) (λ y0. Some (terms.list y0)) u e in
      subst (λ (v : Term). ReplacedTerm m (terms.list a0) v) (some_is (terms.list p0.0) u p0.2) (term_list (terms_from m a0 p0.0 p0.1))
  term_from m (terms.conditional a0 a1 a2) u e =
      let p0 = bound (replaced_term m a0) (λ y0. replaced_term m a1 >>= λ y1. replaced_term m a2 >>= λ y2. Some (terms.conditional y0 y1 y2)) u e in
      let p1 = bound (replaced_term m a1) (λ y1. replaced_term m a2 >>= λ y2. Some (terms.conditional p0.0 y1 y2)) u p0.2 in
      let p2 = bound (replaced_term m a2) (λ y2. Some (terms.conditional p0.0 p1.0 y2)) u p1.2 in
      subst (λ (v : Term). ReplacedTerm m (terms.conditional a0 a1 a2) v) (some_is (terms.conditional p0.0 p1.0 p2.0) u p2.2) (term_conditional (term_from m a0 p0.0 p0.1) (term_from m a1 p1.0 p1.1) (term_from m a2 p2.0 p2.1))
  term_from m (terms.and a0 a1) u e =
      let p0 = bound (replaced_term m a0) (λ y0. replaced_term m a1 >>= λ y1. Some (terms.and y0 y1)) u e in
      let p1 = bound (replaced_term m a1) (λ y1. Some (terms.and p0.0 y1)) u p0.2 in
      subst (λ (v : Term). ReplacedTerm m (terms.and a0 a1) v) (some_is (terms.and p0.0 p1.0) u p1.2) (term_and (term_from m a0 p0.0 p0.1) (term_from m a1 p1.0 p1.1))
  term_from m (terms.or a0 a1) u e =
      let p0 = bound (replaced_term m a0) (λ y0. replaced_term m a1 >>= λ y1. Some (terms.or y0 y1)) u e in
      let p1 = bound (replaced_term m a1) (λ y1. Some (terms.or p0.0 y1)) u p0.2 in
      subst (λ (v : Term). ReplacedTerm m (terms.or a0 a1) v) (some_is (terms.or p0.0 p1.0) u p1.2) (term_or (term_from m a0 p0.0 p0.1) (term_from m a1 p1.0 p1.1))
  term_from m (terms.binding a0 a1 a2) u e =
      let p0 = bound (replaced_signature m a0) (λ y0. replaced_term m a1 >>= λ y1. replaced_term m a2 >>= λ y2. Some (terms.binding y0 y1 y2)) u e in
      let p1 = bound (replaced_term m a1) (λ y1. replaced_term m a2 >>= λ y2. Some (terms.binding p0.0 y1 y2)) u p0.2 in
      let p2 = bound (replaced_term m a2) (λ y2. Some (terms.binding p0.0 p1.0 y2)) u p1.2 in
      subst (λ (v : Term). ReplacedTerm m (terms.binding a0 a1 a2) v) (some_is (terms.binding p0.0 p1.0 p2.0) u p2.2) (term_binding (signature_from m a0 p0.0 p0.1) (term_from m a1 p1.0 p1.1) (term_from m a2 p2.0 p2.1))
  term_from m (terms.match a0 a1) u e =
      let p0 = bound (replaced_term m a0) (λ y0. replaced_cases m a1 >>= λ y1. Some (terms.match y0 y1)) u e in
      let p1 = bound (replaced_cases m a1) (λ y1. Some (terms.match p0.0 y1)) u p0.2 in
      subst (λ (v : Term). ReplacedTerm m (terms.match a0 a1) v) (some_is (terms.match p0.0 p1.0) u p1.2) (term_match (term_from m a0 p0.0 p0.1) (cases_from m a1 p1.0 p1.1))

  pub terms_from : (m : Replacement) (t u : Terms) → replaced_terms m t ≡ Some u → ReplacedTerms m t u
  terms_from m terms.none u e = subst (λ (v : Terms). ReplacedTerms m terms.none v) (some_is terms.none u e) terms_none
  terms_from m (terms.more a0 a1) u e =
      let p0 = bound (replaced_term m a0) (λ y0. replaced_terms m a1 >>= λ y1. Some (terms.more y0 y1)) u e in
      let p1 = bound (replaced_terms m a1) (λ y1. Some (terms.more p0.0 y1)) u p0.2 in
      subst (λ (v : Terms). ReplacedTerms m (terms.more a0 a1) v) (some_is (terms.more p0.0 p1.0) u p1.2) (terms_more (term_from m a0 p0.0 p0.1) (terms_from m a1 p1.0 p1.1))

  pub cases_from : (m : Replacement) (t u : Cases) → replaced_cases m t ≡ Some u → ReplacedCases m t u
  cases_from m terms.no_case u e = subst (λ (v : Cases). ReplacedCases m terms.no_case v) (some_is terms.no_case u e) cases_no_case
  cases_from m (terms.case a0 a1 a2) u e =
      let p0 = bound (replaced_pattern m a0) (λ y0. replaced_term m a1 >>= λ y1. replaced_cases m a2 >>= λ y2. Some (terms.case y0 y1 y2)) u e in
      let p1 = bound (replaced_term m a1) (λ y1. replaced_cases m a2 >>= λ y2. Some (terms.case p0.0 y1 y2)) u p0.2 in
      let p2 = bound (replaced_cases m a2) (λ y2. Some (terms.case p0.0 p1.0 y2)) u p1.2 in
      subst (λ (v : Cases). ReplacedCases m (terms.case a0 a1 a2) v) (some_is (terms.case p0.0 p1.0 p2.0) u p2.2) (cases_case (pattern_from m a0 p0.0 p0.1) (term_from m a1 p1.0 p1.1) (cases_from m a2 p2.0 p2.1))
  cases_from m (terms.guarded a0 a1 a2 a3) u e =
      let p0 = bound (replaced_pattern m a0) (λ y0. replaced_term m a1 >>= λ y1. replaced_term m a2 >>= λ y2. replaced_cases m a3 >>= λ y3. Some (terms.guarded y0 y1 y2 y3)) u e in
      let p1 = bound (replaced_term m a1) (λ y1. replaced_term m a2 >>= λ y2. replaced_cases m a3 >>= λ y3. Some (terms.guarded p0.0 y1 y2 y3)) u p0.2 in
      let p2 = bound (replaced_term m a2) (λ y2. replaced_cases m a3 >>= λ y3. Some (terms.guarded p0.0 p1.0 y2 y3)) u p1.2 in
      let p3 = bound (replaced_cases m a3) (λ y3. Some (terms.guarded p0.0 p1.0 p2.0 y3)) u p2.2 in
      subst (λ (v : Cases). ReplacedCases m (terms.guarded a0 a1 a2 a3) v) (some_is (terms.guarded p0.0 p1.0 p2.0 p3.0) u p3.2) (cases_guarded (pattern_from m a0 p0.0 p0.1) (term_from m a1 p1.0 p1.1) (term_from m a2 p2.0 p2.1) (cases_from m a3 p3.0 p3.1))

-- fields and what they became
pub data ReplacedFields : Replacement → List Tys → List Tys → Type 0 where
  no_fields : {m : Replacement} → ReplacedFields m [] []
  more_fields : {m : Replacement} {ts us : Tys} {cs ds : List Tys} → ReplacedTys m ts us → ReplacedFields m cs ds → ReplacedFields m (ts ∷ cs) (us ∷ ds)

-- an item and what it became
pub data ReplacedItem : Replacement → Item → Item → Type 0 where
  item_term : {m : Replacement} {s r : Option Ty} {b d : Term} → ReplacedSignature m s r → ReplacedTerm m b d → ReplacedItem m (item.Term (record { signature = s; body = b })) (item.Term (record { signature = r; body = d }))
  item_kind : {m : Replacement} {tag : Option (List ℕ)} {params : ℕ} {cs ds : List Tys} → ReplacedFields m cs ds → ReplacedItem m (item.Kind (record { tag = tag; params = params; ctors = cs })) (item.Kind (record { tag = tag; params = params; ctors = ds }))

fields_from : (m : Replacement) (cs ds : List Tys) → replaced_fields m cs ≡ Some ds → ReplacedFields m cs ds
fields_from m [] ds e = subst (λ (v : List Tys). ReplacedFields m [] v) (some_is [] ds e) no_fields
fields_from m (ts ∷ cs) ds e =
    let p0 = bound (replaced_tys m ts) (λ y0. replaced_fields m cs >>= λ y1. Some (y0 ∷ y1)) ds e in
    let p1 = bound (replaced_fields m cs) (λ y1. Some (p0.0 ∷ y1)) ds p0.2 in
    subst (λ (v : List Tys). ReplacedFields m (ts ∷ cs) v) (some_is (p0.0 ∷ p1.0) ds p1.2) (more_fields (tys_from m ts p0.0 p0.1) (fields_from m cs p1.0 p1.1))

pub item_from : (m : Replacement) (i j : Item) → replaced m i ≡ Some j → ReplacedItem m i j
item_from m (item.Term d) j e =
    let p = bound (replaced_definition m d) (λ x. Some (item.Term x)) j e in
    let q = bound (replaced_signature m d.signature) (λ s. replaced_term m d.body >>= λ b. Some (record { signature = s; body = b })) p.0 p.1 in
    let r = bound (replaced_term m d.body) (λ b. Some (record { signature = q.0; body = b })) p.0 q.2 in
    subst (λ (v : Item). ReplacedItem m (item.Term d) v) (ap item.Term (some_is (record { signature = q.0; body = r.0 }) p.0 r.2) ∙ some_is (item.Term p.0) j p.2)
    (item_term (signature_from m d.signature q.0 q.1) (term_from m d.body r.0 r.1))
item_from m (item.Kind d) j e =
    let p = bound (replaced_declaration m d) (λ x. Some (item.Kind x)) j e in
    let q = bound (replaced_fields m d.ctors) (λ cs. Some (record { tag = d.tag; params = d.params; ctors = cs })) p.0 p.1 in
    subst (λ (v : Item). ReplacedItem m (item.Kind d) v) (ap item.Kind (some_is (record { tag = d.tag; params = d.params; ctors = q.0 }) p.0 q.2) ∙ some_is (item.Kind p.0) j p.2)
    (item_kind (fields_from m d.ctors q.0 q.1))

-- levels stay
mutual
  pub ty-levels : {m : Replacement} {t u : Ty} → ReplacedTy m t u → ty_levels u ≡ ty_levels t
  ty-levels ty_variable = refl
  ty-levels (ty_quantified p0) = rw (ty-levels p0) refl
  ty-levels (ty_arrow p0 p1) = rw (ty-levels p0, ty-levels p1) refl
  ty-levels ty_unit = refl
  ty-levels (ty_tuple p0) = rw (tys-levels p0) refl
  ty-levels (ty_applied p0 p1) = rw (tys-levels p1) refl

  pub tys-levels : {m : Replacement} {t u : Tys} → ReplacedTys m t u → tys_levels u ≡ tys_levels t
  tys-levels tys_none = refl
  tys-levels (tys_more p0 p1) = rw (ty-levels p0, tys-levels p1) refl

mutual
  pub pattern-levels : {m : Replacement} {t u : Pattern} → ReplacedPattern m t u → pattern_levels u ≡ pattern_levels t
  pattern-levels pattern_any = refl
  pattern-levels pattern_variable = refl
  pattern-levels (pattern_alias p0) = rw (pattern-levels p0) refl
  pattern-levels pattern_literal = refl
  pattern-levels pattern_unit = refl
  pattern-levels (pattern_tuple p0) = rw (patterns-levels p0) refl
  pattern-levels (pattern_list p0) = rw (patterns-levels p0) refl
  pattern-levels (pattern_constructor p0 p1) = rw (patterns-levels p1) refl
  pattern-levels (pattern_cons p0 p1) = rw (pattern-levels p0, pattern-levels p1) refl
  pattern-levels (pattern_snoc p0 p1) = rw (pattern-levels p0, pattern-levels p1) refl

  pub patterns-levels : {m : Replacement} {t u : Patterns} → ReplacedPatterns m t u → patterns_levels u ≡ patterns_levels t
  patterns-levels patterns_none = refl
  patterns-levels (patterns_more p0 p1) = rw (pattern-levels p0, patterns-levels p1) refl

pub signature-levels : {m : Replacement} {s r : Option Ty} → ReplacedSignature m s r → signature_levels r ≡ signature_levels s
signature-levels no_signature = refl
signature-levels (some_signature p) = ty-levels p

mutual
  pub term-levels : {m : Replacement} {t u : Term} → ReplacedTerm m t u → term_levels u ≡ term_levels t
  term-levels term_variable = refl
  term-levels term_literal = refl
  term-levels term_unit = refl
  term-levels (term_link p0) = refl
  term-levels (term_lambda p0) = rw (term-levels p0) refl
  term-levels (term_apply p0 p1) = rw (term-levels p0, term-levels p1) refl
  term-levels (term_annotated p0 p1) = rw (term-levels p0, ty-levels p1) refl
  term-levels (term_tuple p0) = rw (terms-levels p0) refl
  term-levels (term_list p0) = rw (terms-levels p0) refl
  term-levels (term_conditional p0 p1 p2) = rw (term-levels p0, term-levels p1, term-levels p2) refl
  term-levels (term_and p0 p1) = rw (term-levels p0, term-levels p1) refl
  term-levels (term_or p0 p1) = rw (term-levels p0, term-levels p1) refl
  term-levels (term_binding p0 p1 p2) = rw (signature-levels p0, term-levels p1, term-levels p2) refl
  term-levels (term_match p0 p1) = rw (term-levels p0, cases-levels p1) refl

  pub terms-levels : {m : Replacement} {t u : Terms} → ReplacedTerms m t u → terms_levels u ≡ terms_levels t
  terms-levels terms_none = refl
  terms-levels (terms_more p0 p1) = rw (term-levels p0, terms-levels p1) refl

  pub cases-levels : {m : Replacement} {t u : Cases} → ReplacedCases m t u → cases_levels u ≡ cases_levels t
  cases-levels cases_no_case = refl
  cases-levels (cases_case p0 p1 p2) = rw (pattern-levels p0, term-levels p1, cases-levels p2) refl
  cases-levels (cases_guarded p0 p1 p2 p3) = rw (pattern-levels p0, term-levels p1, term-levels p2, cases-levels p3) refl
