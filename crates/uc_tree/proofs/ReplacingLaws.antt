-- Laws of replacing: when an item stays, when there is a replaced one, and two replacements in turn.
use Rattle.std.proofs.Common.{◌≡◌, List, [], ◌∷◌, Option, Some, None, refl}
use Rattle.std.specs.Option.{IsSome}
use Rattle.uc_tree.specs.declared.item.Item.{Item}
use Rattle.uc_tree.specs.declared.item.Item.TheVariants as item
use Rattle.uc_tree.specs.Types.{Ty, Tys}
use Rattle.uc_tree.specs.Types as types
use Rattle.uc_tree.specs.Patterns.{Pattern, Patterns}
use Rattle.uc_tree.specs.Patterns as patterns
use Rattle.uc_tree.specs.Terms.{Term, Terms, Cases}
use Rattle.uc_tree.specs.Terms as terms
use Rattle.uc_tree.specs.Targets.{ty_targets, tys_targets, signature_targets, pattern_targets, patterns_targets, term_targets, terms_targets, cases_targets, fields_targets, targets_of}
use Rattle.uc_tree.specs.Laws.{StandsForItself, HasStanding, IsInTurn, ItemStays, ItemIsReplaced, InTurn}
use Rattle.uc_tree.specs.Replacing.{◌>>=◌, Replacement, target_under, constructor_under, replaced, replaced_definition, replaced_declaration, replaced_fields, replaced_ty, replaced_tys, replaced_signature, replaced_pattern, replaced_patterns, replaced_term, replaced_terms, replaced_cases}
use Rattle.uc_tree.proofs.Replaced as rel
use Rattle.uc_tree.proofs.Replaced.{ReplacedTy, ReplacedTys, ReplacedSignature, ReplacedPattern, ReplacedPatterns, ReplacedTerm, ReplacedTerms, ReplacedCases, ReplacedFields, ReplacedItem, item_from}
use Rattle.uc_tree.proofs.EachTarget.{Each, first, rest, halves, thirds, quarters}

-- where each target stands for itself, a tree stays
module _ (m : Replacement) where
  mutual
    ty_stays : (t : Ty) → Each (StandsForItself m) (ty_targets t) → replaced_ty m t ≡ Some t
    ty_stays (types.variable a0) c = refl
    ty_stays (types.quantified a0) c = rw (ty_stays a0 c) refl
    ty_stays (types.arrow a0 a1) c = let h = halves (ty_targets a0) (ty_targets a1) c in rw (ty_stays a0 h.0, ty_stays a1 h.1) refl
    ty_stays types.unit c = refl
    ty_stays (types.tuple a0) c = rw (tys_stays a0 c) refl
    ty_stays (types.applied a0 a1) c = rw ((first a0 (tys_targets a1) c).in_tree, tys_stays a1 (rest a0 (tys_targets a1) c)) refl

    tys_stays : (t : Tys) → Each (StandsForItself m) (tys_targets t) → replaced_tys m t ≡ Some t
    tys_stays types.none c = refl
    tys_stays (types.more a0 a1) c = let h = halves (ty_targets a0) (tys_targets a1) c in rw (ty_stays a0 h.0, tys_stays a1 h.1) refl

  mutual
    pattern_stays : (t : Pattern) → Each (StandsForItself m) (pattern_targets t) → replaced_pattern m t ≡ Some t
    pattern_stays patterns.any c = refl
    pattern_stays patterns.variable c = refl
    pattern_stays (patterns.alias a0) c = rw (pattern_stays a0 c) refl
    pattern_stays (patterns.literal a0) c = refl
    pattern_stays patterns.unit c = refl
    pattern_stays (patterns.tuple a0) c = rw (patterns_stays a0 c) refl
    pattern_stays (patterns.list a0) c = rw (patterns_stays a0 c) refl
    pattern_stays (patterns.constructor a0 a1) c = rw ((first a0 (patterns_targets a1) c).in_pattern, patterns_stays a1 (rest a0 (patterns_targets a1) c)) refl
    pattern_stays (patterns.cons a0 a1) c = let h = halves (pattern_targets a0) (pattern_targets a1) c in rw (pattern_stays a0 h.0, pattern_stays a1 h.1) refl
    pattern_stays (patterns.snoc a0 a1) c = let h = halves (pattern_targets a0) (pattern_targets a1) c in rw (pattern_stays a0 h.0, pattern_stays a1 h.1) refl

    patterns_stays : (t : Patterns) → Each (StandsForItself m) (patterns_targets t) → replaced_patterns m t ≡ Some t
    patterns_stays patterns.none c = refl
    patterns_stays (patterns.more a0 a1) c = let h = halves (pattern_targets a0) (patterns_targets a1) c in rw (pattern_stays a0 h.0, patterns_stays a1 h.1) refl

  signature_stays : (s : Option Ty) → Each (StandsForItself m) (signature_targets s) → replaced_signature m s ≡ Some s
  signature_stays None c = refl
  signature_stays (Some t) c = rw (ty_stays t c) refl

  mutual
    term_stays : (t : Term) → Each (StandsForItself m) (term_targets t) → replaced_term m t ≡ Some t
    term_stays (terms.variable a0) c = refl
    term_stays (terms.literal a0) c = refl
    term_stays terms.unit c = refl
    term_stays (terms.link a0) c = rw ((first a0 [] c).in_tree) refl
    term_stays (terms.lambda a0) c = rw (term_stays a0 c) refl
    term_stays (terms.apply a0 a1) c = let h = halves (term_targets a0) (term_targets a1) c in rw (term_stays a0 h.0, term_stays a1 h.1) refl
    term_stays (terms.annotated a0 a1) c = let h = halves (term_targets a0) (ty_targets a1) c in rw (term_stays a0 h.0, ty_stays a1 h.1) refl
    term_stays (terms.tuple a0) c = rw (terms_stays a0 c) refl
    term_stays (terms.list a0) c = rw (terms_stays a0 c) refl
    term_stays (terms.conditional a0 a1 a2) c = let h = thirds (term_targets a0) (term_targets a1) (term_targets a2) c in rw (term_stays a0 h.0, term_stays a1 h.1, term_stays a2 h.2) refl
    term_stays (terms.and a0 a1) c = let h = halves (term_targets a0) (term_targets a1) c in rw (term_stays a0 h.0, term_stays a1 h.1) refl
    term_stays (terms.or a0 a1) c = let h = halves (term_targets a0) (term_targets a1) c in rw (term_stays a0 h.0, term_stays a1 h.1) refl
    term_stays (terms.binding a0 a1 a2) c = let h = thirds (signature_targets a0) (term_targets a1) (term_targets a2) c in rw (signature_stays a0 h.0, term_stays a1 h.1, term_stays a2 h.2) refl
    term_stays (terms.match a0 a1) c = let h = halves (term_targets a0) (cases_targets a1) c in rw (term_stays a0 h.0, cases_stays a1 h.1) refl

    terms_stays : (t : Terms) → Each (StandsForItself m) (terms_targets t) → replaced_terms m t ≡ Some t
    terms_stays terms.none c = refl
    terms_stays (terms.more a0 a1) c = let h = halves (term_targets a0) (terms_targets a1) c in rw (term_stays a0 h.0, terms_stays a1 h.1) refl

    cases_stays : (t : Cases) → Each (StandsForItself m) (cases_targets t) → replaced_cases m t ≡ Some t
    cases_stays terms.no_case c = refl
    cases_stays (terms.case a0 a1 a2) c = let h = thirds (pattern_targets a0) (term_targets a1) (cases_targets a2) c in rw (pattern_stays a0 h.0, term_stays a1 h.1, cases_stays a2 h.2) refl
    cases_stays (terms.guarded a0 a1 a2 a3) c = let h = quarters (pattern_targets a0) (term_targets a1) (term_targets a2) (cases_targets a3) c in rw (pattern_stays a0 h.0, term_stays a1 h.1, term_stays a2 h.2, cases_stays a3 h.3) refl

  fields_stay : (ctors : List Tys) → Each (StandsForItself m) (fields_targets ctors) → replaced_fields m ctors ≡ Some ctors
  fields_stay [] c = refl
  fields_stay (ts ∷ ctors) c = let h = halves (tys_targets ts) (fields_targets ctors) c in rw (tys_stays ts h.0, fields_stay ctors h.1) refl

  stays : (i : Item) → Each (StandsForItself m) (targets_of i) → replaced m i ≡ Some i
  stays (item.Term d) c = let h = halves (signature_targets d.signature) (term_targets d.body) c in rw (signature_stays d.signature h.0, term_stays d.body h.1) refl
  stays (item.Kind d) c = rw (fields_stay d.ctors c) refl

pub item_stays : ItemStays
item_stays = stays

-- what is built of values that are there is there
one : {A B : Type 0} (f : A → B) (o : Option A) → IsSome o → IsSome (o >>= λ x. Some (f x))
one f None h = h
one f (Some x) h = refl

two : {A B C : Type 0} (f : A → B → C) (o : Option A) (p : Option B) → IsSome o → IsSome p → IsSome (o >>= λ x. p >>= λ y. Some (f x y))
two f None p h k = h
two f (Some x) p h k = one (f x) p k

three : {A B C D : Type 0} (f : A → B → C → D) (o : Option A) (p : Option B) (q : Option C) → IsSome o → IsSome p → IsSome q → IsSome (o >>= λ x. p >>= λ y. q >>= λ z. Some (f x y z))
three f None p q h k l = h
three f (Some x) p q h k l = two (f x) p q k l

four : {A B C D E : Type 0} (f : A → B → C → D → E) (o : Option A) (p : Option B) (q : Option C) (r : Option D) → IsSome o → IsSome p → IsSome q → IsSome r → IsSome (o >>= λ x. p >>= λ y. q >>= λ z. r >>= λ w. Some (f x y z w))
four f None p q r h k l n = h
four f (Some x) p q r h k l n = three (f x) p q r k l n

-- where something stands for each target, there is a replaced tree
module _ (m : Replacement) where
  mutual
    ty_given : (t : Ty) → Each (HasStanding m) (ty_targets t) → IsSome (replaced_ty m t)
    ty_given (types.variable a0) c = refl
    ty_given (types.quantified a0) c = one types.quantified (replaced_ty m a0) (ty_given a0 c)
    ty_given (types.arrow a0 a1) c = let h = halves (ty_targets a0) (ty_targets a1) c in two types.arrow (replaced_ty m a0) (replaced_ty m a1) (ty_given a0 h.0) (ty_given a1 h.1)
    ty_given types.unit c = refl
    ty_given (types.tuple a0) c = one types.tuple (replaced_tys m a0) (tys_given a0 c)
    ty_given (types.applied a0 a1) c = two types.applied (target_under m a0) (replaced_tys m a1) (first a0 (tys_targets a1) c).in_tree (tys_given a1 (rest a0 (tys_targets a1) c))

    tys_given : (t : Tys) → Each (HasStanding m) (tys_targets t) → IsSome (replaced_tys m t)
    tys_given types.none c = refl
    tys_given (types.more a0 a1) c = let h = halves (ty_targets a0) (tys_targets a1) c in two types.more (replaced_ty m a0) (replaced_tys m a1) (ty_given a0 h.0) (tys_given a1 h.1)

  mutual
    pattern_given : (t : Pattern) → Each (HasStanding m) (pattern_targets t) → IsSome (replaced_pattern m t)
    pattern_given patterns.any c = refl
    pattern_given patterns.variable c = refl
    pattern_given (patterns.alias a0) c = one patterns.alias (replaced_pattern m a0) (pattern_given a0 c)
    pattern_given (patterns.literal a0) c = refl
    pattern_given patterns.unit c = refl
    pattern_given (patterns.tuple a0) c = one patterns.tuple (replaced_patterns m a0) (patterns_given a0 c)
    pattern_given (patterns.list a0) c = one patterns.list (replaced_patterns m a0) (patterns_given a0 c)
    pattern_given (patterns.constructor a0 a1) c = two patterns.constructor (constructor_under m a0) (replaced_patterns m a1) (first a0 (patterns_targets a1) c).in_pattern (patterns_given a1 (rest a0 (patterns_targets a1) c))
    pattern_given (patterns.cons a0 a1) c = let h = halves (pattern_targets a0) (pattern_targets a1) c in two patterns.cons (replaced_pattern m a0) (replaced_pattern m a1) (pattern_given a0 h.0) (pattern_given a1 h.1)
    pattern_given (patterns.snoc a0 a1) c = let h = halves (pattern_targets a0) (pattern_targets a1) c in two patterns.snoc (replaced_pattern m a0) (replaced_pattern m a1) (pattern_given a0 h.0) (pattern_given a1 h.1)

    patterns_given : (t : Patterns) → Each (HasStanding m) (patterns_targets t) → IsSome (replaced_patterns m t)
    patterns_given patterns.none c = refl
    patterns_given (patterns.more a0 a1) c = let h = halves (pattern_targets a0) (patterns_targets a1) c in two patterns.more (replaced_pattern m a0) (replaced_patterns m a1) (pattern_given a0 h.0) (patterns_given a1 h.1)

  signature_given : (s : Option Ty) → Each (HasStanding m) (signature_targets s) → IsSome (replaced_signature m s)
  signature_given None c = refl
  signature_given (Some t) c = one Some (replaced_ty m t) (ty_given t c)

  mutual
    term_given : (t : Term) → Each (HasStanding m) (term_targets t) → IsSome (replaced_term m t)
    term_given (terms.variable a0) c = refl
    term_given (terms.literal a0) c = refl
    term_given terms.unit c = refl
    term_given (terms.link a0) c = one terms.link (target_under m a0) (first a0 [] c).in_tree
    term_given (terms.lambda a0) c = one terms.lambda (replaced_term m a0) (term_given a0 c)
    term_given (terms.apply a0 a1) c = let h = halves (term_targets a0) (term_targets a1) c in two terms.apply (replaced_term m a0) (replaced_term m a1) (term_given a0 h.0) (term_given a1 h.1)
    term_given (terms.annotated a0 a1) c = let h = halves (term_targets a0) (ty_targets a1) c in two terms.annotated (replaced_term m a0) (replaced_ty m a1) (term_given a0 h.0) (ty_given a1 h.1)
    term_given (terms.tuple a0) c = one terms.tuple (replaced_terms m a0) (terms_given a0 c)
    term_given (terms.list a0) c = one terms.list (replaced_terms m a0) (terms_given a0 c)
    term_given (terms.conditional a0 a1 a2) c = let h = thirds (term_targets a0) (term_targets a1) (term_targets a2) c in three terms.conditional (replaced_term m a0) (replaced_term m a1) (replaced_term m a2) (term_given a0 h.0) (term_given a1 h.1) (term_given a2 h.2)
    term_given (terms.and a0 a1) c = let h = halves (term_targets a0) (term_targets a1) c in two terms.and (replaced_term m a0) (replaced_term m a1) (term_given a0 h.0) (term_given a1 h.1)
    term_given (terms.or a0 a1) c = let h = halves (term_targets a0) (term_targets a1) c in two terms.or (replaced_term m a0) (replaced_term m a1) (term_given a0 h.0) (term_given a1 h.1)
    term_given (terms.binding a0 a1 a2) c = let h = thirds (signature_targets a0) (term_targets a1) (term_targets a2) c in three terms.binding (replaced_signature m a0) (replaced_term m a1) (replaced_term m a2) (signature_given a0 h.0) (term_given a1 h.1) (term_given a2 h.2)
    term_given (terms.match a0 a1) c = let h = halves (term_targets a0) (cases_targets a1) c in two terms.match (replaced_term m a0) (replaced_cases m a1) (term_given a0 h.0) (cases_given a1 h.1)

    terms_given : (t : Terms) → Each (HasStanding m) (terms_targets t) → IsSome (replaced_terms m t)
    terms_given terms.none c = refl
    terms_given (terms.more a0 a1) c = let h = halves (term_targets a0) (terms_targets a1) c in two terms.more (replaced_term m a0) (replaced_terms m a1) (term_given a0 h.0) (terms_given a1 h.1)

    cases_given : (t : Cases) → Each (HasStanding m) (cases_targets t) → IsSome (replaced_cases m t)
    cases_given terms.no_case c = refl
    cases_given (terms.case a0 a1 a2) c = let h = thirds (pattern_targets a0) (term_targets a1) (cases_targets a2) c in three terms.case (replaced_pattern m a0) (replaced_term m a1) (replaced_cases m a2) (pattern_given a0 h.0) (term_given a1 h.1) (cases_given a2 h.2)
    cases_given (terms.guarded a0 a1 a2 a3) c = let h = quarters (pattern_targets a0) (term_targets a1) (term_targets a2) (cases_targets a3) c in four terms.guarded (replaced_pattern m a0) (replaced_term m a1) (replaced_term m a2) (replaced_cases m a3) (pattern_given a0 h.0) (term_given a1 h.1) (term_given a2 h.2) (cases_given a3 h.3)

  fields_given : (ctors : List Tys) → Each (HasStanding m) (fields_targets ctors) → IsSome (replaced_fields m ctors)
  fields_given [] c = refl
  fields_given (ts ∷ ctors) c =
      let h = halves (tys_targets ts) (fields_targets ctors) c in
      two (λ us rest. us ∷ rest) (replaced_tys m ts) (replaced_fields m ctors) (tys_given ts h.0) (fields_given ctors h.1)

  given : (i : Item) → Each (HasStanding m) (targets_of i) → IsSome (replaced m i)
  given (item.Term d) c =
      let h = halves (signature_targets d.signature) (term_targets d.body) c in
      one item.Term (replaced_definition m d) (two (λ (s : Option Ty) (b : Term). record { signature = s; body = b }) (replaced_signature m d.signature) (replaced_term m d.body) (signature_given d.signature h.0) (term_given d.body h.1))
  given (item.Kind d) c =
      one item.Kind (replaced_declaration m d) (one (λ (cs : List Tys). record { tag = d.tag; params = d.params; ctors = cs }) (replaced_fields m d.ctors) (fields_given d.ctors c))

pub item_is_replaced : ItemIsReplaced
item_is_replaced = given

-- a replacement after another
module _ {m n o : Replacement} where
  mutual
    ty_in_turn : {t u v : Ty} → ReplacedTy m t u → ReplacedTy n u v → Each (IsInTurn m n o) (ty_targets t) → replaced_ty o t ≡ Some v
    ty_in_turn rel.ty_variable rel.ty_variable c = refl
    ty_in_turn (rel.ty_quantified p0) (rel.ty_quantified q0) c = rw (ty_in_turn p0 q0 c) refl
    ty_in_turn (rel.ty_arrow {a0 = a0} {a1 = a1} p0 p1) (rel.ty_arrow q0 q1) c = let h = halves (ty_targets a0) (ty_targets a1) c in rw (ty_in_turn p0 q0 h.0, ty_in_turn p1 q1 h.1) refl
    ty_in_turn rel.ty_unit rel.ty_unit c = refl
    ty_in_turn (rel.ty_tuple p0) (rel.ty_tuple q0) c = rw (tys_in_turn p0 q0 c) refl
    ty_in_turn (rel.ty_applied {a0 = a0} {a1 = a1} p0 p1) (rel.ty_applied q0 q1) c = rw ((first a0 (tys_targets a1) c).in_tree _ _ p0 q0, tys_in_turn p1 q1 (rest a0 (tys_targets a1) c)) refl

    tys_in_turn : {t u v : Tys} → ReplacedTys m t u → ReplacedTys n u v → Each (IsInTurn m n o) (tys_targets t) → replaced_tys o t ≡ Some v
    tys_in_turn rel.tys_none rel.tys_none c = refl
    tys_in_turn (rel.tys_more {a0 = a0} {a1 = a1} p0 p1) (rel.tys_more q0 q1) c = let h = halves (ty_targets a0) (tys_targets a1) c in rw (ty_in_turn p0 q0 h.0, tys_in_turn p1 q1 h.1) refl

  mutual
    pattern_in_turn : {t u v : Pattern} → ReplacedPattern m t u → ReplacedPattern n u v → Each (IsInTurn m n o) (pattern_targets t) → replaced_pattern o t ≡ Some v
    pattern_in_turn rel.pattern_any rel.pattern_any c = refl
    pattern_in_turn rel.pattern_variable rel.pattern_variable c = refl
    pattern_in_turn (rel.pattern_alias p0) (rel.pattern_alias q0) c = rw (pattern_in_turn p0 q0 c) refl
    pattern_in_turn rel.pattern_literal rel.pattern_literal c = refl
    pattern_in_turn rel.pattern_unit rel.pattern_unit c = refl
    pattern_in_turn (rel.pattern_tuple p0) (rel.pattern_tuple q0) c = rw (patterns_in_turn p0 q0 c) refl
    pattern_in_turn (rel.pattern_list p0) (rel.pattern_list q0) c = rw (patterns_in_turn p0 q0 c) refl
    pattern_in_turn (rel.pattern_constructor {a0 = a0} {a1 = a1} p0 p1) (rel.pattern_constructor q0 q1) c = rw ((first a0 (patterns_targets a1) c).in_pattern _ _ p0 q0, patterns_in_turn p1 q1 (rest a0 (patterns_targets a1) c)) refl
    pattern_in_turn (rel.pattern_cons {a0 = a0} {a1 = a1} p0 p1) (rel.pattern_cons q0 q1) c = let h = halves (pattern_targets a0) (pattern_targets a1) c in rw (pattern_in_turn p0 q0 h.0, pattern_in_turn p1 q1 h.1) refl
    pattern_in_turn (rel.pattern_snoc {a0 = a0} {a1 = a1} p0 p1) (rel.pattern_snoc q0 q1) c = let h = halves (pattern_targets a0) (pattern_targets a1) c in rw (pattern_in_turn p0 q0 h.0, pattern_in_turn p1 q1 h.1) refl

    patterns_in_turn : {t u v : Patterns} → ReplacedPatterns m t u → ReplacedPatterns n u v → Each (IsInTurn m n o) (patterns_targets t) → replaced_patterns o t ≡ Some v
    patterns_in_turn rel.patterns_none rel.patterns_none c = refl
    patterns_in_turn (rel.patterns_more {a0 = a0} {a1 = a1} p0 p1) (rel.patterns_more q0 q1) c = let h = halves (pattern_targets a0) (patterns_targets a1) c in rw (pattern_in_turn p0 q0 h.0, patterns_in_turn p1 q1 h.1) refl

  signature_in_turn : {s r q : Option Ty} → ReplacedSignature m s r → ReplacedSignature n r q → Each (IsInTurn m n o) (signature_targets s) → replaced_signature o s ≡ Some q
  signature_in_turn rel.no_signature rel.no_signature c = refl
  signature_in_turn (rel.some_signature p) (rel.some_signature q) c = rw (ty_in_turn p q c) refl

  mutual
    term_in_turn : {t u v : Term} → ReplacedTerm m t u → ReplacedTerm n u v → Each (IsInTurn m n o) (term_targets t) → replaced_term o t ≡ Some v
    term_in_turn rel.term_variable rel.term_variable c = refl
    term_in_turn rel.term_literal rel.term_literal c = refl
    term_in_turn rel.term_unit rel.term_unit c = refl
    term_in_turn (rel.term_link {a0 = a0} p0) (rel.term_link q0) c = rw ((first a0 [] c).in_tree _ _ p0 q0) refl
    term_in_turn (rel.term_lambda p0) (rel.term_lambda q0) c = rw (term_in_turn p0 q0 c) refl
    term_in_turn (rel.term_apply {a0 = a0} {a1 = a1} p0 p1) (rel.term_apply q0 q1) c = let h = halves (term_targets a0) (term_targets a1) c in rw (term_in_turn p0 q0 h.0, term_in_turn p1 q1 h.1) refl
    term_in_turn (rel.term_annotated {a0 = a0} {a1 = a1} p0 p1) (rel.term_annotated q0 q1) c = let h = halves (term_targets a0) (ty_targets a1) c in rw (term_in_turn p0 q0 h.0, ty_in_turn p1 q1 h.1) refl
    term_in_turn (rel.term_tuple p0) (rel.term_tuple q0) c = rw (terms_in_turn p0 q0 c) refl
    term_in_turn (rel.term_list p0) (rel.term_list q0) c = rw (terms_in_turn p0 q0 c) refl
    term_in_turn (rel.term_conditional {a0 = a0} {a1 = a1} {a2 = a2} p0 p1 p2) (rel.term_conditional q0 q1 q2) c = let h = thirds (term_targets a0) (term_targets a1) (term_targets a2) c in rw (term_in_turn p0 q0 h.0, term_in_turn p1 q1 h.1, term_in_turn p2 q2 h.2) refl
    term_in_turn (rel.term_and {a0 = a0} {a1 = a1} p0 p1) (rel.term_and q0 q1) c = let h = halves (term_targets a0) (term_targets a1) c in rw (term_in_turn p0 q0 h.0, term_in_turn p1 q1 h.1) refl
    term_in_turn (rel.term_or {a0 = a0} {a1 = a1} p0 p1) (rel.term_or q0 q1) c = let h = halves (term_targets a0) (term_targets a1) c in rw (term_in_turn p0 q0 h.0, term_in_turn p1 q1 h.1) refl
    term_in_turn (rel.term_binding {a0 = a0} {a1 = a1} {a2 = a2} p0 p1 p2) (rel.term_binding q0 q1 q2) c = let h = thirds (signature_targets a0) (term_targets a1) (term_targets a2) c in rw (signature_in_turn p0 q0 h.0, term_in_turn p1 q1 h.1, term_in_turn p2 q2 h.2) refl
    term_in_turn (rel.term_match {a0 = a0} {a1 = a1} p0 p1) (rel.term_match q0 q1) c = let h = halves (term_targets a0) (cases_targets a1) c in rw (term_in_turn p0 q0 h.0, cases_in_turn p1 q1 h.1) refl

    terms_in_turn : {t u v : Terms} → ReplacedTerms m t u → ReplacedTerms n u v → Each (IsInTurn m n o) (terms_targets t) → replaced_terms o t ≡ Some v
    terms_in_turn rel.terms_none rel.terms_none c = refl
    terms_in_turn (rel.terms_more {a0 = a0} {a1 = a1} p0 p1) (rel.terms_more q0 q1) c = let h = halves (term_targets a0) (terms_targets a1) c in rw (term_in_turn p0 q0 h.0, terms_in_turn p1 q1 h.1) refl

    cases_in_turn : {t u v : Cases} → ReplacedCases m t u → ReplacedCases n u v → Each (IsInTurn m n o) (cases_targets t) → replaced_cases o t ≡ Some v
    cases_in_turn rel.cases_no_case rel.cases_no_case c = refl
    cases_in_turn (rel.cases_case {a0 = a0} {a1 = a1} {a2 = a2} p0 p1 p2) (rel.cases_case q0 q1 q2) c = let h = thirds (pattern_targets a0) (term_targets a1) (cases_targets a2) c in rw (pattern_in_turn p0 q0 h.0, term_in_turn p1 q1 h.1, cases_in_turn p2 q2 h.2) refl
    cases_in_turn (rel.cases_guarded {a0 = a0} {a1 = a1} {a2 = a2} {a3 = a3} p0 p1 p2 p3) (rel.cases_guarded q0 q1 q2 q3) c = let h = quarters (pattern_targets a0) (term_targets a1) (term_targets a2) (cases_targets a3) c in rw (pattern_in_turn p0 q0 h.0, term_in_turn p1 q1 h.1, term_in_turn p2 q2 h.2, cases_in_turn p3 q3 h.3) refl

  fields_in_turn : {cs ds es : List Tys} → ReplacedFields m cs ds → ReplacedFields n ds es → Each (IsInTurn m n o) (fields_targets cs) → replaced_fields o cs ≡ Some es
  fields_in_turn rel.no_fields rel.no_fields c = refl
  fields_in_turn (rel.more_fields {ts = ts} {cs = cs} p0 p1) (rel.more_fields q0 q1) c = let h = halves (tys_targets ts) (fields_targets cs) c in rw (tys_in_turn p0 q0 h.0, fields_in_turn p1 q1 h.1) refl

  in_turn : {i j k : Item} → ReplacedItem m i j → ReplacedItem n j k → Each (IsInTurn m n o) (targets_of i) → replaced o i ≡ Some k
  in_turn (rel.item_term {s = s} {b = b} p0 p1) (rel.item_term q0 q1) c = let h = halves (signature_targets s) (term_targets b) c in rw (signature_in_turn p0 q0 h.0, term_in_turn p1 q1 h.1) refl
  in_turn (rel.item_kind p) (rel.item_kind q) c = rw (fields_in_turn p q c) refl

pub items_in_turn : InTurn
items_in_turn m n o i j k e f c = in_turn (item_from m i j e) (item_from n j k f) c
