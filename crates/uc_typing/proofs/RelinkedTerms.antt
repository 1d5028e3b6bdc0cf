-- Relinked terms have the same shape.
use Rattle.std.proofs.Common.{◌≡◌, ℕ, suc, ◌+◌, Bool, true, false, eqb, ◌||◌, List, [], ◌∷◌, ◌++◌, length, Option, Some, None, refl, sym, ap, ap₂, ◌∙◌, arith, length-append}
use Rattle.std.specs.List.{list_any}
use Rattle.std.proofs.lemmas.List.Folds.{list_any-append}
use Rattle.uc_base.specs.declared.reference.Ref.{Ref}
use Rattle.uc_tree.specs.declared.target.Target.{Target}
use Rattle.uc_tree.specs.declared.target.Target.TheVariants.{Stored, Own, OwnCtor}
use Rattle.uc_tree.specs.Nodes.{pattern_nodes, patterns_nodes, term_nodes, terms_nodes, cases_nodes}
use Rattle.uc_tree.specs.Patterns.{Pattern, Patterns}
use Rattle.uc_tree.specs.Patterns as patterns
use Rattle.uc_tree.specs.Targets.{ty_targets, signature_targets, pattern_targets, patterns_targets, term_targets, terms_targets, cases_targets}
use Rattle.uc_tree.specs.Terms.{Term, Terms, Cases}
use Rattle.uc_tree.specs.Terms as terms
use Rattle.uc_kinds.specs.Typing.{binders_in, binders_among, uses, some_uses, some_case_uses}
use Rattle.uc_context.specs.Opens.{Open, bound, rigid, existential, quantified, arrow, unit, tuple, applied}
use Rattle.uc_subtyping.specs.Instances.{opens_count}
use Rattle.uc_typing.specs.Components.{is_own}
use Rattle.uc_typing.specs.PatternMatching.{patterns_count}
use Rattle.uc_typing.specs.Relinking.{relinked_target, relinked_pattern, relinked_patterns, relinked, all_relinked, cases_relinked}
use Rattle.uc_typing.specs.Terms.{terms_count, has_rule_of_form}

module _ (f : Ref → Ref) where
  mutual
    pub pattern_length : (p : Pattern) → length (pattern_nodes (relinked_pattern f p)) ≡ length (pattern_nodes p)
    pattern_length patterns.any = refl
    pattern_length patterns.variable = refl
    pattern_length (patterns.alias p) = omega (arith, pattern_length p)
    pattern_length (patterns.literal l) = refl
    pattern_length patterns.unit = refl
    pattern_length (patterns.tuple ps) = omega (arith, patterns_length ps)
    pattern_length (patterns.list ps) = omega (arith, patterns_length ps)
    pattern_length (patterns.constructor x ps) = omega (arith, patterns_length ps)
    pattern_length (patterns.cons p q) = simp length-append (omega (arith, pattern_length p, pattern_length q))
    pattern_length (patterns.snoc p q) = simp length-append (omega (arith, pattern_length p, pattern_length q))

    patterns_length : (ps : Patterns) → length (patterns_nodes (relinked_patterns f ps)) ≡ length (patterns_nodes ps)
    patterns_length patterns.none = refl
    patterns_length (patterns.more p ps) = simp length-append (omega (arith, pattern_length p, patterns_length ps))

  mutual
    pub term_length : (e : Term) → length (term_nodes (relinked f e)) ≡ length (term_nodes e)
    term_length (terms.variable n) = refl
    term_length (terms.literal l) = refl
    term_length terms.unit = refl
    term_length (terms.link x) = refl
    term_length (terms.lambda e) = omega (arith, term_length e)
    term_length (terms.apply a b) = simp length-append (omega (arith, term_length a, term_length b))
    term_length (terms.annotated e ty) = simp length-append (omega (arith, term_length e))
    term_length (terms.tuple es) = omega (arith, terms_length es)
    term_length (terms.list es) = omega (arith, terms_length es)
    term_length (terms.conditional a b c) = simp length-append (omega (arith, term_length a, term_length b, term_length c))
    term_length (terms.and a b) = simp length-append (omega (arith, term_length a, term_length b))
    term_length (terms.or a b) = simp length-append (omega (arith, term_length a, term_length b))
    term_length (terms.binding s a b) = simp length-append (omega (arith, term_length a, term_length b))
    term_length (terms.match e cs) = simp length-append (omega (arith, term_length e, cases_length cs))

    terms_length : (es : Terms) → length (terms_nodes (all_relinked f es)) ≡ length (terms_nodes es)
    terms_length terms.none = refl
    terms_length (terms.more e es) = simp length-append (omega (arith, term_length e, terms_length es))

    cases_length : (cs : Cases) → length (cases_nodes (cases_relinked f cs)) ≡ length (cases_nodes cs)
    cases_length terms.no_case = refl
    cases_length (terms.case p b cs) = simp length-append (omega (arith, pattern_length p, term_length b, cases_length cs))
    cases_length (terms.guarded p g b cs) = simp length-append (omega (arith, pattern_length p, term_length g, term_length b, cases_length cs))

  pub patterns_counted : (ps : Patterns) → patterns_count (relinked_patterns f ps) ≡ patterns_count ps
  patterns_counted patterns.none = refl
  patterns_counted (patterns.more p ps) = ap suc (patterns_counted ps)

  pub terms_counted : (es : Terms) → terms_count (all_relinked f es) ≡ terms_count es
  terms_counted terms.none = refl
  terms_counted (terms.more e es) = ap suc (terms_counted es)

  mutual
    same_binders : (p : Pattern) → binders_in (relinked_pattern f p) ≡ binders_in p
    same_binders patterns.any = refl
    same_binders patterns.variable = refl
    same_binders (patterns.alias p) = ap (λ (n : ℕ). n + 1) (same_binders p)
    same_binders (patterns.literal l) = refl
    same_binders patterns.unit = refl
    same_binders (patterns.tuple ps) = all_same_binders ps
    same_binders (patterns.list ps) = all_same_binders ps
    same_binders (patterns.constructor x ps) = all_same_binders ps
    same_binders (patterns.cons p q) = ap₂ (λ (m n : ℕ). m + n) (same_binders p) (same_binders q)
    same_binders (patterns.snoc p q) = ap₂ (λ (m n : ℕ). m + n) (same_binders p) (same_binders q)

    all_same_binders : (ps : Patterns) → binders_among (relinked_patterns f ps) ≡ binders_among ps
    all_same_binders patterns.none = refl
    all_same_binders (patterns.more p ps) = ap₂ (λ (m n : ℕ). m + n) (same_binders p) (all_same_binders ps)

  either_same : {a b c d : Bool} → a ≡ c → b ≡ d → (a || b) ≡ (c || d)
  either_same p q = ap₂ (λ (x y : Bool). x || y) p q

  mutual
    pub same_uses : (n : ℕ) (e : Term) → uses n (relinked f e) ≡ uses n e
    same_uses n (terms.variable m) = refl
    same_uses n (terms.literal l) = refl
    same_uses n terms.unit = refl
    same_uses n (terms.link x) = refl
    same_uses n (terms.lambda e) = same_uses (n + 1) e
    same_uses n (terms.apply a b) = either_same (same_uses n a) (same_uses n b)
    same_uses n (terms.annotated e ty) = same_uses n e
    same_uses n (terms.tuple es) = some_same_uses n es
    same_uses n (terms.list es) = some_same_uses n es
    same_uses n (terms.conditional a b c) = either_same (same_uses n a) (either_same (same_uses n b) (same_uses n c))
    same_uses n (terms.and a b) = either_same (same_uses n a) (same_uses n b)
    same_uses n (terms.or a b) = either_same (same_uses n a) (same_uses n b)
    same_uses n (terms.binding s a b) = either_same (same_uses (n + 1) a) (same_uses (n + 1) b)
    same_uses n (terms.match e cs) = either_same (same_uses n e) (some_case_same_uses n cs)

    some_same_uses : (n : ℕ) (es : Terms) → some_uses n (all_relinked f es) ≡ some_uses n es
    some_same_uses n terms.none = refl
    some_same_uses n (terms.more e es) = either_same (same_uses n e) (some_same_uses n es)

    some_case_same_uses : (n : ℕ) (cs : Cases) → some_case_uses n (cases_relinked f cs) ≡ some_case_uses n cs
    some_case_same_uses n terms.no_case = refl
    some_case_same_uses n (terms.case p b cs) = either_same (ap (λ (k : ℕ). uses (n + k) (relinked f b)) (same_binders p) ∙ same_uses (n + binders_in p) b) (some_case_same_uses n cs)
    some_case_same_uses n (terms.guarded p g b cs) =
        either_same (ap (λ (k : ℕ). uses (n + k) (relinked f g)) (same_binders p) ∙ same_uses (n + binders_in p) g)
        (either_same (ap (λ (k : ℕ). uses (n + k) (relinked f b)) (same_binders p) ∙ same_uses (n + binders_in p) b) (some_case_same_uses n cs))

  pub same_rule : (e : Term) (t : Open) → has_rule_of_form (relinked f e) t ≡ has_rule_of_form e t
  same_rule (terms.variable n) t = refl
  same_rule (terms.literal l) t = refl
  same_rule terms.unit t = refl
  same_rule (terms.link x) t = refl
  same_rule (terms.lambda e) (bound i) = refl
  same_rule (terms.lambda e) (rigid x) = refl
  same_rule (terms.lambda e) (existential x) = refl
  same_rule (terms.lambda e) (quantified t) = refl
  same_rule (terms.lambda e) (arrow a b) = refl
  same_rule (terms.lambda e) unit = refl
  same_rule (terms.lambda e) (tuple ts) = refl
  same_rule (terms.lambda e) (applied h ts) = refl
  same_rule (terms.apply a b) t = refl
  same_rule (terms.annotated e ty) t = refl
  same_rule (terms.tuple es) (bound i) = refl
  same_rule (terms.tuple es) (rigid x) = refl
  same_rule (terms.tuple es) (existential x) = refl
  same_rule (terms.tuple es) (quantified t) = refl
  same_rule (terms.tuple es) (arrow a b) = refl
  same_rule (terms.tuple es) unit = refl
  same_rule (terms.tuple es) (tuple ts) = ap (λ (k : ℕ). has_rule_counted k (tuple ts)) (terms_counted es)
    where
      has_rule_counted : ℕ → Open → Bool
      has_rule_counted k (tuple ts) = eqb k (opens_count ts)
      has_rule_counted k t = false
  same_rule (terms.tuple es) (applied h ts) = refl
  same_rule (terms.list es) t = refl
  same_rule (terms.conditional a b c) t = refl
  same_rule (terms.and a b) t = refl
  same_rule (terms.or a b) t = refl
  same_rule (terms.binding s a b) t = refl
  same_rule (terms.match e cs) t = refl

  own_stays : (x : Target) → is_own (relinked_target f x) ≡ is_own x
  own_stays (Stored r) = refl
  own_stays (Own k) = refl
  own_stays (OwnCtor k c) = refl

  abbrev some_own : List Target → Bool
  some_own xs = list_any is_own xs

  both_own : (xs ys zs ws : List Target) → some_own xs ≡ some_own zs → some_own ys ≡ some_own ws → some_own (xs ++ ys) ≡ some_own (zs ++ ws)
  both_own xs ys zs ws p q = list_any-append is_own xs ys ∙ (ap₂ (λ (x y : Bool). x || y) p q ∙ sym (list_any-append is_own zs ws))

  -- the targets of what is relinked
  abbrev pattern_now : Pattern → List Target
  pattern_now p = pattern_targets (relinked_pattern f p)

  abbrev patterns_now : Patterns → List Target
  patterns_now ps = patterns_targets (relinked_patterns f ps)

  abbrev term_now : Term → List Target
  term_now e = term_targets (relinked f e)

  mutual
    pattern_own : (p : Pattern) → list_any is_own (pattern_targets (relinked_pattern f p)) ≡ list_any is_own (pattern_targets p)
    pattern_own patterns.any = refl
    pattern_own patterns.variable = refl
    pattern_own (patterns.alias p) = pattern_own p
    pattern_own (patterns.literal l) = refl
    pattern_own patterns.unit = refl
    pattern_own (patterns.tuple ps) = patterns_own ps
    pattern_own (patterns.list ps) = patterns_own ps
    pattern_own (patterns.constructor x ps) = either_same (own_stays x) (patterns_own ps)
    pattern_own (patterns.cons p q) = both_own (pattern_now p) (pattern_now q) (pattern_targets p) (pattern_targets q) (pattern_own p) (pattern_own q)
    pattern_own (patterns.snoc p q) = both_own (pattern_now p) (pattern_now q) (pattern_targets p) (pattern_targets q) (pattern_own p) (pattern_own q)

    patterns_own : (ps : Patterns) → list_any is_own (patterns_targets (relinked_patterns f ps)) ≡ list_any is_own (patterns_targets ps)
    patterns_own patterns.none = refl
    patterns_own (patterns.more p ps) = both_own (pattern_now p) (patterns_now ps) (pattern_targets p) (patterns_targets ps) (pattern_own p) (patterns_own ps)

  mutual
    pub term_own : (e : Term) → list_any is_own (term_targets (relinked f e)) ≡ list_any is_own (term_targets e)
    term_own (terms.variable n) = refl
    term_own (terms.literal l) = refl
    term_own terms.unit = refl
    term_own (terms.link x) = either_same (own_stays x) refl
    term_own (terms.lambda e) = term_own e
    term_own (terms.apply a b) = both_own (term_now a) (term_now b) (term_targets a) (term_targets b) (term_own a) (term_own b)
    term_own (terms.annotated e ty) = both_own (term_now e) (ty_targets ty) (term_targets e) (ty_targets ty) (term_own e) refl
    term_own (terms.tuple es) = terms_own es
    term_own (terms.list es) = terms_own es
    term_own (terms.conditional a b c) =
        both_own (term_now a ++ term_now b) (term_now c) (term_targets a ++ term_targets b) (term_targets c) (both_own (term_now a) (term_now b) (term_targets a) (term_targets b) (term_own a) (term_own b)) (term_own c)
    term_own (terms.and a b) = both_own (term_now a) (term_now b) (term_targets a) (term_targets b) (term_own a) (term_own b)
    term_own (terms.or a b) = both_own (term_now a) (term_now b) (term_targets a) (term_targets b) (term_own a) (term_own b)
    term_own (terms.binding s a b) =
        both_own (signature_targets s ++ term_now a) (term_now b) (signature_targets s ++ term_targets a) (term_targets b)
        (both_own (signature_targets s) (term_now a) (signature_targets s) (term_targets a) refl (term_own a)) (term_own b)
    term_own (terms.match e cs) = both_own (term_now e) (cases_targets (cases_relinked f cs)) (term_targets e) (cases_targets cs) (term_own e) (cases_own cs)

    terms_own : (es : Terms) → list_any is_own (terms_targets (all_relinked f es)) ≡ list_any is_own (terms_targets es)
    terms_own terms.none = refl
    terms_own (terms.more e es) = both_own (term_now e) (terms_targets (all_relinked f es)) (term_targets e) (terms_targets es) (term_own e) (terms_own es)

    cases_own : (cs : Cases) → list_any is_own (cases_targets (cases_relinked f cs)) ≡ list_any is_own (cases_targets cs)
    cases_own terms.no_case = refl
    cases_own (terms.case p b cs) =
        both_own (pattern_now p ++ term_now b) (cases_targets (cases_relinked f cs)) (pattern_targets p ++ term_targets b) (cases_targets cs)
        (both_own (pattern_now p) (term_now b) (pattern_targets p) (term_targets b) (pattern_own p) (term_own b)) (cases_own cs)
    cases_own (terms.guarded p g b cs) =
        both_own (pattern_now p ++ term_now g ++ term_now b) (cases_targets (cases_relinked f cs)) (pattern_targets p ++ term_targets g ++ term_targets b) (cases_targets cs)
        (both_own (pattern_now p ++ term_now g) (term_now b) (pattern_targets p ++ term_targets g) (term_targets b)
        (both_own (pattern_now p) (term_now g) (pattern_targets p) (term_targets g) (pattern_own p) (term_own g)) (term_own b)) (cases_own cs)
