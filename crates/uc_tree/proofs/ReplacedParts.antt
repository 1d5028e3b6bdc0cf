-- What a replaced item has of the item: its targets replaced, its levels, as many nodes, and bound variables.
use Rattle.std.proofs.Common.{◌≡◌, ℕ, suc, ◌+◌, List, length, Option, Some, refl, subst, sym, ap, length-append}
use Rattle.std.specs.Prelude.{map}
use Rattle.std.proofs.lemmas.List.{map-append}
use Rattle.uc_base.specs.declared.reference.Ref.{Ref}
use Rattle.uc_base.specs.declared.reference.Ref.TheVariants.{Def, Ctor, Builtin}
use Rattle.uc_tree.specs.declared.target.Target.TheVariants.{Stored, Own, OwnCtor}
use Rattle.uc_tree.specs.declared.ref_map.Image.{Image}
use Rattle.uc_tree.specs.declared.ref_map.Image.TheVariants.{Same, New, Gone}
use Rattle.uc_tree.specs.declared.target.Target.{Target}
use Rattle.uc_tree.specs.declared.item.Item.{Item}
use Rattle.uc_tree.specs.Types.{Ty, Tys}
use Rattle.uc_tree.specs.Patterns.{Pattern, Patterns}
use Rattle.uc_tree.specs.Terms.{Term, Terms, Cases}
use Rattle.uc_tree.specs.Targets.{ty_targets, tys_targets, signature_targets, pattern_targets, patterns_targets, term_targets, terms_targets, cases_targets, fields_targets, targets_of}
use Rattle.uc_tree.specs.Images.{image_of}
use Rattle.uc_tree.specs.Counts.{fields_levels, levels_of}
use Rattle.uc_tree.specs.Nodes.{ty_nodes, tys_nodes, signature_nodes, pattern_nodes, patterns_nodes, term_nodes, terms_nodes, cases_nodes, fields_nodes, nodes_of}
use Rattle.uc_tree.specs.Bound.{IsTypeBound, AreTypesBound, front_quantifiers, signature_quantifiers, IsSignatureBound, binder_count, binders_count, IsTermBound, AreTermsBound, AreCasesBound, AreFieldsBound, IsBound}
use Rattle.uc_tree.specs.Laws.{TargetsAreReplaced, LevelsStay, NodeCountStays, BoundStays}
use Rattle.uc_tree.specs.Replacing.{Replacement, by_images, by_members, by_references, imaged, imaged_constructor, target_under, constructor_under}
use Rattle.uc_tree.proofs.Replaced as rel
use Rattle.uc_tree.proofs.Replaced.{ReplacedTy, ReplacedTys, ReplacedSignature, ReplacedPattern, ReplacedPatterns, ReplacedTerm, ReplacedTerms, ReplacedCases, ReplacedFields, ReplacedItem, item_from, signature-levels, term-levels, tys-levels}

imaged-from_constructor : (r : Ref) (image : Image) (y : Target) → imaged_constructor r image ≡ Some y → imaged r image ≡ Some y
imaged-from_constructor r Same y e = e
imaged-from_constructor r (New (Ctor hash member ctor)) y e = e
imaged-from_constructor r (New (Def hash member)) y e = absurd cc
imaged-from_constructor r (New (Builtin number)) y e = absurd cc
imaged-from_constructor r Gone y e = e

-- what stands for a target in a pattern stands for it in a term
in_tree-from_pattern : (m : Replacement) (x y : Target) → constructor_under m x ≡ Some y → target_under m x ≡ Some y
in_tree-from_pattern (by_members ms) x y e = e
in_tree-from_pattern (by_references refs) x y e = e
in_tree-from_pattern (by_images images) (Stored r) y e = imaged-from_constructor r (image_of images r) y e
in_tree-from_pattern (by_images images) (Own member) y e = e
in_tree-from_pattern (by_images images) (OwnCtor member ctor) y e = e

-- targets
module _ {m : Replacement} where
  mutual
    ty-targets : {t u : Ty} → ReplacedTy m t u → map (target_under m) (ty_targets t) ≡ map Some (ty_targets u)
    ty-targets rel.ty_variable = refl
    ty-targets (rel.ty_quantified p0) = ty-targets p0
    ty-targets (rel.ty_arrow p0 p1) = simp (map-append, ty-targets p0, ty-targets p1)
    ty-targets rel.ty_unit = refl
    ty-targets (rel.ty_tuple p0) = tys-targets p0
    ty-targets (rel.ty_applied p0 p1) = rw (p0, tys-targets p1) refl

    tys-targets : {t u : Tys} → ReplacedTys m t u → map (target_under m) (tys_targets t) ≡ map Some (tys_targets u)
    tys-targets rel.tys_none = refl
    tys-targets (rel.tys_more p0 p1) = simp (map-append, ty-targets p0, tys-targets p1)

  mutual
    pattern-targets : {t u : Pattern} → ReplacedPattern m t u → map (target_under m) (pattern_targets t) ≡ map Some (pattern_targets u)
    pattern-targets rel.pattern_any = refl
    pattern-targets rel.pattern_variable = refl
    pattern-targets (rel.pattern_alias p0) = pattern-targets p0
    pattern-targets rel.pattern_literal = refl
    pattern-targets rel.pattern_unit = refl
    pattern-targets (rel.pattern_tuple p0) = patterns-targets p0
    pattern-targets (rel.pattern_list p0) = patterns-targets p0
    pattern-targets (rel.pattern_constructor p0 p1) = rw (in_tree-from_pattern _ _ _ p0, patterns-targets p1) refl
    pattern-targets (rel.pattern_cons p0 p1) = simp (map-append, pattern-targets p0, pattern-targets p1)
    pattern-targets (rel.pattern_snoc p0 p1) = simp (map-append, pattern-targets p0, pattern-targets p1)

    patterns-targets : {t u : Patterns} → ReplacedPatterns m t u → map (target_under m) (patterns_targets t) ≡ map Some (patterns_targets u)
    patterns-targets rel.patterns_none = refl
    patterns-targets (rel.patterns_more p0 p1) = simp (map-append, pattern-targets p0, patterns-targets p1)

  signature-targets : {s r : Option Ty} → ReplacedSignature m s r → map (target_under m) (signature_targets s) ≡ map Some (signature_targets r)
  signature-targets rel.no_signature = refl
  signature-targets (rel.some_signature p) = ty-targets p

  mutual
    term-targets : {t u : Term} → ReplacedTerm m t u → map (target_under m) (term_targets t) ≡ map Some (term_targets u)
    term-targets rel.term_variable = refl
    term-targets rel.term_literal = refl
    term-targets rel.term_unit = refl
    term-targets (rel.term_link p0) = rw (p0) refl
    term-targets (rel.term_lambda p0) = term-targets p0
    term-targets (rel.term_apply p0 p1) = simp (map-append, term-targets p0, term-targets p1)
    term-targets (rel.term_annotated p0 p1) = simp (map-append, term-targets p0, ty-targets p1)
    term-targets (rel.term_tuple p0) = terms-targets p0
    term-targets (rel.term_list p0) = terms-targets p0
    term-targets (rel.term_conditional p0 p1 p2) = simp (map-append, term-targets p0, term-targets p1, term-targets p2)
    term-targets (rel.term_and p0 p1) = simp (map-append, term-targets p0, term-targets p1)
    term-targets (rel.term_or p0 p1) = simp (map-append, term-targets p0, term-targets p1)
    term-targets (rel.term_binding p0 p1 p2) = simp (map-append, signature-targets p0, term-targets p1, term-targets p2)
    term-targets (rel.term_match p0 p1) = simp (map-append, term-targets p0, cases-targets p1)

    terms-targets : {t u : Terms} → ReplacedTerms m t u → map (target_under m) (terms_targets t) ≡ map Some (terms_targets u)
    terms-targets rel.terms_none = refl
    terms-targets (rel.terms_more p0 p1) = simp (map-append, term-targets p0, terms-targets p1)

    cases-targets : {t u : Cases} → ReplacedCases m t u → map (target_under m) (cases_targets t) ≡ map Some (cases_targets u)
    cases-targets rel.cases_no_case = refl
    cases-targets (rel.cases_case p0 p1 p2) = simp (map-append, pattern-targets p0, term-targets p1, cases-targets p2)
    cases-targets (rel.cases_guarded p0 p1 p2 p3) = simp (map-append, pattern-targets p0, term-targets p1, term-targets p2, cases-targets p3)

  fields-targets : {cs ds : List Tys} → ReplacedFields m cs ds → map (target_under m) (fields_targets cs) ≡ map Some (fields_targets ds)
  fields-targets rel.no_fields = refl
  fields-targets (rel.more_fields p0 p1) = simp (map-append, tys-targets p0, fields-targets p1)

  item-targets : {i j : Item} → ReplacedItem m i j → map (target_under m) (targets_of i) ≡ map Some (targets_of j)
  item-targets (rel.item_term p0 p1) = simp (map-append, signature-targets p0, term-targets p1)
  item-targets (rel.item_kind p) = fields-targets p

-- levels
module _ {m : Replacement} where
  fields-levels : {cs ds : List Tys} → ReplacedFields m cs ds → fields_levels ds ≡ fields_levels cs
  fields-levels rel.no_fields = refl
  fields-levels (rel.more_fields p0 p1) = rw (tys-levels p0, fields-levels p1) refl

  item-levels : {i j : Item} → ReplacedItem m i j → levels_of j ≡ levels_of i
  item-levels (rel.item_term p0 p1) = rw (signature-levels p0, term-levels p1) refl
  item-levels (rel.item_kind p) = fields-levels p

-- nodes
module _ {m : Replacement} where
  mutual
    ty-nodes : {t u : Ty} → ReplacedTy m t u → length (ty_nodes u) ≡ length (ty_nodes t)
    ty-nodes rel.ty_variable = refl
    ty-nodes (rel.ty_quantified p0) = simp (ty-nodes p0)
    ty-nodes (rel.ty_arrow p0 p1) = simp (length-append, ty-nodes p0, ty-nodes p1)
    ty-nodes rel.ty_unit = refl
    ty-nodes (rel.ty_tuple p0) = simp (tys-nodes p0)
    ty-nodes (rel.ty_applied p0 p1) = simp (tys-nodes p1)

    tys-nodes : {t u : Tys} → ReplacedTys m t u → length (tys_nodes u) ≡ length (tys_nodes t)
    tys-nodes rel.tys_none = refl
    tys-nodes (rel.tys_more p0 p1) = simp (length-append, ty-nodes p0, tys-nodes p1)

  mutual
    pattern-nodes : {t u : Pattern} → ReplacedPattern m t u → length (pattern_nodes u) ≡ length (pattern_nodes t)
    pattern-nodes rel.pattern_any = refl
    pattern-nodes rel.pattern_variable = refl
    pattern-nodes (rel.pattern_alias p0) = simp (pattern-nodes p0)
    pattern-nodes rel.pattern_literal = refl
    pattern-nodes rel.pattern_unit = refl
    pattern-nodes (rel.pattern_tuple p0) = simp (patterns-nodes p0)
    pattern-nodes (rel.pattern_list p0) = simp (patterns-nodes p0)
    pattern-nodes (rel.pattern_constructor p0 p1) = simp (patterns-nodes p1)
    pattern-nodes (rel.pattern_cons p0 p1) = simp (length-append, pattern-nodes p0, pattern-nodes p1)
    pattern-nodes (rel.pattern_snoc p0 p1) = simp (length-append, pattern-nodes p0, pattern-nodes p1)

    patterns-nodes : {t u : Patterns} → ReplacedPatterns m t u → length (patterns_nodes u) ≡ length (patterns_nodes t)
    patterns-nodes rel.patterns_none = refl
    patterns-nodes (rel.patterns_more p0 p1) = simp (length-append, pattern-nodes p0, patterns-nodes p1)

  signature-nodes : {s r : Option Ty} → ReplacedSignature m s r → length (signature_nodes r) ≡ length (signature_nodes s)
  signature-nodes rel.no_signature = refl
  signature-nodes (rel.some_signature p) = ty-nodes p

  mutual
    term-nodes : {t u : Term} → ReplacedTerm m t u → length (term_nodes u) ≡ length (term_nodes t)
    term-nodes rel.term_variable = refl
    term-nodes rel.term_literal = refl
    term-nodes rel.term_unit = refl
    term-nodes (rel.term_link p0) = refl
    term-nodes (rel.term_lambda p0) = simp (term-nodes p0)
    term-nodes (rel.term_apply p0 p1) = simp (length-append, term-nodes p0, term-nodes p1)
    term-nodes (rel.term_annotated p0 p1) = simp (length-append, term-nodes p0, ty-nodes p1)
    term-nodes (rel.term_tuple p0) = simp (terms-nodes p0)
    term-nodes (rel.term_list p0) = simp (terms-nodes p0)
    term-nodes (rel.term_conditional p0 p1 p2) = simp (length-append, term-nodes p0, term-nodes p1, term-nodes p2)
    term-nodes (rel.term_and p0 p1) = simp (length-append, term-nodes p0, term-nodes p1)
    term-nodes (rel.term_or p0 p1) = simp (length-append, term-nodes p0, term-nodes p1)
    term-nodes (rel.term_binding p0 p1 p2) = simp (length-append, signature-nodes p0, term-nodes p1, term-nodes p2)
    term-nodes (rel.term_match p0 p1) = simp (length-append, term-nodes p0, cases-nodes p1)

    terms-nodes : {t u : Terms} → ReplacedTerms m t u → length (terms_nodes u) ≡ length (terms_nodes t)
    terms-nodes rel.terms_none = refl
    terms-nodes (rel.terms_more p0 p1) = simp (length-append, term-nodes p0, terms-nodes p1)

    cases-nodes : {t u : Cases} → ReplacedCases m t u → length (cases_nodes u) ≡ length (cases_nodes t)
    cases-nodes rel.cases_no_case = refl
    cases-nodes (rel.cases_case p0 p1 p2) = simp (length-append, pattern-nodes p0, term-nodes p1, cases-nodes p2)
    cases-nodes (rel.cases_guarded p0 p1 p2 p3) = simp (length-append, pattern-nodes p0, term-nodes p1, term-nodes p2, cases-nodes p3)

  fields-nodes : {cs ds : List Tys} → ReplacedFields m cs ds → length (fields_nodes ds) ≡ length (fields_nodes cs)
  fields-nodes rel.no_fields = refl
  fields-nodes (rel.more_fields p0 p1) = simp (length-append, tys-nodes p0, fields-nodes p1)

  item-nodes : {i j : Item} → ReplacedItem m i j → length (nodes_of j) ≡ length (nodes_of i)
  item-nodes (rel.item_term p0 p1) = simp (length-append, signature-nodes p0, term-nodes p1)
  item-nodes (rel.item_kind p) = fields-nodes p

-- how many variables a pattern binds
module _ {m : Replacement} where
  mutual
    pattern-binders : {t u : Pattern} → ReplacedPattern m t u → binder_count u ≡ binder_count t
    pattern-binders rel.pattern_any = refl
    pattern-binders rel.pattern_variable = refl
    pattern-binders (rel.pattern_alias p0) = rw (pattern-binders p0) refl
    pattern-binders rel.pattern_literal = refl
    pattern-binders rel.pattern_unit = refl
    pattern-binders (rel.pattern_tuple p0) = rw (patterns-binders p0) refl
    pattern-binders (rel.pattern_list p0) = rw (patterns-binders p0) refl
    pattern-binders (rel.pattern_constructor p0 p1) = rw (patterns-binders p1) refl
    pattern-binders (rel.pattern_cons p0 p1) = rw (pattern-binders p0, pattern-binders p1) refl
    pattern-binders (rel.pattern_snoc p0 p1) = rw (pattern-binders p0, pattern-binders p1) refl

    patterns-binders : {t u : Patterns} → ReplacedPatterns m t u → binders_count u ≡ binders_count t
    patterns-binders rel.patterns_none = refl
    patterns-binders (rel.patterns_more p0 p1) = rw (pattern-binders p0, patterns-binders p1) refl

-- bound variables
module _ {m : Replacement} where
  front-quantifiers : {t u : Ty} → ReplacedTy m t u → front_quantifiers u ≡ front_quantifiers t
  front-quantifiers rel.ty_variable = refl
  front-quantifiers (rel.ty_quantified p0) = ap suc (front-quantifiers p0)
  front-quantifiers (rel.ty_arrow p0 p1) = refl
  front-quantifiers rel.ty_unit = refl
  front-quantifiers (rel.ty_tuple p0) = refl
  front-quantifiers (rel.ty_applied p0 p1) = refl

  signature-quantifiers : {s r : Option Ty} → ReplacedSignature m s r → signature_quantifiers r ≡ signature_quantifiers s
  signature-quantifiers rel.no_signature = refl
  signature-quantifiers (rel.some_signature p) = front-quantifiers p

  mutual
    ty-bound : {t u : Ty} (k : ℕ) → ReplacedTy m t u → IsTypeBound k u ≡ IsTypeBound k t
    ty-bound k rel.ty_variable = refl
    ty-bound k (rel.ty_quantified p0) = ty-bound (suc k) p0
    ty-bound k (rel.ty_arrow p0 p1) = rw (ty-bound k p0, ty-bound k p1) refl
    ty-bound k rel.ty_unit = refl
    ty-bound k (rel.ty_tuple p0) = tys-bound k p0
    ty-bound k (rel.ty_applied p0 p1) = tys-bound k p1

    tys-bound : {t u : Tys} (k : ℕ) → ReplacedTys m t u → AreTypesBound k u ≡ AreTypesBound k t
    tys-bound k rel.tys_none = refl
    tys-bound k (rel.tys_more p0 p1) = rw (ty-bound k p0, tys-bound k p1) refl

  signature-bound : {s r : Option Ty} (k : ℕ) → ReplacedSignature m s r → IsSignatureBound k r ≡ IsSignatureBound k s
  signature-bound k rel.no_signature = refl
  signature-bound k (rel.some_signature p) = ty-bound k p

  mutual
    term-bound : {t u : Term} (k v : ℕ) → ReplacedTerm m t u → IsTermBound k v u ≡ IsTermBound k v t
    term-bound k v rel.term_variable = refl
    term-bound k v rel.term_literal = refl
    term-bound k v rel.term_unit = refl
    term-bound k v (rel.term_link p0) = refl
    term-bound k v (rel.term_lambda p0) = term-bound k (suc v) p0
    term-bound k v (rel.term_apply p0 p1) = rw (term-bound k v p0, term-bound k v p1) refl
    term-bound k v (rel.term_annotated p0 p1) = rw (term-bound k v p0, ty-bound k p1) refl
    term-bound k v (rel.term_tuple p0) = terms-bound k v p0
    term-bound k v (rel.term_list p0) = terms-bound k v p0
    term-bound k v (rel.term_conditional p0 p1 p2) = rw (term-bound k v p0, term-bound k v p1, term-bound k v p2) refl
    term-bound k v (rel.term_and p0 p1) = rw (term-bound k v p0, term-bound k v p1) refl
    term-bound k v (rel.term_or p0 p1) = rw (term-bound k v p0, term-bound k v p1) refl
    term-bound k v (rel.term_binding {a0 = a0} p0 p1 p2) = rw (signature-bound k p0, signature-quantifiers p0, term-bound (signature_quantifiers a0 + k) (suc v) p1, term-bound k (suc v) p2) refl
    term-bound k v (rel.term_match p0 p1) = rw (term-bound k v p0, cases-bound k v p1) refl

    terms-bound : {t u : Terms} (k v : ℕ) → ReplacedTerms m t u → AreTermsBound k v u ≡ AreTermsBound k v t
    terms-bound k v rel.terms_none = refl
    terms-bound k v (rel.terms_more p0 p1) = rw (term-bound k v p0, terms-bound k v p1) refl

    cases-bound : {t u : Cases} (k v : ℕ) → ReplacedCases m t u → AreCasesBound k v u ≡ AreCasesBound k v t
    cases-bound k v rel.cases_no_case = refl
    cases-bound k v (rel.cases_case {a0 = a0} p0 p1 p2) = rw (pattern-binders p0, term-bound k (binder_count a0 + v) p1, cases-bound k v p2) refl
    cases-bound k v (rel.cases_guarded {a0 = a0} p0 p1 p2 p3) = rw (pattern-binders p0, term-bound k (binder_count a0 + v) p1, term-bound k (binder_count a0 + v) p2, cases-bound k v p3) refl

  fields-bound : {cs ds : List Tys} (k : ℕ) → ReplacedFields m cs ds → AreFieldsBound k ds ≡ AreFieldsBound k cs
  fields-bound k rel.no_fields = refl
  fields-bound k (rel.more_fields p0 p1) = rw (tys-bound k p0, fields-bound k p1) refl

  item-bound : {i j : Item} → ReplacedItem m i j → IsBound j ≡ IsBound i
  item-bound (rel.item_term {s = s} p0 p1) = rw (signature-bound 0 p0, signature-quantifiers p0, term-bound (signature_quantifiers s) 0 p1) refl
  item-bound (rel.item_kind {params = k} p) = fields-bound k p

pub targets_are_replaced : TargetsAreReplaced
targets_are_replaced m i j e = item-targets (item_from m i j e)

pub levels_stay : LevelsStay
levels_stay m i j e = item-levels (item_from m i j e)

pub node_count_stays : NodeCountStays
node_count_stays m i j e = item-nodes (item_from m i j e)

pub bound_stays : BoundStays
bound_stays m i j e =
    let same = item-bound (item_from m i j e) in
    (λ h. subst (λ (T : Type 0). T) same h, λ h. subst (λ (T : Type 0). T) (sym same) h)
