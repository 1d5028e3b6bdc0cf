-- Derivations of small definitions.
use Rattle.std.proofs.Common.{◌≡◌, ℕ, List, [], ◌∷◌, Option, Some, None, slice_get, refl, subst, arith}
use Rattle.std.specs.List.{Contains}
use Rattle.uc_base.specs.declared.reference.Ref.TheVariants.{Builtin}
use Rattle.uc_tree.specs.declared.target.Target.TheVariants.{Stored}
use Rattle.uc_tree.specs.declared.literal.Literal.{Literal}
use Rattle.uc_tree.specs.declared.literal.Literal.TheVariants as literals
use Rattle.uc_tree.specs.Terms as terms
use Rattle.uc_kinds.specs.PatternTyping.{Known}
use Rattle.uc_kinds.specs.Polytypes.{Poly, rigid, quantified, bound, arrow, unit, tuple, applied, none, more}
use Rattle.uc_kinds.specs.Subtyping.{builtin_type, IsMono, mono_rigid, mono_unit, mono_applied, no_mono, IsSubtype, below_rigid, below_applied, no_subtypes, below_unit, below_left, below_right, below_arrow}
use Rattle.uc_kinds.specs.Typing.{Scope, no_scope, under, with_rigid, HasType, for_all, by_lambda, by_tuple, by_subtype, Infers, of_variable, of_lambda, of_literal, of_application, Applies, at_monotype, at_argument, MeetsSignature, at_rest, under_quantifier, HaveTypes, have_none, have_more, DefinitionHasType, with_signature, without_signature}
use Rattle.uc_kinds.specs.TypingExamples.{IdentityHasItsType, HigherRankHasItsType, UnitIsNotEverything}

none_in : (x : ℕ) → Contains [] x → ⊥
none_in x h = omega (arith, h.1)

first_in : (x : ℕ) (xs : List ℕ) → Contains (x ∷ xs) x
first_in x xs = (0, omega arith, refl)

pub identity : IdentityHasItsType
identity known =
    without_signature (for_all 0 (none_in 0) (by_lambda (by_subtype (rigid 0) (of_variable refl) (below_rigid (first_in 0 [])))))

-- a builtin type is below itself
reflexive : (known : Known) (xs : List ℕ) (n : ℕ) → IsSubtype known.arity xs (builtin_type n) (builtin_type n)
reflexive known xs n = below_applied no_subtypes

-- a polymorphic function at a literal
at_literal : (known : Known) (scope : Scope) (n : ℕ) → known.arity (Stored (Builtin n)) ≡ Some 0
    → (l : Literal) → Infers known scope (terms.literal l) (builtin_type n)
    → Infers known scope (terms.variable 0) (quantified (arrow (bound 0) (bound 0)))
    → HasType known scope (terms.apply (terms.variable 0) (terms.literal l)) (builtin_type n)
at_literal known scope n e l h f =
    by_subtype (builtin_type n)
    (of_application (quantified (arrow (bound 0) (bound 0))) f
    (at_monotype (builtin_type n) (mono_applied e no_mono) (at_argument (by_subtype (builtin_type n) h (reflexive known scope.rigids n)))))
    (reflexive known scope.rigids n)

pub higher_rank : HigherRankHasItsType
higher_rank known n c =
    let scope : Scope = under (quantified (arrow (bound 0) (bound 0))) no_scope in
    with_signature (at_rest refl (by_lambda (by_tuple (have_more (at_literal known scope 0 n (literals.Nat 1) of_literal (of_variable refl))
    (have_more (at_literal known scope 4 c (literals.Char 97) of_literal (of_variable refl)) have_none)))))

-- the unit type isn't below a rigid variable
not_rigid : (known : Known) (xs : List ℕ) (x : ℕ) → IsSubtype known.arity xs unit (rigid x) → ⊥
not_rigid known xs x h = elim h [ ]

-- a monotype without variables isn't below a rigid variable
mono_not_rigid : (known : Known) (xs : List ℕ) (x : ℕ) (t : Poly) → IsMono known.arity [] t → IsSubtype known.arity xs t (rigid x) → ⊥
mono_not_rigid known xs x (rigid y) (mono_rigid c) h = none_in y c
mono_not_rigid known xs x (bound n) m h = elim m [ ]
mono_not_rigid known xs x (quantified t) m h = elim m [ ]
mono_not_rigid known xs x (arrow s t) m h = elim h [ ]
mono_not_rigid known xs x unit m h = elim h [ ]
mono_not_rigid known xs x (tuple ts) m h = elim h [ ]
mono_not_rigid known xs x (applied c ts) m h = elim h [ ]

-- nor below every type
mono_not_everything : (known : Known) (t : Poly) → IsMono known.arity [] t → IsSubtype known.arity [] t (quantified (bound 0)) → ⊥
mono_not_everything known t m (below_right x n h) = mono_not_rigid known (x ∷ []) x t m h
mono_not_everything known (quantified t) m (below_left s k h) = elim m [ ]

-- a variable has the type that its scope says
variable_type : (known : Known) (scope : Scope) (s a : Poly) → slice_get scope.types 0 ≡ Some s → Infers known scope (terms.variable 0) a → a ≡ s
variable_type known scope s a k (of_variable e) = cc

-- the unit under a lambda isn't everything
variable_not_everything : (known : Known) → HasType known (under unit no_scope) (terms.variable 0) (quantified (bound 0)) → ⊥
variable_not_everything known (for_all x n (by_subtype a i h)) =
    let e : a ≡ unit = variable_type known (with_rigid x (under unit no_scope)) unit a refl i in
    let P : Poly → Type 0 = λ t. IsSubtype known.arity (x ∷ []) t (rigid x) in not_rigid known (x ∷ []) x (subst P e h)
variable_not_everything known (by_subtype a i h) =
    let e : a ≡ unit = variable_type known (under unit no_scope) unit a refl i in
    let P : Poly → Type 0 = λ t. IsSubtype known.arity [] t (quantified (bound 0)) in mono_not_everything known unit mono_unit (subst P e h)

pub unit_is_not_everything : UnitIsNotEverything
unit_is_not_everything known (with_signature (at_rest e (by_lambda h))) = variable_not_everything known h
unit_is_not_everything known (with_signature (at_rest e (by_subtype a (of_lambda s t k m h) (below_arrow p q)))) = mono_not_everything known t m q
