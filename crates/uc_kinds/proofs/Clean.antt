-- Where there is no flaw.
use Rattle.std.proofs.Common.{◌≡◌, ℕ, List, [], ◌∷◌, ◌++◌, Option, Some, None, Bool, true, false, if◌then◌else◌, ◌==◌, refl, sym, ap, ◌∙◌, eq-eqb}
use Rattle.std.proofs.lemmas.Bool.{eqb-true}
use Rattle.uc_tree.specs.declared.item.Item.{Item}
use Rattle.uc_tree.specs.declared.item.Item.TheVariants as item
use Rattle.uc_tree.specs.Types.{Ty, Tys}
use Rattle.uc_tree.specs.Types as types
use Rattle.uc_tree.specs.Patterns.{Pattern}
use Rattle.uc_tree.specs.Terms.{Term, Terms, Cases}
use Rattle.uc_tree.specs.Terms as terms
use Rattle.uc_tree.specs.Nodes.{Node, pattern_nodes}
use Rattle.std.specs.Prelude.{map}
use Rattle.uc_kinds.specs.declared.position.Position.{Position}
use Rattle.uc_kinds.specs.declared.position.Position.TheVariants.{Outside, Inside}
use Rattle.uc_kinds.specs.declared.flaw.Flaw.{Flaw}
use Rattle.uc_kinds.specs.declared.flaw.Flaw.TheVariants.{WrongArity}
use Rattle.uc_kinds.specs.Flaws.{IsFlawless, ty_flaws, tys_flaws, signature_flaws, pattern_flaws, term_flaws, terms_flaws, cases_flaws, fields_flaws, item_flaws, arity_flaw, quantifier_flaw}
use Rattle.uc_kinds.specs.WellFormed.{Arity, tys_count, MayQuantify, IsWellFormedAt, AreWellFormedAt, IsWellFormedSignature, IsWellFormedTerm, AreWellFormedTerms, AreWellFormedCases, AreWellFormedFields, IsWellFormedItem}

join : (xs ys : List (Option Flaw)) → IsFlawless xs → IsFlawless ys → IsFlawless (xs ++ ys)
join [] ys h k = k
join (None ∷ xs) ys h k = join xs ys h k
join (Some flaw ∷ xs) ys h k = h

left : (xs ys : List (Option Flaw)) → IsFlawless (xs ++ ys) → IsFlawless xs
left [] ys h = tt
left (None ∷ xs) ys h = left xs ys h
left (Some flaw ∷ xs) ys h = h

right : (xs ys : List (Option Flaw)) → IsFlawless (xs ++ ys) → IsFlawless ys
right [] ys h = h
right (None ∷ xs) ys h = right xs ys h
right (Some flaw ∷ xs) ys h = absurd h

before : (flaw : Option Flaw) (flaws : List (Option Flaw)) → flaw ≡ None → IsFlawless flaws → IsFlawless (flaw ∷ flaws)
before None flaws e h = h
before (Some flaw) flaws e h = cc

first : (flaw : Option Flaw) (flaws : List (Option Flaw)) → IsFlawless (flaw ∷ flaws) → flaw ≡ None
first None flaws h = refl
first (Some flaw) flaws h = absurd h

rest : (flaw : Option Flaw) (flaws : List (Option Flaw)) → IsFlawless (flaw ∷ flaws) → IsFlawless flaws
rest None flaws h = h
rest (Some flaw) flaws h = absurd h

arity_fits : (params : Option ℕ) (n : ℕ) → params ≡ Some n → arity_flaw params n ≡ None
arity_fits None n e = cc
arity_fits (Some k) n e = let same : k ≡ n = cc in let test : (k == n) ≡ true = eq-eqb k n same in rw test refl

test_of : (b : Bool) → (if b then None else Some WrongArity) ≡ None → b ≡ true
test_of true h = refl
test_of false h = cc

fits_arity : (params : Option ℕ) (n : ℕ) → arity_flaw params n ≡ None → params ≡ Some n
fits_arity None n e = cc
fits_arity (Some k) n e = ap Some (eqb-true k n (test_of (k == n) e))

may_quantify : (at : Position) → MayQuantify at → quantifier_flaw at ≡ None
may_quantify Outside h = refl
may_quantify Inside h = absurd h

quantifies : (at : Position) → quantifier_flaw at ≡ None → MayQuantify at
quantifies Outside h = tt
quantifies Inside h = cc

mutual
  pub flawless_type : (arity : Arity) (at : Position) (t : Ty) → IsWellFormedAt arity at t → IsFlawless (ty_flaws arity at t)
  flawless_type arity at (types.variable n) w = tt
  flawless_type arity at (types.quantified t) w = before (quantifier_flaw at) (ty_flaws arity at t) (may_quantify at w.0) (flawless_type arity at t w.1)
  flawless_type arity at (types.arrow a b) w = join (ty_flaws arity at a) (ty_flaws arity at b) (flawless_type arity at a w.0) (flawless_type arity at b w.1)
  flawless_type arity at types.unit w = tt
  flawless_type arity at (types.tuple ts) w = flawless_types arity Inside ts w
  flawless_type arity at (types.applied x ts) w = before (arity_flaw (arity x) (tys_count ts)) (tys_flaws arity Inside ts) (arity_fits (arity x) (tys_count ts) w.0) (flawless_types arity Inside ts w.1)

  flawless_types : (arity : Arity) (at : Position) (ts : Tys) → AreWellFormedAt arity at ts → IsFlawless (tys_flaws arity at ts)
  flawless_types arity at types.none w = tt
  flawless_types arity at (types.more t ts) w = join (ty_flaws arity at t) (tys_flaws arity at ts) (flawless_type arity at t w.0) (flawless_types arity at ts w.1)

mutual
  pub well_formed_type : (arity : Arity) (at : Position) (t : Ty) → IsFlawless (ty_flaws arity at t) → IsWellFormedAt arity at t
  well_formed_type arity at (types.variable n) h = tt
  well_formed_type arity at (types.quantified t) h =
      (quantifies at (first (quantifier_flaw at) (ty_flaws arity at t) h), well_formed_type arity at t (rest (quantifier_flaw at) (ty_flaws arity at t) h))
  well_formed_type arity at (types.arrow a b) h =
      (well_formed_type arity at a (left (ty_flaws arity at a) (ty_flaws arity at b) h), well_formed_type arity at b (right (ty_flaws arity at a) (ty_flaws arity at b) h))
  well_formed_type arity at types.unit h = tt
  well_formed_type arity at (types.tuple ts) h = well_formed_types arity Inside ts h
  well_formed_type arity at (types.applied x ts) h = (
    fits_arity (arity x) (tys_count ts) (first (arity_flaw (arity x) (tys_count ts)) (tys_flaws arity Inside ts) h),
    well_formed_types arity Inside ts (rest (arity_flaw (arity x) (tys_count ts)) (tys_flaws arity Inside ts) h),
  )

  well_formed_types : (arity : Arity) (at : Position) (ts : Tys) → IsFlawless (tys_flaws arity at ts) → AreWellFormedAt arity at ts
  well_formed_types arity at types.none h = tt
  well_formed_types arity at (types.more t ts) h =
      (well_formed_type arity at t (left (ty_flaws arity at t) (tys_flaws arity at ts) h), well_formed_types arity at ts (right (ty_flaws arity at t) (tys_flaws arity at ts) h))

flawless_signature : (arity : Arity) (s : Option Ty) → IsWellFormedSignature arity s → IsFlawless (signature_flaws arity s)
flawless_signature arity None w = tt
flawless_signature arity (Some t) w = flawless_type arity Outside t w

well_formed_signature : (arity : Arity) (s : Option Ty) → IsFlawless (signature_flaws arity s) → IsWellFormedSignature arity s
well_formed_signature arity None h = tt
well_formed_signature arity (Some t) h = well_formed_type arity Outside t h

none_of : (nodes : List Node) → IsFlawless (map (λ _. None) nodes)
none_of [] = tt
none_of (n ∷ nodes) = none_of nodes

mutual
  pub flawless_term : (arity : Arity) (t : Term) → IsWellFormedTerm arity t → IsFlawless (term_flaws arity t)
  flawless_term arity (terms.variable n) w = tt
  flawless_term arity (terms.literal l) w = tt
  flawless_term arity terms.unit w = tt
  flawless_term arity (terms.link x) w = tt
  flawless_term arity (terms.lambda t) w = flawless_term arity t w
  flawless_term arity (terms.apply a b) w = join (term_flaws arity a) (term_flaws arity b) (flawless_term arity a w.0) (flawless_term arity b w.1)
  flawless_term arity (terms.annotated t ty) w = join (term_flaws arity t) (ty_flaws arity Outside ty) (flawless_term arity t w.0) (flawless_type arity Outside ty w.1)
  flawless_term arity (terms.tuple ts) w = flawless_terms arity ts w
  flawless_term arity (terms.list ts) w = flawless_terms arity ts w
  flawless_term arity (terms.conditional a b c) w = join (term_flaws arity a ++ term_flaws arity b) (term_flaws arity c) (join (term_flaws arity a) (term_flaws arity b) (flawless_term arity a w.0) (flawless_term arity b w.1)) (flawless_term arity c w.2)
  flawless_term arity (terms.and a b) w = join (term_flaws arity a) (term_flaws arity b) (flawless_term arity a w.0) (flawless_term arity b w.1)
  flawless_term arity (terms.or a b) w = join (term_flaws arity a) (term_flaws arity b) (flawless_term arity a w.0) (flawless_term arity b w.1)
  flawless_term arity (terms.binding s a b) w = join (signature_flaws arity s ++ term_flaws arity a) (term_flaws arity b) (join (signature_flaws arity s) (term_flaws arity a) (flawless_signature arity s w.0) (flawless_term arity a w.1)) (flawless_term arity b w.2)
  flawless_term arity (terms.match t cs) w = join (term_flaws arity t) (cases_flaws arity cs) (flawless_term arity t w.0) (flawless_cases arity cs w.1)

  flawless_terms : (arity : Arity) (ts : Terms) → AreWellFormedTerms arity ts → IsFlawless (terms_flaws arity ts)
  flawless_terms arity terms.none w = tt
  flawless_terms arity (terms.more t ts) w = join (term_flaws arity t) (terms_flaws arity ts) (flawless_term arity t w.0) (flawless_terms arity ts w.1)

  flawless_cases : (arity : Arity) (cs : Cases) → AreWellFormedCases arity cs → IsFlawless (cases_flaws arity cs)
  flawless_cases arity terms.no_case w = tt
  flawless_cases arity (terms.case p b cs) w = join (pattern_flaws p ++ term_flaws arity b) (cases_flaws arity cs) (join (pattern_flaws p) (term_flaws arity b) (none_of (pattern_nodes p)) (flawless_term arity b w.0)) (flawless_cases arity cs w.1)
  flawless_cases arity (terms.guarded p g b cs) w = join (pattern_flaws p ++ term_flaws arity g ++ term_flaws arity b) (cases_flaws arity cs) (join (pattern_flaws p ++ term_flaws arity g) (term_flaws arity b) (join (pattern_flaws p) (term_flaws arity g) (none_of (pattern_nodes p)) (flawless_term arity g w.0)) (flawless_term arity b w.1)) (flawless_cases arity cs w.2)

mutual
  pub well_formed_term : (arity : Arity) (t : Term) → IsFlawless (term_flaws arity t) → IsWellFormedTerm arity t
  well_formed_term arity (terms.variable n) h = tt
  well_formed_term arity (terms.literal l) h = tt
  well_formed_term arity terms.unit h = tt
  well_formed_term arity (terms.link x) h = tt
  well_formed_term arity (terms.lambda t) h = well_formed_term arity t h
  well_formed_term arity (terms.apply a b) h = (well_formed_term arity a (left (term_flaws arity a) (term_flaws arity b) h), well_formed_term arity b (right (term_flaws arity a) (term_flaws arity b) h))
  well_formed_term arity (terms.annotated t ty) h = (well_formed_term arity t (left (term_flaws arity t) (ty_flaws arity Outside ty) h), well_formed_type arity Outside ty (right (term_flaws arity t) (ty_flaws arity Outside ty) h))
  well_formed_term arity (terms.tuple ts) h = well_formed_terms arity ts h
  well_formed_term arity (terms.list ts) h = well_formed_terms arity ts h
  well_formed_term arity (terms.conditional a b c) h = (well_formed_term arity a (left (term_flaws arity a) (term_flaws arity b) (left (term_flaws arity a ++ term_flaws arity b) (term_flaws arity c) h)), well_formed_term arity b (right (term_flaws arity a) (term_flaws arity b) (left (term_flaws arity a ++ term_flaws arity b) (term_flaws arity c) h)), well_formed_term arity c (right (term_flaws arity a ++ term_flaws arity b) (term_flaws arity c) h))
  well_formed_term arity (terms.and a b) h = (well_formed_term arity a (left (term_flaws arity a) (term_flaws arity b) h), well_formed_term arity b (right (term_flaws arity a) (term_flaws arity b) h))
  well_formed_term arity (terms.or a b) h = (well_formed_term arity a (left (term_flaws arity a) (term_flaws arity b) h), well_formed_term arity b (right (term_flaws arity a) (term_flaws arity b) h))
  well_formed_term arity (terms.binding s a b) h = (well_formed_signature arity s (left (signature_flaws arity s) (term_flaws arity a) (left (signature_flaws arity s ++ term_flaws arity a) (term_flaws arity b) h)), well_formed_term arity a (right (signature_flaws arity s) (term_flaws arity a) (left (signature_flaws arity s ++ term_flaws arity a) (term_flaws arity b) h)), well_formed_term arity b (right (signature_flaws arity s ++ term_flaws arity a) (term_flaws arity b) h))
  well_formed_term arity (terms.match t cs) h = (well_formed_term arity t (left (term_flaws arity t) (cases_flaws arity cs) h), well_formed_cases arity cs (right (term_flaws arity t) (cases_flaws arity cs) h))

  well_formed_terms : (arity : Arity) (ts : Terms) → IsFlawless (terms_flaws arity ts) → AreWellFormedTerms arity ts
  well_formed_terms arity terms.none h = tt
  well_formed_terms arity (terms.more t ts) h = (well_formed_term arity t (left (term_flaws arity t) (terms_flaws arity ts) h), well_formed_terms arity ts (right (term_flaws arity t) (terms_flaws arity ts) h))

  well_formed_cases : (arity : Arity) (cs : Cases) → IsFlawless (cases_flaws arity cs) → AreWellFormedCases arity cs
  well_formed_cases arity terms.no_case h = tt
  well_formed_cases arity (terms.case p b cs) h = (well_formed_term arity b (right (pattern_flaws p) (term_flaws arity b) (left (pattern_flaws p ++ term_flaws arity b) (cases_flaws arity cs) h)), well_formed_cases arity cs (right (pattern_flaws p ++ term_flaws arity b) (cases_flaws arity cs) h))
  well_formed_cases arity (terms.guarded p g b cs) h = (well_formed_term arity g (right (pattern_flaws p) (term_flaws arity g) (left (pattern_flaws p ++ term_flaws arity g) (term_flaws arity b) (left (pattern_flaws p ++ term_flaws arity g ++ term_flaws arity b) (cases_flaws arity cs) h))), well_formed_term arity b (right (pattern_flaws p ++ term_flaws arity g) (term_flaws arity b) (left (pattern_flaws p ++ term_flaws arity g ++ term_flaws arity b) (cases_flaws arity cs) h)), well_formed_cases arity cs (right (pattern_flaws p ++ term_flaws arity g ++ term_flaws arity b) (cases_flaws arity cs) h))

flawless_fields : (arity : Arity) (ctors : List Tys) → AreWellFormedFields arity ctors → IsFlawless (fields_flaws arity ctors)
flawless_fields arity [] w = tt
flawless_fields arity (ts ∷ ctors) w = join (tys_flaws arity Outside ts) (fields_flaws arity ctors) (flawless_types arity Outside ts w.0) (flawless_fields arity ctors w.1)

well_formed_fields : (arity : Arity) (ctors : List Tys) → IsFlawless (fields_flaws arity ctors) → AreWellFormedFields arity ctors
well_formed_fields arity [] h = tt
well_formed_fields arity (ts ∷ ctors) h =
    (well_formed_types arity Outside ts (left (tys_flaws arity Outside ts) (fields_flaws arity ctors) h), well_formed_fields arity ctors (right (tys_flaws arity Outside ts) (fields_flaws arity ctors) h))

pub flawless_item : (arity : Arity) (i : Item) → IsWellFormedItem arity i → IsFlawless (item_flaws arity i)
flawless_item arity (item.Term d) w =
    join (signature_flaws arity d.signature) (term_flaws arity d.body) (flawless_signature arity d.signature w.0) (flawless_term arity d.body w.1)
flawless_item arity (item.Kind d) w = flawless_fields arity d.ctors w

pub well_formed_item : (arity : Arity) (i : Item) → IsFlawless (item_flaws arity i) → IsWellFormedItem arity i
well_formed_item arity (item.Term d) h = (
  well_formed_signature arity d.signature (left (signature_flaws arity d.signature) (term_flaws arity d.body) h),
  well_formed_term arity d.body (right (signature_flaws arity d.signature) (term_flaws arity d.body) h),
)
well_formed_item arity (item.Kind d) h = well_formed_fields arity d.ctors h
