-- A scope of 2 ^ 32 variables or more serves like any other such: each variable is a number below that.
use Rattle.std.proofs.Common.{◌≡◌, ℕ, suc, ◌+◌, ◌^◌, ◌<◌, ◌≤◌, Option, Some, None, arith}
use Rattle.uc_tree.specs.Types.{Ty, Tys}
use Rattle.uc_tree.specs.Types as type
use Rattle.uc_tree.specs.Terms.{Term, Terms, Cases, no_case, case, guarded}
use Rattle.uc_tree.specs.Terms as term
use Rattle.uc_tree.specs.Bound.{IsTypeBound, AreTypesBound, IsSignatureBound, IsTermBound, AreTermsBound, AreCasesBound, signature_quantifiers, binder_count}
use Rattle.uc_canon.specs.Bounds.{IsTypeInRange, AreTypesInRange, IsSignatureInRange, IsTermInRange, AreTermsInRange, AreCasesInRange}
use Rattle.uc_canon.specs.Scopes.{with_more}

-- so many variables serve as well as so many others
pub record Serves (v w : ℕ) : Type 0 where
  pub below : v < 2 ^ 32 → w ≡ v
  pub above : 2 ^ 32 ≤ v → 2 ^ 32 ≤ w

pub itself : (v : ℕ) → Serves v v
itself v = record { below = λ lt. omega arith; above = λ le. le }

under_one : (v w : ℕ) → Serves v w → Serves (suc v) (suc w)
under_one v w s = record { below = λ lt. omega (arith, s.below (omega arith)); above = λ le. grind (arith, s.below, s.above) }

under_more : (n v w : ℕ) → Serves v w → Serves (n + v) (n + w)
under_more n v w s = record { below = λ lt. omega (arith, s.below (omega arith)); above = λ le. grind (arith, s.below, s.above) }

pub to_more : (n v : ℕ) → Serves (n + v) (with_more n v)
to_more n v = record { below = λ lt. omega arith; above = λ le. omega arith }

pub from_more : (n v : ℕ) → Serves (with_more n v) (n + v)
from_more n v = record { below = λ lt. omega arith; above = λ le. omega arith }

pub to_one : (v : ℕ) → Serves (suc v) (with_more 1 v)
to_one v = record { below = λ lt. omega arith; above = λ le. omega arith }

pub from_one : (v : ℕ) → Serves (with_more 1 v) (suc v)
from_one v = record { below = λ lt. omega arith; above = λ le. omega arith }

bound_still : (n v w : ℕ) → Serves v w → n < 2 ^ 32 → n < v → n < w
bound_still n v w s small lt = grind (arith, s.below, s.above)

mutual
  pub type_serves : (own k j : ℕ) (t : Ty) → Serves k j → IsTypeInRange own t → IsTypeBound k t → IsTypeBound j t
  type_serves own k j (type.variable n) s r b = bound_still n k j s r b
  type_serves own k j (type.quantified t) s r b = type_serves own (suc k) (suc j) t (under_one k j s) r b
  type_serves own k j (type.arrow a c) s r b = (type_serves own k j a s r.0 b.0, type_serves own k j c s r.1 b.1)
  type_serves own k j type.unit s r b = tt
  type_serves own k j (type.tuple ts) s r b = types_serve own k j ts s r.1 b
  type_serves own k j (type.applied x ts) s r b = types_serve own k j ts s r.2 b

  pub types_serve : (own k j : ℕ) (ts : Tys) → Serves k j → AreTypesInRange own ts → AreTypesBound k ts → AreTypesBound j ts
  types_serve own k j type.none s r b = tt
  types_serve own k j (type.more t ts) s r b = (type_serves own k j t s r.0 b.0, types_serve own k j ts s r.1 b.1)

signature_serves : (k j : ℕ) (t : Option Ty) → Serves k j → IsSignatureInRange t → IsSignatureBound k t → IsSignatureBound j t
signature_serves k j None s r b = tt
signature_serves k j (Some t) s r b = type_serves 0 k j t s r b

mutual
  pub term_serves : (own k j v w : ℕ) (t : Term) → Serves k j → Serves v w → IsTermInRange own t → IsTermBound k v t → IsTermBound j w t
  term_serves own k j v w (term.variable n) p s r b = bound_still n v w s r b
  term_serves own k j v w (term.literal l) p s r b = tt
  term_serves own k j v w term.unit p s r b = tt
  term_serves own k j v w (term.link x) p s r b = tt
  term_serves own k j v w (term.lambda t) p s r b = term_serves own k j (suc v) (suc w) t p (under_one v w s) r b
  term_serves own k j v w (term.apply a c) p s r b = (term_serves own k j v w a p s r.0 b.0, term_serves own k j v w c p s r.1 b.1)
  term_serves own k j v w (term.annotated t ty) p s r b = (term_serves own k j v w t p s r.0 b.0, type_serves 0 k j ty p r.1 b.1)
  term_serves own k j v w (term.tuple ts) p s r b = terms_serve own k j v w ts p s r.1 b
  term_serves own k j v w (term.list ts) p s r b = terms_serve own k j v w ts p s r.1 b
  term_serves own k j v w (term.conditional a c d) p s r b =
      (term_serves own k j v w a p s r.0 b.0, term_serves own k j v w c p s r.1 b.1, term_serves own k j v w d p s r.2 b.2)
  term_serves own k j v w (term.and a c) p s r b = (term_serves own k j v w a p s r.0 b.0, term_serves own k j v w c p s r.1 b.1)
  term_serves own k j v w (term.or a c) p s r b = (term_serves own k j v w a p s r.0 b.0, term_serves own k j v w c p s r.1 b.1)
  term_serves own k j v w (term.binding t a c) p s r b =
      let q = signature_quantifiers t in
      (signature_serves k j t p r.0 b.0, term_serves own (q + k) (q + j) (suc v) (suc w) a (under_more q k j p) (under_one v w s) r.1 b.1, term_serves own k j (suc v) (suc w) c p (under_one v w s) r.2 b.2)
  term_serves own k j v w (term.match t cs) p s r b = (term_serves own k j v w t p s r.0 b.0, cases_serve own k j v w cs p s r.2 b.1)

  pub terms_serve : (own k j v w : ℕ) (ts : Terms) → Serves k j → Serves v w → AreTermsInRange own ts → AreTermsBound k v ts → AreTermsBound j w ts
  terms_serve own k j v w term.none p s r b = tt
  terms_serve own k j v w (term.more t ts) p s r b = (term_serves own k j v w t p s r.0 b.0, terms_serve own k j v w ts p s r.1 b.1)

  pub cases_serve : (own k j v w : ℕ) (cs : Cases) → Serves k j → Serves v w → AreCasesInRange own cs → AreCasesBound k v cs → AreCasesBound j w cs
  cases_serve own k j v w no_case p s r b = tt
  cases_serve own k j v w (case q c cs) p s r b =
      let n = binder_count q in
      (term_serves own k j (n + v) (n + w) c p (under_more n v w s) r.1 b.0, cases_serve own k j v w cs p s r.2 b.1)
  cases_serve own k j v w (guarded q g c cs) p s r b =
      let n = binder_count q in
      let u = under_more n v w s in
      (term_serves own k j (n + v) (n + w) g p u r.1 b.0, term_serves own k j (n + v) (n + w) c p u r.2 b.1, cases_serve own k j v w cs p s r.3 b.2)
