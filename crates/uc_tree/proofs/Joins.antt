-- Parts of a tree before further ones.
use Rattle.std.proofs.Common.{◌≡◌, ℕ, suc, ◌+◌, ◌<◌, ◌≤◌, List, [], ◌∷◌, ◌++◌, length, get_or, drop, Option, Some, None, refl, sym, ap, ◌∙◌, add-one}
use Rattle.std.proofs.Math.Seq.{drop-cons}
use Rattle.std.proofs.lemmas.List.{drop_all}
use Rattle.std.specs.Prelude.{option_map}
use Rattle.uc_tree.specs.declared.term.Case.{Case}
use Rattle.uc_tree.specs.Replacing.{◌>>=◌, Replacement, replaced_pattern, replaced_term, replaced_guard, replaced_case, replaced_cases}
use Rattle.uc_tree.specs.Types.{Ty, Tys}
use Rattle.uc_tree.specs.Types as types
use Rattle.uc_tree.specs.Patterns.{Pattern, Patterns}
use Rattle.uc_tree.specs.Patterns as patterns
use Rattle.uc_tree.specs.Terms.{Term, Terms, Cases}
use Rattle.uc_tree.specs.Terms as terms
use Rattle.uc_tree.specs.TermViews.{case_with, cases_of}

abbrev pub tys_before : List Ty → Tys → Tys
tys_before [] us = us
tys_before (t ∷ ts) us = types.more t (tys_before ts us)

abbrev pub patterns_before : List Pattern → Patterns → Patterns
patterns_before [] qs = qs
patterns_before (p ∷ ps) qs = patterns.more p (patterns_before ps qs)

abbrev pub terms_before : List Term → Terms → Terms
terms_before [] us = us
terms_before (t ∷ ts) us = terms.more t (terms_before ts us)

abbrev pub cases_before : List Case → Cases → Cases
cases_before [] ds = ds
cases_before (c ∷ cs) ds = case_with c.pattern c.guard c.body (cases_before cs ds)

-- a walk over parts that adds one result after the other
module _ {A B S : Type 0} (one : A → Option B) (all : List A → Option S) (more : B → S → S) (before : List B → S → S)
    (split : (x : A) (xs : List A) → all (x ∷ xs) ≡ (one x >>= λ y. all xs >>= λ ys. Some (more y ys)))
    (push : (done : List B) (y : B) (rest : S) → before (done ++ y ∷ []) rest ≡ before done (more y rest)) where
  regroup : (done : List B) (y : B) (rest : Option S) → option_map (before done) (rest >>= λ ys. Some (more y ys)) ≡ option_map (before (done ++ y ∷ [])) rest
  regroup done y None = refl
  regroup done y (Some ys) = ap Some (sym (push done y ys))

  pub goes_on : (done : List B) (xs : List A) (i : ℕ) (x : A) (y : B) (total : Option S) → i < length xs → x ≡ get_or xs i x → one x ≡ Some y
      → option_map (before done) (all (drop i xs)) ≡ total → option_map (before (done ++ y ∷ [])) (all (drop (i + 1) xs)) ≡ total
  goes_on done xs i x y total lt is made so_far =
      let front : drop i xs ≡ x ∷ drop (suc i) xs = rw (drop-cons xs i x) (ap (λ (z : A). z ∷ drop (suc i) xs) (sym is)) in
      let step : all (drop i xs) ≡ (all (drop (suc i) xs) >>= λ ys. Some (more y ys)) =
      ap all front ∙ split x (drop (suc i) xs) ∙ ap (λ (o : Option B). o >>= λ z. all (drop (suc i) xs) >>= λ ys. Some (more z ys)) made in
      rw add-one (sym (regroup done y (all (drop (suc i) xs))) ∙ ap (option_map (before done)) (sym step) ∙ so_far)

  pub stops : (done : List B) (xs : List A) (i : ℕ) (x : A) (total : Option S) → i < length xs → x ≡ get_or xs i x → one x ≡ None
      → option_map (before done) (all (drop i xs)) ≡ total → total ≡ None
  stops done xs i x total lt is made so_far =
      let front : drop i xs ≡ x ∷ drop (suc i) xs = rw (drop-cons xs i x) (ap (λ (z : A). z ∷ drop (suc i) xs) (sym is)) in
      sym so_far ∙ ap (option_map (before done)) (ap all front ∙ split x (drop (suc i) xs) ∙ ap (λ (o : Option B). o >>= λ z. all (drop (suc i) xs) >>= λ ys. Some (more z ys)) made)

  pub ends : (nothing : S) → all [] ≡ Some nothing → (done : List B) (xs : List A) (i : ℕ) (total : Option S) → length xs ≤ i
      → option_map (before done) (all (drop i xs)) ≡ total → total ≡ Some (before done nothing)
  ends nothing none done xs i total le so_far = sym so_far ∙ ap (λ (zs : List A). option_map (before done) (all zs)) (drop_all i xs le) ∙ ap (option_map (before done)) none

pub tys_before-push : (ts : List Ty) (t : Ty) (us : Tys) → tys_before (ts ++ t ∷ []) us ≡ tys_before ts (types.more t us)
tys_before-push [] t us = refl
tys_before-push (u ∷ ts) t us = ap (types.more u) (tys_before-push ts t us)

pub tys_before-none : (ts : List Ty) → tys_before ts types.none ≡ types.tys_of ts
tys_before-none [] = refl
tys_before-none (t ∷ ts) = ap (types.more t) (tys_before-none ts)

pub patterns_before-push : (ps : List Pattern) (p : Pattern) (qs : Patterns) → patterns_before (ps ++ p ∷ []) qs ≡ patterns_before ps (patterns.more p qs)
patterns_before-push [] p qs = refl
patterns_before-push (q ∷ ps) p qs = ap (patterns.more q) (patterns_before-push ps p qs)

pub patterns_before-none : (ps : List Pattern) → patterns_before ps patterns.none ≡ patterns.patterns_of ps
patterns_before-none [] = refl
patterns_before-none (p ∷ ps) = ap (patterns.more p) (patterns_before-none ps)

pub terms_before-push : (ts : List Term) (t : Term) (us : Terms) → terms_before (ts ++ t ∷ []) us ≡ terms_before ts (terms.more t us)
terms_before-push [] t us = refl
terms_before-push (u ∷ ts) t us = ap (terms.more u) (terms_before-push ts t us)

pub terms_before-none : (ts : List Term) → terms_before ts terms.none ≡ terms.terms_of ts
terms_before-none [] = refl
terms_before-none (t ∷ ts) = ap (terms.more t) (terms_before-none ts)

-- a case before others
abbrev pub more_cases : Case → Cases → Cases
more_cases c cs = case_with c.pattern c.guard c.body cs

pub cases_before-push : (cs : List Case) (c : Case) (ds : Cases) → cases_before (cs ++ c ∷ []) ds ≡ cases_before cs (more_cases c ds)
cases_before-push [] c ds = refl
cases_before-push (d ∷ cs) c ds = ap (more_cases d) (cases_before-push cs c ds)

pub cases_before-none : (cs : List Case) → cases_before cs terms.no_case ≡ cases_of cs
cases_before-none [] = refl
cases_before-none (c ∷ cs) = ap (more_cases c) (cases_before-none cs)

plain_case : (p : Option Pattern) (b : Option Term) (cs : Option Cases) →
    (p >>= λ q. b >>= λ d. cs >>= λ ds. Some (terms.case q d ds))
    ≡ ((p >>= λ q. b >>= λ d. Some (record { pattern = q; guard = None; body = d })) >>= λ c. cs >>= λ ds. Some (more_cases c ds))
plain_case None b cs = refl
plain_case (Some p) None cs = refl
plain_case (Some p) (Some b) cs = refl

guarded_case : (p : Option Pattern) (g b : Option Term) (cs : Option Cases) →
    (p >>= λ q. g >>= λ h. b >>= λ d. cs >>= λ ds. Some (terms.guarded q h d ds))
    ≡ ((p >>= λ q. (g >>= λ h. Some (Some h)) >>= λ h. b >>= λ d. Some (record { pattern = q; guard = h; body = d })) >>= λ c. cs >>= λ ds. Some (more_cases c ds))
guarded_case None g b cs = refl
guarded_case (Some p) None b cs = refl
guarded_case (Some p) (Some g) None cs = refl
guarded_case (Some p) (Some g) (Some b) cs = refl

by_guard : (m : Replacement) (p : Pattern) (g : Option Term) (b : Term) (cs : Cases) →
    replaced_cases m (case_with p g b cs)
    ≡ ((replaced_pattern m p >>= λ q. replaced_guard m g >>= λ h. replaced_term m b >>= λ d. Some (record { pattern = q; guard = h; body = d })) >>= λ c. replaced_cases m cs >>= λ ds. Some (more_cases c ds))
by_guard m p None b cs = plain_case (replaced_pattern m p) (replaced_term m b) (replaced_cases m cs)
by_guard m p (Some g) b cs = guarded_case (replaced_pattern m p) (replaced_term m g) (replaced_term m b) (replaced_cases m cs)

pub split_case : (m : Replacement) (c : Case) (cs : List Case) → replaced_cases m (cases_of (c ∷ cs)) ≡ (replaced_case m c >>= λ d. replaced_cases m (cases_of cs) >>= λ ds. Some (more_cases d ds))
split_case m c cs = by_guard m c.pattern c.guard c.body (cases_of cs)
