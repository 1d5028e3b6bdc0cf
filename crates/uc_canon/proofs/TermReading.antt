-- A term that is read is spelled so, and a term that is spelled is read.
use Rattle.std.proofs.Common.{◌≡◌, ℕ, zero, suc, ◌+◌, ◌^◌, ◌<◌, ◌≤◌, true, false, cond, ltb, List, [], ◌∷◌, ◌++◌, length, Option, Some, None, IfSome, refl, sym, ap, subst, ◌∙◌, append_assoc, arith, lit<}
use Rattle.std.proofs.lemmas.Bool.{lt-ltb, ltb-true}
use Rattle.std.specs.List.{AllByRecursion}
use Rattle.uc_base.specs.declared.reference.Ref.TheVariants.{Def, Ctor, Builtin}
use Rattle.uc_tree.specs.declared.target.Target.{Target}
use Rattle.uc_tree.specs.declared.target.Target.TheVariants.{Stored, Own, OwnCtor}
use Rattle.uc_tree.specs.declared.literal.Literal.{Literal}
use Rattle.uc_tree.specs.declared.literal.Literal.TheVariants as lit
use Rattle.uc_tree.specs.declared.term.Case.{Case}
use Rattle.uc_tree.specs.Patterns.{Pattern}
use Rattle.uc_tree.specs.Terms.{Term, variable, literal, unit, link, lambda, apply, annotated, tuple, list, conditional, and, or, binding, match, Terms, none, more, Cases, no_case, case, guarded, terms_of}
use Rattle.uc_tree.specs.TermViews.{case_with, cases_of}
use Rattle.uc_tree.specs.Bound.{IsTermBound, AreTermsBound, AreCasesBound, signature_quantifiers, binder_count}
use Rattle.uc_tree.specs.Counts.{term_levels, terms_levels, cases_levels, guard_levels}
use Rattle.uc_canon.specs.declared.scope.TermScope.{TermScope}
use Rattle.uc_canon.specs.Bounds.{IsCount, IsLiteralInRange, IsLink, IsTermInRange, AreTermsInRange, AreCasesInRange}
use Rattle.uc_canon.specs.Scopes.{with_more, types_scope, binders_scope, signature_scope}
use Rattle.uc_canon.specs.Spelling.{number_text, type_text, signature_text, literal_text, pattern_text, link_text, terms_count, cases_count, term_text, terms_text, cases_text, counted_terms, counted_cases, case_text}
use Rattle.uc_canon.specs.Reading.{Read, ◌>>=◌, number_at, counted_at, literal_by}
use Rattle.uc_canon.specs.ReadingTypes.{constructor_at, member_at, type_at, signature_at}
use Rattle.uc_canon.specs.ReadingPatterns.{pattern_at}
use Rattle.uc_canon.specs.ReadingTerms.{term_variable_at, reference_at, reference_link_at, constructor_link_at, member_link_at, literal_term_at, lambda_at, two_at, apply_at, and_at, or_at, annotated_at, tuple_term_at, list_term_at, conditional_at, binding_at, guard_at, case_at, match_at, term_by, term_at}
use Rattle.uc_canon.proofs.Counts.{terms_count-terms_of, cases_count-cases_of, cases_text_with}
use Rattle.uc_canon.proofs.PatternReading.{PatternFits, pattern_takes, pattern_again}
use Rattle.uc_canon.proofs.ReadLiterals.{literal_takes, literal_again}
use Rattle.uc_canon.proofs.ReadLists.{Parts, parts_take, parts_again}
use Rattle.uc_canon.proofs.ReadNumbers.{last_u32, number_takes, number_again}
use Rattle.uc_canon.proofs.ReadSteps.{passed, bound, some_is, chosen, Takes, answered, by_first, joined, joined_three, laid}
use Rattle.uc_canon.proofs.ScopeSteps.{itself, to_one, from_one, to_more, from_more, term_serves}
use Rattle.uc_canon.proofs.TypeReading.{type_takes, type_again, signature_takes, signature_again, signature_range, range_signature, builtin_takes, builtin_again, stored_takes, stored_again, constructor_takes, constructor_again, member_takes, member_again}

-- ---- what fits

-- a term is in bounds in a scope, of at most so many levels
pub record TermFits (s : TermScope) (d : ℕ) (t : Term) : Type 0 where
  pub range : IsTermInRange s.members t
  pub bound : IsTermBound s.type_variables s.variables t
  pub levels : term_levels t ≤ d

pub record TermsFit (s : TermScope) (d : ℕ) (ts : Terms) : Type 0 where
  pub range : AreTermsInRange s.members ts
  pub bound : AreTermsBound s.type_variables s.variables ts
  pub levels : terms_levels ts ≤ d

pub record GuardFits (s : TermScope) (d : ℕ) (g : Option Term) : Type 0 where
  pub range : IfSome g (IsTermInRange s.members)
  pub bound : IfSome g (IsTermBound s.type_variables s.variables)
  pub levels : guard_levels g ≤ d

-- guard and body stand under the variables of the pattern
pub record CaseFits (s : TermScope) (d : ℕ) (c : Case) : Type 0 where
  pub pattern : PatternFits d c.pattern
  pub guard : GuardFits (binders_scope (binder_count c.pattern) s) d c.guard
  pub body : TermFits (binders_scope (binder_count c.pattern) s) d c.body

pub record CasesFit (s : TermScope) (d : ℕ) (cs : Cases) : Type 0 where
  pub range : AreCasesInRange s.members cs
  pub bound : AreCasesBound s.type_variables s.variables cs
  pub levels : cases_levels cs ≤ d

-- ---- terms and cases as lists and as trees

pub list_of : Terms → List Term
list_of none = []
list_of (more t ts) = t ∷ list_of ts

terms_of-list_of : (ts : Terms) → terms_of (list_of ts) ≡ ts
unfolding list_of
terms_of-list_of none = refl
terms_of-list_of (more t ts) = ap (more t) (terms_of-list_of ts)

laid_terms : (ts : List Term) → laid term_text ts ≡ terms_text (terms_of ts)
laid_terms [] = refl
laid_terms (t ∷ ts) = ap (λ (l : List ℕ). term_text t ++ l) (laid_terms ts)

counted_is : (ts : List Term) → number_text (length ts) ++ laid term_text ts ≡ counted_terms (terms_of ts)
counted_is ts = rw (terms_count-terms_of ts, laid_terms ts) refl

terms_from : (s : TermScope) (d : ℕ) (ts : List Term) → AllByRecursion (TermFits s d) ts → TermsFit s d (terms_of ts)
terms_from s d [] all = record { range = tt; bound = tt; levels = omega arith }
terms_from s d (t ∷ ts) all =
    let r = terms_from s d ts all.1 in
    record { range = (all.0.range, r.range); bound = (all.0.bound, r.bound); levels = omega (arith, all.0.levels, r.levels) }

terms_to : (s : TermScope) (d : ℕ) (ts : Terms) → TermsFit s d ts → AllByRecursion (TermFits s d) (list_of ts)
unfolding list_of
terms_to s d none fit = tt
terms_to s d (more t ts) fit = (
  record { range = fit.range.0; bound = fit.bound.0; levels = omega (arith, fit.levels) },
  terms_to s d ts (record { range = fit.range.1; bound = fit.bound.1; levels = omega (arith, fit.levels) }),
)

-- what was read after a number of parts
abbrev TermParts : TermScope → ℕ → ℕ → List ℕ → List Term × List ℕ → Type 0
TermParts s d = Parts term_text (TermFits s d) terms_of (TermsFit s d) terms_count counted_terms terms_count-terms_of counted_is

pub cases_list : Cases → List Case
cases_list no_case = []
cases_list (case p b cs) = record { pattern = p; guard = None; body = b } ∷ cases_list cs
cases_list (guarded p g b cs) = record { pattern = p; guard = Some g; body = b } ∷ cases_list cs

cases_of-cases_list : (cs : Cases) → cases_of (cases_list cs) ≡ cs
unfolding cases_list
cases_of-cases_list no_case = refl
cases_of-cases_list (case p b cs) = ap (case p b) (cases_of-cases_list cs)
cases_of-cases_list (guarded p g b cs) = ap (guarded p g b) (cases_of-cases_list cs)

abbrev text_of_case : Case → List ℕ
text_of_case c = case_text c.pattern c.guard c.body

laid_cases : (cs : List Case) → laid text_of_case cs ≡ cases_text (cases_of cs)
laid_cases [] = refl
laid_cases (c ∷ cs) = ap (λ (l : List ℕ). text_of_case c ++ l) (laid_cases cs) ∙ sym (cases_text_with c.pattern c.guard c.body (cases_of cs))

counted_cases_is : (cs : List Case) → number_text (length cs) ++ laid text_of_case cs ≡ counted_cases (cases_of cs)
counted_cases_is cs = rw (cases_count-cases_of cs, laid_cases cs) refl

-- what was read after a number of cases
abbrev CaseParts : TermScope → ℕ → ℕ → List ℕ → List Case × List ℕ → Type 0
CaseParts s d = Parts text_of_case (CaseFits s d) cases_of (CasesFit s d) cases_count counted_cases cases_count-cases_of counted_cases_is

-- a term fits in a scope of so many more variables
more_from : (s : TermScope) (d n : ℕ) (t : Term) → TermFits (binders_scope n s) d t → IsTermBound s.type_variables (n + s.variables) t
more_from s d n t fits =
    term_serves s.members s.type_variables s.type_variables (with_more n s.variables) (n + s.variables) t (itself s.type_variables) (from_more n s.variables) fits.range fits.bound

more_to : (s : TermScope) (d n : ℕ) (t : Term) → IsTermInRange s.members t → IsTermBound s.type_variables (n + s.variables) t → term_levels t ≤ d → TermFits (binders_scope n s) d t
more_to s d n t range bound levels = record {
  range = range;
  bound = term_serves s.members s.type_variables s.type_variables (n + s.variables) (with_more n s.variables) t (itself s.type_variables) (to_more n s.variables) range bound;
  levels = levels;
}

cases_with : (s : TermScope) (d : ℕ) (p : Pattern) (g : Option Term) (b : Term) (cs : Cases) → CaseFits s d (record { pattern = p; guard = g; body = b }) → CasesFit s d cs → CasesFit s d (case_with p g b cs)
cases_with s d p None b cs one all =
    let n = binder_count p in
    record {
      range = (one.pattern.range, one.body.range, all.range);
      bound = (more_from s d n b one.body, all.bound);
      levels = omega (arith, one.pattern.levels, one.body.levels, all.levels);
    }
cases_with s d p (Some g) b cs one all =
    let n = binder_count p in
    let guard : TermFits (binders_scope n s) d g = record { range = one.guard.range; bound = one.guard.bound; levels = one.guard.levels } in
    record {
      range = (one.pattern.range, one.guard.range, one.body.range, all.range);
      bound = (more_from s d n g guard, more_from s d n b one.body, all.bound);
      levels = omega (arith, one.pattern.levels, one.guard.levels, one.body.levels, all.levels);
    }

cases_from : (s : TermScope) (d : ℕ) (cs : List Case) → AllByRecursion (CaseFits s d) cs → CasesFit s d (cases_of cs)
cases_from s d [] all = record { range = tt; bound = tt; levels = omega arith }
cases_from s d (c ∷ cs) all = cases_with s d c.pattern c.guard c.body (cases_of cs) all.0 (cases_from s d cs all.1)

cases_to : (s : TermScope) (d : ℕ) (cs : Cases) → CasesFit s d cs → AllByRecursion (CaseFits s d) (cases_list cs)
unfolding cases_list
cases_to s d no_case fit = tt
cases_to s d (case p b cs) fit =
    let one : CaseFits s d (record { pattern = p; guard = None; body = b }) = record {
      pattern = record { range = fit.range.0; levels = omega (arith, fit.levels) };
      guard = record { range = tt; bound = tt; levels = omega arith };
      body = more_to s d (binder_count p) b fit.range.1 fit.bound.0 (omega (arith, fit.levels));
    } in
    (one, cases_to s d cs (record { range = fit.range.2; bound = fit.bound.1; levels = omega (arith, fit.levels) }))
cases_to s d (guarded p g b cs) fit =
    let guard = more_to s d (binder_count p) g fit.range.1 fit.bound.0 (omega (arith, fit.levels)) in
    let one : CaseFits s d (record { pattern = p; guard = Some g; body = b }) = record {
      pattern = record { range = fit.range.0; levels = omega (arith, fit.levels) };
      guard = record { range = guard.range; bound = guard.bound; levels = guard.levels };
      body = more_to s d (binder_count p) b fit.range.2 fit.bound.1 (omega (arith, fit.levels));
    } in
    (one, cases_to s d cs (record { range = fit.range.3; bound = fit.bound.2; levels = omega (arith, fit.levels) }))

some_levels : (t : Term) → 1 ≤ term_levels t
some_levels (variable n) = omega arith
some_levels (literal l) = omega arith
some_levels unit = omega arith
some_levels (link x) = omega arith
some_levels (lambda t) = omega arith
some_levels (apply a b) = omega arith
some_levels (annotated t ty) = omega arith
some_levels (tuple ts) = omega arith
some_levels (list ts) = omega arith
some_levels (conditional a b c) = omega arith
some_levels (and a b) = omega arith
some_levels (or a b) = omega arith
some_levels (binding t a b) = omega arith
some_levels (match t cs) = omega arith

-- ---- links, variables and literals

abbrev Taken : TermScope → ℕ → List ℕ → Term × List ℕ → Type 0
Taken s d bytes x = Takes term_text (TermFits s d) bytes x

variable_takes : (s : TermScope) (d : ℕ) (rest : List ℕ) (x : Term × List ℕ) → term_variable_at s rest ≡ Some x → Taken s (suc d) (118 ∷ rest) x
unfolding term_variable_at
variable_takes s d rest x e =
    let a = bound (number_at last_u32 rest) (λ n. cond (ltb n.0 s.variables) (Some (variable n.0, n.1)) None) x e in
    let n = number_takes last_u32 rest a.0 (lit< tt) a.1 in
    let g = passed (ltb a.0.0 s.variables) (Some (variable a.0.0, a.0.1)) x a.2 in
    answered term_text (TermFits s (suc d)) (118 ∷ rest) (variable a.0.0, a.0.1) x g.1
    (record { parts = ap (λ (l : List ℕ). 118 ∷ l) n.parts; fits = record { range = omega (arith, n.fits); bound = ltb-true _ _ g.0; levels = omega arith } })

-- a link whose target was read behind a first byte
abbrev Linked : TermScope → ℕ → List ℕ → Target × List ℕ → Type 0
Linked s k rest y = Takes link_text (IsLink s.members) (k ∷ rest) y

reference_takes : (s : TermScope) (rest : List ℕ) (y : Target × List ℕ) → reference_at rest ≡ Some y → Linked s 114 rest y
unfolding reference_at
reference_takes s [] y e = absurd cc
reference_takes s (c ∷ rest) y e =
    chosen c 98 _ _ y e (λ is e. subst (λ (k : ℕ). Linked s 114 (k ∷ rest) y) (sym is) (builtin_takes (Linked s 114 (98 ∷ rest)) rest y e
    (λ n after small parts. record { parts = ap (λ (l : List ℕ). 114 ∷ 98 ∷ l) parts; fits = small })))
    (λ e. chosen c 104 _ _ y e (λ is e. subst (λ (k : ℕ). Linked s 114 (k ∷ rest) y) (sym is) (stored_takes (Linked s 114 (104 ∷ rest)) rest y e
    (λ hash n after is small parts. record { parts = ap (λ (l : List ℕ). 114 ∷ 104 ∷ l) parts; fits = (is, small) })))
    (λ e. absurd cc))

linked : (s : TermScope) (d : ℕ) (bytes : List ℕ) (y : Target × List ℕ) (x : Term × List ℕ) → ◌≡◌ {A = Option (Term × List ℕ)} (Some (link y.0, y.1)) (Some x) → Takes link_text (IsLink s.members) bytes y → Taken s (suc d) bytes x
linked s d bytes y x e t = answered term_text (TermFits s (suc d)) bytes (link y.0, y.1) x e (record { parts = t.parts; fits = record { range = t.fits; bound = tt; levels = omega arith } })

reference_link_takes : (s : TermScope) (d : ℕ) (rest : List ℕ) (x : Term × List ℕ) → reference_link_at rest ≡ Some x → Taken s (suc d) (114 ∷ rest) x
unfolding reference_link_at
reference_link_takes s d rest x e =
    let a = bound (reference_at rest) (λ y. Some (link y.0, y.1)) x e in
    linked s d (114 ∷ rest) a.0 x a.2 (reference_takes s rest a.0 a.1)

constructor_link_takes : (s : TermScope) (d : ℕ) (rest : List ℕ) (x : Term × List ℕ) → constructor_link_at rest ≡ Some x → Taken s (suc d) (107 ∷ rest) x
unfolding constructor_link_at
constructor_link_takes s d rest x e =
    let a = bound (constructor_at rest) (λ y. Some (link y.0, y.1)) x e in
    linked s d (107 ∷ rest) a.0 x a.2 (constructor_takes (Linked s 107 rest) rest a.0 a.1
    (λ hash n c after is small few parts. record { parts = ap (λ (l : List ℕ). 107 ∷ l) parts; fits = (is, small, few) }))

member_link_takes : (s : TermScope) (d : ℕ) (rest : List ℕ) (x : Term × List ℕ) → member_link_at s.members rest ≡ Some x → Taken s (suc d) (109 ∷ rest) x
unfolding member_link_at
member_link_takes s d rest x e =
    let a = bound (member_at s.members rest) (λ y. Some (link y.0, y.1)) x e in
    linked s d (109 ∷ rest) a.0 x a.2 (member_takes (Linked s 109 rest) s.members rest a.0 a.1
    (λ n after lt parts. record { parts = ap (λ (l : List ℕ). 109 ∷ l) parts; fits = lt }))

literal_term_takes : (s : TermScope) (d c : ℕ) (rest : List ℕ) (x : Term × List ℕ) → literal_term_at c rest ≡ Some x → Taken s (suc d) (c ∷ rest) x
unfolding literal_term_at
literal_term_takes s d c rest x e =
    let a = bound (literal_by c rest) (λ l. Some (literal l.0, l.1)) x e in
    let l = literal_takes c rest a.0 a.1 in
    answered term_text (TermFits s (suc d)) (c ∷ rest) (literal a.0.0, a.0.1) x a.2
    (record { parts = l.parts; fits = record { range = l.fits; bound = tt; levels = omega arith } })

-- ---- what is read is spelled so

-- the text of a guard
abbrev guard_text : Option Term → List ℕ
guard_text None = 45 ∷ []
guard_text (Some t) = 124 ∷ term_text t

case_text_is : (p : Pattern) (g : Option Term) (b : Term) → pattern_text p ++ (guard_text g ++ term_text b) ≡ case_text p g b
case_text_is p None b = refl
case_text_is p (Some g) b = refl

module _ (next : TermScope → List ℕ → Read Term) (d : ℕ) (take_one : (s : TermScope) (bytes : List ℕ) (x : Term × List ℕ) → next s bytes ≡ Some x → Taken s d bytes x) where
  module _ (s : TermScope) where
    terms_take : (least : ℕ) (bytes : List ℕ) (x : List Term × List ℕ) → counted_at (next s) least bytes ≡ Some x → TermParts s d least bytes x
    terms_take = parts_take term_text (TermFits s d) terms_of (TermsFit s d) terms_count counted_terms terms_count-terms_of counted_is (next s) (terms_from s d) (take_one s)

    lambda_takes : (rest : List ℕ) (x : Term × List ℕ) → lambda_at d next s rest ≡ Some x → Taken s (suc d) (108 ∷ rest) x
    unfolding lambda_at
    lambda_takes rest x e =
        let a = bound (next (binders_scope 1 s) rest) (λ t. Some (lambda t.0, t.1)) x e in
        let t = take_one (binders_scope 1 s) rest a.0 a.1 in
        let all = term_serves s.members s.type_variables s.type_variables (with_more 1 s.variables) (suc s.variables) a.0.0 (itself s.type_variables) (from_one s.variables) t.fits.range t.fits.bound in
        answered term_text (TermFits s (suc d)) (108 ∷ rest) (lambda a.0.0, a.0.1) x a.2
        (record { parts = ap (λ (l : List ℕ). 108 ∷ l) t.parts; fits = record { range = t.fits.range; bound = all; levels = omega (arith, t.fits.levels) } })

    -- two terms, one after the other
    record Two (bytes : List ℕ) (x : Term × Term × List ℕ) : Type 0 where
      parts : bytes ≡ (term_text x.0 ++ term_text x.1) ++ x.2
      left : TermFits s d x.0
      right : TermFits s d x.1

    two_take : (bytes : List ℕ) (x : Term × Term × List ℕ) → two_at d next s bytes ≡ Some x → Two bytes x
    unfolding two_at
    two_take bytes x e =
        let a = bound (next s bytes) (λ t. next s t.1 >>= λ u. Some (t.0, u.0, u.1)) x e in
        let b = bound (next s a.0.1) (λ u. Some (a.0.0, u.0, u.1)) x a.2 in
        let t = take_one s bytes a.0 a.1 in
        let u = take_one s a.0.1 b.0 b.1 in
        subst (λ (y : Term × Term × List ℕ). Two bytes y) (some_is (a.0.0, b.0.0, b.0.1) x b.2)
        (record { parts = joined bytes (term_text a.0.0) a.0.1 (term_text b.0.0) b.0.1 t.parts u.parts; left = t.fits; right = u.fits })

    apply_takes : (rest : List ℕ) (x : Term × List ℕ) → apply_at d next s rest ≡ Some x → Taken s (suc d) (97 ∷ rest) x
    unfolding apply_at
    apply_takes rest x e =
        let a = bound (two_at d next s rest) (λ ab. Some (apply ab.0 ab.1, ab.2)) x e in
        let ab = two_take rest a.0 a.1 in
        answered term_text (TermFits s (suc d)) (97 ∷ rest) (apply a.0.0 a.0.1, a.0.2) x a.2
        (record {
          parts = ap (λ (l : List ℕ). 97 ∷ l) ab.parts;
          fits = record { range = (ab.left.range, ab.right.range); bound = (ab.left.bound, ab.right.bound); levels = omega (arith, ab.left.levels, ab.right.levels) };
        })

    and_takes : (rest : List ℕ) (x : Term × List ℕ) → and_at d next s rest ≡ Some x → Taken s (suc d) (119 ∷ rest) x
    unfolding and_at
    and_takes rest x e =
        let a = bound (two_at d next s rest) (λ ab. Some (and ab.0 ab.1, ab.2)) x e in
        let ab = two_take rest a.0 a.1 in
        answered term_text (TermFits s (suc d)) (119 ∷ rest) (and a.0.0 a.0.1, a.0.2) x a.2
        (record {
          parts = ap (λ (l : List ℕ). 119 ∷ l) ab.parts;
          fits = record { range = (ab.left.range, ab.right.range); bound = (ab.left.bound, ab.right.bound); levels = omega (arith, ab.left.levels, ab.right.levels) };
        })

    or_takes : (rest : List ℕ) (x : Term × List ℕ) → or_at d next s rest ≡ Some x → Taken s (suc d) (111 ∷ rest) x
    unfolding or_at
    or_takes rest x e =
        let a = bound (two_at d next s rest) (λ ab. Some (or ab.0 ab.1, ab.2)) x e in
        let ab = two_take rest a.0 a.1 in
        answered term_text (TermFits s (suc d)) (111 ∷ rest) (or a.0.0 a.0.1, a.0.2) x a.2
        (record {
          parts = ap (λ (l : List ℕ). 111 ∷ l) ab.parts;
          fits = record { range = (ab.left.range, ab.right.range); bound = (ab.left.bound, ab.right.bound); levels = omega (arith, ab.left.levels, ab.right.levels) };
        })

    annotated_takes : (rest : List ℕ) (x : Term × List ℕ) → annotated_at d next s rest ≡ Some x → Taken s (suc d) (115 ∷ rest) x
    unfolding annotated_at
    annotated_takes rest x e =
        let a = bound (next s rest) (λ t. type_at d (types_scope s) t.1 >>= λ ty. Some (annotated t.0 ty.0, ty.1)) x e in
        let b = bound (type_at d (types_scope s) a.0.1) (λ ty. Some (annotated a.0.0 ty.0, ty.1)) x a.2 in
        let t = take_one s rest a.0 a.1 in
        let ty = type_takes d (types_scope s) a.0.1 b.0 b.1 in
        answered term_text (TermFits s (suc d)) (115 ∷ rest) (annotated a.0.0 b.0.0, b.0.1) x b.2
        (record {
          parts = ap (λ (l : List ℕ). 115 ∷ l) (joined rest (term_text a.0.0) a.0.1 (type_text b.0.0) b.0.1 t.parts ty.parts);
          fits = record { range = (t.fits.range, ty.fits.range); bound = (t.fits.bound, ty.fits.bound); levels = omega (arith, t.fits.levels, ty.fits.levels) };
        })

    tuple_takes : (rest : List ℕ) (x : Term × List ℕ) → tuple_term_at d next s rest ≡ Some x → Taken s (suc d) (112 ∷ rest) x
    unfolding tuple_term_at
    tuple_takes rest x e =
        let a = bound (counted_at (next s) 2 rest) (λ ts. Some (tuple (terms_of ts.0), ts.1)) x e in
        let ts = terms_take 2 rest a.0 a.1 in
        answered term_text (TermFits s (suc d)) (112 ∷ rest) (tuple (terms_of a.0.0), a.0.1) x a.2
        (record { parts = ap (λ (l : List ℕ). 112 ∷ l) ts.parts; fits = record { range = (ts.count, ts.fit.range); bound = ts.fit.bound; levels = omega (arith, ts.fit.levels) } })

    list_takes : (rest : List ℕ) (x : Term × List ℕ) → list_term_at d next s rest ≡ Some x → Taken s (suc d) (103 ∷ rest) x
    unfolding list_term_at
    list_takes rest x e =
        let a = bound (counted_at (next s) 0 rest) (λ ts. Some (list (terms_of ts.0), ts.1)) x e in
        let ts = terms_take 0 rest a.0 a.1 in
        answered term_text (TermFits s (suc d)) (103 ∷ rest) (list (terms_of a.0.0), a.0.1) x a.2
        (record { parts = ap (λ (l : List ℕ). 103 ∷ l) ts.parts; fits = record { range = (ts.count, ts.fit.range); bound = ts.fit.bound; levels = omega (arith, ts.fit.levels) } })

    conditional_takes : (rest : List ℕ) (x : Term × List ℕ) → conditional_at d next s rest ≡ Some x → Taken s (suc d) (102 ∷ rest) x
    unfolding conditional_at
    conditional_takes rest x e =
        let a = bound (next s rest) (λ c. two_at d next s c.1 >>= λ ab. Some (conditional c.0 ab.0 ab.1, ab.2)) x e in
        let b = bound (two_at d next s a.0.1) (λ ab. Some (conditional a.0.0 ab.0 ab.1, ab.2)) x a.2 in
        let c = take_one s rest a.0 a.1 in
        let ab = two_take a.0.1 b.0 b.1 in
        answered term_text (TermFits s (suc d)) (102 ∷ rest) (conditional a.0.0 b.0.0 b.0.1, b.0.2) x b.2
        (record {
          parts = ap (λ (l : List ℕ). 102 ∷ l) (joined rest (term_text a.0.0) a.0.1 (term_text b.0.0 ++ term_text b.0.1) b.0.2 c.parts ab.parts);
          fits = record {
            range = (c.fits.range, ab.left.range, ab.right.range);
            bound = (c.fits.bound, ab.left.bound, ab.right.bound);
            levels = omega (arith, c.fits.levels, ab.left.levels, ab.right.levels);
          };
        })

    binding_takes : (rest : List ℕ) (x : Term × List ℕ) → binding_at d next s rest ≡ Some x → Taken s (suc d) (100 ∷ rest) x
    unfolding binding_at
    binding_takes rest x e =
        let k = s.type_variables in
        let v = s.variables in
        let a = bound (signature_at d (types_scope s) rest) (λ t. next (binders_scope 1 (signature_scope t.0 s)) t.1 >>= λ u. next (binders_scope 1 s) u.1 >>= λ w. Some (binding t.0 u.0 w.0, w.1)) x e in
        let q = signature_quantifiers a.0.0 in
        let b = bound (next (binders_scope 1 (signature_scope a.0.0 s)) a.0.1) (λ u. next (binders_scope 1 s) u.1 >>= λ w. Some (binding a.0.0 u.0 w.0, w.1)) x a.2 in
        let c = bound (next (binders_scope 1 s) b.0.1) (λ w. Some (binding a.0.0 b.0.0 w.0, w.1)) x b.2 in
        let t = signature_takes d (types_scope s) rest a.0 a.1 in
        let u = take_one (binders_scope 1 (signature_scope a.0.0 s)) a.0.1 b.0 b.1 in
        let w = take_one (binders_scope 1 s) b.0.1 c.0 c.1 in
        let value = term_serves s.members (with_more q k) (q + k) (with_more 1 v) (suc v) b.0.0 (from_more q k) (from_one v) u.fits.range u.fits.bound in
        let body = term_serves s.members k k (with_more 1 v) (suc v) c.0.0 (itself k) (from_one v) w.fits.range w.fits.bound in
        answered term_text (TermFits s (suc d)) (100 ∷ rest) (binding a.0.0 b.0.0 c.0.0, c.0.1) x c.2
        (record {
          parts = ap (λ (l : List ℕ). 100 ∷ l) (joined_three rest (signature_text a.0.0) a.0.1 (term_text b.0.0) b.0.1 (term_text c.0.0) c.0.1 t.parts u.parts w.parts);
          fits = record {
            range = (signature_range a.0.0 t.fits.range, u.fits.range, w.fits.range);
            bound = (t.fits.bound, value, body);
            levels = omega (arith, t.fits.levels, u.fits.levels, w.fits.levels);
          };
        })

    guard_takes : (bytes : List ℕ) (x : Option Term × List ℕ) → guard_at d next s bytes ≡ Some x → Takes guard_text (GuardFits s d) bytes x
    unfolding guard_at
    guard_takes [] x e = absurd cc
    guard_takes (c ∷ rest) x e =
        let text = guard_text in
        let P = GuardFits s d in
        by_first text P c 45 rest x _ _ e (λ e. answered text P (45 ∷ rest) (None, rest) x e (record { parts = refl; fits = record { range = tt; bound = tt; levels = omega arith } }))
        (λ e. by_first text P c 124 rest x _ _ e (λ e.
        let a = bound (next s rest) (λ t. Some (Some t.0, t.1)) x e in
        let t = take_one s rest a.0 a.1 in
        answered text P (124 ∷ rest) (Some a.0.0, a.0.1) x a.2 (record { parts = ap (λ (l : List ℕ). 124 ∷ l) t.parts; fits = record { range = t.fits.range; bound = t.fits.bound; levels = t.fits.levels } }))
        (λ e. absurd cc))

  module _ (s : TermScope) where
    case_takes : (bytes : List ℕ) (x : Case × List ℕ) → case_at d next s bytes ≡ Some x → Takes text_of_case (CaseFits s d) bytes x
    unfolding case_at
    case_takes bytes x e =
        let a = bound (pattern_at d bytes) (λ p. guard_at d next (binders_scope (binder_count p.0) s) p.1 >>= λ g. next (binders_scope (binder_count p.0) s) g.1 >>= λ b. Some (record { pattern = p.0; guard = g.0; body = b.0 }, b.1)) x e in
        let inside = binders_scope (binder_count a.0.0) s in
        let b = bound (guard_at d next inside a.0.1) (λ g. next inside g.1 >>= λ b. Some (record { pattern = a.0.0; guard = g.0; body = b.0 }, b.1)) x a.2 in
        let c = bound (next inside b.0.1) (λ w. Some (record { pattern = a.0.0; guard = b.0.0; body = w.0 }, w.1)) x b.2 in
        let p = pattern_takes d bytes a.0 a.1 in
        let g = guard_takes inside a.0.1 b.0 b.1 in
        let t = take_one inside b.0.1 c.0 c.1 in
        answered text_of_case (CaseFits s d) bytes (record { pattern = a.0.0; guard = b.0.0; body = c.0.0 }, c.0.1) x c.2
        (record {
          parts = joined_three bytes (pattern_text a.0.0) a.0.1 (guard_text b.0.0) b.0.1 (term_text c.0.0) c.0.1 p.parts g.parts t.parts
              ∙ ap (λ (l : List ℕ). l ++ c.0.1) (case_text_is a.0.0 b.0.0 c.0.0);
          fits = record { pattern = p.fits; guard = g.fits; body = t.fits };
        })

    cases_take : (least : ℕ) (bytes : List ℕ) (x : List Case × List ℕ) → counted_at (case_at d next s) least bytes ≡ Some x → CaseParts s d least bytes x
    cases_take = parts_take text_of_case (CaseFits s d) cases_of (CasesFit s d) cases_count counted_cases cases_count-cases_of counted_cases_is (case_at d next s) (cases_from s d) case_takes

    match_takes : (rest : List ℕ) (x : Term × List ℕ) → match_at d next s rest ≡ Some x → Taken s (suc d) (106 ∷ rest) x
    unfolding match_at
    match_takes rest x e =
        let a = bound (next s rest) (λ t. counted_at (case_at d next s) 1 t.1 >>= λ cs. Some (match t.0 (cases_of cs.0), cs.1)) x e in
        let b = bound (counted_at (case_at d next s) 1 a.0.1) (λ cs. Some (match a.0.0 (cases_of cs.0), cs.1)) x a.2 in
        let t = take_one s rest a.0 a.1 in
        let cs = cases_take 1 a.0.1 b.0 b.1 in
        answered term_text (TermFits s (suc d)) (106 ∷ rest) (match a.0.0 (cases_of b.0.0), b.0.1) x b.2
        (record {
          parts = ap (λ (l : List ℕ). 106 ∷ l) (joined rest (term_text a.0.0) a.0.1 (counted_cases (cases_of b.0.0)) b.0.1 t.parts cs.parts);
          fits = record { range = (t.fits.range, cs.count, cs.fit.range); bound = (t.fits.bound, cs.fit.bound); levels = omega (arith, t.fits.levels, cs.fit.levels) };
        })

    by_takes : (bytes : List ℕ) (x : Term × List ℕ) → term_by d next s bytes ≡ Some x → Taken s (suc d) bytes x
    unfolding term_by
    by_takes [] x e = absurd cc
    by_takes (c ∷ rest) x e =
        let text = term_text in
        let P = TermFits s (suc d) in
        by_first text P c 118 rest x _ _ e (variable_takes s d rest x)
        (λ e. by_first text P c 101 rest x _ _ e (λ e. answered text P (101 ∷ rest) (unit, rest) x e (record { parts = refl; fits = record { range = tt; bound = tt; levels = omega arith } }))
        (λ e. by_first text P c 114 rest x _ _ e (reference_link_takes s d rest x)
        (λ e. by_first text P c 107 rest x _ _ e (constructor_link_takes s d rest x)
        (λ e. by_first text P c 109 rest x _ _ e (member_link_takes s d rest x)
        (λ e. by_first text P c 108 rest x _ _ e (lambda_takes s rest x)
        (λ e. by_first text P c 97 rest x _ _ e (apply_takes s rest x)
        (λ e. by_first text P c 115 rest x _ _ e (annotated_takes s rest x)
        (λ e. by_first text P c 112 rest x _ _ e (tuple_takes s rest x)
        (λ e. by_first text P c 103 rest x _ _ e (list_takes s rest x)
        (λ e. by_first text P c 102 rest x _ _ e (conditional_takes s rest x)
        (λ e. by_first text P c 119 rest x _ _ e (and_takes s rest x)
        (λ e. by_first text P c 111 rest x _ _ e (or_takes s rest x)
        (λ e. by_first text P c 100 rest x _ _ e (binding_takes s rest x)
        (λ e. by_first text P c 106 rest x _ _ e (match_takes rest x) (literal_term_takes s d c rest x)))))))))))))))

pub term_takes : (d : ℕ) (s : TermScope) (bytes : List ℕ) (x : Term × List ℕ) → term_at d s bytes ≡ Some x → Takes term_text (TermFits s d) bytes x
term_takes zero s bytes x e = absurd cc
term_takes (suc d) s bytes x e = by_takes (term_at d) d (term_takes d) s bytes x e

-- ---- what is spelled is read

link_again : (d : ℕ) (s : TermScope) (x : Target) (rest : List ℕ) → s.members < 2 ^ 32 → IsLink s.members x → term_by d (term_at d) s (link_text x ++ rest) ≡ Some (link x, rest)
unfolding term_by reference_link_at reference_at constructor_link_at member_link_at
link_again d s (Stored (Builtin n)) rest few fits = rw (builtin_again n rest fits) refl
link_again d s (Stored (Def hash n)) rest few fits = rw (stored_again hash n rest fits.0 fits.1) refl
link_again d s (Stored (Ctor hash n c)) rest few fits = rw (constructor_again hash n c rest fits.0 fits.1 fits.2) refl
link_again d s (Own n) rest few fits = rw (member_again s.members n rest few fits) refl
link_again d s (OwnCtor n c) rest few fits = absurd fits

-- its first byte begins no other term
literal_term_again : (d : ℕ) (s : TermScope) (l : Literal) (rest : List ℕ) → IsLiteralInRange l → term_by d (term_at d) s (literal_text l ++ rest) ≡ Some (literal l, rest)
unfolding term_by literal_term_at
literal_term_again d s (lit.Nat n) rest fits = rw (literal_again (lit.Nat n) rest fits) refl
literal_term_again d s (lit.Int z) rest fits = rw (literal_again (lit.Int z) rest fits) refl
literal_term_again d s (lit.Boolean true) rest fits = rw (literal_again (lit.Boolean true) rest fits) refl
literal_term_again d s (lit.Boolean false) rest fits = rw (literal_again (lit.Boolean false) rest fits) refl
literal_term_again d s (lit.Text text) rest fits = rw (literal_again (lit.Text text) rest fits) refl
literal_term_again d s (lit.Char c) rest fits = rw (literal_again (lit.Char c) rest fits) refl

-- what is spelled is read, by readers of the parts
module _ (d : ℕ) (again_one : (s : TermScope) (t : Term) (rest : List ℕ) → s.members < 2 ^ 32 → TermFits s d t → term_at d s (term_text t ++ rest) ≡ Some (t, rest))
    (s : TermScope) (few : s.members < 2 ^ 32) where
  terms_again : (least : ℕ) (ts : Terms) (rest : List ℕ) → IsCount least (terms_count ts) → TermsFit s d ts → counted_at (term_at d s) least (counted_terms ts ++ rest) ≡ Some (list_of ts, rest)
  terms_again =
      parts_again term_text (TermFits s d) terms_of (TermsFit s d) terms_count counted_terms terms_count-terms_of counted_is (term_at d s) list_of terms_of-list_of (terms_to s d) (λ u r f. again_one s u r few f)

  two_again : (a b : Term) (rest : List ℕ) → TermFits s d a → TermFits s d b → two_at d (term_at d) s ((term_text a ++ term_text b) ++ rest) ≡ Some (a, b, rest)
  unfolding two_at
  two_again a b rest left right = rw (append_assoc, again_one s a (term_text b ++ rest) few left, again_one s b rest few right) refl

  guard_again : (g : Option Term) (rest : List ℕ) → GuardFits s d g → guard_at d (term_at d) s (guard_text g ++ rest) ≡ Some (g, rest)
  unfolding guard_at
  guard_again None rest fits = refl
  guard_again (Some t) rest fits = rw (again_one s t rest few (record { range = fits.range; bound = fits.bound; levels = fits.levels })) refl

module _ (d : ℕ) (again_one : (s : TermScope) (t : Term) (rest : List ℕ) → s.members < 2 ^ 32 → TermFits s d t → term_at d s (term_text t ++ rest) ≡ Some (t, rest))
    (s : TermScope) (few : s.members < 2 ^ 32) where
  case_again : (c : Case) (rest : List ℕ) → CaseFits s d c → case_at d (term_at d) s (text_of_case c ++ rest) ≡ Some (c, rest)
  unfolding case_at
  case_again c rest fits =
      let inside = binders_scope (binder_count c.pattern) s in
      let regrouped : text_of_case c ++ rest ≡ pattern_text c.pattern ++ (guard_text c.guard ++ (term_text c.body ++ rest)) =
      ap (λ (l : List ℕ). l ++ rest) (sym (case_text_is c.pattern c.guard c.body)) ∙ append_assoc (pattern_text c.pattern) (guard_text c.guard ++ term_text c.body) rest
      ∙ ap (λ (l : List ℕ). pattern_text c.pattern ++ l) (append_assoc (guard_text c.guard) (term_text c.body) rest) in
      ap (case_at d (term_at d) s) regrouped
      ∙ rw (
        pattern_again d c.pattern (guard_text c.guard ++ (term_text c.body ++ rest)) fits.pattern,
        guard_again d again_one inside few c.guard (term_text c.body ++ rest) fits.guard,
        again_one inside c.body rest few fits.body,
      ) refl

  cases_again : (least : ℕ) (cs : Cases) (rest : List ℕ) → IsCount least (cases_count cs) → CasesFit s d cs → counted_at (case_at d (term_at d) s) least (counted_cases cs ++ rest) ≡ Some (cases_list cs, rest)
  cases_again =
      parts_again text_of_case (CaseFits s d) cases_of (CasesFit s d) cases_count counted_cases cases_count-cases_of counted_cases_is (case_at d (term_at d) s) cases_list cases_of-cases_list (cases_to s d) case_again

pub term_again : (d : ℕ) (s : TermScope) (t : Term) (rest : List ℕ) → s.members < 2 ^ 32 → TermFits s d t → term_at d s (term_text t ++ rest) ≡ Some (t, rest)
unfolding term_by term_variable_at lambda_at apply_at and_at or_at annotated_at tuple_term_at list_term_at conditional_at binding_at match_at
term_again zero s t rest few fits = absurd (omega (arith, fits.levels, some_levels t))
term_again (suc d) s (variable n) rest few fits =
    let test : ltb n s.variables ≡ true = lt-ltb n s.variables fits.bound in
    rw (number_again last_u32 n rest (omega (arith, fits.range)) (omega (arith, fits.range)), test) refl
term_again (suc d) s (literal l) rest few fits = literal_term_again d s l rest fits.range
term_again (suc d) s unit rest few fits = refl
term_again (suc d) s (link x) rest few fits = link_again d s x rest few fits.range
term_again (suc d) s (lambda t) rest few fits =
    let all = term_serves s.members s.type_variables s.type_variables (suc s.variables) (with_more 1 s.variables) t (itself s.type_variables) (to_one s.variables) fits.range fits.bound in
    rw (term_again d (binders_scope 1 s) t rest few (record { range = fits.range; bound = all; levels = omega (arith, fits.levels) })) refl
term_again (suc d) s (apply a b) rest few fits =
    rw (two_again d (λ s' u r small f. term_again d s' u r small f) s few a b rest (record { range = fits.range.0; bound = fits.bound.0; levels = omega (arith, fits.levels) })
    (record { range = fits.range.1; bound = fits.bound.1; levels = omega (arith, fits.levels) })) refl
term_again (suc d) s (and a b) rest few fits =
    rw (two_again d (λ s' u r small f. term_again d s' u r small f) s few a b rest (record { range = fits.range.0; bound = fits.bound.0; levels = omega (arith, fits.levels) })
    (record { range = fits.range.1; bound = fits.bound.1; levels = omega (arith, fits.levels) })) refl
term_again (suc d) s (or a b) rest few fits =
    rw (two_again d (λ s' u r small f. term_again d s' u r small f) s few a b rest (record { range = fits.range.0; bound = fits.bound.0; levels = omega (arith, fits.levels) })
    (record { range = fits.range.1; bound = fits.bound.1; levels = omega (arith, fits.levels) })) refl
term_again (suc d) s (annotated t ty) rest few fits =
    rw (
      append_assoc,
      term_again d s t (type_text ty ++ rest) few (record { range = fits.range.0; bound = fits.bound.0; levels = omega (arith, fits.levels) }),
      type_again d (types_scope s) ty rest (lit< tt) (record { range = fits.range.1; bound = fits.bound.1; levels = omega (arith, fits.levels) }),
    ) refl
term_again (suc d) s (tuple ts) rest few fits =
    rw (terms_again d (λ s' u r small f. term_again d s' u r small f) s few 2 ts rest fits.range.0 (record { range = fits.range.1; bound = fits.bound; levels = omega (arith, fits.levels) }), terms_of-list_of ts) refl
term_again (suc d) s (list ts) rest few fits =
    rw (terms_again d (λ s' u r small f. term_again d s' u r small f) s few 0 ts rest fits.range.0 (record { range = fits.range.1; bound = fits.bound; levels = omega (arith, fits.levels) }), terms_of-list_of ts) refl
term_again (suc d) s (conditional c a b) rest few fits =
    rw (
      append_assoc,
      term_again d s c ((term_text a ++ term_text b) ++ rest) few (record { range = fits.range.0; bound = fits.bound.0; levels = omega (arith, fits.levels) }),
      two_again d (λ s' u r small f. term_again d s' u r small f) s few a b rest (record { range = fits.range.1; bound = fits.bound.1; levels = omega (arith, fits.levels) })
          (record { range = fits.range.2; bound = fits.bound.2; levels = omega (arith, fits.levels) }),
    ) refl
term_again (suc d) s (binding t a b) rest few fits =
    let k = s.type_variables in
    let v = s.variables in
    let q = signature_quantifiers t in
    let value = term_serves s.members (q + k) (with_more q k) (suc v) (with_more 1 v) a (to_more q k) (to_one v) fits.range.1 fits.bound.1 in
    let body = term_serves s.members k k (suc v) (with_more 1 v) b (itself k) (to_one v) fits.range.2 fits.bound.2 in
    rw (
      append_assoc,
      append_assoc,
      signature_again d (types_scope s) t (term_text a ++ (term_text b ++ rest)) (lit< tt) (record { range = range_signature t fits.range.0; bound = fits.bound.0; levels = omega (arith, fits.levels) }),
      term_again d (binders_scope 1 (signature_scope t s)) a (term_text b ++ rest) few (record { range = fits.range.1; bound = value; levels = omega (arith, fits.levels) }),
      term_again d (binders_scope 1 s) b rest few (record { range = fits.range.2; bound = body; levels = omega (arith, fits.levels) }),
    ) refl
term_again (suc d) s (match t cs) rest few fits =
    rw (
      append_assoc,
      term_again d s t (counted_cases cs ++ rest) few (record { range = fits.range.0; bound = fits.bound.0; levels = omega (arith, fits.levels) }),
      cases_again d (λ s' u r small f. term_again d s' u r small f) s few 1 cs rest fits.range.1 (record { range = fits.range.2; bound = fits.bound.1; levels = omega (arith, fits.levels) }),
      cases_of-cases_list cs,
    ) refl
