-- A part of a list is smaller than the list.
use Rattle.std.proofs.Common.{ℕ, zero, suc, ◌+◌, ◌<◌, List, [], ◌∷◌, length, get_or, Option, Some, None, arith}
use Rattle.uc_tree.specs.declared.term.Case.{Case}
use Rattle.uc_tree.specs.Types.{Ty, tys_of, ty_size, tys_size}
use Rattle.uc_tree.specs.Patterns.{Pattern, patterns_of, pattern_size, patterns_size}
use Rattle.uc_tree.specs.Terms.{Term, Cases, terms_of, term_size, terms_size, cases_size}
use Rattle.uc_tree.specs.TermViews.{case_with, cases_of}

abbrev pub guard_size : Option Term → ℕ
guard_size None = 0
guard_size (Some g) = term_size g + 1

-- more than that of the guard and of the body
abbrev pub case_size : Case → ℕ
case_size c = guard_size c.guard + term_size c.body + 1

pub type_at : (ts : List Ty) (k : ℕ) (t : Ty) → k < length ts → ty_size (get_or ts k t) < tys_size (tys_of ts)
type_at [] k t h = omega arith
type_at (u ∷ ts) zero t h = omega arith
type_at (u ∷ ts) (suc k) t h = omega (arith, type_at ts k t (omega arith))

pub pattern_at : (ps : List Pattern) (k : ℕ) (p : Pattern) → k < length ps → pattern_size (get_or ps k p) < patterns_size (patterns_of ps)
pattern_at [] k p h = omega arith
pattern_at (q ∷ ps) zero p h = omega arith
pattern_at (q ∷ ps) (suc k) p h = omega (arith, pattern_at ps k p (omega arith))

pub term_at : (ts : List Term) (k : ℕ) (t : Term) → k < length ts → term_size (get_or ts k t) < terms_size (terms_of ts)
term_at [] k t h = omega arith
term_at (u ∷ ts) zero t h = omega arith
term_at (u ∷ ts) (suc k) t h = omega (arith, term_at ts k t (omega arith))

one_case : (p : Pattern) (g : Option Term) (b : Term) (cs : Cases) → guard_size g + term_size b + cases_size cs < cases_size (case_with p g b cs)
one_case p None b cs = omega arith
one_case p (Some g) b cs = omega arith

pub case_at : (cs : List Case) (k : ℕ) (c : Case) → k < length cs → case_size (get_or cs k c) < cases_size (cases_of cs) + 1
case_at [] k c h = omega arith
case_at (d ∷ cs) zero c h = omega (arith, one_case d.pattern d.guard d.body (cases_of cs))
case_at (d ∷ cs) (suc k) c h = omega (arith, case_at cs k c (omega arith), one_case d.pattern d.guard d.body (cases_of cs))

-- what each walk over trees uses to end
pub ruleset parts = (type_at, pattern_at, term_at, case_at)
