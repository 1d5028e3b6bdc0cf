-- How many parts a list has, and the text of a case before that of the others.
use Rattle.std.proofs.Common.{◌≡◌, suc, List, [], ◌∷◌, ◌++◌, length, Option, Some, None, Vec, refl, ap, ◌∙◌}
use Rattle.uc_tree.specs.declared.term.Case.{Case}
use Rattle.uc_tree.specs.Declarations.{fields_of}
use Rattle.uc_tree.specs.Types.{Ty, tys_of}
use Rattle.uc_tree.specs.Patterns.{Pattern, patterns_of}
use Rattle.uc_tree.specs.Terms.{Term, Cases, terms_of}
use Rattle.uc_tree.specs.TermViews.{case_with, cases_of}
use Rattle.uc_tree.proofs.Sizes.{type_at, pattern_at, term_at, case_at}
use Rattle.uc_canon.specs.Spelling.{types_count, patterns_count, terms_count, cases_count, case_text, cases_text}

pub types_count-tys_of : (ts : List Ty) → types_count (tys_of ts) ≡ length ts
types_count-tys_of [] = refl
types_count-tys_of (t ∷ ts) = ap suc (types_count-tys_of ts)

pub patterns_count-patterns_of : (ps : List Pattern) → patterns_count (patterns_of ps) ≡ length ps
patterns_count-patterns_of [] = refl
patterns_count-patterns_of (p ∷ ps) = ap suc (patterns_count-patterns_of ps)

pub terms_count-terms_of : (ts : List Term) → terms_count (terms_of ts) ≡ length ts
terms_count-terms_of [] = refl
terms_count-terms_of (t ∷ ts) = ap suc (terms_count-terms_of ts)

with_count : (p : Pattern) (g : Option Term) (b : Term) (cs : Cases) → cases_count (case_with p g b cs) ≡ suc (cases_count cs)
with_count p None b cs = refl
with_count p (Some g) b cs = refl

pub cases_count-cases_of : (cs : List Case) → cases_count (cases_of cs) ≡ length cs
cases_count-cases_of [] = refl
cases_count-cases_of (c ∷ cs) = with_count c.pattern c.guard c.body (cases_of cs) ∙ ap suc (cases_count-cases_of cs)

-- the text of a case, and then of the others
pub cases_text_with : (p : Pattern) (g : Option Term) (b : Term) (cs : Cases) → cases_text (case_with p g b cs) ≡ case_text p g b ++ cases_text cs
cases_text_with p None b cs = refl
cases_text_with p (Some g) b cs = refl

pub length-fields_of : {A : Type 0} (ctors : List (Vec Ty A)) → length (fields_of ctors) ≡ length ctors
length-fields_of [] = refl
length-fields_of (fields ∷ ctors) = ap suc (length-fields_of ctors)

-- what each walk over trees uses
pub ruleset parts = (type_at, pattern_at, term_at, case_at, cases_text_with)
