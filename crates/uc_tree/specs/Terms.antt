-- Terms as plain trees.
use Rattle.std.specs.Prelude.{ℕ, ◌+◌, List, [], ◌∷◌, Option}
use Rattle.uc_tree.specs.declared.target.Target.{Target}
use Rattle.uc_tree.specs.Types.{Ty}
use Rattle.uc_tree.specs.declared.literal.Literal.{Literal}
use Rattle.uc_tree.specs.Patterns.{Pattern}

mutual
  pub data Term : Type 0 where
    variable : ℕ → Term
    literal : Literal → Term
    unit : Term
    link : Target → Term
    lambda : Term → Term
    apply : Term → Term → Term
    annotated : Term → Ty → Term
    tuple : Terms → Term
    list : Terms → Term
    conditional : Term → Term → Term → Term
    and : Term → Term → Term
    or : Term → Term → Term
    binding : Option Ty → Term → Term → Term
    match : Term → Cases → Term

  pub data Terms : Type 0 where
    none : Terms
    more : Term → Terms → Terms

  pub data Cases : Type 0 where
    no_case : Cases
    case : Pattern → Term → Cases → Cases
    guarded : Pattern → Term → Term → Cases → Cases

abbrev pub terms_of : List Term → Terms
terms_of [] = none
terms_of (t ∷ ts) = more t (terms_of ts)

abbrev mutual
  pub term_size : Term → ℕ
  term_size (variable n) = 1
  term_size (literal l) = 1
  term_size unit = 1
  term_size (link x) = 1
  term_size (lambda t) = term_size t + 1
  term_size (apply a b) = term_size a + term_size b + 1
  term_size (annotated t ty) = term_size t + 1
  term_size (tuple ts) = terms_size ts + 1
  term_size (list ts) = terms_size ts + 1
  term_size (conditional a b c) = term_size a + term_size b + term_size c + 1
  term_size (and a b) = term_size a + term_size b + 1
  term_size (or a b) = term_size a + term_size b + 1
  term_size (binding ty a b) = term_size a + term_size b + 1
  term_size (match t cs) = term_size t + cases_size cs + 1

  pub terms_size : Terms → ℕ
  terms_size none = 0
  terms_size (more t ts) = term_size t + terms_size ts + 1

  pub cases_size : Cases → ℕ
  cases_size no_case = 0
  cases_size (case p b cs) = term_size b + cases_size cs + 1
  cases_size (guarded p g b cs) = term_size g + term_size b + cases_size cs + 2
