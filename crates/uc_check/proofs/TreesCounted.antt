-- Tests: the nodes of trees, counted from their parts.
use Rattle.std.proofs.Common.{◌≡◌, ℕ, ◌+◌, List, [], ◌∷◌, ◌++◌, Option, Some, None, length, refl, arith, length-append}
use Rattle.uc_kinds.specs.WellFormed.{tys_count}
use Rattle.uc_tree.specs.Counts.{node_count, tys_node_count}
use Rattle.uc_tree.specs.Nodes.{ty_nodes, tys_nodes, pattern_nodes, term_nodes, cases_nodes}
use Rattle.uc_tree.specs.Patterns.{Pattern}
use Rattle.uc_tree.specs.TermViews.{case_with}
use Rattle.uc_tree.specs.Terms.{Term, Cases}
use Rattle.uc_tree.specs.Terms as terms
use Rattle.uc_tree.specs.Types.{Ty, Tys, tys_of}
use Rattle.uc_tree.specs.Types as types

mutual
  pub type_nodes_counted : (t : Ty) → length (ty_nodes t) ≡ node_count t
  type_nodes_counted (types.variable i) = refl
  type_nodes_counted (types.quantified t) = omega (arith, type_nodes_counted t)
  type_nodes_counted (types.arrow a b) = omega (arith, length-append (ty_nodes a) (ty_nodes b), type_nodes_counted a, type_nodes_counted b)
  type_nodes_counted types.unit = refl
  type_nodes_counted (types.tuple ts) = omega (arith, types_nodes_counted ts)
  type_nodes_counted (types.applied x ts) = omega (arith, types_nodes_counted ts)

  pub types_nodes_counted : (ts : Tys) → length (tys_nodes ts) ≡ tys_node_count ts
  types_nodes_counted types.none = refl
  types_nodes_counted (types.more t ts) = omega (arith, length-append (ty_nodes t) (tys_nodes ts), type_nodes_counted t, types_nodes_counted ts)

abbrev pub guard_count : Option Term → ℕ
guard_count None = 0
guard_count (Some g) = length (term_nodes g)

bare_case_counted : (p : Pattern) (b : Term) (cs : Cases) → length (cases_nodes (terms.case p b cs)) ≡ length (pattern_nodes p) + 0 + length (term_nodes b) + length (cases_nodes cs)
bare_case_counted p b cs = omega (arith, length-append (pattern_nodes p ++ term_nodes b) (cases_nodes cs), length-append (pattern_nodes p) (term_nodes b))

guarded_case_counted : (p : Pattern) (g b : Term) (cs : Cases)
    → length (cases_nodes (terms.guarded p g b cs)) ≡ length (pattern_nodes p) + length (term_nodes g) + length (term_nodes b) + length (cases_nodes cs)
guarded_case_counted p g b cs =
    omega (arith, length-append (pattern_nodes p ++ term_nodes g ++ term_nodes b) (cases_nodes cs), length-append (pattern_nodes p ++ term_nodes g) (term_nodes b), length-append (pattern_nodes p) (term_nodes g))

pub case_nodes_counted : (p : Pattern) (g : Option Term) (b : Term) (cs : Cases)
    → length (cases_nodes (case_with p g b cs)) ≡ length (pattern_nodes p) + guard_count g + length (term_nodes b) + length (cases_nodes cs)
case_nodes_counted p None b cs = bare_case_counted p b cs
case_nodes_counted p (Some g) b cs = guarded_case_counted p g b cs

pub arguments_counted : (ts : List Ty) → tys_count (tys_of ts) ≡ length ts
arguments_counted [] = refl
arguments_counted (t ∷ ts) = omega (arith, arguments_counted ts)

-- what counts of nodes use
pub ruleset counting = (type_nodes_counted, case_nodes_counted, length-append)
