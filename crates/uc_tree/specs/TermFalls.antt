-- Each part of a term has fewer nodes than the term.
use Rattle.std.specs.Prelude.{◌+◌, ◌≤◌, max, List, [], ◌∷◌, Option, Some, None}
use Rattle.std.proofs.Common.{arith}
use denote.Param.Weighed.{most}
use Rattle.uc_tree.specs.Patterns.{Pattern}
use Rattle.uc_tree.specs.declared.term.Case.{Case}
use Rattle.uc_tree.specs.declared.term.TermNode.{TermNode}
use Rattle.uc_tree.specs.declared.term.TermNode.TheVariants as node
use Rattle.uc_tree.specs.declared.term.Term.TheDeep.{deep-TermNode, deep-Case}
use Rattle.uc_tree.specs.Terms.{Term, Cases, terms_of, term_size, terms_size, cases_size}
use Rattle.uc_tree.specs.TermViews.{case_with, cases_of, term_of}

some_nodes : (ts : List Term) → most (λ t. term_size t + 1) ts ≤ terms_size (terms_of ts) + 1
some_nodes [] = omega arith
some_nodes (t ∷ ts) = omega (arith, some_nodes ts)

one_case : (p : Pattern) (g : Option Term) (b : Term) (cs : Cases) → deep-Case (record { pattern = p; guard = g; body = b }) + cases_size cs ≤ cases_size (case_with p g b cs)
one_case p None b cs = omega arith
one_case p (Some g) b cs = omega arith

some_cases : (cs : List Case) → most deep-Case cs ≤ cases_size (cases_of cs)
some_cases [] = omega arith
some_cases (c ∷ cs) = omega (arith, some_cases cs, one_case c.pattern c.guard c.body (cases_of cs))

pub falls : (n : TermNode) → max (deep-TermNode n) 0 ≤ term_size (term_of n)
falls (node.Var n) = omega arith
falls (node.Literal l) = omega arith
falls node.Unit = omega arith
falls (node.Link x) = omega arith
falls (node.Lambda t) = omega arith
falls (node.Apply a b) = omega arith
falls (node.Annotated t ty) = omega arith
falls (node.Tuple ts) = omega (arith, some_nodes ts.items)
falls (node.List ts) = omega (arith, some_nodes ts.items)
falls (node.If a b c) = omega arith
falls (node.And a b) = omega arith
falls (node.Or a b) = omega arith
falls (node.Let ty a b) = omega arith
falls (node.Match t cs) = omega (arith, some_cases cs.items)
