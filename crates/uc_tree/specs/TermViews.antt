-- The term that a node stands for.
use Rattle.std.specs.Prelude.{List, [], ◌∷◌, Option, Some, None}
use Rattle.uc_tree.specs.Patterns.{Pattern}
use Rattle.uc_tree.specs.Terms.{Term, variable, literal, unit, link, lambda, apply, annotated, tuple, list, conditional, and, or, binding, match, Cases, no_case, case, guarded, terms_of}
use Rattle.uc_tree.specs.declared.term.Case.{Case}
use Rattle.uc_tree.specs.declared.term.TermNode.{TermNode}
use Rattle.uc_tree.specs.declared.term.TermNode.TheVariants as node

abbrev pub case_with : Pattern → Option Term → Term → Cases → Cases
case_with p None b cs = case p b cs
case_with p (Some g) b cs = guarded p g b cs

abbrev pub cases_of : List Case → Cases
cases_of [] = no_case
cases_of (c ∷ cs) = case_with c.pattern c.guard c.body (cases_of cs)

abbrev pub term_of : TermNode → Term
term_of (node.Var n) = variable n
term_of (node.Literal l) = literal l
term_of node.Unit = unit
term_of (node.Link x) = link x
term_of (node.Lambda t) = lambda t.value
term_of (node.Apply a b) = apply a.value b.value
term_of (node.Annotated t ty) = annotated t.value ty
term_of (node.Tuple ts) = tuple (terms_of ts.items)
term_of (node.List ts) = list (terms_of ts.items)
term_of (node.If a b c) = conditional a.value b.value c.value
term_of (node.And a b) = and a.value b.value
term_of (node.Or a b) = or a.value b.value
term_of (node.Let ty a b) = binding ty a.value b.value
term_of (node.Match t cs) = match t.value (cases_of cs.items)
