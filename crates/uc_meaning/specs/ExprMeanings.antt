-- The meaning of written expressions and blocks.
use Rattle.std.specs.Prelude.{ℕ, Bool, false, List, [], ◌∷◌, ◌++◌, map, reverse, Option, Some, None, Result, Ok, bytes_eq, if◌then◌else◌}
use Rattle.std.specs.List.{position_from}
use Rattle.uc_base.specs.declared.place.Place.{Place}
use Rattle.uc_base.specs.declared.fault.Fault.{Fault}
use Rattle.uc_tree.specs.Types.{Ty}
use Rattle.uc_tree.specs.Terms as trees
use Rattle.uc_tree.specs.Terms.{Term, Terms, Cases as TreeCases}
use Rattle.uc_tree.specs.Patterns.{Pattern as TreePattern}
use Rattle.uc_scratch.specs.declared.written.Written.{Written}
use Rattle.uc_scratch.specs.declared.written.Reference.TheVariants as written_reference
use Rattle.uc_scratch.specs.declared.written.Reference.{Reference}
use Rattle.uc_scratch.specs.declared.written.Param.{Param}
use Rattle.uc_scratch.specs.declared.written.Param.TheVariants as param
use Rattle.uc_scratch.specs.declared.written.Head.{Head}
use Rattle.uc_scratch.specs.TypeExprs.{TypeExpr}
use Rattle.uc_scratch.specs.Patterns.{Pattern}
use Rattle.uc_scratch.specs.Exprs.{Expr, done, lambda, atom, operator, and, or, opens_if, branches, opens_match, with_cases, cases, block, Atom, path, bracketed, literal, reference, unit, group, annotated, tuple, list, Exprs, none, more, Cases, no_case, case, guarded, Block, result, using, signature, prefix, infix_operator}
use Rattle.uc_scratch.specs.ExprGrammar.{head_name}
use Rattle.uc_scratch.specs.TypeLevels.{texts_of}
use Rattle.uc_scratch.specs.NameFaults.{pattern_names, head_place}
use Rattle.uc_meaning.specs.declared.wanted.Wanted.TheVariants as wanted
use Rattle.uc_meaning.specs.Results.{◌>>=◌}
use Rattle.uc_meaning.specs.Candidates.{Usings, behind_using}
use Rattle.uc_meaning.specs.Meanings.{Known, name_meaning, reference_meaning}
use Rattle.uc_meaning.specs.Literals.{literal_value}
use Rattle.uc_meaning.specs.Placed.{Placed, first_place}
use Rattle.uc_meaning.specs.TypeMeanings.{signature_meaning, front_of_signature}
use Rattle.uc_meaning.specs.PatternMeanings.{pattern_meaning}

-- what is in scope: the local binders, the innermost first, of which some have no name; the type variables, the innermost first; the `use` clauses
pub record Scope : Type 0 where
  pub binders : List (Option (List ℕ))
  pub variables : List (List ℕ)
  pub usings : Usings

-- ---- scopes

-- under binders, the last of which is the innermost
abbrev pub under : List (Option (List ℕ)) → Scope → Scope
under binders scope = record scope { binders = reverse binders ++ scope.binders }

abbrev pub with_using : Written → List Written → Scope → Scope
with_using w ws scope = record scope { usings = behind_using (record { path = w.text; names = texts_of ws }) scope.usings }

-- in a block of its own
abbrev pub in_block : Scope → Scope
in_block scope = record scope { usings = [] ∷ scope.usings }

-- the binder of a parameter: `_` has no name
abbrev pub param_binder : Param → Option (List ℕ)
param_binder (param.Name w) = Some w.text
param_binder (param.Any p) = None

abbrev pub param_place : Param → Place
param_place (param.Name w) = w.place
param_place (param.Any p) = p

abbrev pub pattern_binders : Pattern → List (Option (List ℕ))
pattern_binders x = map (λ w. Some w.text) (pattern_names x)

-- whether a binder has a name
abbrev pub is_binder_of : List ℕ → Option (List ℕ) → Bool
is_binder_of w None = false
is_binder_of w (Some name) = bytes_eq w name

-- ---- names

-- a local binder, or what the further steps find
abbrev pub link_unless_bound : Known → Usings → Written → Option ℕ → Result (Placed Term) Fault
link_unless_bound known usings w (Some n) = Ok (trees.variable n, w.place ∷ [])
link_unless_bound known usings w None = name_meaning known wanted.Term usings w >>= λ x. Ok (trees.link x, w.place ∷ [])

-- what a written name means in a term: the innermost local binder of that name first
abbrev pub word_meaning : Known → Scope → Written → Result (Placed Term) Fault
word_meaning known scope w = link_unless_bound known scope.usings w (position_from (is_binder_of w.text) 0 scope.binders)

abbrev pub reference_place : Reference → Place
reference_place (written_reference.Hash w) = w.place
reference_place (written_reference.Builtin w) = w.place

-- ---- nodes

abbrev pub applied_at : Place → Placed Term → Placed Term → Placed Term
applied_at p f a = (trees.apply f.0 a.0, p ∷ f.1 ++ a.1)

abbrev pub and_at : Place → Placed Term → Placed Term → Placed Term
and_at p a b = (trees.and a.0 b.0, p ∷ a.1 ++ b.1)

abbrev pub or_at : Place → Placed Term → Placed Term → Placed Term
or_at p a b = (trees.or a.0 b.0, p ∷ a.1 ++ b.1)

abbrev pub conditional_at : Place → Placed Term → Placed Term → Placed Term → Placed Term
conditional_at p a b c = (trees.conditional a.0 b.0 c.0, p ∷ a.1 ++ b.1 ++ c.1)

abbrev pub match_at : Place → Placed Term → Placed TreeCases → Placed Term
match_at p a cs = (trees.match a.0 cs.0, p ∷ a.1 ++ cs.1)

-- `cases` is a lambda over a match on its variable: all three stand at the keyword
abbrev pub cases_at : Place → Placed TreeCases → Placed Term
cases_at p cs = (trees.lambda (trees.match (trees.variable 0) cs.0), p ∷ p ∷ p ∷ cs.1)

-- a lambda for each parameter, at its token
abbrev pub lambdas_over : List Param → Placed Term → Placed Term
lambdas_over [] t = t
lambdas_over (x ∷ ps) t = let body = lambdas_over ps t in (trees.lambda body.0, param_place x ∷ body.1)

abbrev pub term_before : Placed Term → Placed Terms → Placed Terms
term_before t ts = (trees.more t.0 ts.0, t.1 ++ ts.1)

abbrev pub case_before : Placed TreePattern → Placed Term → Placed TreeCases → Placed TreeCases
case_before x b cs = (trees.case x.0 b.0 cs.0, x.1 ++ b.1 ++ cs.1)

abbrev pub guarded_before : Placed TreePattern → Placed Term → Placed Term → Placed TreeCases → Placed TreeCases
guarded_before x g b cs = (trees.guarded x.0 g.0 b.0 cs.0, x.1 ++ g.1 ++ b.1 ++ cs.1)

-- ---- operands

-- A term as a part of a greater expression, with the place where it begins: that of its first token, which may be a bracket round it.
-- An application, an operator with its sides, `&&` and `||` stand where their first part begins.
abbrev pub Operand : Type 0
Operand = Place × Placed Term

-- a form begins at its own node
abbrev pub form : Placed Term → Operand
form t = (first_place t.1, t)

-- where an atom begins
abbrev pub atom_start : Atom → Place
atom_start (path w) = w.place
atom_start (bracketed p w) = p
atom_start (literal l) = l.written.place
atom_start (reference r) = reference_place r
atom_start (unit p) = p
atom_start (group p e) = p
atom_start (annotated p e t) = p
atom_start (tuple p es) = p
atom_start (list p es) = p

-- an operator with its left side; its own node comes first in the text
abbrev pub operator_over : Placed Term → Operand → Operand
operator_over op a = (a.0, applied_at a.0 op a.1)

-- ---- the parts of an expression up to here

-- what stands left of `||`, left of `&&`, left of an operator and with it, and the application that is being read
pub record Parts : Type 0 where
  pub ors : Option Operand
  pub ands : Option Operand
  pub half : Option Operand
  pub atoms : Option Operand

abbrev pub no_parts : Parts
no_parts = record { ors = None; ands = None; half = None; atoms = None }

-- an expression with nothing in it, which no reading has: the unit
abbrev pub nothing : Operand
nothing = form (trees.unit, first_place [] ∷ [])

unfoldable pub or_nothing : Option Operand → Operand
or_nothing None = nothing
or_nothing (Some a) = a

-- what stands before a part, where there is something, applied to it
unfoldable pub applied_if : Option Operand → Operand → Operand
applied_if None a = a
applied_if (Some f) a = (f.0, applied_at f.0 f.1 a.1)

-- the same with the left side of `&&` and of `||`
unfoldable pub and_if : Option Operand → Operand → Operand
and_if None b = b
and_if (Some a) b = (a.0, and_at a.0 a.1 b.1)

unfoldable pub or_if : Option Operand → Operand → Operand
or_if None b = b
or_if (Some a) b = (a.0, or_at a.0 a.1 b.1)

-- an atom or a form behind the atoms before it: an application
unfoldable pub with_atom : Parts → Operand → Parts
with_atom s a = record s { atoms = Some (applied_if s.atoms a) }

-- the operands up to here: an operator with its left side, applied to its right side
unfoldable pub infix_of : Parts → Operand
infix_of s = applied_if s.half (or_nothing s.atoms)

-- an operator behind what stands left of it
unfoldable pub behind_operator : Parts → Placed Term → Parts
behind_operator s op = record { ors = s.ors; ands = s.ands; half = Some (operator_over op (infix_of s)); atoms = None }

unfoldable pub and_of : Parts → Operand
and_of s = and_if s.ands (infix_of s)

unfoldable pub behind_and : Parts → Parts
behind_and s = record { ors = s.ors; ands = Some (and_of s); half = None; atoms = None }

-- the whole expression up to here
unfoldable pub whole_of : Parts → Operand
whole_of s = or_if s.ors (and_of s)

unfoldable pub behind_or : Parts → Parts
behind_or s = record { ors = Some (whole_of s); ands = None; half = None; atoms = None }

-- the innermost expression in whose condition or subject a step stands, with the place of its `if` or `match`, and the others
abbrev pub Outer : Type 0
Outer = List (Place × Parts)

abbrev pub innermost : Outer → Place × Parts
innermost [] = (first_place [], no_parts)
innermost (o ∷ os) = o

abbrev pub others : Outer → Outer
others [] = []
others (o ∷ os) = os

-- ---- signatures

-- what a signature gives to the binding behind it: its name and where it begins, its type, and the quantifiers at its front
pub record Signed : Type 0 where
  pub name : List ℕ
  pub place : Place
  pub type_of : Placed Ty
  pub front : List (List ℕ)

abbrev pub signed_by : List (List ℕ) → Head → TypeExpr → Placed Ty → Signed
signed_by variables h t ty = record { name = (head_name h).text; place = head_place h; type_of = ty; front = front_of_signature variables t }

-- the signature of a binding of this name, where one stands before it
unfoldable pub signature_for : Option Signed → Written → Option Signed
signature_for None w = None
signature_for (Some s) w = if bytes_eq s.name w.text then Some s else None

-- the scope in the body of a binding, under the quantifiers at the front of its signature
unfoldable pub body_scope : Option Signed → Scope → Scope
body_scope None scope = scope
body_scope (Some s) scope = record scope { variables = reverse s.front ++ scope.variables }

-- a binding over the rest of a block, at the place of its signature, or at its own where it has none
unfoldable pub binding_over : Option Signed → Place → Placed Term → Placed Term → Placed Term
binding_over None p a b = (trees.binding None a.0 b.0, p ∷ a.1 ++ b.1)
binding_over (Some s) p a b = (trees.binding (Some s.type_of.0) a.0 b.0, s.place ∷ s.type_of.1 ++ a.1 ++ b.1)

-- ---- meanings

abbrev mutual
  -- The meaning of the steps of an expression, behind parts of it, and inside the conditions and subjects of others.
  pub expr_meaning : Known → Scope → Expr → Parts → Outer → Result (Placed Term) Fault
  expr_meaning known scope done s os = Ok (whole_of s).1
  expr_meaning known scope (lambda ps b e) s os =
      block_meaning known (in_block (under (map param_binder ps) scope)) None b >>= λ x. expr_meaning known scope e (with_atom s (form (lambdas_over ps x))) os
  expr_meaning known scope (atom a e) s os = atom_meaning known scope a >>= λ x. expr_meaning known scope e (with_atom s (atom_start a, x)) os
  expr_meaning known scope (operator w e) s os = word_meaning known scope w >>= λ x. expr_meaning known scope e (behind_operator s x) os
  expr_meaning known scope (and e) s os = expr_meaning known scope e (behind_and s) os
  expr_meaning known scope (or e) s os = expr_meaning known scope e (behind_or s) os
  expr_meaning known scope (opens_if p e) s os = expr_meaning known scope e no_parts ((p, s) ∷ os)
  expr_meaning known scope (branches b c e) s os =
      block_meaning known (in_block scope) None b >>= λ x. block_meaning known (in_block scope) None c >>= λ y.
      expr_meaning known scope e (with_atom (innermost os).1 (form (conditional_at (innermost os).0 (whole_of s).1 x y))) (others os)
  expr_meaning known scope (opens_match p e) s os = expr_meaning known scope e no_parts ((p, s) ∷ os)
  expr_meaning known scope (with_cases cs e) s os =
      cases_meaning known scope cs >>= λ x. expr_meaning known scope e (with_atom (innermost os).1 (form (match_at (innermost os).0 (whole_of s).1 x))) (others os)
  expr_meaning known scope (cases p cs e) s os =
      cases_meaning known (under (None ∷ []) scope) cs >>= λ x. expr_meaning known scope e (with_atom s (form (cases_at p x))) os
  expr_meaning known scope (block p b e) s os =
      block_meaning known (in_block scope) None b >>= λ x. expr_meaning known scope e (with_atom s (p, x)) os

  -- a bracket alone is no node
  pub atom_meaning : Known → Scope → Atom → Result (Placed Term) Fault
  atom_meaning known scope (path w) = word_meaning known scope w
  atom_meaning known scope (bracketed p w) = word_meaning known scope w
  atom_meaning known scope (literal l) = Ok (trees.literal (literal_value l), l.written.place ∷ [])
  atom_meaning known scope (reference r) = reference_meaning known wanted.Term r >>= λ x. Ok (trees.link x, reference_place r ∷ [])
  atom_meaning known scope (unit p) = Ok (trees.unit, p ∷ [])
  atom_meaning known scope (group p e) = expr_meaning known scope e no_parts []
  atom_meaning known scope (annotated p e t) =
      expr_meaning known scope e no_parts [] >>= λ x. signature_meaning known scope.usings scope.variables t >>= λ ty.
      Ok (trees.annotated x.0 ty.0, p ∷ x.1 ++ ty.1)
  atom_meaning known scope (tuple p es) = exprs_meaning known scope es >>= λ xs. Ok (trees.tuple xs.0, p ∷ xs.1)
  atom_meaning known scope (list p es) = exprs_meaning known scope es >>= λ xs. Ok (trees.list xs.0, p ∷ xs.1)

  pub exprs_meaning : Known → Scope → Exprs → Result (Placed Terms) Fault
  exprs_meaning known scope none = Ok (trees.none, [])
  exprs_meaning known scope (more e es) =
      expr_meaning known scope e no_parts [] >>= λ x. exprs_meaning known scope es >>= λ xs. Ok (term_before x xs)

  -- guard and body stand under the names of the pattern
  pub cases_meaning : Known → Scope → Cases → Result (Placed TreeCases) Fault
  cases_meaning known scope no_case = Ok (trees.no_case, [])
  cases_meaning known scope (case x b cs) =
      pattern_meaning known scope.usings x >>= λ p. block_meaning known (in_block (under (pattern_binders x) scope)) None b >>= λ t.
      cases_meaning known scope cs >>= λ rest. Ok (case_before p t rest)
  cases_meaning known scope (guarded x g b cs) =
      pattern_meaning known scope.usings x >>= λ p. expr_meaning known (under (pattern_binders x) scope) g no_parts [] >>= λ u.
      block_meaning known (in_block (under (pattern_binders x) scope)) None b >>= λ t. cases_meaning known scope cs >>= λ rest. Ok (guarded_before p u t rest)

  -- A block behind a signature or none. A binding's name is in scope in its own body and in what follows it.
  pub block_meaning : Known → Scope → Option Signed → Block → Result (Placed Term) Fault
  block_meaning known scope signed (result e) = expr_meaning known scope e no_parts []
  block_meaning known scope signed (using p w ws b) = block_meaning known (with_using w ws scope) None b
  block_meaning known scope signed (signature h t b) =
      signature_meaning known scope.usings scope.variables t >>= λ ty. block_meaning known scope (Some (signed_by scope.variables h t ty)) b
  block_meaning known scope signed (prefix h ps c b) =
      let inner = under (Some (head_name h).text ∷ []) scope in
      let found = signature_for signed (head_name h) in
      block_meaning known (in_block (under (map param_binder ps) (body_scope found inner))) None c >>= λ x.
      block_meaning known inner None b >>= λ y. Ok (binding_over found (head_place h) (lambdas_over ps x) y)
  block_meaning known scope signed (infix_operator x w y c b) =
      let inner = under (Some w.text ∷ []) scope in
      let found = signature_for signed w in
      block_meaning known (in_block (under (param_binder x ∷ param_binder y ∷ []) (body_scope found inner))) None c >>= λ t.
      block_meaning known inner None b >>= λ u. Ok (binding_over found (param_place x) (lambdas_over (x ∷ y ∷ []) t) u)

-- the body of a binding under its parameters, and the lambdas of these over it
abbrev pub bound_meaning : Known → Scope → Option Signed → List Param → Block → Result (Placed Term) Fault
bound_meaning known scope found ps c =
    block_meaning known (in_block (under (map param_binder ps) (body_scope found scope))) None c >>= λ x. Ok (lambdas_over ps x)
