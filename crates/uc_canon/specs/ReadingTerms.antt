-- Reading terms.
use Rattle.std.specs.Prelude.{ℕ, zero, suc, List, [], ◌∷◌, Option, Some, None, nat_lt, ◌==◌, if◌then◌else◌}
use Rattle.uc_tree.specs.declared.target.Target.{Target}
use Rattle.uc_tree.specs.declared.term.Case.{Case}
use Rattle.uc_tree.specs.Bound.{binder_count}
use Rattle.uc_tree.specs.Terms.{Term, variable, literal, unit, link, lambda, apply, annotated, tuple, list, conditional, and, or, binding, match, terms_of}
use Rattle.uc_tree.specs.TermViews.{cases_of}
use Rattle.uc_canon.specs.declared.scope.TermScope.{TermScope}
use Rattle.uc_canon.specs.Scopes.{types_scope, binders_scope, signature_scope}
use Rattle.uc_canon.specs.Reading.{Read, ◌>>=◌, number_at, counted_at, literal_by}
use Rattle.uc_canon.specs.ReadingTypes.{builtin_at, stored_at, constructor_at, member_at, type_at, signature_at}
use Rattle.uc_canon.specs.ReadingPatterns.{pattern_at}

unfoldable pub term_variable_at : TermScope → List ℕ → Read Term
term_variable_at s bytes = do
  n ← number_at 4294967295 bytes
  if nat_lt n.0 s.variables then Some (variable n.0, n.1) else None

-- a builtin or a stored definition
unfoldable pub reference_at : List ℕ → Read Target
reference_at [] = None
reference_at (c ∷ rest) =
    if c == 98 then builtin_at rest
    else (if c == 104 then stored_at rest else None)

unfoldable pub reference_link_at : List ℕ → Read Term
reference_link_at bytes = do
  x ← reference_at bytes
  Some (link x.0, x.1)

unfoldable pub constructor_link_at : List ℕ → Read Term
constructor_link_at bytes = do
  x ← constructor_at bytes
  Some (link x.0, x.1)

unfoldable pub member_link_at : ℕ → List ℕ → Read Term
member_link_at members bytes = do
  x ← member_at members bytes
  Some (link x.0, x.1)

-- the literal of a kind
unfoldable pub literal_term_at : ℕ → List ℕ → Read Term
literal_term_at kind bytes = do
  l ← literal_by kind bytes
  Some (literal l.0, l.1)

-- `depth` is the levels of the types and patterns in a term
module _ (depth : ℕ) (next : TermScope → List ℕ → Read Term) (s : TermScope) where
  unfoldable pub lambda_at : List ℕ → Read Term
  lambda_at bytes = do
    t ← next (binders_scope 1 s) bytes
    Some (lambda t.0, t.1)

  -- one after the other
  unfoldable pub two_at : List ℕ → Option (Term × Term × List ℕ)
  two_at bytes = do
    a ← next s bytes
    b ← next s a.1
    Some (a.0, b.0, b.1)

  unfoldable pub apply_at : List ℕ → Read Term
  apply_at bytes = do
    ab ← two_at bytes
    Some (apply ab.0 ab.1, ab.2)

  unfoldable pub and_at : List ℕ → Read Term
  and_at bytes = do
    ab ← two_at bytes
    Some (and ab.0 ab.1, ab.2)

  unfoldable pub or_at : List ℕ → Read Term
  or_at bytes = do
    ab ← two_at bytes
    Some (or ab.0 ab.1, ab.2)

  unfoldable pub annotated_at : List ℕ → Read Term
  annotated_at bytes = do
    t ← next s bytes
    ty ← type_at depth (types_scope s) t.1
    Some (annotated t.0 ty.0, ty.1)

  unfoldable pub tuple_term_at : List ℕ → Read Term
  tuple_term_at bytes = do
    ts ← counted_at (next s) 2 bytes
    Some (tuple (terms_of ts.0), ts.1)

  unfoldable pub list_term_at : List ℕ → Read Term
  list_term_at bytes = do
    ts ← counted_at (next s) 0 bytes
    Some (list (terms_of ts.0), ts.1)

  unfoldable pub conditional_at : List ℕ → Read Term
  conditional_at bytes = do
    c ← next s bytes
    ab ← two_at c.1
    Some (conditional c.0 ab.0 ab.1, ab.2)

  unfoldable pub binding_at : List ℕ → Read Term
  binding_at bytes = do
    t ← signature_at depth (types_scope s) bytes
    a ← next (binders_scope 1 (signature_scope t.0 s)) t.1
    b ← next (binders_scope 1 s) a.1
    Some (binding t.0 a.0 b.0, b.1)

  -- `-`, or `|` and the guard
  unfoldable pub guard_at : List ℕ → Read (Option Term)
  guard_at [] = None
  guard_at (c ∷ rest) =
      if c == 45 then Some (None, rest)
      else (if c == 124 then (next s rest >>= λ t. Some (Some t.0, t.1)) else None)

module _ (depth : ℕ) (next : TermScope → List ℕ → Read Term) (s : TermScope) where
  unfoldable pub case_at : List ℕ → Read Case
  case_at bytes = do
    p ← pattern_at depth bytes
    g ← guard_at depth next (binders_scope (binder_count p.0) s) p.1
    b ← next (binders_scope (binder_count p.0) s) g.1
    Some (record { pattern = p.0; guard = g.0; body = b.0 }, b.1)

  unfoldable pub match_at : List ℕ → Read Term
  match_at bytes = do
    t ← next s bytes
    cs ← counted_at case_at 1 t.1
    Some (match t.0 (cases_of cs.0), cs.1)

  unfoldable pub term_by : List ℕ → Read Term
  term_by [] = None
  term_by (c ∷ rest) =
      if c == 118 then term_variable_at s rest
      else (if c == 101 then Some (unit, rest)
      else (if c == 114 then reference_link_at rest
      else (if c == 107 then constructor_link_at rest
      else (if c == 109 then member_link_at s.members rest
      else (if c == 108 then lambda_at depth next s rest
      else (if c == 97 then apply_at depth next s rest
      else (if c == 115 then annotated_at depth next s rest
      else (if c == 112 then tuple_term_at depth next s rest
      else (if c == 103 then list_term_at depth next s rest
      else (if c == 102 then conditional_at depth next s rest
      else (if c == 119 then and_at depth next s rest
      else (if c == 111 then or_at depth next s rest
      else (if c == 100 then binding_at depth next s rest
      else (if c == 106 then match_at rest else literal_term_at c rest))))))))))))))

-- of at most so many levels
abbrev pub term_at : ℕ → TermScope → List ℕ → Read Term
term_at zero s bytes = None
term_at (suc depth) s bytes = term_by depth (term_at depth) s bytes
