-- The names of the term binders, in the order of canonical text, which is that of the written text.
use Rattle.std.specs.Prelude.{ℕ, List, [], ◌∷◌, ◌++◌, codes}
use Rattle.uc_scratch.specs.declared.written.Param.{Param}
use Rattle.uc_scratch.specs.declared.written.Param.TheVariants as param
use Rattle.uc_scratch.specs.Exprs.{Expr, done, lambda, atom, operator, and, or, opens_if, branches, opens_match, with_cases, cases, block, Atom, group, annotated, tuple, list, Exprs, none, more, Cases, no_case, case, guarded, Block, result, using, signature, prefix, infix_operator}
use Rattle.uc_scratch.specs.Files.{Item}
use Rattle.uc_scratch.specs.Files as file
use Rattle.uc_scratch.specs.ExprGrammar.{head_name}
use Rattle.uc_scratch.specs.TypeLevels.{texts_of}
use Rattle.uc_scratch.specs.NameFaults.{pattern_names}

-- the name of a parameter, which may be `_`
abbrev pub param_hint : Param → List ℕ
param_hint (param.Name w) = w.text
param_hint (param.Any p) = codes "_"

abbrev pub param_hints : List Param → List (List ℕ)
param_hints [] = []
param_hints (x ∷ ps) = param_hint x ∷ param_hints ps

abbrev mutual
  -- those of an expression: the lambda of `cases` is called `x`
  pub expr_hints : Expr → List (List ℕ)
  expr_hints done = []
  expr_hints (lambda ps b e) = param_hints ps ++ block_hints b ++ expr_hints e
  expr_hints (atom a e) = atom_hints a ++ expr_hints e
  expr_hints (operator w e) = expr_hints e
  expr_hints (and e) = expr_hints e
  expr_hints (or e) = expr_hints e
  expr_hints (opens_if p e) = expr_hints e
  expr_hints (branches b c e) = block_hints b ++ block_hints c ++ expr_hints e
  expr_hints (opens_match p e) = expr_hints e
  expr_hints (with_cases cs e) = cases_hints cs ++ expr_hints e
  expr_hints (cases p cs e) = codes "x" ∷ cases_hints cs ++ expr_hints e
  expr_hints (block p b e) = block_hints b ++ expr_hints e

  pub atom_hints : Atom → List (List ℕ)
  atom_hints (group p e) = expr_hints e
  atom_hints (annotated p e t) = expr_hints e
  atom_hints (tuple p es) = exprs_hints es
  atom_hints (list p es) = exprs_hints es
  atom_hints _ = []

  pub exprs_hints : Exprs → List (List ℕ)
  exprs_hints none = []
  exprs_hints (more e es) = expr_hints e ++ exprs_hints es

  pub cases_hints : Cases → List (List ℕ)
  cases_hints no_case = []
  cases_hints (case x b cs) = texts_of (pattern_names x) ++ block_hints b ++ cases_hints cs
  cases_hints (guarded x g b cs) = texts_of (pattern_names x) ++ expr_hints g ++ block_hints b ++ cases_hints cs

  -- those of a block: a binding's name comes before its parameters
  pub block_hints : Block → List (List ℕ)
  block_hints (result e) = expr_hints e
  block_hints (using p w ws b) = block_hints b
  block_hints (signature h t b) = block_hints b
  block_hints (prefix h ps c b) = (head_name h).text ∷ param_hints ps ++ block_hints c ++ block_hints b
  block_hints (infix_operator x w y c b) = w.text ∷ param_hint x ∷ param_hint y ∷ block_hints c ++ block_hints b

-- those of each definition of a file
abbrev pub definitions_hints : List Item → List (List (List ℕ))
definitions_hints [] = []
definitions_hints (file.prefix h ps b ∷ is) = (param_hints ps ++ block_hints b) ∷ definitions_hints is
definitions_hints (file.infix_operator x w y b ∷ is) = (param_hint x ∷ param_hint y ∷ block_hints b) ∷ definitions_hints is
definitions_hints (_ ∷ is) = definitions_hints is

-- those of each watch of a file
abbrev pub watches_hints : List Item → List (List (List ℕ))
watches_hints [] = []
watches_hints (file.watch p e ∷ is) = expr_hints e ∷ watches_hints is
watches_hints (_ ∷ is) = watches_hints is

-- one list for each definition, and then one for each watch
abbrev pub hints_of : List Item → List (List (List ℕ))
hints_of is = definitions_hints is ++ watches_hints is
