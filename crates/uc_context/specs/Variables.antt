-- Variables in types.
use Rattle.std.specs.Prelude.{ℕ, suc, Bool, true, false, ◌==◌, ◌&&◌, ◌||◌, if◌then◌else◌}
use Rattle.std.specs.List.{list_any}
use Rattle.uc_context.specs.Opens.{Open, bound, rigid, existential, quantified, arrow, unit, tuple, applied, Opens, none, more}
use Rattle.uc_context.specs.Entries.{ContextEntries, is_rigid, declares}

abbrev mutual
  -- a type with another in place of the bound variable with a number, which counts from outside; what takes its place has no bound variables of its own
  pub opened_at : ℕ → Open → Open → Open
  opened_at k by (bound i) = if i == k then by else bound i
  opened_at k by (rigid x) = rigid x
  opened_at k by (existential x) = existential x
  opened_at k by (quantified t) = quantified (opened_at (suc k) by t)
  opened_at k by (arrow a b) = arrow (opened_at k by a) (opened_at k by b)
  opened_at k by unit = unit
  opened_at k by (tuple ts) = tuple (opened_all_at k by ts)
  opened_at k by (applied x ts) = applied x (opened_all_at k by ts)

  pub opened_all_at : ℕ → Open → Opens → Opens
  opened_all_at k by none = none
  opened_all_at k by (more t ts) = more (opened_at k by t) (opened_all_at k by ts)

abbrev mutual
  -- a type with another in place of an existential
  pub replaced : ℕ → Open → Open → Open
  replaced x by (bound i) = bound i
  replaced x by (rigid y) = rigid y
  replaced x by (existential y) = if y == x then by else existential y
  replaced x by (quantified t) = quantified (replaced x by t)
  replaced x by (arrow a b) = arrow (replaced x by a) (replaced x by b)
  replaced x by unit = unit
  replaced x by (tuple ts) = tuple (replaced_all x by ts)
  replaced x by (applied h ts) = applied h (replaced_all x by ts)

  pub replaced_all : ℕ → Open → Opens → Opens
  replaced_all x by none = none
  replaced_all x by (more t ts) = more (replaced x by t) (replaced_all x by ts)

abbrev mutual
  -- whether an existential stands in a type
  pub mentions : ℕ → Open → Bool
  mentions x (bound i) = false
  mentions x (rigid y) = false
  mentions x (existential y) = y == x
  mentions x (quantified t) = mentions x t
  mentions x (arrow a b) = mentions x a || mentions x b
  mentions x unit = false
  mentions x (tuple ts) = some_mentions x ts
  mentions x (applied h ts) = some_mentions x ts

  pub some_mentions : ℕ → Opens → Bool
  some_mentions x none = false
  some_mentions x (more t ts) = mentions x t || some_mentions x ts

abbrev mutual
  -- whether no quantifier stands in a type
  pub is_monotype : Open → Bool
  is_monotype (bound i) = true
  is_monotype (rigid x) = true
  is_monotype (existential x) = true
  is_monotype (quantified t) = false
  is_monotype (arrow a b) = is_monotype a && is_monotype b
  is_monotype unit = true
  is_monotype (tuple ts) = are_monotypes ts
  is_monotype (applied h ts) = are_monotypes ts

  pub are_monotypes : Opens → Bool
  are_monotypes none = true
  are_monotypes (more t ts) = is_monotype t && are_monotypes ts

abbrev mutual
  -- whether each existential of a type is declared
  pub declares_all : ContextEntries → Open → Bool
  declares_all es (bound i) = true
  declares_all es (rigid x) = true
  declares_all es (existential x) = list_any (declares x) es
  declares_all es (quantified t) = declares_all es t
  declares_all es (arrow a b) = declares_all es a && declares_all es b
  declares_all es unit = true
  declares_all es (tuple ts) = declares_all_of es ts
  declares_all es (applied h ts) = declares_all_of es ts

  pub declares_all_of : ContextEntries → Opens → Bool
  declares_all_of es none = true
  declares_all_of es (more t ts) = declares_all es t && declares_all_of es ts

abbrev mutual
  -- whether entries have each rigid variable and each existential of a type
  pub has_variables : ContextEntries → Open → Bool
  has_variables es (bound i) = true
  has_variables es (rigid x) = list_any (is_rigid x) es
  has_variables es (existential x) = list_any (declares x) es
  has_variables es (quantified t) = has_variables es t
  has_variables es (arrow a b) = has_variables es a && has_variables es b
  has_variables es unit = true
  has_variables es (tuple ts) = has_variables_of es ts
  has_variables es (applied h ts) = has_variables_of es ts

  pub has_variables_of : ContextEntries → Opens → Bool
  has_variables_of es none = true
  has_variables_of es (more t ts) = has_variables es t && has_variables_of es ts
