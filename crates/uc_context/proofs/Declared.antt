-- Types whose variables entries have.
use Rattle.std.proofs.Common.{◌≡◌, true, refl}
use Rattle.std.proofs.lemmas.Bool.{and_parts, and_from}
use Rattle.uc_context.specs.Opens.{Open, bound, rigid, existential, quantified, arrow, unit, tuple, applied, Opens, none, more}
use Rattle.uc_context.specs.Entries.{ContextEntries}
use Rattle.uc_context.specs.Variables.{declares_all, declares_all_of, has_variables, has_variables_of}

-- where entries have each variable of a type they declare each existential of it
mutual
  pub variables_declared : (es : ContextEntries) (t : Open) → has_variables es t ≡ true → declares_all es t ≡ true
  variables_declared es (bound i) h = refl
  variables_declared es (rigid y) h = refl
  variables_declared es (existential y) h = h
  variables_declared es (quantified t) h = variables_declared es t h
  variables_declared es (arrow a b) h =
      let p = and_parts (has_variables es a) (has_variables es b) h in and_from (declares_all es a) (declares_all es b) (variables_declared es a p.0) (variables_declared es b p.1)
  variables_declared es unit h = refl
  variables_declared es (tuple ts) h = all_variables_declared es ts h
  variables_declared es (applied x ts) h = all_variables_declared es ts h

  all_variables_declared : (es : ContextEntries) (ts : Opens) → has_variables_of es ts ≡ true → declares_all_of es ts ≡ true
  all_variables_declared es none h = refl
  all_variables_declared es (more t ts) h =
      let p = and_parts (has_variables es t) (has_variables_of es ts) h in and_from (declares_all es t) (declares_all_of es ts) (variables_declared es t p.0) (all_variables_declared es ts p.1)
