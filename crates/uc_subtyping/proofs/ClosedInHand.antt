-- Types without free variables are in hand anywhere.
use Rattle.std.proofs.Common.{◌≡◌, true, [], ◌∷◌, refl, subst, sym}
use Rattle.std.proofs.lemmas.Bool.{and_parts, and_from}
use Rattle.uc_context.specs.Opens.{Open, bound, rigid, existential, quantified, arrow, unit, tuple, applied, Opens, none, more}
use Rattle.uc_context.specs.Closing.{is_closed, are_closed}
use Rattle.uc_context.specs.Counts.{IsSmall}
use Rattle.uc_context.specs.Entries.{ContextEntries}
use Rattle.uc_context.specs.Variables.{has_variables, has_variables_of}
use Rattle.uc_subtyping.specs.InHand.{IsInHand, SolvesByMonotypes}

mutual
  known_closed : (es : ContextEntries) (t : Open) → is_closed t ≡ true → has_variables es t ≡ true
  known_closed es (bound i) c = refl
  known_closed es (rigid x) c = absurd cc
  known_closed es (existential x) c = absurd cc
  known_closed es (quantified t) c = known_closed es t c
  known_closed es (arrow a b) c = let p = and_parts (is_closed a) (is_closed b) c in and_from (has_variables es a) (has_variables es b) (known_closed es a p.0) (known_closed es b p.1)
  known_closed es unit c = refl
  known_closed es (tuple ts) c = all_known_closed es ts c
  known_closed es (applied h ts) c = all_known_closed es ts c

  all_known_closed : (es : ContextEntries) (ts : Opens) → are_closed ts ≡ true → has_variables_of es ts ≡ true
  all_known_closed es none c = refl
  all_known_closed es (more t ts) c = let p = and_parts (is_closed t) (are_closed ts) c in and_from (has_variables es t) (has_variables_of es ts) (known_closed es t p.0) (all_known_closed es ts p.1)

-- in a context without entries
pub closed_in_hand : (t : Open) → is_closed t ≡ true → IsSmall t → IsInHand [] t
closed_in_hand t c small = record { known = known_closed [] t c; current = refl; small = small }

pub in_hand_nowhere : (es : ContextEntries) (t : Open) → es ≡ [] → IsInHand [] t → IsInHand es t
in_hand_nowhere es t is h = subst (λ (cs : ContextEntries). IsInHand cs t) (sym is) h

pub no_solutions : (es : ContextEntries) → es ≡ [] → SolvesByMonotypes es
no_solutions es is = subst SolvesByMonotypes (sym is) tt

pub ruleset closed = (closed_in_hand, in_hand_nowhere, no_solutions)
