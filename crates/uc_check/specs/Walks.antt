-- Walks over terms, from a state to another.
use Rattle.std.specs.Prelude.{◌≡◌, ◌<◌, ◌+◌, ◌^◌, ℕ, Bool, true, false, Option, Some, None, length, slice_get, [], ◌==◌}
use Rattle.uc_context.specs.Opens.{Open, Opens, none, more}
use Rattle.uc_kinds.specs.PatternTyping.{Known}
use Rattle.uc_kinds.specs.Typing.{uses, some_uses, some_case_uses}
use Rattle.uc_patterns.specs.declared.state.State.{State}
use Rattle.uc_patterns.specs.Spots.{passed}
use Rattle.uc_patterns.specs.Walks.{IsReady}
use Rattle.uc_sound_typing.specs.Formed.{IsFormed, AreFormed, AreFormedCases}
use Rattle.uc_base.specs.declared.reference.Ref.TheVariants.{Builtin}
use Rattle.uc_tree.specs.declared.target.Target.{Target}
use Rattle.uc_tree.specs.declared.target.Target.TheVariants.{Stored}
use Rattle.uc_tree.specs.Patterns.{Pattern}
use Rattle.uc_tree.specs.Nodes.{term_nodes, terms_nodes, cases_nodes}
use Rattle.uc_tree.specs.Terms.{Term, Terms, Cases}
use Rattle.uc_tree.specs.Terms as terms
use Rattle.uc_typing.specs.Checking.{Checks, ChecksAgainst, ChecksByForm, Synthesizes, Finds, Applies, Meets, ChecksAll, ChecksCases, ChecksCase}
use Rattle.uc_typing.specs.Fronts.{boolean}
use Rattle.uc_typing.specs.Scopes.{under, no_sight}
use Rattle.uc_typing.specs.Stops.{Variables, TermOutcome, leaves, TypeOutcome, gives}

-- each variable that a term uses has a binder
abbrev pub UsesAreBound : Variables → Term → Type 0
UsesAreBound vars e = (i : ℕ) → uses i e ≡ true → (n : ℕ) × (slice_get vars i ≡ Some (Some n))

-- a term that sees so many more type variables can be asked about in a state
pub record IsAsked (known : Known) (state : State) (front : ℕ) (e : Term) : Type 0 where
  pub ready : IsReady known state
  pub formed : IsFormed known (length state.sight.variables) (front + length state.sight.seen) e
  pub bound : UsesAreBound state.sight.variables e
  pub nodes : state.spot.node + length (term_nodes e) < 2 ^ 32

-- and so can terms
pub record AreAsked (known : Known) (state : State) (es : Terms) : Type 0 where
  pub ready : IsReady known state
  pub formed : AreFormed known (length state.sight.variables) (length state.sight.seen) es
  pub bound : (i : ℕ) → some_uses i es ≡ true → (n : ℕ) × (slice_get state.sight.variables i ≡ Some (Some n))
  pub nodes : state.spot.node + length (terms_nodes es) < 2 ^ 32

-- and cases
pub record AreAskedCases (known : Known) (state : State) (cs : Cases) : Type 0 where
  pub ready : IsReady known state
  pub formed : AreFormedCases known (length state.sight.variables) (length state.sight.seen) cs
  pub bound : (i : ℕ) → some_case_uses i cs ≡ true → (n : ℕ) × (slice_get state.sight.variables i ≡ Some (Some n))
  pub nodes : state.spot.node + length (cases_nodes cs) < 2 ^ 32

-- a walk over so many nodes ends as is judged, with what was in sight
pub record IsChecked (judged : TermOutcome → Type 0) (old new : State) (nodes : ℕ) : Type 0 where
  pub outcome : judged (leaves new.context)
  pub sight : new.sight ≡ old.sight
  pub spot : new.spot ≡ passed old.spot nodes

-- and gives a type
pub record IsFound (judged : TypeOutcome → Type 0) (old new : State) (nodes : ℕ) (t : Open) : Type 0 where
  pub outcome : judged (gives t new.context)
  pub sight : new.sight ≡ old.sight
  pub spot : new.spot ≡ passed old.spot nodes

-- the judgements of a state
abbrev pub ChecksIn : Known → State → Term → Open → TermOutcome → Type 0
ChecksIn known state e t = Checks known state.sight state.spot.node state.context e t

abbrev pub ChecksAgainstIn : Known → State → Term → Open → TermOutcome → Type 0
ChecksAgainstIn known state e t = ChecksAgainst known state.sight state.spot.node state.context e t

abbrev pub ChecksByFormIn : Known → State → Term → Open → TermOutcome → Type 0
ChecksByFormIn known state e t = ChecksByForm known state.sight state.spot.node state.context e t

abbrev pub SynthesizesIn : Known → State → Term → TypeOutcome → Type 0
SynthesizesIn known state e = Synthesizes known state.sight state.spot.node state.context e

abbrev pub FindsIn : Known → State → Term → TypeOutcome → Type 0
FindsIn known state e = Finds known state.sight state.spot.node state.context e

abbrev pub AppliesIn : Known → State → ℕ → Open → Term → TypeOutcome → Type 0
AppliesIn known state at t e = Applies known state.sight at state.spot.node state.context t e

abbrev pub MeetsIn : Known → State → Term → Open → TermOutcome → Type 0
MeetsIn known state e t = Meets known state.sight state.spot.node state.context e t

abbrev pub ChecksAllIn : Known → State → Terms → Opens → TermOutcome → Type 0
ChecksAllIn known state es ts = ChecksAll known state.sight state.spot.node state.context es ts

abbrev pub ChecksCasesIn : Known → State → Cases → Open → Open → TermOutcome → Type 0
ChecksCasesIn known state cs s t = ChecksCases known state.sight state.spot.node state.context cs s t

abbrev pub ChecksCaseIn : Known → State → Pattern → Terms → Open → Opens → TermOutcome → Type 0
ChecksCaseIn known state p es s ts = ChecksCase known state.sight state.spot.node state.context p es s ts

-- a state so many nodes further
abbrev pub ahead : ℕ → State → State
ahead nodes state = record { context = state.context; sight = state.sight; spot = passed state.spot nodes }

-- a state under a variable that isn't used
abbrev pub unused : State → State
unused state = record { context = state.context; sight = under None state.sight; spot = state.spot }

-- whether a term is a binding or a match
abbrev pub is_block : Term → Bool
is_block (terms.binding s a b) = true
is_block (terms.match e cs) = true
is_block e = false

-- the terms of a case: its guard, where there is one, and its body
abbrev pub case_terms : Option Term → Term → Terms
case_terms None body = terms.more body terms.none
case_terms (Some guard) body = terms.more guard (terms.more body terms.none)

-- the types that they are checked against
abbrev pub case_types : Option Term → Open → Opens
case_types None t = more t none
case_types (Some guard) t = more boolean (more t none)

-- the state in which the first node of a member is checked
abbrev pub first_state : ℕ → State
first_state member = record { context = []; sight = no_sight; spot = record { member = member; node = 1 } }

-- whether a data type is that of lists
abbrev pub is_list_head : Target → Bool
is_list_head (Stored (Builtin n)) = n == 5
is_list_head x = false
