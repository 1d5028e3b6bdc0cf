-- Terms checked one after another, and those that are left.
use Rattle.std.proofs.Common.{◌≡◌, ℕ, zero, suc, ◌+◌, ◌<◌, ◌≤◌, ◌-◌, List, [], ◌∷◌, length, get_or, drop, refl, sym, ap, subst, ◌∙◌, arith, length-append}
use Rattle.std.proofs.lemmas.List.{drop_more, drop_all}
use Rattle.uc_base.specs.declared.fault.Fault.{Fault}
use Rattle.uc_base.specs.declared.place.Spot.{Spot}
use Rattle.uc_tree.specs.Nodes.{term_nodes, terms_nodes}
use Rattle.uc_tree.specs.Terms.{Term, Terms, terms_of, term_size, terms_size}
use Rattle.uc_tree.specs.Terms as terms
use Rattle.uc_kinds.specs.PatternTyping.{Known}
use Rattle.uc_kinds.specs.WellFormed.{Arity}
use Rattle.uc_context.specs.Entries.{ContextEntries}
use Rattle.uc_context.specs.Opens.{Open, Opens, none, more, opens_of}
use Rattle.uc_subtyping.specs.Outcomes.{done}
use Rattle.uc_soundness.specs.WellFormed.{IsTypeIn}
use Rattle.uc_soundness.proofs.Outcomes.{Extended}
use Rattle.uc_soundness.proofs.Types.{Covered-extends}
use Rattle.uc_typing.specs.Checking.{ChecksAll, all_checked, checked_next, checked_stop}
use Rattle.uc_typing.specs.Fronts.{repeated}
use Rattle.uc_typing.specs.Scopes.{Sight}
use Rattle.uc_typing.specs.Stops.{TermOutcome, leaves, stops}
use Rattle.uc_typing.specs.Terms.{terms_count}
use Rattle.uc_sound_typing.proofs.TermsExtend.{checks_extend}
use Rattle.uc_patterns.specs.declared.state.State.{State}
use Rattle.uc_patterns.specs.Spots.{passed, IsStopped}
use Rattle.uc_patterns.specs.Walks.{AreTypes}
use Rattle.uc_patterns.proofs.States.{types_grown}
use Rattle.uc_patterns.proofs.Steps.{stopped_as, passed_none}
use Rattle.uc_check.specs.Walks.{IsAsked, AreAsked, IsChecked, ChecksIn, ChecksAllIn}
use Rattle.uc_check.proofs.Asked.{first_asked, rest_asked}
use Rattle.uc_check.proofs.CheckStates.{ready_on, passed_by}

-- terms that are left, from whose outcome another follows
pub record PendingTerms (known : Known) (judged : TermOutcome → Type 0) (start now : State) (nodes : ℕ) (es : Terms) (ts : Opens) : Type 0 where
  pub asked : AreAsked known now es
  pub typed : AreTypes known.arity now.context ts
  pub sight : now.sight ≡ start.sight
  pub spot : passed now.spot (length (terms_nodes es)) ≡ passed start.spot nodes
  pub ends : (o : TermOutcome) → ChecksAllIn known now es ts o → judged o

module _ (known : Known) where
  -- all are left
  pub terms_start : (start : State) (es : Terms) (ts : Opens) → AreAsked known start es → AreTypes known.arity start.context ts → PendingTerms known (ChecksAllIn known start es ts) start start (length (terms_nodes es)) es ts
  terms_start start es ts asked typed = record { asked = asked; typed = typed; sight = refl; spot = refl; ends = λ o d. d }

  module _ (judged : TermOutcome → Type 0) (start : State) (nodes : ℕ) where
    pub terms_as : (a b : State) (es fs : Terms) (ts us : Opens) → a ≡ b → es ≡ fs → ts ≡ us → PendingTerms known judged start a nodes es ts → PendingTerms known judged start b nodes fs us
    terms_as a b es fs ts us e f g h =
        subst (λ (vs : Opens). PendingTerms known judged start b nodes fs vs) g (subst (λ (rs : Terms). PendingTerms known judged start b nodes rs ts) f (subst (λ (c : State). PendingTerms known judged start c nodes es ts) e h))

    module _ (now : State) (e : Term) (es : Terms) (t : Open) (ts : Opens) (h : PendingTerms known judged start now nodes (terms.more e es) (more t ts)) where
      pub term_asked : IsAsked known now 0 e
      term_asked = first_asked known now e es h.asked

      pub term_typed : IsTypeIn known.arity now.context 0 t
      term_typed = h.typed.0

      pub term_stopped : (fault : Fault) → IsStopped now.spot.member (λ stop. ChecksIn known now e t (stops stop)) fault → IsStopped start.spot.member (λ stop. judged (stops stop)) fault
      term_stopped fault s =
          stopped_as now.spot.member start.spot.member (λ stop. ChecksIn known now e t (stops stop)) (λ stop. judged (stops stop)) fault (ap (λ (p : Spot). p.member) h.spot) (λ stop d. h.ends (stops stop) (checked_stop d)) s

      module _ (next : State) (c : IsChecked (ChecksIn known now e t) now next (length (term_nodes e))) where
        next_extends : Extended known.arity now.context (done next.context)
        next_extends = checks_extend c.outcome h.asked.ready.known.formed (length now.sight.variables) h.asked.formed.0 h.asked.ready.context h.asked.ready.seen h.typed.0

        next_node : next.spot.node ≡ now.spot.node + length (term_nodes e)
        next_node = ap (λ (p : Spot). p.node) c.spot

        rest_from : (o : TermOutcome) → ChecksAllIn known next es ts o → ChecksAll known now.sight (now.spot.node + length (term_nodes e)) next.context es ts o
        rest_from o d =
            subst (λ (g : Sight). ChecksAll known g (now.spot.node + length (term_nodes e)) next.context es ts o) c.sight
            (subst (λ (k : ℕ). ChecksAll known next.sight k next.context es ts o) next_node d)

        pub terms_next : PendingTerms known judged start next nodes es ts
        terms_next = record {
          asked = rest_asked known now next e es h.asked (ready_on known now h.asked.ready next next_extends c.sight) c.sight c.spot;
          typed = types_grown known.arity now.context next.context ts (Covered-extends next_extends.1) h.typed.1;
          sight = c.sight ∙ h.sight;
          spot = ap (λ (p : Spot). passed p (length (terms_nodes es))) c.spot ∙ passed_by now.spot (length (term_nodes e)) (length (terms_nodes es)) (length (terms_nodes (terms.more e es))) (sym (length-append (term_nodes e) (terms_nodes es))) ∙ h.spot;
          ends = λ o d. h.ends o (checked_next c.outcome (rest_from o d));
        }

        -- the last of them
        pub terms_last : es ≡ terms.none → ts ≡ none → IsChecked judged start next nodes
        terms_last no_term no_type =
            let p : PendingTerms known judged start next nodes terms.none none = terms_as next next es terms.none ts none refl no_term no_type terms_next in
            record { outcome = p.ends (leaves next.context) all_checked; sight = p.sight; spot = passed_none next.spot ∙ p.spot }

    pub terms_done : (now : State) → PendingTerms known judged start now nodes terms.none none → IsChecked judged start now nodes
    terms_done now h = record { outcome = h.ends (leaves now.context) all_checked; sight = h.sight; spot = passed_none now.spot ∙ h.spot }

-- terms from a place on
pub terms_left : List Term → ℕ → Terms
terms_left es at = terms_of (drop at es)

pub terms_left-more : (es : List Term) (at : ℕ) (e : Term) → at < length es → e ≡ get_or es at e → terms_left es at ≡ terms.more e (terms_left es (at + 1))
unfolding terms_left
terms_left-more es at e within is = ap terms_of (drop_more es at e within ∙ ap (λ (d : Term). d ∷ drop (at + 1) es) (sym is))

pub terms_left-none : (es : List Term) (at : ℕ) → length es ≤ at → terms_left es at ≡ terms.none
unfolding terms_left
terms_left-none es at end = ap terms_of (drop_all at es end)

pub terms_left-all : (es : List Term) → terms_of es ≡ terms_left es 0
unfolding terms_left
terms_left-all es = refl

-- types from a place on
pub types_left : List Open → ℕ → Opens
types_left ts at = opens_of (drop at ts)

pub types_left-more : (ts : List Open) (at : ℕ) (t : Open) → at < length ts → t ≡ get_or ts at t → types_left ts at ≡ more t (types_left ts (at + 1))
unfolding types_left
types_left-more ts at t within is = ap opens_of (drop_more ts at t within ∙ ap (λ (d : Open). d ∷ drop (at + 1) ts) (sym is))

pub types_left-none : (ts : List Open) (at : ℕ) → length ts ≤ at → types_left ts at ≡ none
unfolding types_left
types_left-none ts at end = ap opens_of (drop_all at ts end)

pub types_left-all : (ts : List Open) → opens_of ts ≡ types_left ts 0
unfolding types_left
types_left-all ts = refl

-- a term of a list is smaller than the list
pub term_smaller : (es : List Term) (at : ℕ) (e : Term) → at < length es → e ≡ get_or es at e → term_size e < terms_size (terms_of es)
term_smaller [] at e within is = absurd (omega (arith, within))
term_smaller (d ∷ es) zero e within is = omega (arith, ap term_size is)
term_smaller (d ∷ es) (suc at) e within is = omega (arith, term_smaller es at e (omega (arith, within)) is)

-- as many terms as a list has
pub terms_count-of : (es : List Term) → terms_count (terms_of es) ≡ length es
terms_count-of [] = refl
terms_count-of (e ∷ es) = ap suc (terms_count-of es)

-- one type for each term
pub repeated_types : (arity : Arity) (es : ContextEntries) (k : ℕ) (t : Open) → IsTypeIn arity es 0 t → AreTypes arity es (repeated k t)
repeated_types arity es zero t h = tt
repeated_types arity es (suc k) t h = (h, repeated_types arity es k t h)

pub repeated_more : (k n : ℕ) (t : Open) → n < k → repeated (k - n) t ≡ more t (repeated (k - (n + 1)) t)
repeated_more k n t within = let one : k - n ≡ suc (k - (n + 1)) = omega arith in ap (λ (j : ℕ). repeated j t) one

pub repeated_none : (k n : ℕ) (t : Open) → k ≤ n → repeated (k - n) t ≡ none
repeated_none k n t end = let nought : k - n ≡ 0 = omega arith in ap (λ (j : ℕ). repeated j t) nought
