-- Parts of terms that are asked about where a type is found.
use Rattle.std.proofs.Common.{◌≡◌, ℕ, zero, suc, ◌+◌, ◌<◌, ◌^◌, true, ◌||◌, List, [], ◌∷◌, ◌++◌, map, Some, length, slice_get, refl, sym, ap, subst, ◌∙◌, arith, length-append}
use Rattle.std.proofs.lemmas.Bool.{or_left, or_right}
use Rattle.uc_base.specs.declared.place.Spot.{Spot}
use Rattle.uc_kinds.specs.PatternTyping.{Known}
use Rattle.uc_kinds.specs.Typing.{uses, some_uses}
use Rattle.uc_context.specs.declared.entry.Entry.TheVariants.{Exists, Binder}
use Rattle.uc_context.specs.Entries.{ContextEntries}
use Rattle.uc_context.specs.Fresh.{fresh_number, fresh_numbers, AreNew}
use Rattle.uc_context.specs.Opens.{existential, arrow}
use Rattle.uc_context.proofs.FreshNumbers.{fresh_numbers-AreNew}
use Rattle.uc_soundness.specs.Extending.{Extends}
use Rattle.uc_soundness.specs.WellFormed.{IsTypeIn, IsWellFormedContext}
use Rattle.uc_soundness.proofs.Extending.{Extends-trans}
use Rattle.uc_tree.specs.Nodes.{term_nodes, terms_nodes, ty_nodes}
use Rattle.uc_tree.specs.Terms.{Term, Terms}
use Rattle.uc_tree.specs.Terms as terms
use Rattle.uc_tree.specs.Types.{Ty}
use Rattle.uc_typing.specs.Scopes.{Sight, under}
use Rattle.uc_typing.specs.Stops.{Variables}
use Rattle.uc_typing.specs.WrittenTypes.{written}
use Rattle.uc_sound_typing.specs.Formed.{AreFormed}
use Rattle.uc_sound_typing.specs.Seeing.{IsSeen}
use Rattle.uc_sound_typing.proofs.NewExistentials.{with_existentials, Extends-existentials}
use Rattle.uc_sound_typing.proofs.Sights.{seen_extends, seen_under, one_new}
use Rattle.uc_sound_typing.proofs.Terms.{bound_formed, bound_behind, lambda_front, lambda_formed, lambda_typed, lambda_unbound, lambda_whole}
use Rattle.uc_sound_typing.proofs.WrittenTypes.{written_typed}
use Rattle.uc_patterns.specs.declared.state.State.{State}
use Rattle.uc_patterns.specs.Spots.{passed}
use Rattle.uc_patterns.specs.Walks.{IsReady}
use Rattle.uc_check.specs.Walks.{UsesAreBound, IsAsked, AreAsked, ahead}
use Rattle.uc_check.proofs.FindWalks.{GoesOn, asked_formed, asked_behind, asked_with, on_ahead, passed_none, passed_twice}

-- a state with new existentials
abbrev pub declared : State → List ℕ → State
declared state ns = record { context = state.context ++ map (λ n. Exists n) ns; sight = state.sight; spot = state.spot }

-- and so many nodes further
abbrev pub with_new : State → List ℕ → ℕ → State
with_new state ns k = ahead k (declared state ns)

pub new_on : (known : Known) (state : State) (ns : List ℕ) (k : ℕ) → AreNew ns state.context → IsReady known state → GoesOn known state (with_new state ns k) k
new_on known state ns k new r =
    let grown : Extends state.context (state.context ++ map (λ n. Exists n) ns) = Extends-existentials state.context ns in
    record {
      ready = record { known = r.known; context = with_existentials known.arity state.context ns new r.context; seen = seen_extends state.sight grown r.seen };
      grown = grown;
      sight = refl;
      spot = refl;
    }

pub declared_on : (known : Known) (state : State) (n : ℕ) → n ≡ fresh_number state.context → IsReady known state → GoesOn known state (declared state (n ∷ [])) 0
declared_on known state n is r =
    let g : GoesOn known state (with_new state (n ∷ []) 0) 0 = new_on known state (n ∷ []) 0 (one_new state.context n is) r in
    record { ready = record { known = g.ready.known; context = g.ready.context; seen = g.ready.seen }; grown = g.grown; sight = refl; spot = sym (passed_none state.spot) }

pub all_new_of : (es : ContextEntries) (count : ℕ) (ns : List ℕ) → ns ≡ fresh_numbers count es → AreNew ns es
all_new_of es count ns are = subst (λ (ms : List ℕ). AreNew ms es) (sym are) (fresh_numbers-AreNew count es)

-- one walk behind another
pub goes_on : (known : Known) (old mid new : State) (a b : ℕ) → GoesOn known old mid a → GoesOn known mid new b → GoesOn known old new (a + b)
goes_on known old mid new a b g h =
    record { ready = h.ready; grown = Extends-trans g.grown h.grown; sight = h.sight ∙ g.sight; spot = h.spot ∙ ap (λ (s : Spot). passed s b) g.spot ∙ passed_twice old.spot a b }

-- terms in a state behind another
pub all_asked_behind : (known : Known) (old new : State) (n : ℕ) → GoesOn known old new n → (es : Terms) → AreFormed known (length old.sight.variables) (length old.sight.seen) es
    → ((i : ℕ) → some_uses i es ≡ true → (k : ℕ) × (slice_get old.sight.variables i ≡ Some (Some k))) → old.spot.node + n + length (terms_nodes es) < 2 ^ 32 → AreAsked known new es
all_asked_behind known old new n g es formed all_bound nodes = record {
  ready = g.ready;
  formed = subst (λ (s : Sight). AreFormed known (length s.variables) (length s.seen) es) (sym g.sight) formed;
  bound = subst (λ (s : Sight). (i : ℕ) → some_uses i es ≡ true → (k : ℕ) × (slice_get s.variables i ≡ Some (Some k))) (sym g.sight) all_bound;
  nodes = subst (λ (s : Spot). s.node + length (terms_nodes es) < 2 ^ 32) (sym g.spot) nodes;
}

module _ (known : Known) (state : State) where
  -- an application
  module _ (f e : Term) (a : IsAsked known state 0 (terms.apply f e)) where
    pub asked_function : IsAsked known (ahead 1 state) 0 f
    asked_function =
        asked_with known (ahead 1 state) f (on_ahead known state 1 a.ready) (asked_formed known state (terms.apply f e) a).0 (λ i u. a.bound i (or_left (uses i f) (uses i e) u))
        (omega (arith, a.nodes, length-append (term_nodes f) (term_nodes e)))

    pub asked_argument : (new : State) → GoesOn known (ahead 1 state) new (length (term_nodes f)) → IsAsked known new 0 e
    asked_argument new g =
        asked_behind known (ahead 1 state) new (length (term_nodes f)) g e (asked_formed known state (terms.apply f e) a).1 (λ i u. a.bound i (or_right (uses i f) (uses i e) u))
        (omega (arith, a.nodes, length-append (term_nodes f) (term_nodes e)))

  -- an annotated term
  module _ (e : Term) (ty : Ty) (a : IsAsked known state 0 (terms.annotated e ty)) where
    pub asked_inside : IsAsked known (ahead 1 state) 0 e
    asked_inside =
        asked_with known (ahead 1 state) e (on_ahead known state 1 a.ready) (asked_formed known state (terms.annotated e ty) a).0 a.bound
        (omega (arith, a.nodes, length-append (term_nodes e) (ty_nodes ty)))

    pub annotation_typed : IsTypeIn known.arity state.context 0 (written state.sight.seen ty)
    annotation_typed = written_typed known.arity state.context state.sight.seen a.ready.seen.rigids ty (asked_formed known state (terms.annotated e ty) a).1

  -- the parts of a tuple or of a list
  module _ (es : Terms) (ns : List ℕ) (new : AreNew ns state.context) where
    pub asked_parts : IsAsked known state 0 (terms.tuple es) → AreAsked known (with_new state ns 1) es
    asked_parts a = all_asked_behind known state (with_new state ns 1) 1 (new_on known state ns 1 new a.ready) es (asked_formed known state (terms.tuple es) a) a.bound (omega (arith, a.nodes))

    pub asked_elements : IsAsked known state 0 (terms.list es) → AreAsked known (with_new state ns 1) es
    asked_elements a = all_asked_behind known state (with_new state ns 1) 1 (new_on known state ns 1 new a.ready) es (asked_formed known state (terms.list es) a) a.bound (omega (arith, a.nodes))

  -- two terms
  module _ (e f : Term) (a : AreAsked known state (terms.more e (terms.more f terms.none))) where
    none_last : (i : ℕ) → uses i f ≡ true → some_uses i (terms.more f terms.none) ≡ true
    none_last i u = or_left (uses i f) (some_uses i terms.none) u

    pub asked_first : IsAsked known state 0 e
    asked_first =
        asked_with known state e a.ready a.formed.0 (λ i u. a.bound i (or_left (uses i e) (some_uses i (terms.more f terms.none)) u))
        (omega (arith, a.nodes, length-append (term_nodes e) (term_nodes f ++ [])))

    pub asked_second : (new : State) → GoesOn known state new (length (term_nodes e)) → IsAsked known new 0 f
    asked_second new g =
        asked_behind known state new (length (term_nodes e)) g f a.formed.1.0 (λ i u. a.bound i (or_right (uses i e) (some_uses i (terms.more f terms.none)) (none_last i u)))
        (omega (arith, a.nodes, length-append (term_nodes e) (term_nodes f ++ []), length-append (term_nodes f) []))

  -- a conditional
  module _ (e f g : Term) (a : IsAsked known state 0 (terms.conditional e f g)) where
    pub asked_condition : IsAsked known (ahead 1 state) 0 e
    asked_condition =
        asked_with known (ahead 1 state) e (on_ahead known state 1 a.ready) (asked_formed known state (terms.conditional e f g) a).0 (λ i u. a.bound i (or_left (uses i e) (uses i f || uses i g) u))
        (omega (arith, a.nodes, length-append (term_nodes e ++ term_nodes f) (term_nodes g), length-append (term_nodes e) (term_nodes f)))

    pub asked_consequent : (new : State) → GoesOn known (ahead 1 state) new (length (term_nodes e)) → IsAsked known new 0 f
    asked_consequent new h =
        asked_behind known (ahead 1 state) new (length (term_nodes e)) h f (asked_formed known state (terms.conditional e f g) a).1 (λ i u. a.bound i (or_right (uses i e) (uses i f || uses i g) (or_left (uses i f) (uses i g) u)))
        (omega (arith, a.nodes, length-append (term_nodes e ++ term_nodes f) (term_nodes g), length-append (term_nodes e) (term_nodes f)))

    pub asked_alternative : (new : State) → GoesOn known (ahead 1 state) new (length (term_nodes e) + length (term_nodes f)) → IsAsked known new 0 g
    asked_alternative new h =
        asked_behind known (ahead 1 state) new (length (term_nodes e) + length (term_nodes f)) h g (asked_formed known state (terms.conditional e f g) a).2 (λ i u. a.bound i (or_right (uses i e) (uses i f || uses i g) (or_right (uses i f) (uses i g) u)))
        (omega (arith, a.nodes, length-append (term_nodes e ++ term_nodes f) (term_nodes g), length-append (term_nodes e) (term_nodes f)))

-- variables under a binder
pub uses_under : (vars : Variables) (n : ℕ) (e : Term) → UsesAreBound vars (terms.lambda e) → UsesAreBound (Some n ∷ vars) e
uses_under vars n e all_bound zero u = (n, refl)
uses_under vars n e all_bound (suc i) u = let same : suc i ≡ i + 1 = omega arith in all_bound i (subst (λ (j : ℕ). uses j e ≡ true) same u)

-- the body of a function whose type is found
module _ (known : Known) (state : State) (e : Term) (a : IsAsked known state 0 (terms.lambda e)) (argument result n : ℕ) (are : argument ∷ result ∷ n ∷ [] ≡ fresh_numbers 3 state.context) where
  abbrev pub lambda_state : State
  lambda_state = record { context = state.context ++ Exists argument ∷ Exists result ∷ Binder n (existential argument) ∷ []; sight = under (Some n) state.sight; spot = passed state.spot 1 }

  abbrev wf : IsWellFormedContext known.arity state.context
  wf = a.ready.context

  abbrev front : ContextEntries
  front = lambda_front known.arity state.context argument result n wf are

  abbrev typed : IsTypeIn known.arity front 0 (arrow (existential argument) (existential result))
  typed = lambda_typed known.arity state.context argument result n wf are

  abbrev whole : front ++ Binder n (existential argument) ∷ [] ≡ state.context ++ Exists argument ∷ Exists result ∷ Binder n (existential argument) ∷ []
  whole = lambda_whole known.arity state.context argument result n wf are

  lambda_ready : IsReady known lambda_state
  lambda_ready = record {
    known = a.ready.known;
    context = subst (IsWellFormedContext known.arity) whole (bound_formed known.arity front n (existential argument) (lambda_formed known.arity state.context argument result n wf are) typed.0);
    seen = subst (λ (cs : ContextEntries). IsSeen cs (under (Some n) state.sight)) whole
        (seen_under front state.sight (seen_extends state.sight (Extends-existentials state.context (argument ∷ result ∷ [])) a.ready.seen) n (existential argument) (lambda_unbound known.arity state.context argument result n wf are));
  }

  pub asked_body : IsAsked known lambda_state 0 e
  asked_body = asked_with known lambda_state e lambda_ready (asked_formed known state (terms.lambda e) a) (uses_under state.sight.variables n e a.bound) (omega (arith, a.nodes))

  pub inner_typed : IsTypeIn known.arity lambda_state.context 0 (existential result)
  inner_typed = subst (λ (cs : ContextEntries). IsTypeIn known.arity cs 0 (existential result)) whole (bound_behind known.arity front n (existential argument) (existential result) typed.1)
