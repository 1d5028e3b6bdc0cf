-- States between the steps of a walk that finds a type.
use Rattle.std.proofs.Common.{◌≡◌, ℕ, suc, ◌+◌, ◌<◌, ◌≤◌, ◌^◌, true, List, [], ◌∷◌, ◌++◌, map, Some, length, refl, sym, ap, subst, ◌∙◌, arith, append_assoc}
use Rattle.std.proofs.lemmas.Bool.{false≢true}
use Rattle.uc_base.specs.declared.place.Spot.{Spot}
use Rattle.uc_kinds.specs.PatternTyping.{Known}
use Rattle.uc_kinds.specs.WellFormed.{Arity}
use Rattle.uc_context.specs.declared.entry.Entry.TheVariants.{Exists, Binder}
use Rattle.uc_context.specs.Entries.{ContextEntries}
use Rattle.uc_context.specs.Fresh.{fresh_numbers}
use Rattle.uc_context.specs.Opens.{Open, existential, Opens, none, more, opens_of}
use Rattle.uc_soundness.proofs.Extending.{Extends-trans}
use Rattle.uc_soundness.proofs.Instances.{all_new, length-fresh_numbers}
use Rattle.uc_soundness.proofs.Subtypes.{AreTypesIn, mono_types}
use Rattle.uc_tree.specs.Nodes.{term_nodes}
use Rattle.uc_tree.specs.Terms.{Term, Terms}
use Rattle.uc_tree.specs.Terms as terms
use Rattle.uc_typing.specs.Fronts.{existentials}
use Rattle.uc_typing.specs.Scopes.{Sight, under}
use Rattle.uc_typing.specs.Terms.{has_rule_of_form}
use Rattle.uc_patterns.specs.declared.state.State.{State}
use Rattle.uc_patterns.specs.Spots.{passed}
use Rattle.uc_patterns.specs.Walks.{AreTypes}
use Rattle.uc_check.specs.Walks.{IsAsked, IsChecked, IsFound, is_block, ChecksIn, ChecksByFormIn, ChecksAllIn, SynthesizesIn}
use Rattle.uc_check.proofs.AskedFound.{with_new, lambda_state}
use Rattle.uc_check.proofs.FindWalks.{GoesOn, passed_more}

-- a state by its parts
pub state_by : (s : State) (es : ContextEntries) (sight : Sight) (spot : Spot) → s.context ≡ es → s.sight ≡ sight → s.spot ≡ spot → s ≡ record { context = es; sight = sight; spot = spot }
state_by s es sight spot a b c =
    ap (λ (cs : ContextEntries). let m : State = record { context = cs; sight = s.sight; spot = s.spot } in m) a
    ∙ ap (λ (g : Sight). let m : State = record { context = es; sight = g; spot = s.spot } in m) b
    ∙ ap (λ (p : Spot). let m : State = record { context = es; sight = sight; spot = p } in m) c

pub new_as : (old : State) (ns : List ℕ) (k : ℕ) (es : ContextEntries) (spot : Spot) → es ≡ old.context ++ map (λ n. Exists n) ns → spot ≡ passed old.spot k → (let m : State = record { context = es; sight = old.sight; spot = spot } in m) ≡ with_new old ns k
new_as old ns k es spot a b = state_by (record { context = es; sight = old.sight; spot = spot }) (old.context ++ map (λ n. Exists n) ns) old.sight (passed old.spot k) a refl b

pub lambda_as : (known : Known) (old : State) (e : Term) (h : IsAsked known old 0 (terms.lambda e)) (a r n : ℕ) (are : a ∷ r ∷ n ∷ [] ≡ fresh_numbers 3 old.context) (start : State) {t : Open}
    → start.context ≡ ((old.context ++ Exists a ∷ []) ++ Exists r ∷ []) ++ Binder n t ∷ [] → t ≡ existential a → start.sight ≡ under (Some n) old.sight → start.spot ≡ passed old.spot 1 → start ≡ lambda_state known old e h a r n are
lambda_as known old e h a r n are start {t = t} context_is t_is sight_is spot_is =
    state_by start (old.context ++ Exists a ∷ Exists r ∷ Binder n (existential a) ∷ []) (under (Some n) old.sight) (passed old.spot 1)
    (context_is
    ∙ ap (λ (cs : ContextEntries). cs ++ Binder n t ∷ []) (append_assoc old.context (Exists a ∷ []) (Exists r ∷ []))
    ∙ append_assoc old.context (Exists a ∷ Exists r ∷ []) (Binder n t ∷ [])
    ∙ ap (λ (u : Open). old.context ++ Exists a ∷ Exists r ∷ Binder n u ∷ []) t_is)
    sight_is spot_is

-- a walk from an equal state, against an equal type
module _ (known : Known) (a b : State) (at : a ≡ b) where
  pub checked_as : (e : Term) (t u : Open) → t ≡ u → (new : State) (k : ℕ) → IsChecked (ChecksIn known a e t) a new k → IsChecked (ChecksIn known b e u) b new k
  checked_as e t u is new k w = subst (λ (v : Open). IsChecked (ChecksIn known b e v) b new k) is (subst (λ (s : State). IsChecked (ChecksIn known s e t) s new k) at w)

  pub by_form_as : (e : Term) (t u : Open) → t ≡ u → (new : State) (k : ℕ) → IsChecked (ChecksByFormIn known a e t) a new k → IsChecked (ChecksByFormIn known b e u) b new k
  by_form_as e t u is new k w = subst (λ (v : Open). IsChecked (ChecksByFormIn known b e v) b new k) is (subst (λ (s : State). IsChecked (ChecksByFormIn known s e t) s new k) at w)

  pub all_checked_as : (es : Terms) (ts : Opens) (new : State) (k : ℕ) → IsChecked (ChecksAllIn known a es ts) a new k → IsChecked (ChecksAllIn known b es ts) b new k
  all_checked_as es ts new k w = subst (λ (s : State). IsChecked (ChecksAllIn known s es ts) s new k) at w

  pub found_as_start : (e : Term) (new : State) (k : ℕ) (t : Open) → IsFound (SynthesizesIn known a e) a new k t → IsFound (SynthesizesIn known b e) b new k t
  found_as_start e new k t w = subst (λ (s : State). IsFound (SynthesizesIn known s e) s new k t) at w

-- existentials as types
types_as : (arity : Arity) (es : ContextEntries) (ts : Opens) → AreTypesIn arity es ts → AreTypes arity es ts
types_as arity es none h = tt
types_as arity es (more t ts) h = (h.0, types_as arity es ts h.1)

pub new_types : (arity : Arity) (es : ContextEntries) (ns : List ℕ) → AreTypes arity (es ++ map (λ n. Exists n) ns) (opens_of (existentials ns))
new_types arity es ns = types_as arity (es ++ map (λ n. Exists n) ns) (opens_of (existentials ns)) (mono_types arity (es ++ map (λ n. Exists n) ns) (opens_of (existentials ns)) (all_new arity es ns))

many_existentials : (ns : List ℕ) → length (existentials ns) ≡ length ns
many_existentials [] = refl
many_existentials (n ∷ ns) = ap suc (many_existentials ns)

pub tuple_many : {A : Type 0} (parts : List A) (us : List Open) (ns : List ℕ) (es : ContextEntries) → ns ≡ fresh_numbers (length parts) es → us ≡ existentials ns → length parts ≡ length us
tuple_many parts us ns es many are = sym (ap length are ∙ many_existentials ns ∙ ap length many ∙ length-fresh_numbers (length parts) es)

-- nodes
pub node_more : (known : Known) (old : State) (e : Term) (spot : Spot) → spot ≡ old.spot → IsAsked known old 0 e → 1 ≤ length (term_nodes e) → spot.node + 1 < 2 ^ 32
node_more known old e spot is h one = subst (λ (s : Spot). s.node + 1 < 2 ^ 32) (sym is) (omega (arith, h.nodes, one))

pub behind_room : (s t : Spot) (a b k : ℕ) → t ≡ passed (passed s 1) a → 1 + a + b ≡ k → s.node + k < 2 ^ 32 → t.node + b < 2 ^ 32
behind_room s t a b k is sum h = subst (λ (u : Spot). u.node + b < 2 ^ 32) (sym is) (omega (arith, sum, h))

-- one variable is in sight
pub under_some : (new old : Sight) (n : ℕ) → new ≡ under (Some n) old → 1 ≤ length new.variables
under_some new old n is = subst (λ (s : Sight). 1 ≤ length s.variables) (sym is) (omega arith)

-- a step without a node
pub no_more : (known : Known) (old mid new : State) (n : ℕ) → GoesOn known old mid n → GoesOn known mid new 0 → GoesOn known old new n
no_more known old mid new n g h =
    let sum : n + 0 ≡ n = omega arith in
    record { ready = h.ready; grown = Extends-trans g.grown h.grown; sight = h.sight ∙ g.sight; spot = passed_more old.spot mid.spot new.spot n 0 n g.spot h.spot sum }

-- a binding or a match has a rule of its form
pub block_rule : (e : Term) (t : Open) → is_block e ≡ true → has_rule_of_form e t ≡ true
block_rule (terms.variable i) t h = absurd (false≢true h)
block_rule (terms.literal l) t h = absurd (false≢true h)
block_rule terms.unit t h = absurd (false≢true h)
block_rule (terms.link x) t h = absurd (false≢true h)
block_rule (terms.lambda e) t h = absurd (false≢true h)
block_rule (terms.apply f e) t h = absurd (false≢true h)
block_rule (terms.annotated e ty) t h = absurd (false≢true h)
block_rule (terms.tuple es) t h = absurd (false≢true h)
block_rule (terms.list es) t h = absurd (false≢true h)
block_rule (terms.conditional a b c) t h = absurd (false≢true h)
block_rule (terms.and a b) t h = absurd (false≢true h)
block_rule (terms.or a b) t h = absurd (false≢true h)
block_rule (terms.binding s a b) t h = refl
block_rule (terms.match e cs) t h = refl
