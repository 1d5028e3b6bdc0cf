-- Applications, by the type of the function.
use Rattle.std.proofs.Common.{◌≡◌, Box, Global, ℕ, ◌<◌, ◌^◌, true, false, [], ◌∷◌, length, refl, sym, ap, subst, ◌∙◌, inr, arith}
use Rattle.std.specs.List.{list_any}
use Rattle.uc_base.specs.declared.fault.Fault.{Fault}
use Rattle.uc_base.specs.declared.fault.Fault.TheVariants.{IllTyped}
use Rattle.uc_base.specs.declared.place.At.TheVariants as at
use Rattle.uc_base.specs.declared.place.Spot.{Spot}
use Rattle.uc_kinds.specs.PatternTyping.{Known}
use Rattle.uc_context.specs.declared.open.Open as declared_open
use Rattle.uc_context.specs.declared.open.OpenNode.{OpenNode}
use Rattle.uc_context.specs.declared.open.OpenNode.TheVariants as node
use Rattle.uc_context.specs.Counts.{levels_of_open, IsSmall}
use Rattle.uc_context.specs.Entries.{ContextEntries, is_unsolved}
use Rattle.uc_context.specs.Fresh.{fresh_number, fresh_numbers}
use Rattle.uc_context.specs.Opens.{Open, existential, quantified, arrow}
use Rattle.uc_context.specs.OpenViews.{open_of}
use Rattle.uc_context.specs.Solving.{solved_with_arrow}
use Rattle.uc_context.specs.Variables.{opened_at}
use Rattle.uc_soundness.specs.WellFormed.{IsTypeIn}
use Rattle.uc_soundness.proofs.Instances.{extended_with_arrow}
use Rattle.uc_soundness.proofs.Outcomes.{Extended}
use Rattle.uc_subtyping.proofs.Opened.{nodes-opened, levels-opened}
use Rattle.uc_subtyping.specs.Outcomes.{done}
use Rattle.uc_tree.specs.Nodes.{term_nodes}
use Rattle.uc_tree.specs.Terms.{Term}
use Rattle.uc_typing.specs.Checking.{applies_quantified, applies_arrow, applies_existential, applies_ill}
use Rattle.uc_typing.specs.Fronts.{front_count}
use Rattle.uc_typing.specs.Stops.{Stop, ill_typed, stops, gives, gives_none}
use Rattle.uc_typing.specs.Terms.{is_applicable}
use Rattle.uc_sound_typing.proofs.Sights.{seen_extends, argument_declared, front_opened}
use Rattle.uc_sound_typing.proofs.Terms.{opened_new}
use Rattle.uc_patterns.specs.declared.state.State.{State}
use Rattle.uc_patterns.specs.Spots.{IsStopped}
use Rattle.uc_check.specs.Walks.{IsAsked, IsChecked, IsFound, ChecksIn, AppliesIn}
use Rattle.uc_check.proofs.AskedFound.{declared, declared_on}
use Rattle.uc_check.proofs.FindWalks.{GoesOn, asked_behind, asked_formed, passed_none}

-- a type that no rule applies
pub unfit : (es : ContextEntries) (n : OpenNode) (t : Open) → open_of n ≡ t → is_applicable es (open_of n) ≡ false → is_applicable es t ≡ false
unfit es n t is h = subst (λ (u : Open). is_applicable es u ≡ false) is h

module _ (known : Known) (old : State) (here : Spot) (member : here.member ≡ old.spot.member) (e : Term) where
  -- it stops at the application
  pub unfit_stops : (t : Open) → is_applicable old.context t ≡ false → IsStopped old.spot.member (λ stop. AppliesIn known old here.node t e (gives_none stop)) (IllTyped (at.Spot here))
  unfit_stops t h = inr (
    ill_typed here.node,
    ap (λ (k : ℕ). let spot : Spot = record { member = k; node = here.node } in IllTyped (at.Spot spot)) member,
    applies_ill h,
  )

  -- as by an equal type
  pub stops_as : (t u : Open) (fault : Fault) → t ≡ u → IsStopped old.spot.member (λ stop. AppliesIn known old here.node t e (gives_none stop)) fault → IsStopped old.spot.member (λ stop. AppliesIn known old here.node u e (gives_none stop)) fault
  stops_as t u fault is s = subst (λ (v : Open). IsStopped old.spot.member (λ stop. AppliesIn known old here.node v e (gives_none stop)) fault) is s

  pub applied_as : (t u v w : Open) (new : State) (k : ℕ) → t ≡ u → v ≡ w → IsFound (AppliesIn known old here.node t e) old new k v → IsFound (AppliesIn known old here.node u e) old new k w
  applied_as t u v w new k is at f = subst (λ (x : Open). IsFound (AppliesIn known old here.node x e) old new k w) is (subst (λ (x : Open). IsFound (AppliesIn known old here.node t e) old new k x) at f)

  -- an arrow
  pub arrow_applied : (a b : Open) (new : State) → IsChecked (ChecksIn known old e a) old new (length (term_nodes e)) → IsFound (AppliesIn known old here.node (arrow a b) e) old new (length (term_nodes e)) b
  arrow_applied a b new w = record { outcome = applies_arrow w.outcome refl; sight = w.sight; spot = w.spot }

  pub arrow_stops : (a b : Open) (stop : Stop) → ChecksIn known old e a (stops stop) → AppliesIn known old here.node (arrow a b) e (gives_none stop)
  arrow_stops a b stop d = applies_arrow d refl

  -- a quantified type
  module _ (n : ℕ) (fresh : n ≡ fresh_number old.context) (t u : Open) (is : u ≡ opened_at 0 (existential n) t) where
    pub opened_applied : (new : State) (k : ℕ) (v : Open) → IsFound (AppliesIn known (declared old (n ∷ [])) here.node u e) (declared old (n ∷ [])) new k v → IsFound (AppliesIn known old here.node (quantified t) e) old new k v
    opened_applied new k v w = record { outcome = applies_quantified fresh (subst (λ (x : Open). AppliesIn known (declared old (n ∷ [])) here.node x e (gives v new.context)) is w.outcome); sight = w.sight; spot = w.spot }

    pub opened_stops : (stop : Stop) → AppliesIn known (declared old (n ∷ [])) here.node u e (gives_none stop) → AppliesIn known old here.node (quantified t) e (gives_none stop)
    opened_stops stop d = applies_quantified fresh (subst (λ (x : Open). AppliesIn known (declared old (n ∷ [])) here.node x e (gives_none stop)) is d)

    pub opened_typed : IsTypeIn known.arity old.context 0 (quantified t) → IsTypeIn known.arity (declared old (n ∷ [])).context 0 u
    opened_typed typed = subst (IsTypeIn known.arity (declared old (n ∷ [])).context 0) (sym is) (opened_new known.arity old.context n t typed)

    pub opened_asked : IsAsked known old 0 e → IsAsked known (declared old (n ∷ [])) 0 e
    opened_asked a = asked_behind known old (declared old (n ∷ [])) 0 (declared_on known old n fresh a.ready) e (asked_formed known old e a) a.bound (omega (arith, a.nodes))

    pub opened_small : IsSmall (quantified t) → IsSmall u
    opened_small small = subst IsSmall (sym is) (record { nodes = omega (arith, small.nodes, nodes-opened (existential n) refl 0 t); levels = omega (arith, small.levels, levels-opened (existential n) refl 0 t) })

    pub applied_front : front_count u ≡ front_count t
    applied_front = ap front_count is ∙ front_opened (existential n) refl 0 t

  pub body_levels : (t : Open) → IsSmall (quantified t) → levels_of_open t < 2 ^ 32
  body_levels t small = omega (arith, small.levels)

  -- an existential
  module _ (x : ℕ) (unsolved : list_any (is_unsolved x) old.context ≡ true) (argument result : ℕ) (are : argument ∷ result ∷ [] ≡ fresh_numbers 2 old.context) where
    abbrev pub solved_state : State
    solved_state = record { context = solved_with_arrow old.context x argument result; sight = old.sight; spot = old.spot }

    module _ (a : IsAsked known old 0 e) where
      grown : Extended known.arity old.context (done (solved_with_arrow old.context x argument result))
      grown = extended_with_arrow known.arity old.context x a.ready.context unsolved argument result are

      solved_on : GoesOn known old solved_state 0
      solved_on = record {
        ready = record { known = a.ready.known; context = grown.0; seen = seen_extends old.sight grown.1 a.ready.seen };
        grown = grown.1;
        sight = refl;
        spot = sym (passed_none old.spot);
      }

      pub solved_asked : IsAsked known solved_state 0 e
      solved_asked = asked_behind known old solved_state 0 solved_on e (asked_formed known old e a) a.bound (omega (arith, a.nodes))

      pub argument_typed : IsTypeIn known.arity solved_state.context 0 (existential argument)
      argument_typed = argument_declared known.arity old.context x a.ready.context unsolved argument result

    pub existential_applied : (new : State) (v : Open) → v ≡ existential result → IsChecked (ChecksIn known solved_state e (existential argument)) solved_state new (length (term_nodes e))
        → IsFound (AppliesIn known old here.node (existential x) e) old new (length (term_nodes e)) v
    existential_applied new v is w = subst (λ (u : Open). IsFound (AppliesIn known old here.node (existential x) e) old new (length (term_nodes e)) u) (sym is) (record { outcome = applies_existential unsolved are w.outcome refl; sight = w.sight; spot = w.spot })

    pub existential_stops : (stop : Stop) → ChecksIn known solved_state e (existential argument) (stops stop) → AppliesIn known old here.node (existential x) e (gives_none stop)
    existential_stops stop d = applies_existential unsolved are d refl

-- the node of a type that is no quantified type, arrow or existential
pub node_unfit : (es : ContextEntries) (n : OpenNode) → ((b : Box declared_open.Open Global) → n ≡ node.Forall b → ⊥) → ((a b : Box declared_open.Open Global) → n ≡ node.Arrow a b → ⊥) → ((x : ℕ) → n ≡ node.Exists x → ⊥) → is_applicable es (open_of n) ≡ false
node_unfit es (node.Bound i) f g h = refl
node_unfit es (node.Rigid x) f g h = refl
node_unfit es (node.Exists x) f g h = absurd (h x refl)
node_unfit es (node.Forall b) f g h = absurd (f b refl)
node_unfit es (node.Arrow a b) f g h = absurd (g a b refl)
node_unfit es node.Unit f g h = refl
node_unfit es (node.Tuple ts) f g h = refl
node_unfit es (node.Data c ts) f g h = refl
