-- Each arm of the checking of terms is a rule.
use Rattle.std.proofs.Common.{◌≡◌, ℕ, suc, ◌+◌, ◌-◌, ◌<◌, ◌≤◌, ◌^◌, true, false, [], ◌∷◌, ◌++◌, length, drop, Option, Some, None, refl, sym, ap, subst, ◌∙◌, arith, length-append, inr}
use Rattle.std.proofs.lemmas.Bool.{or_left, or_right}
use Rattle.uc_base.specs.declared.fault.Fault.{Fault}
use Rattle.uc_base.specs.declared.place.Spot.{Spot}
use Rattle.uc_tree.specs.Nodes.{ty_nodes, term_nodes}
use Rattle.uc_tree.specs.Terms.{Term, Terms, Cases}
use Rattle.uc_tree.specs.Terms as terms
use Rattle.uc_tree.specs.Types.{Ty}
use Rattle.uc_kinds.specs.PatternTyping.{Known}
use Rattle.uc_kinds.specs.Typing.{uses}
use Rattle.uc_context.specs.declared.entry.Entry.TheVariants.{Binder}
use Rattle.uc_context.specs.Entries.{ContextEntries, dropped_from}
use Rattle.uc_context.specs.Fresh.{fresh_number}
use Rattle.uc_context.specs.Opens.{Open, arrow}
use Rattle.uc_subtyping.specs.Outcomes.{done}
use Rattle.uc_soundness.specs.WellFormed.{IsTypeIn}
use Rattle.uc_soundness.proofs.Outcomes.{Extended}
use Rattle.uc_typing.specs.Checking.{Checks, form_lambda, form_signed, form_signed_stops, form_own_use, form_binding, form_binding_stops}
use Rattle.uc_typing.specs.Fronts.{front_count}
use Rattle.uc_typing.specs.Scopes.{Sight, under, with_variables}
use Rattle.uc_typing.specs.Stops.{needs_signature, TermOutcome, leaves, stops, gives, gives_none}
use Rattle.uc_typing.specs.WrittenTypes.{written}
use Rattle.uc_sound_typing.specs.Formed.{IsFormed, IsWritten, written_front}
use Rattle.uc_sound_typing.proofs.Terms.{bound_behind, TypeExtended}
use Rattle.uc_sound_typing.proofs.TermsExtend.{meets_extends, synthesizes_extends}
use Rattle.uc_sound_typing.proofs.WrittenTypes.{written_typed, front_written}
use Rattle.uc_patterns.specs.declared.state.State.{State}
use Rattle.uc_patterns.specs.Spots.{passed, fault_at, IsStopped}
use Rattle.uc_patterns.specs.Walks.{IsReady}
use Rattle.uc_patterns.proofs.Steps.{stopped_as}
use Rattle.uc_check.specs.Walks.{IsAsked, IsChecked, IsFound, ChecksIn, ChecksByFormIn, SynthesizesIn, MeetsIn, ahead, unused}
use Rattle.uc_check.proofs.Asked.{bound_inside, bound_unused, bound_as, plain_formed}
use Rattle.uc_check.proofs.CheckStates.{entered, ready_ahead, ready_entered, ready_unused, ready_on, typed_on, passed_by, left_sight}

-- the innermost variable goes out of scope again
pub record IsLeft (n : ℕ) (t : Open) (last new : State) : Type 0 where
  pub context : new.context ≡ dropped_from (Binder n t) last.context
  pub sight : new.sight ≡ with_variables (drop 1 last.sight.variables) last.sight
  pub spot : new.spot ≡ last.spot

pub left_room : (old last : Sight) (b : Option ℕ) → last ≡ under b old → 1 ≤ length last.variables
left_room old last b is = let count : length last.variables ≡ suc (length old.variables) = ap (λ (g : Sight). length g.variables) is in omega (arith, count)

-- what is bound, under a variable that it doesn't use
module _ (known : Known) (old mid : State) (e : Term) (k : ℕ) (t : Open) (found : IsFound (SynthesizesIn known (unused old) e) (unused old) mid k t) where
  pub unbound_depth : length old.sight.variables ≤ length mid.sight.variables
  unbound_depth = let count : length mid.sight.variables ≡ suc (length old.sight.variables) = ap (λ (g : Sight). length g.variables) found.sight in omega (arith, count)

  pub unbound_found : (new : State) → new.context ≡ mid.context → new.sight ≡ with_variables (drop (length mid.sight.variables - length old.sight.variables) mid.sight.variables) mid.sight → new.spot ≡ mid.spot → IsFound (SynthesizesIn known (unused old) e) old new k t
  unbound_found new same_context same_sight same_spot = record {
    outcome = subst (λ (es : ContextEntries). SynthesizesIn known (unused old) e (gives t es)) (sym same_context) found.outcome;
    sight =
        let one : length (None ∷ old.sight.variables) - length old.sight.variables ≡ 1 = omega arith in
        same_sight ∙ ap (λ (g : Sight). with_variables (drop (length g.variables - length old.sight.variables) g.variables) g) found.sight
        ∙ ap (λ (j : ℕ). with_variables (drop j (None ∷ old.sight.variables)) (under None old.sight)) one;
    spot = same_spot ∙ found.spot;
  }

-- a lambda
module _ (known : Known) (old : State) (n : ℕ) (e : Term) (a b : Open) (asked : IsAsked known old 0 (terms.lambda e)) (fresh : n ≡ fresh_number old.context) where
  -- where its body stands
  abbrev pub in_lambda : State
  in_lambda = ahead 1 (entered n a old)

  pub lambda_asked : IsTypeIn known.arity old.context 0 (arrow a b) → IsAsked known in_lambda 0 e
  lambda_asked typed = record {
    ready = ready_ahead known (entered n a old) (ready_entered known old asked.ready n a fresh typed.0) 1;
    formed = asked.formed;
    bound = bound_inside old.sight.variables e asked.bound n;
    nodes = omega (arith, asked.nodes);
  }

  pub lambda_typed : IsTypeIn known.arity old.context 0 (arrow a b) → IsTypeIn known.arity in_lambda.context 0 b
  lambda_typed typed = bound_behind known.arity old.context n a b typed.1

  pub lambda_done : (last new : State) → IsChecked (ChecksIn known in_lambda e b) in_lambda last (length (term_nodes e)) → IsLeft n a last new
      → IsChecked (ChecksByFormIn known old (terms.lambda e) (arrow a b)) old new (length (term_nodes (terms.lambda e)))
  lambda_done last new c l = record {
    outcome = form_lambda fresh c.outcome (ap leaves l.context);
    sight = left_sight old.sight last.sight new.sight (Some n) c.sight l.sight;
    spot = l.spot ∙ c.spot ∙ passed_by old.spot 1 (length (term_nodes e)) (length (term_nodes (terms.lambda e))) (omega arith);
  }

  pub lambda_stopped : (fault : Fault) → IsStopped old.spot.member (λ stop. ChecksIn known in_lambda e b (stops stop)) fault → IsStopped old.spot.member (λ stop. ChecksByFormIn known old (terms.lambda e) (arrow a b) (stops stop)) fault
  lambda_stopped fault s =
      stopped_as old.spot.member old.spot.member (λ stop. ChecksIn known in_lambda e b (stops stop)) (λ stop. ChecksByFormIn known old (terms.lambda e) (arrow a b) (stops stop)) fault refl (λ stop d. form_lambda fresh d refl) s

-- a binding with a signature
module _ (known : Known) (old : State) (n : ℕ) (ty : Ty) (a b : Term) (s t : Open) (asked : IsAsked known old 0 (terms.binding (Some ty) a b)) (typed : IsTypeIn known.arity old.context 0 t) (fresh : n ≡ fresh_number old.context) (is : s ≡ written old.sight.seen ty) where
  binding_nodes : length (term_nodes (terms.binding (Some ty) a b)) ≡ 1 + length (ty_nodes ty) + length (term_nodes a) + length (term_nodes b)
  binding_nodes = omega (arith, length-append (ty_nodes ty ++ term_nodes a) (term_nodes b), length-append (ty_nodes ty) (term_nodes a))

  pub signature_room : length (ty_nodes ty) < 2 ^ 32
  signature_room = omega (arith, asked.nodes, binding_nodes)

  pub signed_room : old.spot.node + 1 + length (ty_nodes ty) < 2 ^ 32
  signed_room = omega (arith, asked.nodes, binding_nodes)

  pub signature_typed : IsTypeIn known.arity old.context 0 s
  signature_typed =
      let same : 0 + length old.sight.seen ≡ length old.sight.seen = omega arith in
      subst (IsTypeIn known.arity old.context 0) (sym is) (written_typed known.arity old.context old.sight.seen asked.ready.seen.rigids ty (subst (λ (k : ℕ). IsWritten known.arity k ty) same asked.formed.0))

  -- where what is bound stands
  abbrev pub in_signed : State
  in_signed = ahead (length (ty_nodes ty)) (ahead 1 (entered n s old))

  ready_in_signed : IsReady known in_signed
  ready_in_signed = let r : IsReady known (entered n s old) = ready_entered known old asked.ready n s fresh signature_typed in record { known = r.known; context = r.context; seen = r.seen }

  signed_front : front_count s ≡ written_front ty
  signed_front = ap front_count is ∙ front_written old.sight.seen 0 ty

  pub signed_bound_asked : IsAsked known in_signed (front_count s) a
  signed_bound_asked =
      let front = signed_front in
      let same : written_front ty + (0 + length old.sight.seen) ≡ front_count s + length old.sight.seen = omega (arith, front) in
      record {
        ready = ready_in_signed;
        formed = subst (λ (k : ℕ). IsFormed known (suc (length old.sight.variables)) k a) same asked.formed.1;
        bound = bound_inside old.sight.variables a (λ i used. asked.bound i (or_left (uses (i + 1) a) (uses (i + 1) b) used)) n;
        nodes = omega (arith, asked.nodes, binding_nodes);
      }

  pub signed_bound_typed : IsTypeIn known.arity in_signed.context 0 s
  signed_bound_typed = bound_behind known.arity old.context n s s signature_typed

  pub signed_stopped : (fault : Fault) → IsStopped old.spot.member (λ stop. MeetsIn known in_signed a s (stops stop)) fault → IsStopped old.spot.member (λ stop. ChecksByFormIn known old (terms.binding (Some ty) a b) t (stops stop)) fault
  signed_stopped fault d =
      stopped_as old.spot.member old.spot.member (λ stop. MeetsIn known in_signed a s (stops stop)) (λ stop. ChecksByFormIn known old (terms.binding (Some ty) a b) t (stops stop)) fault refl (λ stop m. form_signed_stops fresh is m) d

  module _ (mid : State) (met : IsChecked (MeetsIn known in_signed a s) in_signed mid (length (term_nodes a))) where
    met_extends : Extended known.arity in_signed.context (done mid.context)
    met_extends = meets_extends met.outcome asked.ready.known.formed (suc (length old.sight.variables)) signed_bound_asked.formed ready_in_signed.context ready_in_signed.seen signed_bound_typed

    met_node : mid.spot.node ≡ old.spot.node + 1 + length (ty_nodes ty) + length (term_nodes a)
    met_node = ap (λ (p : Spot). p.node) met.spot

    pub signed_body_asked : IsAsked known mid 0 b
    signed_body_asked = record {
      ready = ready_on known in_signed ready_in_signed mid met_extends met.sight;
      formed = subst (λ (g : Sight). IsFormed known (length g.variables) (0 + length g.seen) b) (sym met.sight) asked.formed.2;
      bound = bound_as in_signed.sight mid.sight b (sym met.sight) (bound_inside old.sight.variables b (λ i used. asked.bound i (or_right (uses (i + 1) a) (uses (i + 1) b) used)) n);
      nodes = omega (arith, asked.nodes, binding_nodes, met_node);
    }

    pub signed_body_typed : IsTypeIn known.arity mid.context 0 t
    signed_body_typed = typed_on known in_signed ready_in_signed mid met_extends t (bound_behind known.arity old.context n s t typed)

    body_from : (o : TermOutcome) → ChecksIn known mid b t o → Checks known (under (Some n) old.sight) (old.spot.node + 1 + length (ty_nodes ty) + length (term_nodes a)) mid.context b t o
    body_from o d =
        subst (λ (g : Sight). Checks known g (old.spot.node + 1 + length (ty_nodes ty) + length (term_nodes a)) mid.context b t o) met.sight
        (subst (λ (k : ℕ). Checks known mid.sight k mid.context b t o) met_node d)

    pub signed_done : (last new : State) → IsChecked (ChecksIn known mid b t) mid last (length (term_nodes b)) → IsLeft n s last new
        → IsChecked (ChecksByFormIn known old (terms.binding (Some ty) a b) t) old new (length (term_nodes (terms.binding (Some ty) a b)))
    signed_done last new c l = record {
      outcome = form_signed fresh is met.outcome (body_from (leaves last.context) c.outcome) (ap leaves l.context);
      sight = left_sight old.sight last.sight new.sight (Some n) (c.sight ∙ met.sight) l.sight;
      spot =
          let nodes = binding_nodes in
          let total : 1 + length (ty_nodes ty) + length (term_nodes a) + length (term_nodes b) ≡ length (term_nodes (terms.binding (Some ty) a b)) = sym nodes in
          l.spot ∙ c.spot ∙ ap (λ (p : Spot). passed p (length (term_nodes b))) met.spot
          ∙ ap (λ (p : Spot). passed p (length (term_nodes b))) (ap (λ (p : Spot). passed p (length (term_nodes a))) (passed_by old.spot 1 (length (ty_nodes ty)) (1 + length (ty_nodes ty)) refl))
          ∙ ap (λ (p : Spot). passed p (length (term_nodes b))) (passed_by old.spot (1 + length (ty_nodes ty)) (length (term_nodes a)) (1 + length (ty_nodes ty) + length (term_nodes a)) refl)
          ∙ passed_by old.spot (1 + length (ty_nodes ty) + length (term_nodes a)) (length (term_nodes b)) (length (term_nodes (terms.binding (Some ty) a b))) total;
    }

    pub signed_body_stopped : (fault : Fault) → IsStopped mid.spot.member (λ stop. ChecksIn known mid b t (stops stop)) fault → IsStopped old.spot.member (λ stop. ChecksByFormIn known old (terms.binding (Some ty) a b) t (stops stop)) fault
    signed_body_stopped fault d =
        stopped_as mid.spot.member old.spot.member (λ stop. ChecksIn known mid b t (stops stop)) (λ stop. ChecksByFormIn known old (terms.binding (Some ty) a b) t (stops stop)) fault (ap (λ (p : Spot). p.member) met.spot)
        (λ stop k. form_signed fresh is met.outcome (body_from (stops stop) k) refl) d

-- a binding without one
module _ (known : Known) (old : State) (a b : Term) (t : Open) (asked : IsAsked known old 0 (terms.binding None a b)) (typed : IsTypeIn known.arity old.context 0 t) where
  unsigned_nodes : length (term_nodes (terms.binding None a b)) ≡ 1 + length (term_nodes a) + length (term_nodes b)
  unsigned_nodes = omega (arith, length-append ([] ++ term_nodes a) (term_nodes b))

  pub own_room : 0 + length (term_nodes a) < 2 ^ 32
  own_room = omega (arith, asked.nodes, unsigned_nodes)

  pub own_use : (fault : Fault) → uses 0 a ≡ true → fault ≡ fault_at old.spot.member (needs_signature old.spot.node) → IsStopped old.spot.member (λ stop. ChecksByFormIn known old (terms.binding None a b) t (stops stop)) fault
  own_use fault used is = inr (needs_signature old.spot.node, is, form_own_use used)

  module _ (unused_here : uses 0 a ≡ false) where
    pub unsigned_asked : IsAsked known (unused (ahead 1 old)) 0 a
    unsigned_asked =
        let r : IsReady known (unused old) = ready_unused known old asked.ready in
        let same : 0 + (0 + length old.sight.seen) ≡ 0 + length old.sight.seen = omega arith in
        record {
          ready = record { known = r.known; context = r.context; seen = r.seen };
          formed = subst (λ (k : ℕ). IsFormed known (suc (length old.sight.variables)) k a) same asked.formed.1;
          bound = bound_unused old.sight.variables a (λ i used. asked.bound i (or_left (uses (i + 1) a) (uses (i + 1) b) used)) unused_here;
          nodes = omega (arith, asked.nodes, unsigned_nodes);
        }

    pub unsigned_stopped : (fault : Fault) → IsStopped old.spot.member (λ stop. SynthesizesIn known (unused (ahead 1 old)) a (gives_none stop)) fault → IsStopped old.spot.member (λ stop. ChecksByFormIn known old (terms.binding None a b) t (stops stop)) fault
    unsigned_stopped fault d =
        stopped_as old.spot.member old.spot.member (λ stop. SynthesizesIn known (unused (ahead 1 old)) a (gives_none stop)) (λ stop. ChecksByFormIn known old (terms.binding None a b) t (stops stop)) fault refl
        (λ stop m. form_binding_stops unused_here m) d

    module _ (mid : State) (s : Open) (found : IsFound (SynthesizesIn known (unused (ahead 1 old)) a) (ahead 1 old) mid (length (term_nodes a)) s) where
      found_extends : TypeExtended known.arity old.context (gives s mid.context)
      found_extends = synthesizes_extends found.outcome asked.ready.known.formed (suc (length old.sight.variables)) (plain_formed known (unused (ahead 1 old)) a unsigned_asked) asked.ready.context unsigned_asked.ready.seen

      ready_found : IsReady known mid
      ready_found = ready_on known old asked.ready mid (found_extends.0, found_extends.1) found.sight

      found_node : mid.spot.node ≡ old.spot.node + 1 + length (term_nodes a)
      found_node = ap (λ (p : Spot). p.node) found.spot

      pub found_typed : IsTypeIn known.arity mid.context 0 s
      found_typed = found_extends.2

      module _ (n : ℕ) (fresh : n ≡ fresh_number mid.context) where
        pub unsigned_body_asked : IsAsked known (entered n s mid) 0 b
        unsigned_body_asked = record {
          ready = ready_entered known mid ready_found n s fresh found_extends.2;
          formed = subst (λ (g : Sight). IsFormed known (suc (length g.variables)) (0 + length g.seen) b) (sym found.sight) asked.formed.2;
          bound = bound_as (under (Some n) old.sight) (under (Some n) mid.sight) b (ap (under (Some n)) (sym found.sight)) (bound_inside old.sight.variables b (λ i used. asked.bound i (or_right (uses (i + 1) a) (uses (i + 1) b) used)) n);
          nodes = omega (arith, asked.nodes, unsigned_nodes, found_node);
        }

        pub unsigned_body_typed : IsTypeIn known.arity (entered n s mid).context 0 t
        unsigned_body_typed = bound_behind known.arity mid.context n s t (typed_on known old asked.ready mid (found_extends.0, found_extends.1) t typed)

        unsigned_from : (o : TermOutcome) → ChecksIn known (entered n s mid) b t o → Checks known (under (Some n) old.sight) (old.spot.node + 1 + length (term_nodes a)) (mid.context ++ Binder n s ∷ []) b t o
        unsigned_from o d =
            subst (λ (g : Sight). Checks known (under (Some n) g) (old.spot.node + 1 + length (term_nodes a)) (mid.context ++ Binder n s ∷ []) b t o) found.sight
            (subst (λ (k : ℕ). Checks known (under (Some n) mid.sight) k (mid.context ++ Binder n s ∷ []) b t o) found_node d)

        pub unsigned_done : (last new : State) → IsChecked (ChecksIn known (entered n s mid) b t) (entered n s mid) last (length (term_nodes b)) → IsLeft n s last new
            → IsChecked (ChecksByFormIn known old (terms.binding None a b) t) old new (length (term_nodes (terms.binding None a b)))
        unsigned_done last new c l = record {
          outcome = form_binding unused_here found.outcome fresh (unsigned_from (leaves last.context) c.outcome) (ap leaves l.context);
          sight = left_sight old.sight last.sight new.sight (Some n) (c.sight ∙ ap (under (Some n)) found.sight) l.sight;
          spot =
              let nodes = unsigned_nodes in
              l.spot ∙ c.spot ∙ ap (λ (p : Spot). passed p (length (term_nodes b))) (found.spot ∙ passed_by old.spot 1 (length (term_nodes a)) (1 + length (term_nodes a)) refl)
              ∙ passed_by old.spot (1 + length (term_nodes a)) (length (term_nodes b)) (length (term_nodes (terms.binding None a b))) (sym nodes);
        }

        pub unsigned_body_stopped : (fault : Fault) → IsStopped mid.spot.member (λ stop. ChecksIn known (entered n s mid) b t (stops stop)) fault → IsStopped old.spot.member (λ stop. ChecksByFormIn known old (terms.binding None a b) t (stops stop)) fault
        unsigned_body_stopped fault d =
            stopped_as mid.spot.member old.spot.member (λ stop. ChecksIn known (entered n s mid) b t (stops stop)) (λ stop. ChecksByFormIn known old (terms.binding None a b) t (stops stop)) fault (ap (λ (p : Spot). p.member) found.spot)
            (λ stop k. form_binding unused_here found.outcome fresh (unsigned_from (stops stop) k) refl) d
