-- The arms of a walk that finds the type of a term, by its form.
use Rattle.std.proofs.Common.{◌≡◌, ℕ, ◌+◌, ◌<◌, ◌^◌, true, false, ◌||◌, [], ◌++◌, Some, Result, Ok, Err, IfOk, IfErr, length, slice_get, refl, sym, subst, inl, inr, arith, length-append}
use Rattle.std.proofs.lemmas.Bool.{or_cases, or_left, or_right, eq-eqb, false≢true}
use Rattle.uc_base.specs.declared.fault.Fault.{Fault}
use Rattle.uc_base.specs.declared.fault.Fault.TheVariants.{Memory}
use Rattle.uc_kinds.specs.PatternTyping.{Known, target_type}
use Rattle.uc_kinds.specs.Typing.{uses, some_uses}
use Rattle.uc_context.specs.Closing.{open_from}
use Rattle.uc_context.specs.Contexts.{binder_type}
use Rattle.uc_context.specs.Opens.{Open, unit, none, more}
use Rattle.uc_tree.specs.declared.literal.Literal.{Literal}
use Rattle.uc_tree.specs.declared.target.Target.{Target}
use Rattle.uc_tree.specs.Nodes.{term_nodes, terms_nodes}
use Rattle.uc_tree.specs.Terms.{Term, Terms}
use Rattle.uc_tree.specs.Terms as terms
use Rattle.uc_tree.specs.Types.{Ty}
use Rattle.uc_typing.specs.Checking.{finds_variable, finds_link, finds_literal, finds_unit}
use Rattle.uc_typing.specs.Fronts.{boolean, literal_type}
use Rattle.uc_typing.specs.Stops.{Stop, stops, gives, gives_none}
use Rattle.uc_sound_typing.specs.Formed.{IsTyped, IsAnyType}
use Rattle.uc_patterns.specs.declared.state.State.{State}
use Rattle.uc_patterns.specs.Spots.{IsStopped}
use Rattle.uc_check.specs.Walks.{IsAsked, AreAsked, IsFound, ahead, FindsIn, ChecksAllIn}
use Rattle.uc_check.proofs.FindRules.{stays, JoinedIn, both_found, either_found, both_stops, either_stops}
use Rattle.uc_check.proofs.FindWalks.{asked_formed, on_ahead}

module _ (known : Known) (old : State) where
  -- a term that is asked about, by its form
  pub asked_as : (e f : Term) → e ≡ f → IsAsked known old 0 e → IsAsked known old 0 f
  asked_as e f is a = subst (IsAsked known old 0) is a

  pub found_form : (e f : Term) (new : State) (t : Open) → e ≡ f → IsFound (FindsIn known old f) old new (length (term_nodes f)) t → IsFound (FindsIn known old e) old new (length (term_nodes e)) t
  found_form e f new t is w = subst (λ (g : Term). IsFound (FindsIn known old g) old new (length (term_nodes g)) t) (sym is) w

  module _ (r : Result Open Fault) where
    pub form_ok : (e f : Term) (new : State) → e ≡ f → IfOk r (IsFound (FindsIn known old f) old new (length (term_nodes f))) → IfOk r (IsFound (FindsIn known old e) old new (length (term_nodes e)))
    form_ok e f new is w = subst (λ (g : Term). IfOk r (IsFound (FindsIn known old g) old new (length (term_nodes g)))) (sym is) w

    pub form_err : (e f : Term) → e ≡ f → IfErr r (IsStopped old.spot.member (λ stop. FindsIn known old f (gives_none stop))) → IfErr r (IsStopped old.spot.member (λ stop. FindsIn known old e (gives_none stop)))
    form_err e f is w = subst (λ (g : Term). IfErr r (IsStopped old.spot.member (λ stop. FindsIn known old g (gives_none stop)))) (sym is) w

  -- want of memory
  pub memory_err : (r : Result Open Fault) (e : Term) → IfErr r (λ fault. fault ≡ Memory) → IfErr r (IsStopped old.spot.member (λ stop. FindsIn known old e (gives_none stop)))
  memory_err (Ok t) e w = tt
  memory_err (Err fault) e w = inl w

  -- a variable
  abbrev HasBinder : ℕ → Open → Type 0
  HasBinder i t = (n : ℕ) × (slice_get old.sight.variables i ≡ Some (Some n)) × (binder_type old.context n ≡ Some t)

  pub variable_ok : (r : Result Open Fault) (e : Term) (i : ℕ) (new : State) → e ≡ terms.variable i → IfOk r (HasBinder i) → IfOk r (λ t. new ≡ ahead 1 old) → IfOk r (IsFound (FindsIn known old e) old new (length (term_nodes e)))
  variable_ok (Ok t) e i new is h s = found_form e (terms.variable i) new t is (stays known old (terms.variable i) t new s refl (finds_variable h.1 h.2))
  variable_ok (Err fault) e i new is h s = tt

  -- a link
  abbrev HasType : Target → Open → Type 0
  HasType x t = (ty : Ty) × (target_type known x ≡ Some ty) × (t ≡ open_from ty)

  pub link_ok : (r : Result Open Fault) (e : Term) (x : Target) (new : State) → e ≡ terms.link x → IfOk r (HasType x) → IfOk r (λ t. new ≡ ahead 1 old) → IfOk r (IsFound (FindsIn known old e) old new (length (term_nodes e)))
  link_ok (Ok t) e x new is h s = found_form e (terms.link x) new t is (stays known old (terms.link x) t new s refl (finds_link h.1 h.2))
  link_ok (Err fault) e x new is h s = tt

  -- a literal, and the unit
  pub literal_found : (e : Term) (l : Literal) (new : State) (t : Open) → e ≡ terms.literal l → new ≡ ahead 1 old → t ≡ literal_type l → IsFound (FindsIn known old e) old new (length (term_nodes e)) t
  literal_found e l new t is s at = found_form e (terms.literal l) new t is (stays known old (terms.literal l) t new s refl (finds_literal at))

  pub unit_found : (e : Term) (new : State) (t : Open) → e ≡ terms.unit → new ≡ ahead 1 old → t ≡ unit → IsFound (FindsIn known old e) old new (length (term_nodes e)) t
  unit_found e new t is s at = found_form e terms.unit new t is (stays known old terms.unit t new s refl (subst (λ (u : Open). FindsIn known old terms.unit (gives u old.context)) (sym at) finds_unit))

  -- what a variable and a link need
  pub variable_asked : (e : Term) (i : ℕ) → e ≡ terms.variable i → IsAsked known old 0 e → (n : ℕ) × (slice_get old.sight.variables i ≡ Some (Some n))
  variable_asked e i is a = let b : IsAsked known old 0 (terms.variable i) = asked_as e (terms.variable i) is a in b.bound i (eq-eqb i i refl)

  pub link_asked : (e : Term) (x : Target) → e ≡ terms.link x → IsAsked known old 0 e → IsTyped IsAnyType known x
  link_asked e x is a = let b : IsAsked known old 0 (terms.link x) = asked_as e (terms.link x) is a in b.formed

  pub node_asked : (e : Term) → IsAsked known old 0 e → length (term_nodes e) ≡ 1 → old.spot.node + 1 < 2 ^ 32
  node_asked e a one = omega (arith, a.nodes, one)

  -- two terms that are joined
  module _ (a b : Term) where
    joined_uses : (i : ℕ) → some_uses i (terms.more a (terms.more b terms.none)) ≡ true → (uses i a || uses i b) ≡ true
    joined_uses i u = elim (or_cases (uses i a) (uses i b || false) u) [
      | inl p ↦ or_left (uses i a) (uses i b) p
      | inr p ↦ elim (or_cases (uses i b) false p) [
        | inl q ↦ or_right (uses i a) (uses i b) q
        | inr q ↦ absurd (false≢true q)
      ]
    ]

    joined_nodes : length (terms_nodes (terms.more a (terms.more b terms.none))) ≡ length (term_nodes a) + length (term_nodes b)
    joined_nodes = omega (arith, length-append (term_nodes a) (term_nodes b ++ []), length-append (term_nodes b) [])

    pub and_asked : IsAsked known old 0 (terms.and a b) → AreAsked known (ahead 1 old) (terms.more a (terms.more b terms.none))
    and_asked h =
        let formed = asked_formed known old (terms.and a b) h in
        record { ready = on_ahead known old 1 h.ready; formed = (formed.0, (formed.1, tt)); bound = λ i u. h.bound i (joined_uses i u); nodes = omega (arith, h.nodes, joined_nodes, length-append (term_nodes a) (term_nodes b)) }

    pub or_asked : IsAsked known old 0 (terms.or a b) → AreAsked known (ahead 1 old) (terms.more a (terms.more b terms.none))
    or_asked h =
        let formed = asked_formed known old (terms.or a b) h in
        record { ready = on_ahead known old 1 h.ready; formed = (formed.0, (formed.1, tt)); bound = λ i u. h.bound i (joined_uses i u); nodes = omega (arith, h.nodes, joined_nodes, length-append (term_nodes a) (term_nodes b)) }

    abbrev JoinedStops : Stop → Type 0
    JoinedStops stop = ChecksAllIn known (ahead 1 old) (terms.more a (terms.more b terms.none)) (more boolean (more boolean none)) (stops stop)

    pub and_ok : (r : Result Open Fault) (e : Term) (new : State) → e ≡ terms.and a b → IfOk r (IsFound (JoinedIn known old a b) old new (1 + length (term_nodes a) + length (term_nodes b))) → IfOk r (IsFound (FindsIn known old e) old new (length (term_nodes e)))
    and_ok (Ok t) e new is w = found_form e (terms.and a b) new t is (both_found known old a b new t w)
    and_ok (Err fault) e new is w = tt

    pub or_ok : (r : Result Open Fault) (e : Term) (new : State) → e ≡ terms.or a b → IfOk r (IsFound (JoinedIn known old a b) old new (1 + length (term_nodes a) + length (term_nodes b))) → IfOk r (IsFound (FindsIn known old e) old new (length (term_nodes e)))
    or_ok (Ok t) e new is w = found_form e (terms.or a b) new t is (either_found known old a b new t w)
    or_ok (Err fault) e new is w = tt

    pub and_err : (r : Result Open Fault) (e : Term) → e ≡ terms.and a b → IfErr r (IsStopped old.spot.member JoinedStops) → IfErr r (IsStopped old.spot.member (λ stop. FindsIn known old e (gives_none stop)))
    and_err (Ok t) e is w = tt
    and_err (Err fault) e is (inl m) = inl m
    and_err (Err fault) e is (inr s) = inr (s.0, s.1, subst (λ (g : Term). FindsIn known old g (gives_none s.0)) (sym is) (both_stops known old a b s.0 s.2))

    pub or_err : (r : Result Open Fault) (e : Term) → e ≡ terms.or a b → IfErr r (IsStopped old.spot.member JoinedStops) → IfErr r (IsStopped old.spot.member (λ stop. FindsIn known old e (gives_none stop)))
    or_err (Ok t) e is w = tt
    or_err (Err fault) e is (inl m) = inl m
    or_err (Err fault) e is (inr s) = inr (s.0, s.1, subst (λ (g : Term). FindsIn known old g (gives_none s.0)) (sym is) (either_stops known old a b s.0 s.2))
