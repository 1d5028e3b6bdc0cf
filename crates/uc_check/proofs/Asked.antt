-- The parts of what is asked about can be asked about.
use Rattle.std.proofs.Common.{◌≡◌, ℕ, zero, suc, ◌+◌, Bool, true, false, ◌||◌, [], ◌∷◌, ◌++◌, length, Some, None, slice_get, refl, sym, ap, subst, ◌∙◌, arith, length-append}
use Rattle.std.proofs.lemmas.Bool.{or_left, or_right, false≢true}
use Rattle.uc_base.specs.declared.place.Spot.{Spot}
use Rattle.uc_tree.specs.Nodes.{term_nodes, terms_nodes}
use Rattle.uc_tree.specs.Terms.{Term, Terms}
use Rattle.uc_tree.specs.Terms as terms
use Rattle.uc_kinds.specs.PatternTyping.{Known}
use Rattle.uc_kinds.specs.Typing.{uses, some_uses}
use Rattle.uc_typing.specs.Scopes.{Sight}
use Rattle.uc_typing.specs.Stops.{Variables}
use Rattle.uc_sound_typing.specs.Formed.{IsFormed, AreFormed}
use Rattle.uc_patterns.specs.declared.state.State.{State}
use Rattle.uc_patterns.specs.Spots.{passed}
use Rattle.uc_patterns.specs.Walks.{IsReady}
use Rattle.uc_check.specs.Walks.{UsesAreBound, IsAsked, AreAsked, ahead}
use Rattle.uc_check.proofs.CheckStates.{ready_ahead}

-- a variable has a binder
abbrev pub HasBinder : Variables → ℕ → Type 0
HasBinder vars i = (n : ℕ) × (slice_get vars i ≡ Some (Some n))

-- a term's uses under one more variable
module _ (vars : Variables) (e : Term) (h : (i : ℕ) → uses (i + 1) e ≡ true → HasBinder vars i) where
  pub bound_inside : (n : ℕ) → UsesAreBound (Some n ∷ vars) e
  bound_inside n zero used = (n, refl)
  bound_inside n (suc i) used = let same : suc i ≡ i + 1 = omega arith in h i (subst (λ (k : ℕ). uses k e ≡ true) same used)

  pub bound_unused : uses 0 e ≡ false → UsesAreBound (None ∷ vars) e
  bound_unused none zero used = absurd (false≢true (sym none ∙ used))
  bound_unused none (suc i) used = let same : suc i ≡ i + 1 = omega arith in h i (subst (λ (k : ℕ). uses k e ≡ true) same used)

-- from a sight that is another
pub bound_as : (a b : Sight) (e : Term) → a ≡ b → UsesAreBound a.variables e → UsesAreBound b.variables e
bound_as a b e is = subst (λ (g : Sight). UsesAreBound g.variables e) is

pub formed_as : (known : Known) (a b : Sight) (e : Term) (m k l : ℕ) → a ≡ b → m ≡ length a.variables → k ≡ l + length a.seen → IsFormed known m k e → IsFormed known (length b.variables) (l + length b.seen) e
formed_as known a b e m k l is same_variables same_seen h =
    subst (λ (g : Sight). IsFormed known (length g.variables) (l + length g.seen) e) is
    (subst (λ (j : ℕ). IsFormed known j (l + length a.seen) e) same_variables (subst (λ (j : ℕ). IsFormed known m j e) same_seen h))

-- a term that sees no more type variables
pub plain_formed : (known : Known) (s : State) (e : Term) → IsAsked known s 0 e → IsFormed known (length s.sight.variables) (length s.sight.seen) e
plain_formed known s e h = let front : 0 + length s.sight.seen ≡ length s.sight.seen = omega arith in subst (λ (k : ℕ). IsFormed known (length s.sight.variables) k e) front h.formed

module _ (known : Known) where
  -- the first of some terms
  pub first_asked : (s : State) (e : Term) (es : Terms) → AreAsked known s (terms.more e es) → IsAsked known s 0 e
  first_asked s e es h =
      let front : length s.sight.seen ≡ 0 + length s.sight.seen = omega arith in
      let nodes = length-append (term_nodes e) (terms_nodes es) in
      record {
        ready = h.ready;
        formed = subst (λ (k : ℕ). IsFormed known (length s.sight.variables) k e) front h.formed.0;
        bound = λ i used. h.bound i (or_left (uses i e) (some_uses i es) used);
        nodes = omega (arith, h.nodes, nodes);
      }

  -- and the others, behind it
  pub rest_asked : (s next : State) (e : Term) (es : Terms) → AreAsked known s (terms.more e es) → IsReady known next → next.sight ≡ s.sight → next.spot ≡ passed s.spot (length (term_nodes e)) → AreAsked known next es
  rest_asked s next e es h ready sight spot =
      let nodes = length-append (term_nodes e) (terms_nodes es) in
      let node : next.spot.node ≡ s.spot.node + length (term_nodes e) = ap (λ (p : Spot). p.node) spot in
      record {
        ready = ready;
        formed = subst (λ (g : Sight). AreFormed known (length g.variables) (length g.seen) es) (sym sight) h.formed.1;
        bound = λ i used. subst (λ (g : Sight). HasBinder g.variables i) (sym sight) (h.bound i (or_right (uses i e) (some_uses i es) used));
        nodes = omega (arith, h.nodes, nodes, node);
      }

  -- the terms of a tuple, of a list and of a conditional, behind its own node
  pub parts_asked : (s : State) (e : Term) (es : Terms) → IsAsked known s 0 e → (IsFormed known (length s.sight.variables) (0 + length s.sight.seen) e → AreFormed known (length s.sight.variables) (0 + length s.sight.seen) es)
      → ((i : ℕ) → some_uses i es ≡ true → uses i e ≡ true) → 1 + length (terms_nodes es) ≡ length (term_nodes e) → AreAsked known (ahead 1 s) es
  parts_asked s e es h formed used count =
      let front : 0 + length s.sight.seen ≡ length s.sight.seen = omega arith in
      record {
        ready = ready_ahead known s h.ready 1;
        formed = subst (λ (k : ℕ). AreFormed known (length s.sight.variables) k es) front (formed h.formed);
        bound = λ i u. h.bound i (used i u);
        nodes = omega (arith, h.nodes, count);
      }

  pub tuple_asked : (s : State) (es : Terms) → IsAsked known s 0 (terms.tuple es) → AreAsked known (ahead 1 s) es
  tuple_asked s es h = let count : 1 + length (terms_nodes es) ≡ length (term_nodes (terms.tuple es)) = omega arith in parts_asked s (terms.tuple es) es h (λ f. f) (λ i u. u) count

  pub list_asked : (s : State) (es : Terms) → IsAsked known s 0 (terms.list es) → AreAsked known (ahead 1 s) es
  list_asked s es h = let count : 1 + length (terms_nodes es) ≡ length (term_nodes (terms.list es)) = omega arith in parts_asked s (terms.list es) es h (λ f. f) (λ i u. u) count

  pub conditional_asked : (s : State) (a b c : Term) → IsAsked known s 0 (terms.conditional a b c) → AreAsked known (ahead 1 s) (terms.more a (terms.more b (terms.more c terms.none)))
  conditional_asked s a b c h =
      parts_asked s (terms.conditional a b c) (terms.more a (terms.more b (terms.more c terms.none))) h (λ f. (f.0, (f.1, (f.2, tt)))) (λ i u. three (uses i a) (uses i b) (uses i c) u) count
    where
      three : (p q r : Bool) → (p || (q || (r || false))) ≡ true → (p || (q || r)) ≡ true
      three true q r u = refl
      three false true r u = refl
      three false false true u = refl
      three false false false u = u

      count : 1 + length (terms_nodes (terms.more a (terms.more b (terms.more c terms.none)))) ≡ length (term_nodes (terms.conditional a b c))
      count = omega (
        arith,
        length-append (term_nodes a) (terms_nodes (terms.more b (terms.more c terms.none))),
        length-append (term_nodes b) (terms_nodes (terms.more c terms.none)),
        length-append (term_nodes c) [],
        length-append (term_nodes a ++ term_nodes b) (term_nodes c),
        length-append (term_nodes a) (term_nodes b),
      )
