-- Each arm of instantiation is a rule.
use Rattle.std.proofs.Common.{◌≡◌, ℕ, zero, suc, ◌+◌, ◌<◌, ◌≤◌, ◌^◌, Bool, true, false, ◌&&◌, ◌||◌, List, [], ◌∷◌, ◌++◌, map, length, arith, refl, sym, ap, subst, ◌∙◌}
use Rattle.std.specs.List.{list_any}
use Rattle.std.proofs.lemmas.Bool.{or_from}
use Rattle.uc_base.specs.declared.fault.Fault.{Fault}
use Rattle.uc_tree.specs.declared.target.Target.{Target}
use Rattle.uc_context.specs.declared.entry.Entry.{Entry}
use Rattle.uc_context.specs.declared.entry.Entry.TheVariants.{Rigid, Exists, Mark}
use Rattle.uc_context.specs.declared.counting.TheConstants.{TYPE_NODE_LIMIT, TYPE_LEVEL_LIMIT}
use Rattle.uc_context.specs.Opens.{Open, rigid, existential, quantified, arrow, tuple, applied, bound, unit, Opens, none, more, opens_of, open_size}
use Rattle.uc_context.specs.Contexts.{IsContext, type_under}
use Rattle.uc_context.specs.Counts.{open_node_count, opens_node_count, levels_of_open, IsSmall}
use Rattle.uc_context.specs.Entries.{ContextEntries, is_unsolved, declares, dropped_from}
use Rattle.uc_context.specs.Fresh.{fresh_number, fresh_numbers}
use Rattle.uc_context.specs.Solvable.{can_solve}
use Rattle.uc_context.specs.Solving.{solved, solved_with_arrow, solved_with_data, solved_with_tuple}
use Rattle.uc_context.specs.Variables.{opened_at, mentions}
use Rattle.uc_subtyping.specs.declared.side.Side.{Side}
use Rattle.uc_subtyping.specs.declared.side.Side.TheVariants.{Below, Above}
use Rattle.uc_subtyping.specs.Ends.{IsRefused}
use Rattle.uc_subtyping.specs.InHand.{IsInHand, SolvesByMonotypes}
use Rattle.uc_subtyping.specs.Instances.{Instances, no_instances, instance, other, all_at, opens_count}
use Rattle.uc_subtyping.specs.Instantiation.{is_after, has_rule_by_form, can_instantiate, SolvesInstance, SolvesInstances, instance_solved, instance_reached, instance_arrow, instance_tuple, instance_data, instance_below_quantified, instance_above_quantified, instance_ill}
use Rattle.uc_subtyping.specs.Outcomes.{Outcome, done, refused, ill, Refusal, without}
use Rattle.uc_subtyping.proofs.Extending.{extends-monotypes, extends-solved_with}
use Rattle.uc_subtyping.proofs.InOrder.{fresh_unused, in_order_rigid, in_order_exists}
use Rattle.uc_subtyping.proofs.InstancesTurn.{starts-arrow, starts-list, own_arrow, numbers_new}
use Rattle.uc_context.proofs.FreshNumbers.{pair_new}
use Rattle.uc_subtyping.proofs.Instantiated.{settled-rigid, settled-exists}
use Rattle.uc_subtyping.proofs.Monotypes.{monotypes-append}
use Rattle.uc_subtyping.proofs.Opened.{nodes-opened, levels-opened}
use Rattle.uc_subtyping.proofs.Pending.{Pending, refused_as}
use Rattle.uc_subtyping.proofs.Settled.{Settled, settled-current, settled-same, unmentioned-opened, eqb-flip, differ_new, unsolved_declared}
use Rattle.uc_subtyping.proofs.SolvingWith.{Starts, with-ready, own_list, mono_list}

-- no rule fits
and_none : (a b : Bool) → b ≡ false → (a && b) ≡ false
and_none true b h = h
and_none false b h = refl

pub solved_before : (es : ContextEntries) (x : ℕ) (t : Open) → list_any (is_unsolved x) es ≡ false → can_instantiate es x t ≡ false
solved_before es x t h = rw h refl

pub no_form : (es : ContextEntries) (x : ℕ) (t u : Open) → t ≡ u → can_solve es x t ≡ false → has_rule_by_form es x u ≡ false → can_instantiate es x t ≡ false
no_form es x t u is c f = and_none (list_any (is_unsolved x) es) (can_solve es x t || has_rule_by_form es x t) (or_from (can_solve es x t) (has_rule_by_form es x t) c (ap (has_rule_by_form es x) is ∙ f))

pub by_copy : (s : Side) (es fs : ContextEntries) (x : ℕ) (t u : Open) → list_any (is_unsolved x) es ≡ true → can_solve es x t ≡ true → u ≡ t → fs ≡ solved es x u → SolvesInstance s es x t (done fs)
by_copy s es fs x t u live c same is = instance_solved live c (is ∙ ap (solved es x) same)

module _ (s : Side) (es : ContextEntries) (x : ℕ) (t : Open) (order : IsContext es) (mono : SolvesByMonotypes es) (live : list_any (is_unsolved x) es ≡ true) (hand : IsInHand es t) (apart : mentions x t ≡ false) (no : can_solve es x t ≡ false) where
  settled_as : (u : Open) → t ≡ u → Settled es u
  settled_as u is = subst (Settled es) is (settled-current es order t hand.known hand.current)

  apart_as : (u : Open) → t ≡ u → mentions x u ≡ false
  apart_as u is = ap (mentions x) (sym is) ∙ apart

  no_as : (u : Open) → t ≡ u → can_solve es x u ≡ false
  no_as u is = ap (can_solve es x) (sym is) ∙ no

  pub by_reaching : (fs : ContextEntries) (y : ℕ) (u : Open) → t ≡ existential y → is_after es x y ≡ true → u ≡ existential x → fs ≡ solved es y u → SolvesInstance s es x t (done fs)
  by_reaching fs y u is after new at = subst (λ (v : Open). SolvesInstance s es x v (done fs)) (sym is) (instance_reached live (no_as (existential y) is) after (at ∙ ap (solved es y) new))

  module _ (ds : ContextEntries) where
    pub arrow_pending : (m n : ℕ) (a b : Open) → t ≡ arrow a b → m ∷ n ∷ [] ≡ fresh_numbers 2 es → ds ≡ solved_with_arrow es x m n → Pending (SolvesInstance s es x t) ds (instance (other s) m a (instance s n b no_instances))
    arrow_pending m n a b is fresh at =
        let st : Settled es (arrow a b) = settled_as (arrow a b) is in
        let o : mentions x (arrow a b) ≡ false = apart_as (arrow a b) is in
        subst (λ (cs : ContextEntries). Pending (SolvesInstance s es x t) cs (instance (other s) m a (instance s n b no_instances))) (sym at) (record {
          monotypes = extends-monotypes (extends-solved_with es x (n ∷ m ∷ []) (arrow (existential m) (existential n)) refl) mono;
          ready = with-ready es x (n ∷ m ∷ []) (arrow (existential m) (existential n)) order live (pair_new es m n fresh) refl (own_arrow s es x m n a b fresh st o) (instance (other s) m a (instance s n b no_instances)) (starts-arrow s es x m n a b fresh st o);
          ends = λ p d. subst (λ (v : Open). SolvesInstance s es x v p) (sym is) (instance_arrow live (no_as (arrow a b) is) fresh d);
        })

    pub tuple_pending : (ns : List ℕ) (ts : Opens) → t ≡ tuple ts → ns ≡ fresh_numbers (opens_count ts) es → ds ≡ solved_with_tuple es x ns → Pending (SolvesInstance s es x t) ds (all_at s ns ts)
    tuple_pending ns ts is fresh at =
        let st : Settled es (tuple ts) = settled_as (tuple ts) is in
        let o : mentions x (tuple ts) ≡ false = apart_as (tuple ts) is in
        subst (λ (cs : ContextEntries). Pending (SolvesInstance s es x t) cs (all_at s ns ts)) (sym at) (record {
          monotypes = extends-monotypes (extends-solved_with es x ns (tuple (opens_of (map (λ n. existential n) ns))) (mono_list ns)) mono;
          ready = with-ready es x ns (tuple (opens_of (map (λ n. existential n) ns))) order live (numbers_new es (opens_count ts) ns fresh) (mono_list ns) (own_list ns) (all_at s ns ts)
              (starts-list s es x ns ts (numbers_new es (opens_count ts) ns fresh) st.known st.unsolved o);
          ends = λ p d. subst (λ (v : Open). SolvesInstance s es x v p) (sym is) (instance_tuple live (no_as (tuple ts) is) fresh d);
        })

    pub data_pending : (h : Target) (ns : List ℕ) (ts : Opens) → t ≡ applied h ts → ns ≡ fresh_numbers (opens_count ts) es → ds ≡ solved_with_data es x h ns → Pending (SolvesInstance s es x t) ds (all_at s ns ts)
    data_pending h ns ts is fresh at =
        let st : Settled es (applied h ts) = settled_as (applied h ts) is in
        let o : mentions x (applied h ts) ≡ false = apart_as (applied h ts) is in
        subst (λ (cs : ContextEntries). Pending (SolvesInstance s es x t) cs (all_at s ns ts)) (sym at) (record {
          monotypes = extends-monotypes (extends-solved_with es x ns (applied h (opens_of (map (λ n. existential n) ns))) (mono_list ns)) mono;
          ready = with-ready es x ns (applied h (opens_of (map (λ n. existential n) ns))) order live (numbers_new es (opens_count ts) ns fresh) (mono_list ns) (own_list ns) (all_at s ns ts)
              (starts-list s es x ns ts (numbers_new es (opens_count ts) ns fresh) st.known st.unsolved o);
          ends = λ p d. subst (λ (v : Open). SolvesInstance s es x v p) (sym is) (instance_data live (no_as (applied h ts) is) fresh d);
        })

-- as many numbers as there are types
pub fresh_numbers-length : (k : ℕ) (es : ContextEntries) → length (fresh_numbers k es) ≡ k
fresh_numbers-length zero es = refl
fresh_numbers-length (suc k) es = ap suc (fresh_numbers-length k (Exists (fresh_number es) ∷ es))

pub opens_count-of : (ts : List Open) → opens_count (opens_of ts) ≡ length ts
opens_count-of [] = refl
opens_count-of (t ∷ ts) = ap suc (opens_count-of ts)

some_nodes : (t : Open) → 1 ≤ open_node_count t
some_nodes (bound i) = omega arith
some_nodes (rigid x) = omega arith
some_nodes (existential x) = omega arith
some_nodes (quantified t) = omega arith
some_nodes (arrow a b) = omega arith
some_nodes unit = omega arith
some_nodes (tuple ts) = omega arith
some_nodes (applied h ts) = omega arith

pub count_nodes : (ts : List Open) → length ts ≤ opens_node_count (opens_of ts)
count_nodes [] = omega arith
count_nodes (t ∷ ts) = omega (arith, some_nodes t, count_nodes ts)

-- what the types of a list are instantiated by
pub record ListCall (P : Outcome → Type 0) (ds : ContextEntries) (s : Side) (ns : List ℕ) (types : List Open) : Type 0 where
  pub pending : Pending P ds (all_at s ns (opens_of types))
  pub as_many : length ns ≡ length types

module _ (s : Side) (es : ContextEntries) (x : ℕ) (t : Open) (order : IsContext es) (mono : SolvesByMonotypes es) (live : list_any (is_unsolved x) es ≡ true) (hand : IsInHand es t) (apart : mentions x t ≡ false) (no : can_solve es x t ≡ false) (ds : ContextEntries)
    (ns items : List ℕ) (types held : List Open) (k : ℕ) (same_types : types ≡ held) (same_numbers : ns ≡ items) (count : k ≡ length held) (numbers : items ≡ fresh_numbers k es) where
  fresh_list : ns ≡ fresh_numbers (opens_count (opens_of types)) es
  fresh_list = same_numbers ∙ numbers ∙ ap (λ (n : ℕ). fresh_numbers n es) (count ∙ ap length (sym same_types) ∙ sym (opens_count-of types))

  fresh_length : length ns ≡ length types
  fresh_length = ap length fresh_list ∙ fresh_numbers-length (opens_count (opens_of types)) es ∙ opens_count-of types

  pub tuple_call : t ≡ tuple (opens_of held) → ds ≡ solved_with_tuple es x items → ListCall (SolvesInstance s es x t) ds s ns types
  tuple_call is at = record {
    pending = tuple_pending s es x t order mono live hand apart no ds ns (opens_of types) (is ∙ ap (λ (us : List Open). tuple (opens_of us)) (sym same_types)) fresh_list (at ∙ ap (solved_with_tuple es x) (sym same_numbers));
    as_many = fresh_length;
  }

  pub data_call : (h : Target) → t ≡ applied h (opens_of held) → ds ≡ solved_with_data es x h items → ListCall (SolvesInstance s es x t) ds s ns types
  data_call h is at = record {
    pending = data_pending s es x t order mono live hand apart no ds h ns (opens_of types) (is ∙ ap (λ (us : List Open). applied h (opens_of us)) (sym same_types)) fresh_list (at ∙ ap (solved_with_data es x h) (sym same_numbers));
    as_many = fresh_length;
  }

-- a quantified type whose body is opened
module _ (es : ContextEntries) (n : ℕ) (b : Open) (order : IsContext es) (hand : IsInHand es (quantified b)) (fresh : n ≡ fresh_number es) where
  body_settled : Settled es b
  body_settled = let s : Settled es (quantified b) = settled-current es order (quantified b) hand.known hand.current in record { known = s.known; unsolved = s.unsolved }

  body_small : (by : Open) → open_node_count by ≡ 1 → levels_of_open by ≡ 1 → IsSmall (opened_at 0 by b)
  body_small by p q = record { nodes = omega (arith, hand.small.nodes, nodes-opened by p 0 b); levels = omega (arith, hand.small.levels, levels-opened by q 0 b) }

  module _ (ds : ContextEntries) (u : Open) where
    pub rigid_in_hand : ds ≡ es ++ Rigid n ∷ [] → u ≡ opened_at 0 (rigid n) b → IsInHand ds u
    rigid_in_hand at is =
        let s : Settled (es ++ Rigid n ∷ []) (opened_at 0 (rigid n) b) = settled-rigid es n b body_settled in
        subst (λ (cs : ContextEntries). IsInHand cs u) (sym at) (subst (IsInHand (es ++ Rigid n ∷ [])) (sym is) (record {
          known = s.known;
          current = settled-same (es ++ Rigid n ∷ []) (in_order_rigid es n order (fresh_unused es n fresh)) (opened_at 0 (rigid n) b) s;
          small = body_small (rigid n) refl refl;
        }))

    pub exists_in_hand : ds ≡ es ++ Mark n ∷ Exists n ∷ [] → u ≡ opened_at 0 (existential n) b → IsInHand ds u
    exists_in_hand at is =
        let s : Settled (es ++ Mark n ∷ Exists n ∷ []) (opened_at 0 (existential n) b) = settled-exists es n b body_settled in
        subst (λ (cs : ContextEntries). IsInHand cs u) (sym at) (subst (IsInHand (es ++ Mark n ∷ Exists n ∷ [])) (sym is) (record {
          known = s.known;
          current = settled-same (es ++ Mark n ∷ Exists n ∷ []) (in_order_exists es n order (fresh_unused es n fresh)) (opened_at 0 (existential n) b) s;
          small = body_small (existential n) refl refl;
        }))

pub monotypes_rigid : (es ds : ContextEntries) (n : ℕ) → ds ≡ es ++ Rigid n ∷ [] → SolvesByMonotypes es → SolvesByMonotypes ds
monotypes_rigid es ds n at h = subst SolvesByMonotypes (sym at) (monotypes-append es (Rigid n ∷ []) h tt)

pub monotypes_exists : (es ds : ContextEntries) (n : ℕ) → ds ≡ es ++ Mark n ∷ Exists n ∷ [] → SolvesByMonotypes es → SolvesByMonotypes ds
monotypes_exists es ds n at h = subst SolvesByMonotypes (sym at) (monotypes-append es (Mark n ∷ Exists n ∷ []) h tt)

pub rigid_apart : (x n : ℕ) (b u : Open) → u ≡ opened_at 0 (rigid n) b → mentions x b ≡ false → mentions x u ≡ false
rigid_apart x n b u is o = ap (mentions x) is ∙ unmentioned-opened x (rigid n) b refl o

pub exists_apart : (es : ContextEntries) (x n : ℕ) (b u : Open) → n ≡ fresh_number es → list_any (is_unsolved x) es ≡ true → u ≡ opened_at 0 (existential n) b → mentions x b ≡ false → mentions x u ≡ false
exists_apart es x n b u fresh live is o = ap (mentions x) is ∙ unmentioned-opened x (existential n) b (eqb-flip x n (differ_new es x n (unsolved_declared x es live) (fresh_unused es n fresh))) o

module _ (es ds : ContextEntries) (x n : ℕ) (b u : Open) (live : list_any (is_unsolved x) es ≡ true) (fresh : n ≡ fresh_number es) where
  pub below_ends : (o : Outcome) → ds ≡ es ++ Rigid n ∷ [] → u ≡ opened_at 0 (rigid n) b → SolvesInstance Below ds x u o → SolvesInstance Below es x (quantified b) (without (Rigid n) o)
  below_ends o at is d = instance_below_quantified live fresh (subst (λ (v : Open). SolvesInstance Below (es ++ Rigid n ∷ []) x v o) is (subst (λ (cs : ContextEntries). SolvesInstance Below cs x u o) at d)) refl

  pub above_ends : (o : Outcome) → ds ≡ es ++ Mark n ∷ Exists n ∷ [] → u ≡ opened_at 0 (existential n) b → SolvesInstance Above ds x u o → SolvesInstance Above es x (quantified b) (without (Mark n) o)
  above_ends o at is d = instance_above_quantified live fresh (subst (λ (v : Open). SolvesInstance Above (es ++ Mark n ∷ Exists n ∷ []) x v o) is (subst (λ (cs : ContextEntries). SolvesInstance Above cs x u o) at d)) refl

  pub below_refused : (fault : Fault) → ds ≡ es ++ Rigid n ∷ [] → u ≡ opened_at 0 (rigid n) b → IsRefused (SolvesInstance Below ds x u) fault → IsRefused (SolvesInstance Below es x (quantified b)) fault
  below_refused fault at is r = refused_as (SolvesInstance Below ds x u) (SolvesInstance Below es x (quantified b)) fault (λ why d. below_ends (refused why) at is d) r

  pub above_refused : (fault : Fault) → ds ≡ es ++ Mark n ∷ Exists n ∷ [] → u ≡ opened_at 0 (existential n) b → IsRefused (SolvesInstance Above ds x u) fault → IsRefused (SolvesInstance Above es x (quantified b)) fault
  above_refused fault at is r = refused_as (SolvesInstance Above ds x u) (SolvesInstance Above es x (quantified b)) fault (λ why d. above_ends (refused why) at is d) r
