-- What becomes of a context where an existential is instantiated, or one after another.
use Rattle.std.proofs.Common.{◌≡◌, ℕ, Bool, true, false, eqb, List, [], ◌∷◌, ◌++◌, map, refl, sym, ap, subst, ◌∙◌}
use Rattle.std.specs.List.{list_any}
use Rattle.std.proofs.lemmas.Bool.{or_left, or_right, or_parts, and_parts, and_from}
use Rattle.uc_context.specs.declared.entry.Entry.{Entry}
use Rattle.uc_context.specs.declared.entry.Entry.TheVariants.{Rigid, Exists, Mark}
use Rattle.uc_context.specs.Opens.{Open, rigid, existential, quantified, arrow, tuple, applied, Opens, opens_of}
use Rattle.uc_context.specs.Contexts.{IsContext, type_under}
use Rattle.uc_context.specs.Entries.{ContextEntries, is_numbered, is_unsolved, declares, before, dropped_from}
use Rattle.uc_context.specs.Fresh.{fresh_numbers, AreNew}
use Rattle.uc_context.specs.Variables.{mentions, some_mentions, is_monotype, has_variables, has_variables_of}
use Rattle.uc_context.proofs.FreshNumbers.{fresh_numbers-AreNew, pair_new}
use Rattle.uc_subtyping.specs.declared.side.Side.{Side}
use Rattle.uc_subtyping.specs.Instances.{Instances, no_instances, instance, other, all_at, opens_count}
use Rattle.uc_subtyping.specs.Instantiation.{SolvesInstance, SolvesInstances, instance_solved, instance_reached, instance_arrow, instance_tuple, instance_data, instance_below_quantified, instance_above_quantified, instance_ill, instances_done, instances_next, instances_refused, instances_large}
use Rattle.uc_subtyping.specs.Outcomes.{Outcome, done, refused, Refusal, without}
use Rattle.uc_subtyping.specs.Readiness.{Has, has_here, has_later, AreDistinct, IsReady}
use Rattle.uc_subtyping.proofs.InOrder.{fresh_unused, in_order_rigid, in_order_exists}
use Rattle.uc_subtyping.proofs.Instantiated.{turns-solved, turns-reached, turns-rigid, turns-mark, settled-rigid, settled-exists}
use Rattle.uc_subtyping.proofs.Ready.{Other, ApartFrom, ready_rest, turns-none, turns-next, has_number, has_new, has_part, distinct_at}
use Rattle.uc_subtyping.proofs.Settled.{Settled, settled-under, unmentioned-opened, eqb-flip, differ_new, unsolved_declared}
use Rattle.uc_subtyping.proofs.SolvingWith.{Starts, with-ready, with-turns, own_list, mono_list, own_pair}
use Rattle.uc_subtyping.proofs.Turning.{Turns}

-- what holds of each of two instances
module _ (P : ℕ → Open → Type 0) (s r : Side) (m n : ℕ) (a b : Open) where
  has_second : P n b → (k : ℕ) (t : Open) → Has k t (instance r n b no_instances) → P k t
  has_second q k t has_here = q
  has_second q k t (has_later h) = elim h [ ]

  has_pair : P m a → P n b → (k : ℕ) (t : Open) → Has k t (instance s m a (instance r n b no_instances)) → P k t
  has_pair p q k t has_here = p
  has_pair p q k t (has_later h) = has_second q k t h

no_more : (P : ℕ → Open → Type 0) (k : ℕ) (t : Open) → Has k t no_instances → P k t
no_more P k t h = elim h [ ]

module _ (s : Side) (es : ContextEntries) (x m n : ℕ) (a b : Open) (fresh : m ∷ n ∷ [] ≡ fresh_numbers 2 es) (settled : Settled es (arrow a b)) (apart : mentions x (arrow a b) ≡ false) where
  two_new : AreNew (n ∷ m ∷ []) es
  two_new = pair_new es m n fresh

  two_distinct : (eqb n m ≡ false) × (list_any (is_numbered m) es ≡ false)
  two_distinct = or_parts (eqb n m) (list_any (is_numbered m) es) two_new.1.0

  pub starts-arrow : Starts es x (n ∷ m ∷ []) (instance (other s) m a (instance s n b no_instances))
  starts-arrow =
      let p = own_pair m n in
      let q = or_parts (mentions x a) (mentions x b) apart in
      let k = and_parts (has_variables es a) (has_variables es b) settled.known in
      record {
        distinct = (has_second (λ j t. eqb j m ≡ false) s s m n a b two_distinct.0, (no_more (λ j t. eqb j n ≡ false), tt));
        number = has_pair (λ j t. list_any (declares j) (Exists n ∷ Exists m ∷ []) ≡ true) (other s) s m n a b p.0 p.1;
        new = has_pair (λ j t. list_any (is_numbered j) es ≡ false) (other s) s m n a b two_distinct.1 two_new.0;
        part = has_pair (λ j t. Settled es t × (mentions x t ≡ false)) (other s) s m n a b
            (record { known = k.0; unsolved = λ y h. settled.unsolved y (or_left (mentions y a) (mentions y b) h) }, q.0)
            (record { known = k.1; unsolved = λ y h. settled.unsolved y (or_right (mentions y a) (mentions y b) h) }, q.1);
      }

  pub own_arrow : has_variables (Exists n ∷ Exists m ∷ []) (arrow (existential m) (existential n)) ≡ true
  own_arrow = let p = own_pair m n in and_from (list_any (declares m) (Exists n ∷ Exists m ∷ [])) (list_any (declares n) (Exists n ∷ Exists m ∷ [])) p.0 p.1

pub starts-list : (s : Side) (es : ContextEntries) (x : ℕ) (ns : List ℕ) (ts : Opens) → AreNew ns es → has_variables_of es ts ≡ true → ((y : ℕ) → some_mentions y ts ≡ true → list_any (is_unsolved y) es ≡ true) → some_mentions x ts ≡ false → Starts es x ns (all_at s ns ts)
starts-list s es x ns ts new k u o = record {
  distinct = distinct_at s ns ts es new;
  number = λ n t h. has_number s n t ns ts h;
  new = λ n t h. has_new s n t ns ts es new h;
  part = λ n t h. has_part s n t ns ts es x k u o h;
}

pub numbers_new : (es : ContextEntries) (k : ℕ) (ns : List ℕ) → ns ≡ fresh_numbers k es → AreNew ns es
numbers_new es k ns is = subst (λ (ms : List ℕ). AreNew ms es) (sym is) (fresh_numbers-AreNew k es)

pub done_is : (es fs : ContextEntries) → done es ≡ done fs → es ≡ fs
done_is es fs e = cc

-- what is cut was left by what came before
pub record CutFrom (d : Entry) (o : Outcome) (fs : ContextEntries) : Type 0 where
  pub whole : ContextEntries
  pub is : o ≡ done whole
  pub cut : dropped_from d whole ≡ fs

pub cut_from : (d : Entry) (o p : Outcome) (fs : ContextEntries) → p ≡ without d o → p ≡ done fs → CutFrom d o fs
cut_from d (done gs) p fs is e = record { whole = gs; is = refl; cut = done_is (dropped_from d gs) fs (sym is ∙ e) }
cut_from d (refused why) p fs is e = absurd cc

mutual
  pub instance_turns : {s : Side} {es : ContextEntries} {x : ℕ} {t : Open} {o : Outcome} → SolvesInstance s es x t o → (fs : ContextEntries) → o ≡ done fs → IsContext es → Settled es t → mentions x t ≡ false → Turns (Other x) es fs
  instance_turns {es = es} {x = x} {t = t} (instance_solved {fs = ds} u c is) fs e order settled apart =
      let p = and_parts (is_monotype t) (has_variables (before x es) t) c in subst (Turns (Other x) es) (sym is ∙ done_is ds fs e) (turns-solved es x t order u p.0 p.1 settled apart)
  instance_turns {es = es} {x = x} (instance_reached {fs = ds} {y = y} u c after is) fs e order settled apart = subst (Turns (Other x) es) (sym is ∙ done_is ds fs e) (turns-reached es x y order u after apart)
  instance_turns {s = s} {es = es} {x = x} (instance_arrow {argument = m} {result = n} {a = a} {b = b} u c fresh d) fs e order settled apart =
      with-turns es x (n ∷ m ∷ []) (arrow (existential m) (existential n)) order u (pair_new es m n fresh) refl (own_arrow s es x m n a b fresh settled apart)
      (instance (other s) m a (instance s n b no_instances)) (starts-arrow s es x m n a b fresh settled apart) fs
      (instances_turn d fs e (with-ready es x (n ∷ m ∷ []) (arrow (existential m) (existential n)) order u (pair_new es m n fresh) refl (own_arrow s es x m n a b fresh settled apart)
      (instance (other s) m a (instance s n b no_instances)) (starts-arrow s es x m n a b fresh settled apart)))
  instance_turns {s = s} {es = es} {x = x} (instance_tuple {numbers = ns} {ts = ts} u c fresh d) fs e order settled apart =
      with-turns es x ns (tuple (opens_of (map (λ n. existential n) ns))) order u (numbers_new es (opens_count ts) ns fresh) (mono_list ns) (own_list ns)
      (all_at s ns ts) (starts-list s es x ns ts (numbers_new es (opens_count ts) ns fresh) settled.known settled.unsolved apart) fs
      (instances_turn d fs e (with-ready es x ns (tuple (opens_of (map (λ n. existential n) ns))) order u (numbers_new es (opens_count ts) ns fresh) (mono_list ns) (own_list ns)
      (all_at s ns ts) (starts-list s es x ns ts (numbers_new es (opens_count ts) ns fresh) settled.known settled.unsolved apart)))
  instance_turns {s = s} {es = es} {x = x} (instance_data {numbers = ns} {h = h} {ts = ts} u c fresh d) fs e order settled apart =
      with-turns es x ns (applied h (opens_of (map (λ n. existential n) ns))) order u (numbers_new es (opens_count ts) ns fresh) (mono_list ns) (own_list ns)
      (all_at s ns ts) (starts-list s es x ns ts (numbers_new es (opens_count ts) ns fresh) settled.known settled.unsolved apart) fs
      (instances_turn d fs e (with-ready es x ns (applied h (opens_of (map (λ n. existential n) ns))) order u (numbers_new es (opens_count ts) ns fresh) (mono_list ns) (own_list ns)
      (all_at s ns ts) (starts-list s es x ns ts (numbers_new es (opens_count ts) ns fresh) settled.known settled.unsolved apart)))
  instance_turns {es = es} {x = x} (instance_below_quantified {n = n} {t = b} {o = o} {p = p} u fresh d is) fs e order settled apart =
      let c : CutFrom (Rigid n) o fs = cut_from (Rigid n) o p fs is e in
      subst (Turns (Other x) es) c.cut (turns-rigid (Other x) es c.whole n
      (instance_turns d c.whole c.is (in_order_rigid es n order (fresh_unused es n fresh)) (settled-rigid es n b (record { known = settled.known; unsolved = settled.unsolved })) (unmentioned-opened x (rigid n) b refl apart)))
  instance_turns {es = es} {x = x} (instance_above_quantified {n = n} {t = b} {o = o} {p = p} u fresh d is) fs e order settled apart =
      let c : CutFrom (Mark n) o fs = cut_from (Mark n) o p fs is e in
      subst (Turns (Other x) es) c.cut (turns-mark (Other x) es c.whole n
      (instance_turns d c.whole c.is (in_order_exists es n order (fresh_unused es n fresh)) (settled-exists es n b (record { known = settled.known; unsolved = settled.unsolved }))
      (unmentioned-opened x (existential n) b (eqb-flip x n (differ_new es x n (unsolved_declared x es u) (fresh_unused es n fresh))) apart)))
  instance_turns (instance_ill c) fs e order settled apart = absurd cc

  pub instances_turn : {es : ContextEntries} {is : Instances} {o : Outcome} → SolvesInstances es is o → (fs : ContextEntries) → o ≡ done fs → IsReady es is → Turns (ApartFrom is) es fs
  instances_turn {es = es} instances_done fs e ready = subst (Turns (ApartFrom no_instances) es) (done_is es fs e) (turns-none es ready.in_order)
  instances_turn {es = es} (instances_next {s = s} {fs = ds} {x = n} {t = t} {rest = rest} small d l) fs e ready =
      let first : Turns (Other n) es ds = instance_turns d ds refl ready.in_order (settled-under es ready.in_order t (ready.known n t has_here)) (ready.apart n t n t has_here has_here) in
      turns-next s n t rest es ds fs ready first (instances_turn l fs e (ready_rest s n t rest es ds ready first))
  instances_turn (instances_refused small d) fs e ready = absurd cc
  instances_turn (instances_large small) fs e ready = absurd cc
