-- Instantiation leaves well-formed contexts that extend those before.
use Rattle.std.proofs.Common.{◌≡◌, ℕ, zero, suc, true, false, ◌==◌, List, [], ◌∷◌, ◌++◌, map, length, Some, refl, sym, ap, subst, ◌∙◌, append_assoc, append-nil}
use Rattle.std.specs.List.{list_any}
use Rattle.std.proofs.lemmas.Bool.{and_parts, or_left, or_right, eq-eqb, false_from_ne_true}
use Rattle.std.proofs.lemmas.List.Folds.{list_any-append}
use Rattle.uc_tree.specs.declared.target.Target.{Target}
use Rattle.uc_kinds.specs.WellFormed.{Arity}
use Rattle.uc_context.specs.declared.entry.Entry.TheVariants.{Rigid, Exists, Mark}
use Rattle.uc_context.specs.Opens.{Open, rigid, existential, arrow, tuple, applied, Opens, none, more, opens_of}
use Rattle.uc_context.specs.Entries.{ContextEntries, is_numbered, is_variable, is_rigid, is_unsolved, declares, before}
use Rattle.uc_context.specs.Fresh.{fresh_number, fresh_numbers, AreNew}
use Rattle.uc_context.specs.Solvable.{can_solve}
use Rattle.uc_context.specs.Solving.{solved, solved_with, solved_with_arrow, solved_with_data, solved_with_tuple}
use Rattle.uc_context.specs.Variables.{opened_at, is_monotype, has_variables}
use Rattle.uc_context.proofs.FreshNumbers.{fresh_number-IsFresh, fresh_numbers-AreNew, pair_new}
use Rattle.uc_context.proofs.Noting.{numbered_fails, variable_by_number}
use Rattle.uc_subtyping.specs.declared.side.Side.{Side}
use Rattle.uc_subtyping.specs.Instances.{Instances, no_instances, instance, other, all_at, opens_count}
use Rattle.uc_subtyping.specs.Instantiation.{SolvesInstance, instance_solved, instance_reached, instance_arrow, instance_tuple, instance_data, instance_below_quantified, instance_above_quantified, instance_ill, SolvesInstances, instances_done, instances_next, instances_refused, instances_large}
use Rattle.uc_subtyping.specs.Outcomes.{Outcome, done}
use Rattle.uc_soundness.specs.WellFormed.{IsMonoIn, AreMonoIn, IsTypeIn, IsWellFormedContext}
use Rattle.uc_soundness.proofs.Extending.{Extends-refl, Extends-solved_with}
use Rattle.uc_soundness.proofs.Outcomes.{Extended, extended_on, extended_cut}
use Rattle.uc_soundness.proofs.Types.{Covered, Covered-front, Covered-extends, mono_type, type_covered, monotype_over, type_opened}
use Rattle.uc_soundness.proofs.WellFormed.{well_formed_append, well_formed_solved, type_under_typed}

-- no variable has a fresh number
pub fresh_apart : (es : ContextEntries) (n : ℕ) → n ≡ fresh_number es → list_any (is_variable n) es ≡ false
fresh_apart es n is =
    numbered_fails is_variable variable_by_number n es (subst (λ (m : ℕ). list_any (is_numbered m) es ≡ false) (sym is) (false_from_ne_true (list_any (is_numbered (fresh_number es)) es) (λ used. (fresh_number-IsFresh es).unused used)))

-- there are as many fresh numbers as were wanted
pub length-fresh_numbers : (k : ℕ) (es : ContextEntries) → length (fresh_numbers k es) ≡ k
length-fresh_numbers zero es = refl
length-fresh_numbers (suc k) es = ap suc (length-fresh_numbers k (Exists (fresh_number es) ∷ es))

-- contexts with a rigid variable more, and with a marker and an existential
module _ (arity : Arity) (es : ContextEntries) (n : ℕ) (wf : IsWellFormedContext arity es) (is : n ≡ fresh_number es) where
  pub rigid_formed : IsWellFormedContext arity (es ++ Rigid n ∷ [])
  rigid_formed = well_formed_append arity [] es (Rigid n ∷ []) wf (fresh_apart es n is, tt)

  pub marked_formed : IsWellFormedContext arity (es ++ Mark n ∷ Exists n ∷ [])
  marked_formed = well_formed_append arity [] es (Mark n ∷ Exists n ∷ []) wf (marked, tt)
    where
      marked : list_any (is_variable n) (es ++ Mark n ∷ []) ≡ false
      marked = list_any-append (is_variable n) es (Mark n ∷ []) ∙ rw (fresh_apart es n is) refl

-- types with one of these in place of the variable of a quantifier
module _ (arity : Arity) (es : ContextEntries) (n : ℕ) (t : Open) (h : IsTypeIn arity es 1 t) where
  pub rigid_typed : IsTypeIn arity (es ++ Rigid n ∷ []) 0 (opened_at 0 (rigid n) t)
  rigid_typed = type_opened arity es (es ++ Rigid n ∷ []) (Covered-front es (Rigid n ∷ [])) (rigid n) (λ k. there) 0 t h
    where
      there : list_any (is_rigid n) (es ++ Rigid n ∷ []) ≡ true
      there = list_any-append (is_rigid n) es (Rigid n ∷ []) ∙ or_right (list_any (is_rigid n) es) (list_any (is_rigid n) (Rigid n ∷ [])) (or_left (n == n) false (eq-eqb n n refl))

  pub existential_typed : IsTypeIn arity (es ++ Mark n ∷ Exists n ∷ []) 0 (opened_at 0 (existential n) t)
  existential_typed = type_opened arity es (es ++ Mark n ∷ Exists n ∷ []) (Covered-front es (Mark n ∷ Exists n ∷ [])) (existential n) (λ k. there) 0 t h
    where
      there : list_any (declares n) (es ++ Mark n ∷ Exists n ∷ []) ≡ true
      there = list_any-append (declares n) es (Mark n ∷ Exists n ∷ []) ∙ or_right (list_any (declares n) es) (list_any (declares n) (Mark n ∷ Exists n ∷ [])) (or_left (n == n) false (eq-eqb n n refl))

-- the new existentials of a type are declared
pub new_declared : (front : ContextEntries) (n : ℕ) (ds : ContextEntries) → list_any (declares n) (front ++ Exists n ∷ ds) ≡ true
new_declared front n ds = list_any-append (declares n) front (Exists n ∷ ds) ∙ or_right (list_any (declares n) front) (list_any (declares n) (Exists n ∷ ds)) (or_left (n == n) (list_any (declares n) ds) (eq-eqb n n refl))

pub all_new : (arity : Arity) (front : ContextEntries) (ns : List ℕ) → AreMonoIn arity (front ++ map (λ n. Exists n) ns) 0 (opens_of (map (λ n. existential n) ns))
all_new arity front [] = tt
all_new arity front (n ∷ ns) = (
  new_declared front n (map (λ n. Exists n) ns),
  subst (λ (cs : ContextEntries). AreMonoIn arity cs 0 (opens_of (map (λ n. existential n) ns))) (append_assoc front (Exists n ∷ []) (map (λ n. Exists n) ns)) (all_new arity (front ++ Exists n ∷ []) ns),
)

pub count_new : (ns : List ℕ) → opens_count (opens_of (map (λ n. existential n) ns)) ≡ length ns
count_new [] = refl
count_new (n ∷ ns) = ap suc (count_new ns)

-- contexts in which an existential is solved
module _ (arity : Arity) (es : ContextEntries) (x : ℕ) (wf : IsWellFormedContext arity es) (unsolved : list_any (is_unsolved x) es ≡ true) where
  extended_with : (numbers : List ℕ) (t : Open) → AreNew numbers es → IsMonoIn arity (before x es ++ map (λ n. Exists n) numbers) 0 t → Extended arity es (done (solved_with es x numbers t))
  extended_with numbers t new mono = (well_formed_solved arity x es wf unsolved numbers t new mono, Extends-solved_with es x numbers t)

  pub extended_solved : (t : Open) → IsMonoIn arity (before x es) 0 t → Extended arity es (done (solved es x t))
  extended_solved t mono = extended_with [] t tt (subst (λ (cs : ContextEntries). IsMonoIn arity cs 0 t) (sym (append-nil (before x es))) mono)

  pub extended_by_whole : (t : Open) → IsTypeIn arity es 0 t → can_solve es x t ≡ true → Extended arity es (done (solved es x t))
  extended_by_whole t h can = let p = and_parts (is_monotype t) (has_variables (before x es) t) can in extended_solved t (monotype_over arity es (before x es) 0 t h p.0 p.1)

  pub extended_with_arrow : (argument result : ℕ) → argument ∷ result ∷ [] ≡ fresh_numbers 2 es → Extended arity es (done (solved_with_arrow es x argument result))
  extended_with_arrow argument result is =
      extended_with (result ∷ argument ∷ []) (arrow (existential argument) (existential result)) (pair_new es argument result is)
      (subst (λ (cs : ContextEntries). list_any (declares argument) cs ≡ true) (append_assoc (before x es) (Exists result ∷ []) (Exists argument ∷ [])) (new_declared (before x es ++ Exists result ∷ []) argument []), new_declared (before x es) result (Exists argument ∷ []))

  pub extended_with_tuple : (k : ℕ) (numbers : List ℕ) → numbers ≡ fresh_numbers k es → Extended arity es (done (solved_with_tuple es x numbers))
  extended_with_tuple k numbers is =
      extended_with numbers (tuple (opens_of (map (λ n. existential n) numbers))) (subst (λ (ns : List ℕ). AreNew ns es) (sym is) (fresh_numbers-AreNew k es)) (all_new arity (before x es) numbers)

  pub extended_with_data : (h : Target) (k : ℕ) (numbers : List ℕ) → numbers ≡ fresh_numbers k es → arity h ≡ Some k → Extended arity es (done (solved_with_data es x h numbers))
  extended_with_data h k numbers is takes =
      extended_with numbers (applied h (opens_of (map (λ n. existential n) numbers))) (subst (λ (ns : List ℕ). AreNew ns es) (sym is) (fresh_numbers-AreNew k es))
      (takes ∙ ap Some (sym (count_new numbers ∙ ap length is ∙ length-fresh_numbers k es)), all_new arity (before x es) numbers)

-- the types of instances are well-formed in a context
abbrev pub AreIn : Arity → ContextEntries → Instances → Type 0
AreIn arity es no_instances = Unit {0}
AreIn arity es (instance s x t rest) = IsTypeIn arity es 0 t × AreIn arity es rest

module _ (arity : Arity) where
  pub instances_covered : (es fs : ContextEntries) (is : Instances) → Covered es fs → AreIn arity es is → AreIn arity fs is
  instances_covered es fs no_instances c h = tt
  instances_covered es fs (instance s x t rest) c h = (type_covered arity es fs c 0 t h.0, instances_covered es fs rest c h.1)

  pub instances_at : (es : ContextEntries) (s : Side) (ns : List ℕ) (ts : Opens) → AreMonoIn arity es 0 ts → AreIn arity es (all_at s ns ts)
  instances_at es s [] ts h = tt
  instances_at es s (n ∷ ns) none h = tt
  instances_at es s (n ∷ ns) (more t ts) h = (mono_type arity es 0 t h.0, instances_at es s ns ts h.1)

  -- after what extends the context
  after : (es fs : ContextEntries) (is : Instances) (o : Outcome) → Extended arity es (done fs) → (IsWellFormedContext arity fs → AreIn arity fs is → Extended arity fs o) → AreIn arity es is → Extended arity es o
  after es fs is o h then is_in = extended_on arity es fs o h.1 (then h.0 (instances_covered es fs is (Covered-extends h.1) is_in))

  mutual
    pub instance_extends : {s : Side} {es : ContextEntries} {x : ℕ} {t : Open} {o : Outcome} → SolvesInstance s es x t o → IsWellFormedContext arity es → IsTypeIn arity es 0 t → Extended arity es o
    instance_extends (instance_solved {es = es} {x = x} {t = t} unsolved can is) wf h = subst (λ (cs : ContextEntries). Extended arity es (done cs)) (sym is) (extended_by_whole arity es x wf unsolved t h can)
    instance_extends (instance_reached {es = es} {x = x} {y = y} unsolved can behind is) wf h =
        let p = and_parts (list_any (is_unsolved y) es) (list_any (declares x) (before y es)) behind in
        subst (λ (cs : ContextEntries). Extended arity es (done cs)) (sym is) (extended_solved arity es y wf p.0 (existential x) p.1)
    instance_extends (instance_arrow {s = s} {es = es} {x = x} {argument = argument} {result = result} {a = a} {b = b} {o = o} unsolved can is d) wf h =
        after es (solved_with_arrow es x argument result) (instance (other s) argument a (instance s result b no_instances)) o (extended_with_arrow arity es x wf unsolved argument result is) (λ w i. instances_extend d w i) (h.0, (h.1, tt))
    instance_extends (instance_tuple {s = s} {es = es} {x = x} {numbers = numbers} {ts = ts} {o = o} unsolved can is d) wf h =
        after es (solved_with_tuple es x numbers) (all_at s numbers ts) o (extended_with_tuple arity es x wf unsolved (opens_count ts) numbers is) (λ w i. instances_extend d w i) (instances_at es s numbers ts h)
    instance_extends (instance_data {s = s} {es = es} {x = x} {numbers = numbers} {h = head} {ts = ts} {o = o} unsolved can is d) wf h =
        after es (solved_with_data es x head numbers) (all_at s numbers ts) o (extended_with_data arity es x wf unsolved head (opens_count ts) numbers is h.0) (λ w i. instances_extend d w i) (instances_at es s numbers ts h.1)
    instance_extends (instance_below_quantified {es = es} {n = n} {t = t} {o = o} {p = p} unsolved is d cut) wf h =
        extended_cut arity es (Rigid n) [] o p tt refl cut (instance_extends d (rigid_formed arity es n wf is) (rigid_typed arity es n t h))
    instance_extends (instance_above_quantified {es = es} {n = n} {t = t} {o = o} {p = p} unsolved is d cut) wf h =
        extended_cut arity es (Mark n) (Exists n ∷ []) o p tt refl cut (instance_extends d (marked_formed arity es n wf is) (existential_typed arity es n t h))
    instance_extends (instance_ill unfit) wf h = tt

    pub instances_extend : {es : ContextEntries} {is : Instances} {o : Outcome} → SolvesInstances es is o → IsWellFormedContext arity es → AreIn arity es is → Extended arity es o
    instances_extend (instances_done {es = es}) wf h = (wf, Extends-refl es)
    instances_extend (instances_next {es = es} {fs = fs} {t = t} {rest = rest} {o = o} small d ds) wf h =
        after es fs rest o (instance_extends d wf (type_under_typed arity es 0 t wf h.0)) (λ w i. instances_extend ds w i) h.1
    instances_extend (instances_refused small d) wf h = tt
    instances_extend (instances_large large) wf h = tt
