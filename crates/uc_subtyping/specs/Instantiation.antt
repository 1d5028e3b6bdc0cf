-- Instantiation: Dunfield and Krishnaswami 2013, figure 10, with data types and tuples. The first rule that fits is the only one.
use Rattle.std.specs.Prelude.{◌≡◌, ℕ, Bool, true, false, ◌&&◌, ◌||◌, List, [], ◌∷◌, ◌++◌}
use Rattle.std.specs.List.{list_any}
use Rattle.uc_tree.specs.declared.target.Target.{Target}
use Rattle.uc_context.specs.declared.entry.Entry.TheVariants.{Rigid, Exists, Mark}
use Rattle.uc_context.specs.Opens.{Open, bound, rigid, existential, quantified, arrow, unit, tuple, applied, Opens}
use Rattle.uc_context.specs.Contexts.{type_under}
use Rattle.uc_context.specs.Counts.{IsSmall}
use Rattle.uc_context.specs.Entries.{ContextEntries, is_unsolved, declares, before}
use Rattle.uc_context.specs.Fresh.{fresh_number, fresh_numbers}
use Rattle.uc_context.specs.Solvable.{can_solve}
use Rattle.uc_context.specs.Solving.{solved, solved_with_arrow, solved_with_data, solved_with_tuple}
use Rattle.uc_context.specs.Variables.{opened_at}
use Rattle.uc_subtyping.specs.declared.side.Side.{Side}
use Rattle.uc_subtyping.specs.declared.side.Side.TheVariants.{Below, Above}
use Rattle.uc_subtyping.specs.Instances.{Instances, no_instances, instance, other, all_at, opens_count}
use Rattle.uc_subtyping.specs.Outcomes.{Outcome, done, refused, ill, large, Refusal, without}

-- whether an existential is unsolved and stands behind another
abbrev pub is_after : ContextEntries → ℕ → ℕ → Bool
is_after es x y = list_any (is_unsolved y) es && list_any (declares x) (before y es)

-- whether a rule fits that doesn't solve an existential by the whole type
abbrev pub has_rule_by_form : ContextEntries → ℕ → Open → Bool
has_rule_by_form es x (bound i) = false
has_rule_by_form es x (rigid y) = false
has_rule_by_form es x (existential y) = is_after es x y
has_rule_by_form es x (quantified t) = true
has_rule_by_form es x (arrow a b) = true
has_rule_by_form es x unit = false
has_rule_by_form es x (tuple ts) = true
has_rule_by_form es x (applied h ts) = true

-- whether a rule fits
abbrev pub can_instantiate : ContextEntries → ℕ → Open → Bool
can_instantiate es x t = list_any (is_unsolved x) es && (can_solve es x t || has_rule_by_form es x t)

mutual
  -- From a context an unsolved existential becomes a type below another, or above it. It is solved by the whole type; or the other, an existential behind it, by it; or by a type of new existentials, which are instantiated in turn; or the type is a quantified one.
  pub data SolvesInstance : Side → ContextEntries → ℕ → Open → Outcome → Type 0 where
    instance_solved : {s : Side} {es fs : ContextEntries} {x : ℕ} {t : Open}
        → list_any (is_unsolved x) es ≡ true → can_solve es x t ≡ true
        → fs ≡ solved es x t → SolvesInstance s es x t (done fs)
    instance_reached : {s : Side} {es fs : ContextEntries} {x y : ℕ}
        → list_any (is_unsolved x) es ≡ true → can_solve es x (existential y) ≡ false → is_after es x y ≡ true
        → fs ≡ solved es y (existential x) → SolvesInstance s es x (existential y) (done fs)
    instance_arrow : {s : Side} {es : ContextEntries} {x argument result : ℕ} {a b : Open} {o : Outcome}
        → list_any (is_unsolved x) es ≡ true → can_solve es x (arrow a b) ≡ false
        → argument ∷ result ∷ [] ≡ fresh_numbers 2 es
        → SolvesInstances (solved_with_arrow es x argument result) (instance (other s) argument a (instance s result b no_instances)) o
        → SolvesInstance s es x (arrow a b) o
    instance_tuple : {s : Side} {es : ContextEntries} {x : ℕ} {numbers : List ℕ} {ts : Opens} {o : Outcome}
        → list_any (is_unsolved x) es ≡ true → can_solve es x (tuple ts) ≡ false
        → numbers ≡ fresh_numbers (opens_count ts) es
        → SolvesInstances (solved_with_tuple es x numbers) (all_at s numbers ts) o
        → SolvesInstance s es x (tuple ts) o
    instance_data : {s : Side} {es : ContextEntries} {x : ℕ} {numbers : List ℕ} {h : Target} {ts : Opens} {o : Outcome}
        → list_any (is_unsolved x) es ≡ true → can_solve es x (applied h ts) ≡ false
        → numbers ≡ fresh_numbers (opens_count ts) es
        → SolvesInstances (solved_with_data es x h numbers) (all_at s numbers ts) o
        → SolvesInstance s es x (applied h ts) o
    instance_below_quantified : {es : ContextEntries} {x n : ℕ} {t : Open} {o p : Outcome}
        → list_any (is_unsolved x) es ≡ true → n ≡ fresh_number es
        → SolvesInstance Below (es ++ Rigid n ∷ []) x (opened_at 0 (rigid n) t) o
        → p ≡ without (Rigid n) o → SolvesInstance Below es x (quantified t) p
    instance_above_quantified : {es : ContextEntries} {x n : ℕ} {t : Open} {o p : Outcome}
        → list_any (is_unsolved x) es ≡ true → n ≡ fresh_number es
        → SolvesInstance Above (es ++ Mark n ∷ Exists n ∷ []) x (opened_at 0 (existential n) t) o
        → p ≡ without (Mark n) o → SolvesInstance Above es x (quantified t) p
    instance_ill : {s : Side} {es : ContextEntries} {x : ℕ} {t : Open}
        → can_instantiate es x t ≡ false → SolvesInstance s es x t (refused ill)

  -- Existentials are instantiated one after another, each to its type with the solutions put in that there are by then. A type that is too large is refused.
  pub data SolvesInstances : ContextEntries → Instances → Outcome → Type 0 where
    instances_done : {es : ContextEntries} → SolvesInstances es no_instances (done es)
    instances_next : {s : Side} {es fs : ContextEntries} {x : ℕ} {t : Open} {rest : Instances} {o : Outcome}
        → IsSmall (type_under es t) → SolvesInstance s es x (type_under es t) (done fs)
        → SolvesInstances fs rest o → SolvesInstances es (instance s x t rest) o
    instances_refused : {s : Side} {es : ContextEntries} {x : ℕ} {t : Open} {rest : Instances} {why : Refusal}
        → IsSmall (type_under es t) → SolvesInstance s es x (type_under es t) (refused why)
        → SolvesInstances es (instance s x t rest) (refused why)
    instances_large : {s : Side} {es : ContextEntries} {x : ℕ} {t : Open} {rest : Instances}
        → (IsSmall (type_under es t) → ⊥) → SolvesInstances es (instance s x t rest) (refused large)
