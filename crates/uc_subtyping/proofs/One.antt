-- At most one outcome.
use Rattle.std.proofs.Common.{◌≡◌, ℕ, Bool, true, false, ◌&&◌, ◌||◌, List, [], ◌∷◌, ◌++◌, refl, sym, ap, subst, ◌∙◌}
use Rattle.std.specs.List.{list_any}
use Rattle.std.proofs.lemmas.Bool.{and_from, or_left, or_right, eq-eqb, false≢true}
use Rattle.uc_tree.specs.declared.target.Target.{Target}
use Rattle.uc_context.specs.declared.entry.Entry.{Entry}
use Rattle.uc_context.specs.declared.entry.Entry.TheVariants.{Rigid, Exists, Mark}
use Rattle.uc_context.specs.Opens.{Open, bound, rigid, existential, quantified, arrow, unit, tuple, applied, Opens, none, more}
use Rattle.uc_context.specs.Contexts.{type_under}
use Rattle.uc_context.specs.Entries.{ContextEntries, is_unsolved}
use Rattle.uc_context.specs.Fresh.{fresh_number}
use Rattle.uc_context.specs.Solvable.{can_solve}
use Rattle.uc_context.specs.Solving.{solved_with_arrow, solved_with_data, solved_with_tuple}
use Rattle.uc_context.specs.Variables.{opened_at, mentions}
use Rattle.uc_subtyping.specs.declared.side.Side.{Side}
use Rattle.uc_subtyping.specs.declared.side.Side.TheVariants.{Below, Above}
use Rattle.uc_subtyping.specs.Instances.{Instances, no_instances, instance, other, all_at, opens_count}
use Rattle.uc_subtyping.specs.Instantiation.{has_rule_by_form, can_instantiate, SolvesInstance, SolvesInstances, instance_solved, instance_reached, instance_arrow, instance_tuple, instance_data, instance_below_quantified, instance_above_quantified, instance_ill, instances_done, instances_next, instances_refused, instances_large}
use Rattle.uc_subtyping.specs.Outcomes.{Outcome, done, refused, ill, Refusal, without}
use Rattle.uc_subtyping.specs.Subtyping.{is_quantified, is_existential, HasRule, SolvesSubtype, SolvesSubtypes, subtype_right, subtype_left, subtype_rigid, subtype_existential, subtype_unit, subtype_arrow, subtype_tuple, subtype_data, subtype_below, subtype_above, subtype_ill, subtypes_done, subtypes_next, subtypes_refused, subtypes_large}
use Rattle.uc_subtyping.proofs.InstancesTurn.{done_is}

not_done : (es : ContextEntries) (why : Refusal) → done es ≡ refused why → ⊥
not_done es why e = cc

no_both : {A : Type 0} (b : Bool) → b ≡ true → b ≡ false → A
no_both b h k = absurd (false≢true (sym k ∙ h))

fits_whole : (es : ContextEntries) (x : ℕ) (t : Open) → list_any (is_unsolved x) es ≡ true → can_solve es x t ≡ true → can_instantiate es x t ≡ true
fits_whole es x t u c = and_from (list_any (is_unsolved x) es) (can_solve es x t || has_rule_by_form es x t) u (or_left (can_solve es x t) (has_rule_by_form es x t) c)

fits_form : (es : ContextEntries) (x : ℕ) (t : Open) → list_any (is_unsolved x) es ≡ true → has_rule_by_form es x t ≡ true → can_instantiate es x t ≡ true
fits_form es x t u f = and_from (list_any (is_unsolved x) es) (can_solve es x t || has_rule_by_form es x t) u (or_right (can_solve es x t) (has_rule_by_form es x t) f)

without_same : (es : ContextEntries) (d e : Entry) (o p q r : Outcome) → q ≡ without d o → r ≡ without e p → d ≡ e → o ≡ p → q ≡ r
without_same es d e o p q r is at same one = is ∙ ap (λ (c : Entry). without c o) same ∙ ap (without e) one ∙ sym at

-- where no rule fits it is refused
ill_only : {s : Side} {es : ContextEntries} {x : ℕ} {t : Open} {p : Outcome} → can_instantiate es x t ≡ false → SolvesInstance s es x t p → refused ill ≡ p
ill_only {es = es} {x = x} {t = t} n (instance_solved u c is) = no_both (can_instantiate es x t) (fits_whole es x t u c) n
ill_only {es = es} {x = x} n (instance_reached {y = y} u c after is) = no_both (can_instantiate es x (existential y)) (fits_form es x (existential y) u after) n
ill_only {es = es} {x = x} n (instance_arrow {a = a} {b = b} u c fresh d) = no_both (can_instantiate es x (arrow a b)) (fits_form es x (arrow a b) u refl) n
ill_only {es = es} {x = x} n (instance_tuple {ts = ts} u c fresh d) = no_both (can_instantiate es x (tuple ts)) (fits_form es x (tuple ts) u refl) n
ill_only {es = es} {x = x} n (instance_data {h = h} {ts = ts} u c fresh d) = no_both (can_instantiate es x (applied h ts)) (fits_form es x (applied h ts) u refl) n
ill_only {es = es} {x = x} n (instance_below_quantified {t = b} u fresh d is) = no_both (can_instantiate es x (quantified b)) (fits_form es x (quantified b) u refl) n
ill_only {es = es} {x = x} n (instance_above_quantified {t = b} u fresh d is) = no_both (can_instantiate es x (quantified b)) (fits_form es x (quantified b) u refl) n
ill_only n (instance_ill m) = refl

first_is : (a b c d : ℕ) → a ∷ b ∷ [] ≡ c ∷ d ∷ [] → a ≡ c
first_is a b c d e = cc

second_is : (a b c d : ℕ) → a ∷ b ∷ [] ≡ c ∷ d ∷ [] → b ≡ d
second_is a b c d e = cc

mutual
  pub one_instance : {s : Side} {es : ContextEntries} {x : ℕ} {t : Open} {o p : Outcome} → SolvesInstance s es x t o → SolvesInstance s es x t p → o ≡ p
  one_instance (instance_solved u c is) (instance_solved v k at) = ap done (is ∙ sym at)
  one_instance {es = es} {x = x} (instance_solved u c is) (instance_reached {y = y} v k after at) = no_both (can_solve es x (existential y)) c k
  one_instance {es = es} {x = x} (instance_solved u c is) (instance_arrow {a = a} {b = b} v k fresh d) = no_both (can_solve es x (arrow a b)) c k
  one_instance {es = es} {x = x} (instance_solved u c is) (instance_tuple {ts = ts} v k fresh d) = no_both (can_solve es x (tuple ts)) c k
  one_instance {es = es} {x = x} (instance_solved u c is) (instance_data {h = h} {ts = ts} v k fresh d) = no_both (can_solve es x (applied h ts)) c k
  one_instance (instance_solved u c is) (instance_below_quantified v fresh d at) = absurd (false≢true c)
  one_instance (instance_solved u c is) (instance_above_quantified v fresh d at) = absurd (false≢true c)
  one_instance {es = es} {x = x} {t = t} (instance_solved u c is) (instance_ill n) = no_both (can_instantiate es x t) (fits_whole es x t u c) n
  one_instance {es = es} {x = x} (instance_reached {y = y} u c after is) (instance_solved v k at) = no_both (can_solve es x (existential y)) k c
  one_instance (instance_reached u c after is) (instance_reached v k later at) = ap done (is ∙ sym at)
  one_instance {es = es} {x = x} (instance_reached {y = y} u c after is) (instance_ill n) = no_both (can_instantiate es x (existential y)) (fits_form es x (existential y) u after) n
  one_instance {es = es} {x = x} (instance_arrow {a = a} {b = b} u c fresh d) (instance_solved v k at) = no_both (can_solve es x (arrow a b)) k c
  one_instance {s = s} {es = es} {x = x} {p = p} (instance_arrow {argument = m} {result = n} {a = a} {b = b} u c fresh d) (instance_arrow {argument = k} {result = l} v q new e) =
      let i : k ≡ m = first_is k l m n (new ∙ sym fresh) in
      let j : l ≡ n = second_is k l m n (new ∙ sym fresh) in
      one_instances d (subst (λ (r : ℕ). SolvesInstances (solved_with_arrow es x m r) (instance (other s) m a (instance s r b no_instances)) p) j
      (subst (λ (r : ℕ). SolvesInstances (solved_with_arrow es x r l) (instance (other s) r a (instance s l b no_instances)) p) i e))
  one_instance {es = es} {x = x} (instance_arrow {a = a} {b = b} u c fresh d) (instance_ill n) = no_both (can_instantiate es x (arrow a b)) (fits_form es x (arrow a b) u refl) n
  one_instance {es = es} {x = x} (instance_tuple {ts = ts} u c fresh d) (instance_solved v k at) = no_both (can_solve es x (tuple ts)) k c
  one_instance {s = s} {es = es} {x = x} {p = p} (instance_tuple {numbers = ns} {ts = ts} u c fresh d) (instance_tuple {numbers = ms} v k new e) =
      one_instances d (subst (λ (qs : List ℕ). SolvesInstances (solved_with_tuple es x qs) (all_at s qs ts) p) (new ∙ sym fresh) e)
  one_instance {es = es} {x = x} (instance_tuple {ts = ts} u c fresh d) (instance_ill n) = no_both (can_instantiate es x (tuple ts)) (fits_form es x (tuple ts) u refl) n
  one_instance {es = es} {x = x} (instance_data {h = h} {ts = ts} u c fresh d) (instance_solved v k at) = no_both (can_solve es x (applied h ts)) k c
  one_instance {s = s} {es = es} {x = x} {p = p} (instance_data {numbers = ns} {h = h} {ts = ts} u c fresh d) (instance_data {numbers = ms} v k new e) =
      one_instances d (subst (λ (qs : List ℕ). SolvesInstances (solved_with_data es x h qs) (all_at s qs ts) p) (new ∙ sym fresh) e)
  one_instance {es = es} {x = x} (instance_data {h = h} {ts = ts} u c fresh d) (instance_ill n) = no_both (can_instantiate es x (applied h ts)) (fits_form es x (applied h ts) u refl) n
  one_instance (instance_below_quantified u fresh d is) (instance_solved v k at) = absurd (false≢true k)
  one_instance {es = es} {x = x} {o = o} {p = p} (instance_below_quantified {n = n} {t = b} {o = q} u fresh d is) (instance_below_quantified {n = m} {o = r} v new e at) =
      let i : m ≡ n = new ∙ sym fresh in
      let j : q ≡ r = one_instance d (subst (λ (k : ℕ). SolvesInstance Below (es ++ Rigid k ∷ []) x (opened_at 0 (rigid k) b) r) i e) in
      without_same es (Rigid n) (Rigid m) q r o p is at (ap Rigid (sym i)) j
  one_instance {es = es} {x = x} (instance_below_quantified {t = b} u fresh d is) (instance_ill m) = no_both (can_instantiate es x (quantified b)) (fits_form es x (quantified b) u refl) m
  one_instance (instance_above_quantified u fresh d is) (instance_solved v k at) = absurd (false≢true k)
  one_instance {es = es} {x = x} {o = o} {p = p} (instance_above_quantified {n = n} {t = b} {o = q} u fresh d is) (instance_above_quantified {n = m} {o = r} v new e at) =
      let i : m ≡ n = new ∙ sym fresh in
      let j : q ≡ r = one_instance d (subst (λ (k : ℕ). SolvesInstance Above (es ++ Mark k ∷ Exists k ∷ []) x (opened_at 0 (existential k) b) r) i e) in
      without_same es (Mark n) (Mark m) q r o p is at (ap Mark (sym i)) j
  one_instance {es = es} {x = x} (instance_above_quantified {t = b} u fresh d is) (instance_ill m) = no_both (can_instantiate es x (quantified b)) (fits_form es x (quantified b) u refl) m
  one_instance (instance_ill n) e = ill_only n e

  one_instances : {es : ContextEntries} {is : Instances} {o p : Outcome} → SolvesInstances es is o → SolvesInstances es is p → o ≡ p
  one_instances instances_done instances_done = refl
  one_instances {p = p} (instances_next {fs = fs} {rest = rest} small d l) (instances_next {fs = gs} tiny e m) =
      one_instances l (subst (λ (cs : ContextEntries). SolvesInstances cs rest p) (done_is gs fs (sym (one_instance d e))) m)
  one_instances (instances_next {fs = fs} small d l) (instances_refused {why = why} tiny e) = absurd (not_done fs why (one_instance d e))
  one_instances (instances_next small d l) (instances_large past) = absurd (past small)
  one_instances (instances_refused {why = why} small d) (instances_next {fs = gs} tiny e m) = absurd (not_done gs why (sym (one_instance d e)))
  one_instances (instances_refused small d) (instances_refused tiny e) = one_instance d e
  one_instances (instances_refused small d) (instances_large past) = absurd (past small)
  one_instances (instances_large past) (instances_next tiny e m) = absurd (past tiny)
  one_instances (instances_large past) (instances_refused tiny e) = absurd (past tiny)
  one_instances (instances_large past) (instances_large gone) = refl

rule_below : (x : ℕ) (b : Open) → mentions x b ≡ false → HasRule (existential x) b
rule_below x (bound i) m = m
rule_below x (rigid y) m = m
rule_below x (existential y) m = tt
rule_below x (quantified t) m = m
rule_below x (arrow a b) m = m
rule_below x unit m = m
rule_below x (tuple ts) m = m
rule_below x (applied h ts) m = m

rule_above : (y : ℕ) (a : Open) → mentions y a ≡ false → HasRule a (existential y)
rule_above y (bound i) m = m
rule_above y (rigid x) m = m
rule_above y (existential x) m = tt
rule_above y (quantified t) m = m
rule_above y (arrow a b) m = m
rule_above y unit m = m
rule_above y (tuple ts) m = m
rule_above y (applied h ts) m = m

-- where no rule fits it is refused
ill_subtype : {es : ContextEntries} {a b : Open} {p : Outcome} → is_quantified a ≡ false → is_quantified b ≡ false → (HasRule a b → ⊥) → SolvesSubtype es a b p → refused ill ≡ p
ill_subtype i j n (subtype_right fresh d is) = absurd (false≢true (sym j))
ill_subtype i j n (subtype_left plain fresh d is) = absurd (false≢true (sym i))
ill_subtype i j n subtype_rigid = absurd (n refl)
ill_subtype i j n subtype_existential = absurd (n tt)
ill_subtype i j n subtype_unit = absurd (n tt)
ill_subtype i j n (subtype_arrow l) = absurd (n tt)
ill_subtype i j n (subtype_tuple m l) = absurd (n m)
ill_subtype i j n (subtype_data m l) = absurd (n (refl, m))
ill_subtype i j n (subtype_below {x = x} {b = b} plain apart d) = absurd (n (rule_below x b apart))
ill_subtype i j n (subtype_above {y = y} {a = a} plain another apart d) = absurd (n (rule_above y a apart))
ill_subtype i j n (subtype_ill k l m) = refl

-- what there is of two variables, and of two declared types
rigid_only : {es : ContextEntries} {x y : ℕ} {p : Outcome} → SolvesSubtype es (rigid x) (rigid y) p → x ≡ y → done es ≡ p
rigid_only subtype_rigid e = refl
rigid_only (subtype_ill i j n) e = absurd (n e)

existential_only : {es : ContextEntries} {x y : ℕ} {p : Outcome} → SolvesSubtype es (existential x) (existential y) p → x ≡ y → done es ≡ p
existential_only subtype_existential e = refl
existential_only {x = x} {y = y} (subtype_below plain apart d) e = absurd (false≢true (sym apart ∙ eq-eqb y x (sym e)))
existential_only (subtype_above plain another apart d) e = absurd (false≢true (sym another))
existential_only (subtype_ill i j n) e = absurd (n tt)

data_only : {es : ContextEntries} {h k : Target} {ts us : Opens} {p : Outcome} → SolvesSubtype es (applied h ts) (applied k us) p → (o : Outcome) → h ≡ k → opens_count ts ≡ opens_count us → ((q : Outcome) → SolvesSubtypes es ts us q → o ≡ q) → o ≡ p
data_only {p = p} (subtype_data j m) o e c f = f p m
data_only (subtype_ill i j n) o e c f = absurd (n (e, c))

mutual
  pub one_subtype : {es : ContextEntries} {a b : Open} {o p : Outcome} → SolvesSubtype es a b o → SolvesSubtype es a b p → o ≡ p
  one_subtype {es = es} {a = a} {o = o} {p = p} (subtype_right {n = n} {b = b} {o = q} fresh d is) (subtype_right {n = m} {o = r} new e at) =
      let i : m ≡ n = new ∙ sym fresh in
      let j : q ≡ r = one_subtype d (subst (λ (k : ℕ). SolvesSubtype (es ++ Rigid k ∷ []) a (opened_at 0 (rigid k) b) r) i e) in
      without_same es (Rigid n) (Rigid m) q r o p is at (ap Rigid (sym i)) j
  one_subtype (subtype_right fresh d is) (subtype_left plain new e at) = absurd (false≢true (sym plain))
  one_subtype (subtype_right fresh d is) (subtype_below plain apart e) = absurd (false≢true (sym plain))
  one_subtype (subtype_right fresh d is) (subtype_ill i j n) = absurd (false≢true (sym j))
  one_subtype (subtype_left plain fresh d is) (subtype_right new e at) = absurd (false≢true (sym plain))
  one_subtype {es = es} {b = b} {o = o} {p = p} (subtype_left {n = n} {a = a} {o = q} plain fresh d is) (subtype_left {n = m} {o = r} flat new e at) =
      let i : m ≡ n = new ∙ sym fresh in
      let j : q ≡ r = one_subtype d (subst (λ (k : ℕ). SolvesSubtype (es ++ Mark k ∷ Exists k ∷ []) (opened_at 0 (existential k) a) b r) i e) in
      without_same es (Mark n) (Mark m) q r o p is at (ap Mark (sym i)) j
  one_subtype (subtype_left plain fresh d is) (subtype_above flat another apart e) = absurd (false≢true (sym flat))
  one_subtype (subtype_left plain fresh d is) (subtype_ill i j n) = absurd (false≢true (sym i))
  one_subtype subtype_rigid e = rigid_only e refl
  one_subtype subtype_existential e = existential_only e refl
  one_subtype subtype_unit subtype_unit = refl
  one_subtype subtype_unit (subtype_ill i j n) = absurd (n tt)
  one_subtype (subtype_arrow l) (subtype_arrow m) = one_subtypes l m
  one_subtype (subtype_arrow l) (subtype_ill i j n) = absurd (n tt)
  one_subtype (subtype_tuple k l) (subtype_tuple j m) = one_subtypes l m
  one_subtype (subtype_tuple k l) (subtype_ill i j n) = absurd (n k)
  one_subtype {o = o} (subtype_data k l) e = data_only e o refl k (λ q m. one_subtypes l m)
  one_subtype (subtype_below plain apart d) (subtype_right fresh e at) = absurd (false≢true (sym plain))
  one_subtype (subtype_below plain apart d) (subtype_existential {x = x}) = absurd (false≢true (sym apart ∙ eq-eqb x x refl))
  one_subtype (subtype_below plain apart d) (subtype_below flat further e) = one_instance d e
  one_subtype (subtype_below plain apart d) (subtype_above flat another separate e) = absurd (false≢true (sym another))
  one_subtype (subtype_below {x = x} {b = b} plain apart d) (subtype_ill i j n) = absurd (n (rule_below x b apart))
  one_subtype (subtype_above plain another apart d) (subtype_left flat fresh e at) = absurd (false≢true (sym plain))
  one_subtype (subtype_above plain another apart d) subtype_existential = absurd (false≢true (sym another))
  one_subtype (subtype_above plain another apart d) (subtype_below flat separate e) = absurd (false≢true (sym another))
  one_subtype (subtype_above plain another apart d) (subtype_above flat other' separate e) = one_instance d e
  one_subtype (subtype_above {y = y} {a = a} plain another apart d) (subtype_ill i j n) = absurd (n (rule_above y a apart))
  one_subtype (subtype_ill i j n) e = ill_subtype i j n e

  one_subtypes : {es : ContextEntries} {ts us : Opens} {o p : Outcome} → SolvesSubtypes es ts us o → SolvesSubtypes es ts us p → o ≡ p
  one_subtypes subtypes_done subtypes_done = refl
  one_subtypes {p = p} (subtypes_next {fs = fs} {ts = ts} {us = us} small d l) (subtypes_next {fs = gs} tiny e m) =
      one_subtypes l (subst (λ (cs : ContextEntries). SolvesSubtypes cs ts us p) (done_is gs fs (sym (one_subtype d e))) m)
  one_subtypes (subtypes_next {fs = fs} small d l) (subtypes_refused {why = why} tiny e) = absurd (not_done fs why (one_subtype d e))
  one_subtypes (subtypes_next small d l) (subtypes_large past) = absurd (past small)
  one_subtypes (subtypes_refused {why = why} small d) (subtypes_next {fs = gs} tiny e m) = absurd (not_done gs why (sym (one_subtype d e)))
  one_subtypes (subtypes_refused small d) (subtypes_refused tiny e) = one_subtype d e
  one_subtypes (subtypes_refused small d) (subtypes_large past) = absurd (past small)
  one_subtypes (subtypes_large past) (subtypes_next tiny e m) = absurd (past tiny)
  one_subtypes (subtypes_large past) (subtypes_refused tiny e) = absurd (past tiny)
  one_subtypes (subtypes_large past) (subtypes_large gone) = refl
